-- The ways between routers, as the pairs of the workers were.
use Rattle.std.proofs.Common.{◌≡◌, ℕ, suc, ◌<◌, None, ◌==◌, Bool, true, false, cond, List, [], ◌∷◌, length, map, refl, ap, sym, ◌∙◌, subst}
use mathlib.Core.List.{IsPrefix}
use Rattle.std.specs.Prelude.{IfNone, slice_index_or}
use Rattle.std.specs.List.{AllByRecursion}
use Rattle.std.proofs.Math.Path.{fun_ext}
use Rattle.ranked_policy.specs.declared.network.Link.{Link}
use Rattle.ranked_policy.specs.Plans.{Plan, numbers}
use Rattle.outbox.specs.declared.item.Item.{Item}
use Rattle.ruled_pipe.specs.Ends.{left}
use Rattle.worker_loop.specs.declared.chore.Chore.{Chore}
use Rattle.net_workers.specs.declared.worker_pipes.WorkerPipes.{WorkerPipes}
use Rattle.net_workers.specs.declared.worker_pipes.PipePair.{PipePair}
use Rattle.net_workers.specs.declared.record.ClosedPipe.{ClosedPipe}
use Rattle.net_workers.specs.declared.running.Finished.{Finished}
use Rattle.net_workers.specs.Lanes.{Wiring, wire_of, wires_of, put_of, taken_of}
use Rattle.net_workers.specs.Ran.{Ran, first_fault, put_by, taken_by, passed_by, lines_of}
use Rattle.net_workers.specs.Runs.{InTurn}
use Rattle.net_workers.specs.Ways.{leads, way_has, passed_in, IsWay}
use Rattle.net_workers.specs.Dealt.{lanes_in, lanes_by, wires_by, Dealt, AreDealt, HavePassed}
use Rattle.net_workers.proofs.Records.{Zipped, zipped, same_numbers}

-- ---- by router

abbrev numbers_of : {G : Type 0} → List (Finished G) → List ℕ
numbers_of es = map (λ e. e.worker.router.number) es

abbrev pairs : {G : Type 0} → List (Finished G) → ℕ → List PipePair
pairs es = lanes_by (numbers_of es) (lanes_in (map lines_of es))

has_at : (what : List PipePair → List Item) (here there : List PipePair) (rest : List Item) (b : Bool) → rest ≡ what there → cond b (what here) rest ≡ what (cond b here there)
has_at what here there rest true h = refl
has_at what here there rest false h = h

wires_at : (a b more_a more_b : List PipePair) (t : Bool) → map wire_of a ≡ map wire_of b → map wire_of more_a ≡ map wire_of more_b → map wire_of (cond t a more_a) ≡ map wire_of (cond t b more_b)
wires_at a b more_a more_b true h k = h
wires_at a b more_a more_b false h k = k

module _ {G : Type 0} where
  put_is : (es : List (Finished G)) (u v : ℕ) → put_by es u v ≡ put_of (pairs es u) v
  put_is [] u v = refl
  put_is (e ∷ es) u v = has_at (λ ls. put_of ls v) e.worker.lines.pairs.items (pairs es u) (put_by es u v) (e.worker.router.number == u) (put_is es u v)

  taken_is : (es : List (Finished G)) (u v : ℕ) → taken_by es u v ≡ taken_of (pairs es u) v
  taken_is [] u v = refl
  taken_is (e ∷ es) u v = has_at (λ ls. taken_of ls v) e.worker.lines.pairs.items (pairs es u) (taken_by es u v) (e.worker.router.number == u) (taken_is es u v)

  -- what the pairs had is what the ways have
  pub passed_is : (ns : List ℕ) (es : List (Finished G)) (ways : List ClosedPipe) → numbers_of es ≡ ns → HavePassed (lanes_by ns (lanes_in (map lines_of es))) ways → passed_by es ≡ passed_in ways
  passed_is ns es ways are passed =
      let by = subst (λ (ms : List ℕ). HavePassed (lanes_by ms (lanes_in (map lines_of es))) ways) (sym are) passed in
      λ i. record {
        put = fun_ext (λ u. fun_ext (λ v. put_is es u v ∙ (by u v).0)) i;
        taken = fun_ext (λ u. fun_ext (λ v. taken_is es u v ∙ (by v u).1)) i;
      }

  -- workers of the same pipes
  pub same_wires_by : (R : Finished G → Finished G → Type 0) → ((b a : Finished G) → R b a → wires_of a.worker.lines ≡ wires_of b.worker.lines) → (ns : List ℕ) (before after : List (Finished G)) → Zipped R before after
      → (u : ℕ) → wires_by ns (lanes_in (map lines_of after)) u ≡ wires_by ns (lanes_in (map lines_of before)) u
  same_wires_by R f [] before after z u = refl
  same_wires_by R f (n ∷ ns) [] [] z u = refl
  same_wires_by R f (n ∷ ns) [] (a ∷ ends) z u = absurd z
  same_wires_by R f (n ∷ ns) (b ∷ bs) [] z u = absurd z
  same_wires_by R f (n ∷ ns) (b ∷ bs) (a ∷ ends) z u =
      wires_at a.worker.lines.pairs.items b.worker.lines.pairs.items (lanes_by ns (lanes_in (map lines_of ends)) u) (lanes_by ns (lanes_in (map lines_of bs)) u) (n == u) (f b a z.0)
      (same_wires_by R f ns bs ends z.1 u)

-- ---- in turn

-- what was taken from a way is a beginning of what was put into it
turn_by : (net : Plan) (w : ClosedPipe) (ws : List ClosedPipe) (u v : ℕ) (b : Bool) → IsWay net w → IsPrefix (way_has (λ w. w.tail.taken) [] ws u v) (way_has (λ w. w.tail.put) [] ws u v)
    → IsPrefix (cond b w.tail.taken (way_has (λ w. w.tail.taken) [] ws u v)) (cond b w.tail.put (way_has (λ w. w.tail.put) [] ws u v))
turn_by net w ws u v true is rest = (left w.tail, sym is.in_turn)
turn_by net w ws u v false is rest = rest

turns : (net : Plan) (ws : List ClosedPipe) (u v : ℕ) → AllByRecursion (IsWay net) ws → IsPrefix (way_has (λ w. w.tail.taken) [] ws u v) (way_has (λ w. w.tail.put) [] ws u v)
turns net [] u v all = ([], refl)
turns net (w ∷ ws) u v all = turn_by net w ws u v (leads u v w) all.0 (turns net ws u v all.1)

pub in_turn : (net : Plan) (ways : List ClosedPipe) → AllByRecursion (IsWay net) ways → InTurn (passed_in ways)
in_turn net ways all = λ u v. turns net ways u v all

-- ---- the workers at the end

len_map : {X Y : Type 0} (f : X → Y) (xs : List X) → length (map f xs) ≡ length xs
len_map f [] = refl
len_map f (x ∷ xs) = ap suc (len_map f xs)

module _ {G : Type 0} (given : G → List Chore) (plan : Plan) (turns : ℕ) (before after : List (Finished G)) (many : length after ≡ length before) (quiet : first_fault after ≡ None)
    (ran : (i : ℕ) (d : Finished G) → i < length before → IfNone (slice_index_or after i d).fault (Ran given turns (slice_index_or before i d).worker (slice_index_or after i d).worker)) where
  abbrev WorkedOn : Finished G → Finished G → Type 0
  WorkedOn b a = Ran given turns b.worker a.worker

  all_ran : Zipped WorkedOn before after
  all_ran = zipped WorkedOn before after many quiet ran

  -- there are as many ends as routers
  pub many_ends : (ends : List WorkerPipes) → ends ≡ map lines_of after → numbers_of before ≡ numbers plan.routers → length ends ≡ length plan.routers
  many_ends ends is are =
      ap length is ∙ len_map lines_of after ∙ many ∙ sym (len_map (λ e. e.worker.router.number) before) ∙ ap length are ∙ len_map (λ r. r.asn) plan.routers

  -- and they are of the pipes that were dealt
  pub dealt_still : (ends : List WorkerPipes) (links : List Link) → ends ≡ map lines_of after → AreDealt plan links (map lines_of before) → AreDealt plan links ends
  dealt_still ends links is dealt =
      subst (AreDealt plan links) (sym is)
      (subst (Dealt plan.settings.pipe links) (fun_ext (λ u. sym (same_wires_by WorkedOn (λ b a r. ap (λ (w : Wiring). w.wires) r.same.lines) (numbers plan.routers) before after all_ran u))) dealt)

  -- what passed
  pub passed_then : (ends : List WorkerPipes) (ways : List ClosedPipe) → ends ≡ map lines_of after → numbers_of before ≡ numbers plan.routers
      → HavePassed (lanes_by (numbers plan.routers) (lanes_in ends)) ways → passed_by after ≡ passed_in ways
  passed_then ends ways is are passed =
      passed_is (numbers plan.routers) after ways (same_numbers WorkedOn (λ b a r. r.same.number) before after all_ran ∙ are)
      (subst (λ (es : List WorkerPipes). HavePassed (lanes_by (numbers plan.routers) (lanes_in es)) ways) is passed)
