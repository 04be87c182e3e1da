-- The lines of a record: those of its network begin no schedule, and the others say its events.
use Rattle.std.proofs.Common.{◌≡◌, ℕ, ◌+◌, ◌-◌, ◌^◌, ◌<◌, ◌≤◌, ◌==◌, arith, Bool, true, false, List, [], ◌∷◌, ◌++◌, length, refl, ap, sym, subst, ◌∙◌, Ok, Err}
use Rattle.std.specs.Prelude.{Result, codes, decimal, not, ◌&&◌, ◌||◌, nat_le, if◌then◌else◌}
use Rattle.std.specs.List.{AllByRecursion, Contains}
use Rattle.std.proofs.lemmas.Bool.{and_parts, eqb-true, eq-eqb, le-leb, ltb-true}
use Rattle.std.proofs.lemmas.List.{length-append}
use Rattle.std.proofs.lemmas.List.Folds.{list_any-from_Any}
use Rattle.prefix_lanes.specs.Bits.{PrefixView, is_prefix}
use Rattle.ranked_policy.specs.Plans.{Plan, IsNetwork, IsRouter, numbers}
use Rattle.ranked_policy.specs.declared.network.Origin.{Origin}
use Rattle.run_model.specs.Network.{alone, puts, takes, offers}
use Rattle.router_model.specs.declared.command.Command.TheVariants as command
use Rattle.router_model.specs.Settings.{Setting, is_router, is_origin, linked}
use Rattle.router_model.specs.State.{Router}
use Rattle.router_model.specs.Step.{RouterEvent, Obeys, Ticks, Handles, Decides, Advertises, Step}
use Rattle.router_model.specs.Laws.{LinkedRoutersArePeers}
use Rattle.router_runs.specs.Runs.{RunOrder, RunState}
use Rattle.world_core.specs.declared.schedule.Event.{Event}
use Rattle.world_core.specs.declared.schedule.Event.TheVariants as event
use Rattle.world_core.specs.World.{name_of, named}
use Rattle.world_core.specs.Replays.{IsCalledRun}
use Rattle.worker_loop.specs.declared.chore.Chore.{Chore}
use Rattle.worker_loop.specs.declared.chore.Chore.TheVariants as chore
use Rattle.worker_loop.specs.Laws.{IsOrdered}
use Rattle.net_text.specs.declared.code.Code.{Code}
use Rattle.net_text.specs.declared.code.Code.TheVariants as kinds
use Rattle.net_text.specs.Layout.{LinesEndByLineFeeds}
use Rattle.net_text.specs.Lexing.{Text, words_of, same, says_nothing, is_ascii, is_the_word}
use Rattle.net_text.specs.Lines.{words_line}
use Rattle.net_text.specs.Networks.{then_on, reading, SpellsNetwork, empty_draft}
use Rattle.net_text.specs.Printing.{prefix_text}
use Rattle.net_text.specs.Words.{is_named}
use Rattle.schedule_text.specs.Events.{one_line, two_line, prefix_line, event_line}
use Rattle.schedule_text.specs.Sayings.{LinesAreReadAsTheySay}
use Rattle.schedule_text.proofs.EventLemmas.{IsOriginated, MaySay, event_said}
use Rattle.schedule_text.proofs.HeadLemmas.{IsPlain}
use Rattle.schedule_text.proofs.LineLemmas.{IsNamed, Says, says_none, says_both, both_true}
use Rattle.schedule_text.proofs.NameLemmas.{named_of, canonical_by}
use Rattle.thread_engines.specs.Recording.{events_text}

-- ---- the lines of a network

same_is : (a b : Text) → same a b ≡ true → a ≡ b
same_is [] [] h = refl
same_is [] (y ∷ ys) h = absurd cc
same_is (x ∷ xs) [] h = absurd cc
same_is (x ∷ xs) (y ∷ ys) h =
    let k = and_parts (x == y) (same xs ys) h in
    ap (λ (n : ℕ). n ∷ xs) (eqb-true x y k.0) ∙ ap (λ (t : Text). y ∷ t) (same_is xs ys k.1)

-- any reading of lines by their words, to which the bare word is a fault
module _ {S : Type 0} (words_read : S → List Text → Result S Code) (fails : (s : S) → words_read s (codes "schedule" ∷ []) ≡ Err kinds.BadForm) where
  -- what a line makes of s
  abbrev read_by : S → Bool → List Text → Result S Code
  read_by s ascii words = if says_nothing words then Ok s else if not ascii then Err kinds.BadForm else words_read s words

  no_reading : (s t : S) (ascii : Bool) → read_by s ascii (codes "schedule" ∷ []) ≡ Ok t → ⊥
  no_reading s t true h = absurd (let k : Err kinds.BadForm ≡ Ok t = sym (fails s) ∙ h in cc)
  no_reading s t false h = absurd cc

  by_word : (s t : S) (ascii : Bool) (w : Text) (b : Bool) → same w (codes "schedule") ≡ b → read_by s ascii (w ∷ []) ≡ Ok t → b ≡ false
  by_word s t ascii w true is h =
      let word = same_is w (codes "schedule") is in
      absurd (no_reading s t ascii (subst (λ (v : Text). read_by s ascii (v ∷ []) ≡ Ok t) word h))
  by_word s t ascii w false is h = refl

  by_words : (s t : S) (ascii : Bool) (words : List Text) → read_by s ascii words ≡ Ok t → is_the_word (codes "schedule") words ≡ false
  by_words s t ascii [] h = refl
  by_words s t ascii (w ∷ []) h = by_word s t ascii w (same w (codes "schedule")) refl h
  by_words s t ascii (w ∷ v ∷ words) h = refl

  abbrev lines_read : ℕ → S → Text → Result S Code
  lines_read n s l = read_by s (is_ascii l) (words_of l)

  plain_by : (at : ℕ) (s e : S) (l : Text) (ls : List Text) (r : Result S Code) → read_by s (is_ascii l) (words_of l) ≡ r
      → ((t : S) → reading lines_read (at + 1) t ls ≡ Ok e → AllByRecursion (IsPlain (codes "schedule")) ls)
      → then_on (at + 1) r (λ t. reading lines_read (at + 1) t ls) ≡ Ok e → AllByRecursion (IsPlain (codes "schedule")) (l ∷ ls)
  plain_by at s e l ls (Ok t) is go h = (by_words s t (is_ascii l) (words_of l) is, go t h)
  plain_by at s e l ls (Err code) is go h = absurd cc

  plain_in : (at : ℕ) (s e : S) (lines : List Text) → reading lines_read at s lines ≡ Ok e → AllByRecursion (IsPlain (codes "schedule")) lines
  plain_in at s e [] h = tt
  plain_in at s e (l ∷ ls) h = plain_by at s e l ls (read_by s (is_ascii l) (words_of l)) refl (λ t k. plain_in (at + 1) t e ls k) h

-- no line of a network begins a schedule
pub plain_lines : (lines : List Text) (net : Plan) → SpellsNetwork lines net → AllByRecursion (IsPlain (codes "schedule")) lines
plain_lines lines net spells = plain_in words_line (λ d. refl) 0 (empty_draft lines) _ lines spells.whole

-- ---- the events of a run

known_router : (g : Setting) (u : ℕ) → IsRouter g.net.routers u → is_router g u ≡ true
known_router g u c = list_any-from_Any (λ n. u == n) (numbers g.net.routers) (c.0, u, c.1, c.2, eq-eqb u u refl)

origin_at : (b c rest more : Bool) → ((b && c) || more) ≡ true → (more ≡ true → rest ≡ true) → (b || rest) ≡ true
origin_at true c rest more h go = refl
origin_at false c rest more h go = go h

origin_named : (origins : List Origin) (u : ℕ) (q : PrefixView) → is_origin origins u q ≡ true → is_named origins q ≡ true
origin_named [] u q h = absurd cc
origin_named (o ∷ os) u q h = origin_at (is_prefix o.prefix q) (o.router == u) (is_named os q) (is_origin os u q) h (origin_named os u q)

module _ (links : LinkedRoutersArePeers) (g : Setting) (network : IsNetwork g.net) where
  named_in : (u : ℕ) → IsRouter g.net.routers u → IsNamed g.net u
  named_in u known = named_of g network u (known_router g u known)

  both_named : (u v : ℕ) → linked g.net u v ≡ true → IsNamed g.net u × IsNamed g.net v
  both_named u v near = (let k = links g.net network u v near in (named_in u k.one, named_in v k.other))

  originated_in : (u : ℕ) (q : PrefixView) → is_origin g.net.origins u q ≡ true → IsOriginated g.net q
  originated_in u q h =
      let is = origin_named g.net.origins u q h in
      record { canonical = canonical_by g.net.origins q network.plan.origins.canonical is; named = is }

  -- a step of a router may be said in a line, where its snapshot has a number that a line may have
  may_say : (u : ℕ) (x y : Router) (e : RouterEvent) → IsRouter g.net.routers u → Step g u x e y → ((s : ℕ) → e ≡ alone (Obeys (command.Snapshot s)) → s ≤ 2 ^ 32 - 1) → MaySay g.net (name_of u e)
  may_say u x y (alone (Obeys (command.Start v))) known did low = both_named u v did.may
  may_say u x y (alone (Obeys (command.Stop v))) known did low = both_named u v did.may
  may_say u x y (alone (Obeys (command.Reset v))) known did low = both_named u v did.may
  may_say u x y (alone (Obeys (command.Originate q))) known did low = (named_in u known, originated_in u q did.may.0)
  may_say u x y (alone (Obeys (command.Withdraw q))) known did low = (named_in u known, originated_in u q did.may.0)
  may_say u x y (alone (Obeys (command.Snapshot s))) known did low =
      let above = ltb-true x.snapshots.last s did.may in
      (named_in u known, both_true (nat_le 1 s) (nat_le s (2 ^ 32 - 1)) (le-leb 1 s (omega (arith, above))) (le-leb s (2 ^ 32 - 1) (low s refl)))
  may_say u x y (alone (Obeys command.Restart)) known did low = named_in u known
  may_say u x y (alone Ticks) known did low = named_in u known
  may_say u x y (alone (Handles v)) known did low = both_named u v did.may.0
  may_say u x y (alone Decides) known did low = named_in u known
  may_say u x y (alone (Advertises v)) known did low = named_in u known
  may_say u x y (puts v i) known did low = both_named u v did.may.0
  may_say u x y (takes v i) known did low = both_named u v did.may.0
  may_say u x y (offers made) known did low = named_in u known

  -- so may those of a run at the word of chores that tell of such numbers alone
  pub run_may : (chores : ℕ → List Chore) → ((u s : ℕ) → Contains (chores u) (chore.Command (command.Snapshot s)) → s ≤ 2 ^ 32 - 1) → (ds : RunOrder) (old new : RunState)
      → IsCalledRun g old ds new → AllByRecursion (λ d. IsOrdered (chores d.router) d.event) ds → AllByRecursion (MaySay g.net) (named ds)
  run_may chores low [] old new r ordered = tt
  run_may chores low (d ∷ ds) old new r ordered =
      let own = r.1 in (
        may_say d.router (old.routers d.router).router (own.0).router d.event own.1.known own.1.step
            (λ s is. low d.router s (subst (IsOrdered (chores d.router)) is ordered.0)),
        run_may chores low ds r.0 new r.3 ordered.1,
      )

-- ---- the lines of events

module _ (feeds : LinesEndByLineFeeds) (read : LinesAreReadAsTheySay) (net : Plan) where
  pub events_said : (es : List Event) → AllByRecursion (MaySay net) es → Says net (events_text es) es
  events_said [] h = says_none net
  events_said (e ∷ es) h = says_both net (event_line e) (events_text es) (e ∷ []) es (event_said feeds read net e h.0) (events_said es h.1)

some_end : (t : List ℕ) → 0 < length (t ++ 10 ∷ [])
some_end t = omega (arith, length-append t (10 ∷ []))

one_some : (word : List ℕ) (u : ℕ) → 0 < length (one_line word u)
unfolding one_line
one_some word u = some_end (word ++ decimal u)

two_some : (word : List ℕ) (u v : ℕ) → 0 < length (two_line word u v)
unfolding two_line
two_some word u v = some_end (word ++ (decimal u ++ (codes " " ++ decimal v)))

prefix_some : (word : List ℕ) (u : ℕ) (q : PrefixView) → 0 < length (prefix_line word u q)
unfolding prefix_line
prefix_some word u q = some_end (word ++ (decimal u ++ prefix_text q))

some_line : (e : Event) → 0 < length (event_line e)
some_line (event.Command u (command.Start v)) = two_some (codes "start ") u v
some_line (event.Command u (command.Stop v)) = two_some (codes "stop ") u v
some_line (event.Command u (command.Reset v)) = two_some (codes "reset ") u v
some_line (event.Command u (command.Originate q)) = prefix_some (codes "originate ") u q
some_line (event.Command u (command.Withdraw q)) = prefix_some (codes "withdraw ") u q
some_line (event.Command u (command.Snapshot s)) = two_some (codes "snapshot ") u s
some_line (event.Command u command.Restart) = one_some (codes "restart ") u
some_line (event.Tick u) = one_some (codes "tick ") u
some_line (event.Put u v) = two_some (codes "put ") u v
some_line (event.Take u v) = two_some (codes "take ") u v
some_line (event.Handle u v) = two_some (codes "handle ") u v
some_line (event.Decide u) = one_some (codes "decide ") u
some_line (event.Advertise u) = one_some (codes "advertise ") u
some_line (event.Offer u) = one_some (codes "offer ") u

-- there are no more events than octets
pub few_events : (es : List Event) → length es ≤ length (events_text es)
few_events [] = omega arith
few_events (e ∷ es) =
    let some = some_line e in
    let rest = few_events es in
    omega (arith, some, rest, length-append (event_line e) (events_text es))
