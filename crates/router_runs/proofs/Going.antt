-- Events of one router, one after another.
use Rattle.std.proofs.Common.{◌≡◌, ◌≢◌, ℕ, ◌+◌, ◌==◌, Bool, true, false, ◌&&◌, ◌||◌, cond, List, [], ◌∷◌, ◌++◌, refl, ap, sym, ◌∙◌, arith, append_assoc, subst, Option, None, Some, inl, inr, ◌⊎◌}
use Rattle.std.proofs.lemmas.List.{append-nil}
use Rattle.std.proofs.lemmas.Bool.Decides.{nat_tests}
use Rattle.prefix_lanes.specs.Bits.{PrefixView}
use Rattle.bgp_codec.specs.declared.message.Message.{Message}
use Rattle.run_model.specs.Links as links
use Rattle.run_model.specs.Links.{End, Move, Dials, Tells, Marks, HangsUp, Takes, Dial, Says, Mark, Shut, incarnation}
use Rattle.run_model.specs.Sessions.{afters}
use Rattle.run_model.specs.Recordings.{Moves, used_by, unfinished_after}
use Rattle.run_model.specs.Routes.{Acts, router_after, hangs_up}
use Rattle.run_model.specs.Quiet.{IsQuietEvent}
use Rattle.run_model.specs.Offers.{Queues, lost_by_close}
use Rattle.run_model.specs.Facts.{MayInTurn}
use Rattle.snap_marker.specs.Recordings.{RouterOffer}
use Rattle.router_model.specs.Settings.{Setting}
use Rattle.router_runs.specs.Model.{network_of}
use Rattle.router_runs.specs.Mirrors.{ModelRouter, ModelEvent, Local, MayLocal, IsLocalRun, local_after, queued_by, is_command, commands_by, IsLocallyQuiet, Goes}
use Rattle.router_runs.proofs.Acts.{IsQuiet, AllQuiet, plain}
use Rattle.router_runs.proofs.Hanging.{loses, lost_number, none_and, and_all}
use Rattle.router_runs.proofs.Using.{uses}
use Rattle.router_runs.proofs.Lower.{Laws}

module _ (g : Setting) (u : ℕ) (far : ℕ → End Message) where
  run_append : (es fs : List Local) (n : ModelRouter) → IsLocalRun g u far n es → IsLocalRun g u far (local_after g u n es) fs → IsLocalRun g u far n (es ++ fs)
  run_append [] fs n p q = q
  run_append (e ∷ es) fs n p q = (p.0, p.1, run_append es fs (router_after (network_of g) u n e.event) p.2 q)

  after_append : (es fs : List Local) (n : ModelRouter) → local_after g u n (es ++ fs) ≡ local_after g u (local_after g u n es) fs
  after_append [] fs n = refl
  after_append (e ∷ es) fs n = after_append es fs (router_after (network_of g) u n e.event)

  queued_append : (es fs : List Local) → queued_by (es ++ fs) ≡ queued_by es ++ queued_by fs
  queued_append [] fs = refl
  queued_append (e ∷ es) fs = ap (λ w. e.queues ++ w) (queued_append es fs) ∙ sym (append_assoc e.queues (queued_by es) (queued_by fs))

  counted_append : (es fs : List Local) → commands_by (es ++ fs) ≡ commands_by es + commands_by fs
  counted_append [] fs = omega arith
  counted_append (e ∷ es) fs = (let rest = counted_append es fs in omega (arith, rest))

  quiet_append : (s : ℕ) (es fs : List Local) (n : ModelRouter) → IsLocallyQuiet g u s n es → IsLocallyQuiet g u s (local_after g u n es) fs → IsLocallyQuiet g u s n (es ++ fs)
  quiet_append s [] fs n p q = q
  quiet_append s (e ∷ es) fs n p q = (p.0, quiet_append s es fs (router_after (network_of g) u n e.event) p.1 q)

  module _ (Still : Type 0) where
    -- still at n, or nothing recorded there
    abbrev pub IsStill : ModelRouter → ℕ → Type 0
    IsStill n s = Still ⊎ (n.recorder.copy s ≡ None)

    pub no_goes : (n : ModelRouter) → Goes g u far Still 0 n n []
    no_goes n = record { events = []; run = tt; leads = refl; queues = refl; counts = refl; calm = λ s h. tt }

    pub one_goes : (n : ModelRouter) (e : ModelEvent) (offers : List RouterOffer) → MayLocal g u far n e → Queues (network_of g) u n e offers
        → ((s : ℕ) (c : ℕ → End Message) → IsStill n s → n.recorder.copy s ≡ Some c → IsQuietEvent n e)
        → Goes g u far Still (is_command e) n (router_after (network_of g) u n e) offers
    one_goes n e offers may queues quiet = record {
      events = record { event = e; queues = offers } ∷ [];
      run = (may, queues, tt);
      leads = refl;
      queues = append-nil offers;
      counts = omega arith;
      calm = λ s h. ((λ c is. quiet s c h is), tt);
    }

    pub then_goes : {i j : ℕ} (n m k : ModelRouter) (xs ys : List RouterOffer) → Goes g u far Still i n m xs → Goes g u far Still j m k ys
        → ((s : ℕ) → IsStill n s → IsStill m s) → Goes g u far Still (i + j) n k (xs ++ ys)
    then_goes n m k xs ys p q on = record {
      events = p.events ++ q.events;
      run = run_append p.events q.events n p.run (subst (λ (i : ModelRouter). IsLocalRun g u far i q.events) (sym p.leads) q.run);
      leads = after_append p.events q.events n ∙ (ap (λ (i : ModelRouter). local_after g u i q.events) p.leads ∙ q.leads);
      queues = queued_append p.events q.events ∙ (ap (λ w. w ++ queued_by q.events) p.queues ∙ ap (λ w. xs ++ w) q.queues);
      counts = (let all = counted_append p.events q.events in let mine = p.counts in let others = q.counts in omega (arith, all, mine, others));
      calm = λ s h. quiet_append s p.events q.events n (p.calm s h) (subst (λ (i : ModelRouter). IsLocallyQuiet g u s i q.events) (sym p.leads) (q.calm s (on s h)));
    }

-- ---- moves of one end

or_choice : (p q : Bool) (unfinished : Option ℕ) (v d e : ℕ)
    → lost_by_close {M = Message} {P = PrefixView} {W = List ℕ} p unfinished v d ++ lost_by_close q (cond p None unfinished) v e ≡ lost_by_close (p || q) unfinished v (cond p d e)
or_choice p q unfinished v d e = grind arith

twice_none : (p q : Bool) (unfinished : Option ℕ) → cond q None (cond p None unfinished) ≡ cond (p || q) None unfinished
twice_none true true unfinished = refl
twice_none true false unfinished = refl
twice_none false q unfinished = refl

unfinished_is : (up : Bool) (m : Move Message) (unfinished : Option ℕ) → unfinished_after up m unfinished ≡ cond (up && hangs_up m) None unfinished
unfinished_is up m unfinished = grind arith

-- what moves at v leave of a router
pub record IsMoved (n m : ModelRouter) (v : ℕ) (c : End Message) (lost : Bool) (used : List Message) : Type 0 where
  pub own : m.recorder.ends v ≡ c
  pub ends : (y : ℕ) → (y == v) ≡ false → m.recorder.ends y ≡ n.recorder.ends y
  pub last : m.recorder.last ≡ n.recorder.last
  pub copy : m.recorder.copy ≡ n.recorder.copy
  pub waits : m.recorder.waits ≡ n.recorder.waits
  pub kept : m.kept ≡ n.kept
  pub originated : m.originated ≡ n.originated
  pub kept_at : m.kept_at ≡ n.kept_at
  pub originated_at : m.originated_at ≡ n.originated_at
  pub unfinished : m.recorder.unfinished ≡ cond lost None n.recorder.unfinished
  pub channel : (y : ℕ) → m.recorder.channel y ≡ cond (y == v) (cond (n.recorder.waits y) (n.recorder.channel y ++ used) (n.recorder.channel y)) (n.recorder.channel y)

module _ (laws : Laws) (g : Setting) (u v : ℕ) (apart : u ≢ v) (far : ℕ → End Message) (Still : Type 0) where
  abbrev move_event : Move Message → ModelEvent
  move_event m = Acts (Moves v m)

  abbrev pub moved : ModelRouter → List (Move Message) → ModelRouter
  moved n [] = n
  moved n (m ∷ ms) = moved (router_after (network_of g) u n (move_event m)) ms

  here : (v == v) ≡ true
  here = grind (arith, nat_tests)

  queues_one : (n : ModelRouter) (m : Move Message) → IsQuiet laws m
      → Queues (network_of g) u n (move_event m) (lost_by_close (links.is_up (n.recorder.ends v) && hangs_up m) n.recorder.unfinished v (incarnation (n.recorder.ends v)))
  queues_one n Dials q = ap (λ b. lost_by_close b n.recorder.unfinished v (incarnation (n.recorder.ends v))) (none_and (links.is_up (n.recorder.ends v)))
  queues_one n (Tells m) q = ap (λ b. lost_by_close b n.recorder.unfinished v (incarnation (n.recorder.ends v))) (none_and (links.is_up (n.recorder.ends v)))
  queues_one n (Marks k) q = absurd q
  queues_one n HangsUp q = ap (λ b. lost_by_close b n.recorder.unfinished v (incarnation (n.recorder.ends v))) (and_all (links.is_up (n.recorder.ends v)))
  queues_one n (Takes x) q = ap (λ b. lost_by_close b n.recorder.unfinished v (incarnation (n.recorder.ends v))) (none_and (links.is_up (n.recorder.ends v)))

  twice : (b w : Bool) (old first then : List Message) → cond b (cond w (cond b (cond w (old ++ first) old) old ++ then) (cond b (cond w (old ++ first) old) old)) (cond b (cond w (old ++ first) old) old)
      ≡ cond b (cond w (old ++ (first ++ then)) old) old
  twice true true old first then = append_assoc old first then
  twice true false old first then = refl
  twice false w old first then = refl

  none_more : (b w : Bool) (old : List Message) → old ≡ cond b (cond w (old ++ []) old) old
  none_more true true old = sym (append-nil old)
  none_more true false old = refl
  none_more false w old = refl

  left_false : (p q : Bool) → (p || q) ≡ false → (p ≡ false) × (q ≡ false)
  left_false true q h = absurd (cc h)
  left_false false q h = (refl, h)

  pub moves_go : (ms : List (Move Message)) (n : ModelRouter) → MayInTurn (n.recorder.ends v) (far v) ms → AllQuiet laws ms → (Still → loses (n.recorder.ends v) ms ≡ false)
      → Goes g u far Still 0 n (moved n ms) (lost_by_close (loses (n.recorder.ends v) ms) n.recorder.unfinished v (lost_number (n.recorder.ends v) ms))
      × IsMoved n (moved n ms) v (afters (n.recorder.ends v) ms) (loses (n.recorder.ends v) ms) (uses (n.recorder.ends v) ms)
  moves_go [] n may q still = (
    no_goes g u far Still n,
    record {
      own = refl;
      ends = λ y h. refl;
      last = refl;
      copy = refl;
      waits = refl;
      kept = refl;
      originated = refl;
      kept_at = refl;
      originated_at = refl;
      unfinished = refl;
      channel = λ y. none_more (y == v) (n.recorder.waits y) (n.recorder.channel y);
    },
  )
  moves_go (m ∷ ms) n may q still =
      let a : End Message = n.recorder.ends v in
      let k : ModelRouter = router_after (network_of g) u n (move_event m) in
      let p = plain laws g u v apart m q.0 in
      let one : k.recorder.ends v ≡ links.after a m = rw here refl in
      let rest = moves_go ms k (subst (λ i. MayInTurn i (far v) ms) (sym one) may.1) q.1 (λ s. ap (λ i. loses i ms) one ∙ (left_false (links.is_up a && hangs_up m) (loses (links.after a m) ms) (still s)).1) in
      let r = rest.1 in
      let first = one_goes g u far Still n (move_event m) (lost_by_close (links.is_up a && hangs_up m) n.recorder.unfinished v (incarnation a)) ((apart, p.0, may.0), p.1) (queues_one n m q.0)
      (λ s c h is. elim h [
        | inl t ↦ (left_false (links.is_up a && hangs_up m) (loses (links.after a m) ms) (still t)).0
        | inr none ↦ absurd (let no = sym none ∙ is in cc no)
      ]) in
      let unf : k.recorder.unfinished ≡ cond (links.is_up a && hangs_up m) None n.recorder.unfinished = unfinished_is (links.is_up a) m n.recorder.unfinished in
      let both = then_goes g u far Still n k (moved k ms) (lost_by_close (links.is_up a && hangs_up m) n.recorder.unfinished v (incarnation a)) (lost_by_close (loses (k.recorder.ends v) ms) k.recorder.unfinished v (lost_number (k.recorder.ends v) ms))
      first rest.0 (λ s h. h) in (
        subst (λ o. Goes g u far Still 0 n (moved k ms) o)
            (ap (λ (i : End Message). lost_by_close (links.is_up a && hangs_up m) n.recorder.unfinished v (incarnation a) ++ lost_by_close (loses i ms) k.recorder.unfinished v (lost_number i ms)) one
            ∙ (ap (λ o. lost_by_close (links.is_up a && hangs_up m) n.recorder.unfinished v (incarnation a) ++ lost_by_close (loses (links.after a m) ms) o v (lost_number (links.after a m) ms)) unf
            ∙ or_choice (links.is_up a && hangs_up m) (loses (links.after a m) ms) n.recorder.unfinished v (incarnation a) (lost_number (links.after a m) ms)))
            both,
        record {
          own = r.own ∙ ap (λ i. afters i ms) one;
          ends = λ y h. r.ends y h ∙ rw h refl;
          last = r.last;
          copy = r.copy;
          waits = r.waits;
          kept = r.kept;
          originated = r.originated;
          kept_at = r.kept_at;
          originated_at = r.originated_at;
          unfinished = r.unfinished ∙ (ap (λ i. cond (loses i ms) None k.recorder.unfinished) one ∙ (ap (λ o. cond (loses (links.after a m) ms) None o) unf ∙ twice_none (links.is_up a && hangs_up m) (loses (links.after a m) ms) n.recorder.unfinished));
          channel = λ y. r.channel y
              ∙ (ap (λ i. cond (y == v) (cond (n.recorder.waits y) (k.recorder.channel y ++ uses i ms) (k.recorder.channel y)) (k.recorder.channel y)) one
              ∙ twice (y == v) (n.recorder.waits y) (n.recorder.channel y) (used_by a m) (uses (links.after a m) ms));
        },
      )
