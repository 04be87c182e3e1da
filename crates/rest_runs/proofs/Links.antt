-- What one calm event of a network leaves of what the network still has to do.
use Rattle.std.proofs.Common.{◌≡◌, ◌≢◌, ℕ, zero, suc, ◌+◌, ◌*◌, ◌-◌, ◌≤◌, ◌==◌, Bool, true, false, ◌&&◌, ◌||◌, cond, List, [], ◌∷◌, ◌++◌, length, append_assoc, append-nil, refl, ap, sym, ◌∙◌, subst, arith, inl, inr, Option, None}
use Rattle.std.specs.Prelude.{if◌then◌else◌, is_some}
use Rattle.std.proofs.lemmas.List.{length-append}
use Rattle.std.proofs.lemmas.Bool.{eqb-true}
use Rattle.std.proofs.lemmas.Bool.Decides.{nat_tests}
use mathlib.Core.List.{IsPrefix}
use mathlib.Core.Logic.{◌⊎◌}
use Rattle.prefix_lanes.specs.Bits.{PrefixView}
use Rattle.bgp_codec.specs.declared.message.Message.{Message}
use Rattle.bgp_codec.specs.Header.{IsFrame, HeaderIsItsFront}
use Rattle.bgp_codec.specs.Spelling.{written}
use Rattle.link_epoch.specs.declared.link_end.Phase.{Phase}
use Rattle.link_epoch.specs.declared.link_end.Phase.TheVariants as phase
use Rattle.session_fsm.specs.declared.state.State.{State}
use Rattle.session_fsm.specs.declared.state.State.TheVariants as state
use Rattle.ranked_policy.specs.declared.network.Link.{Link}
use Rattle.ranked_policy.specs.Plans.{IsRouter, numbers}
use Rattle.run_model.specs.Links.{Entry, Dial, Says, Mark, Shut}
use Rattle.run_model.specs.Sessions as model
use Rattle.run_model.specs.Octets.{passing, octets_of, AllGood}
use Rattle.run_model.specs.Network as runs
use Rattle.run_model.specs.Network.{NetworkEvent, alone, puts, takes, offers, put_towards, taken_from, put_between, taken_between, offered_by}
use Rattle.outbox.specs.declared.item.What.{What}
use Rattle.outbox.specs.declared.item.What.TheVariants as item
use Rattle.outbox.specs.Items.{passes}
use Rattle.snap_marker.specs.Recordings.{MadeOffer}
use Rattle.router_model.specs.Settings.{Setting, IsSetting, linked, joins, prefixes}
use Rattle.router_model.specs.Sides.{Side}
use Rattle.router_model.specs.State.{Router}
use Rattle.router_model.specs.Laws.{all_passes, LinkedRoutersArePeers, StepsAppendWhatTheySay}
use Rattle.router_model.specs.Step.{Own, Obeys, Ticks, Handles, Decides, Advertises, RouterEvent, HasSize, May, Step, after, says}
use Rattle.router_runs.specs.Runs.{Logged, LoggedStep, RunState, logged_steps, side_of, log_of, written_in}
use Rattle.router_runs.specs.Reading.{phase_of, state_of}
use Rattle.router_runs.specs.Said.{IsSaid, SaidIsGood, Kept}
use Rattle.rest_runs.specs.Calm.{IsCalm}
use Rattle.rest_runs.specs.Resting.{sum_of}
use Rattle.rest_runs.proofs.Peaks.{dial_in, mark_in, crest, crest_append, peak, peak_append, peak_below, peak_of_prefix, dials_are}
use Rattle.rest_runs.proofs.Numbers.{times, times_grows, one_if, Among, sum_below, sum_falls, any_of, any_has, numbered, own}
use Rattle.rest_runs.proofs.Weights.{weight, IsOpen}
use Rattle.rest_runs.specs.Counted.{passage, jobs}
use Rattle.rest_runs.proofs.Steps.{Fine, LawsBelow, deals, peak_in, SidesSink, Still, Outcome, Goes, Marks, Chooses, calm}

-- ---- items

pub passes_append : (xs ys : List What) → all_passes (xs ++ ys) ≡ all_passes xs ++ all_passes ys
passes_append [] ys = refl
passes_append (i ∷ xs) ys = ap (λ k. passes i ++ k) (passes_append xs ys) ∙ sym (append_assoc (passes i) (all_passes xs) (all_passes ys))

pub passage_append : (xs ys : List What) → passage (xs ++ ys) ≡ passage xs + passage ys
passage_append xs ys = omega (arith, length-append xs ys, ap length (passes_append xs ys), length-append (all_passes xs) (all_passes ys))

pub passage_prefix : (xs ys : List What) → IsPrefix xs ys → passage xs ≤ passage ys
passage_prefix xs ys p = omega (arith, passage_append xs p.0, ap passage p.1)

octets_some : (n : ℕ) (bs : List ℕ) → length (octets_of {M = Message} n bs) ≡ length bs
octets_some n [] = refl
octets_some n (b ∷ bs) = ap suc (octets_some n bs)

some_passes : (cut : ℕ) (i : What) → HasSize cut i → 1 ≤ length (passes i)
some_passes cut (item.Dial n) h = omega arith
some_passes cut (item.Piece n octets) h = omega (arith, h.0, octets_some n octets)
some_passes cut (item.Mark n k) h = omega arith
some_passes cut (item.Shut n) h = omega arith

-- ---- messages have at most 4096 octets

pub good_behind : (P : Message → Type 0) (xs ys : List (Entry Message)) → AllGood P (xs ++ ys) → AllGood P ys
good_behind P [] ys h = h
good_behind P (Dial e ∷ xs) ys h = good_behind P xs ys h
good_behind P (Says e m ∷ xs) ys h = good_behind P xs ys h.1
good_behind P (Mark e s ∷ xs) ys h = good_behind P xs ys h
good_behind P (Shut e ∷ xs) ys h = good_behind P xs ys h

octets_few : (spell : Message → List ℕ) (P : Message → Type 0) → ((m : Message) → P m → length (spell m) ≤ 4096) → (xs : List (Entry Message)) → AllGood P xs → length (passing spell xs) ≤ 4096 * length xs
octets_few spell P small [] h = omega arith
octets_few spell P small (Dial e ∷ xs) h = omega (arith, octets_few spell P small xs h)
octets_few spell P small (Says e m ∷ xs) h =
    omega (arith, octets_few spell P small xs h.1, small m h.0, length-append (octets_of e (spell m)) (passing spell xs), octets_some e (spell m))
octets_few spell P small (Mark e s ∷ xs) h = omega (arith, octets_few spell P small xs h)
octets_few spell P small (Shut e ∷ xs) h = omega (arith, octets_few spell P small xs h)

pub frame_small : HeaderIsItsFront → (octets : List ℕ) → IsFrame octets → length octets ≤ 4096
frame_small law octets f =
    let bounds = (law 19 octets (omega arith)).bounds f.good in
    let top = bounds.1 in
    omega (arith, f.whole, top)

-- 1 for an event with a peer
abbrev peered : RouterEvent → ℕ
peered (alone (Handles w)) = 1
peered (alone (Advertises w)) = 1
peered (puts w i) = 1
peered (takes w i) = 1
peered (alone (Obeys c)) = 0
peered (alone Ticks) = 0
peered (alone Decides) = 0
peered (offers made) = 0

-- 1 for a decision
abbrev pub is_choice : RouterEvent → ℕ
is_choice (alone Decides) = 1
is_choice (alone (Handles w)) = 0
is_choice (alone (Advertises w)) = 0
is_choice (puts w i) = 0
is_choice (takes w i) = 0
is_choice (alone (Obeys c)) = 0
is_choice (alone Ticks) = 0
is_choice (offers made) = 0

told_near : (a b : Bool) (o : Option PrefixView) → is_some (cond (a && b) o None) ≡ true → a ≡ true
told_near true b o h = refl
told_near false b o h = absurd cc

times_none : (n : ℕ) → times n 0 ≡ 0
times_none zero = refl
times_none (suc n) = omega (arith, times_none n)

-- ---- the two routers of a link

pub joined : (a b : ℕ) (l : Link) → joins a b l ≡ true → ((l.one ≡ a) × (l.other ≡ b)) ⊎ ((l.one ≡ b) × (l.other ≡ a))
joined a b l h = by (l.one == a) (l.other == b) (l.one == b) (l.other == a) refl refl refl refl h
  where
    by : (p q r s : Bool) → (l.one == a) ≡ p → (l.other == b) ≡ q → (l.one == b) ≡ r → (l.other == a) ≡ s → ((p && q) || (r && s)) ≡ true → ((l.one ≡ a) × (l.other ≡ b)) ⊎ ((l.one ≡ b) × (l.other ≡ a))
    by true true r s ep eq er es h = inl (eqb-true l.one a ep, eqb-true l.other b eq)
    by true false true true ep eq er es h = inr (eqb-true l.one b er, eqb-true l.other a es)
    by false q true true ep eq er es h = inr (eqb-true l.one b er, eqb-true l.other a es)
    by true false true false ep eq er es h = absurd cc
    by true false false s ep eq er es h = absurd cc
    by false q true false ep eq er es h = absurd cc
    by false q false s ep eq er es h = absurd cc

-- ---- a side of a run

phase_is : (p : Phase) (st : State) → phase_of p ≡ model.phase_in (state_of st) → p ≡ phase.Offered → st ≡ state.Connect
phase_is p st h is = grind (arith, h, is)

open_in : (st : State) → phase_of phase.Joined ≡ model.phase_in (state_of st) → IsOpen st
open_in st h = grind (arith, h)

held_by : (p : Phase) (st : State) (held : List ℕ) → phase_of p ≡ model.phase_in (state_of st) → (p ≢ phase.Joined → held ≡ []) → held ≢ [] → IsOpen st
held_by phase.Joined st held h none some = open_in st h
held_by phase.Shut st held h none some = absurd (some (none (λ e. absurd cc)))
held_by phase.Offered st held h none some = absurd (some (none (λ e. absurd cc)))

pub record Laws : Type 0 where
  pub below : LawsBelow
  pub good : SaidIsGood
  pub appends : StepsAppendWhatTheySay
  pub peers : LinkedRoutersArePeers

module _ (laws : Laws) (g : Setting) (set : IsSetting g) (M K : ℕ) where
  -- what holds of a state of a stretch: nothing is dialled above M, and no number recorded above K
  pub record Level (st : RunState) : Type 0 where
    pub kept : Kept g st
    pub low : (u v : ℕ) → linked g.net u v ≡ true → (side_of st u v).link.epoch ≤ M
    pub marks : (u v : ℕ) → linked g.net u v ≡ true → crest mark_in (log_of st u v) ≤ K
    pub lasts : (u : ℕ) → IsRouter g.net.routers u → (st.routers u).router.snapshots.last ≤ K

  fine : (st : RunState) → Level st → (u v : ℕ) → linked g.net u v ≡ true → Fine M (side_of st u v)
  fine st level u v near =
      let here = (level.kept.reached.links u v near).here in
      let same = sym here.stands.reads.phase ∙ here.stands.fits.phase in
      record {
        low = level.low u v near;
        waits = phase_is (side_of st u v).link.phase (side_of st u v).session.state same;
        joined = held_by (side_of st u v).link.phase (side_of st u v).session.state (side_of st u v).held same here.holds.apart;
      }

  pub epoch_is : (st : RunState) → Kept g st → (u v : ℕ) → linked g.net u v ≡ true → (side_of st u v).link.epoch ≡ crest dial_in (log_of st u v)
  epoch_is st kept u v near =
      let here = (kept.reached.links u v near).here in
      here.stands.reads.epoch ∙ sym (dials_are _) ∙ sym (ap (crest dial_in) here.log)

  -- ---- what is still to be done

  abbrev pub toll : Side → (PrefixView → List ℕ) → List What → List What → ℕ
  toll s kept put taken = weight M (prefixes g) s kept + 3 * length s.outbox + (passage put - passage taken)

  abbrev pub way : RunState → ℕ → ℕ → ℕ
  way st a b = toll (side_of st a b) (st.routers a).router.kept (st.put a b) (st.taken a b)

  abbrev pub both : RunState → ℕ → ℕ → ℕ
  both st a b = way st a b + way st b a

  abbrev size : ℕ
  size = times (length g.net.links) 12288 + 2

  abbrev pub records_left : RunState → ℕ → ℕ
  records_left st u = times (K - (st.routers u).router.snapshots.last) size + jobs (st.routers u).router.snapshots

  abbrev numbers_of : List ℕ
  numbers_of = numbers g.net.routers

  abbrev pub left : RunState → ℕ
  left st = sum_of (λ (l : Link). both st l.one l.other) g.net.links + sum_of (records_left st) numbers_of

  abbrev pub each_choice : ℕ
  each_choice = times (length g.net.links) (12289 * length (prefixes g)) + 1

  -- a calm event is one with a peer, an offer or a decision
  counted : (a : RouterEvent) → IsCalm a → 1 ≤ peered a + length (offered_by a) + is_choice a * each_choice
  counted (alone (Obeys c)) is = absurd is
  counted (alone Ticks) is = absurd is
  counted (alone (Handles w)) is = omega arith
  counted (alone (Advertises w)) is = omega arith
  counted (alone Decides) is = omega arith
  counted (puts w i) is = omega arith
  counted (takes w i) is = omega arith
  counted (offers made) is = omega arith

  -- ---- one event

  module _ (old new : RunState) (d : NetworkEvent Own What MadeOffer) (is_calm : IsCalm d.event) (step : runs.NetworkStep (logged_steps g) old d new) (level : Level old) (behind : Kept g new) where
    abbrev u : ℕ
    u = d.router

    abbrev e : RouterEvent
    e = d.event

    abbrev x : Router
    x = (old.routers u).router

    abbrev y : Router
    y = after g u x e

    abbrev logged : LoggedStep g u (old.routers u) e step.0
    logged = step.1

    router_is : (new.routers u) ≡ step.0
    router_is = ap (λ (s : RunState). s.routers u) step.2 ∙ ap (λ (b : Bool). if b then step.0 else old.routers u) (own u)

    router_after : (new.routers u).router ≡ y
    router_after = ap (λ (l : Logged). l.router) router_is ∙ logged.step.leaves

    log_after : (v : ℕ) → log_of new u v ≡ log_of old u v ++ says g u x e v
    log_after v = ap (λ (l : Logged). l.log v) router_is ∙ ap (λ (h : ℕ → List (Entry Message)). h v) logged.log

    other_stays : (w : ℕ) → (u == w) ≡ false → new.routers w ≡ old.routers w
    other_stays w off = ap (λ (s : RunState). s.routers w) step.2 ∙ ap (λ (b : Bool). if b then step.0 else old.routers w) off

    put_is : (a b : ℕ) → new.put a b ≡ old.put a b ++ put_between a b d
    put_is a b = ap (λ (s : RunState). s.put a b) step.2

    taken_is : (a b : ℕ) → new.taken a b ≡ old.taken a b ++ taken_between a b d
    taken_is a b = ap (λ (s : RunState). s.taken a b) step.2

    -- ---- what is taken was said

    said_by : (f : Entry Message → ℕ) (w : ℕ) (i : What) → e ≡ takes w i → linked g.net u w ≡ true → peak f (passes i) ≤ crest f (log_of old w u)
    said_by f w i is near =
        let p = laws.peers g.net set.network u w near in
        let off : (u == w) ≡ false = grind (arith, nat_tests, p.apart) in
        let between : taken_between w u d ≡ i ∷ [] =
        ap (λ (b : Bool). if b then taken_from w e else []) (own u) ∙ ap (taken_from w) is ∙ ap (λ (b : Bool). if b then i ∷ [] else []) (own w) in
        let took : all_passes (new.taken w u) ≡ all_passes (old.taken w u) ++ (passes i ++ []) = ap all_passes (taken_is w u ∙ ap (λ k. old.taken w u ++ k) between) ∙ passes_append (old.taken w u) (i ∷ []) in
        let front = step.3 w u in
        let passes_front : all_passes (new.taken w u) ++ all_passes front.0 ≡ all_passes (new.put w u) = sym (passes_append (new.taken w u) front.0) ∙ ap all_passes front.1 in
        let log : log_of new w u ≡ log_of old w u = ap (λ (l : Logged). l.log u) (other_stays w off) in
        omega (
          arith,
          ap (peak f) took,
          peak_append f (all_passes (old.taken w u)) (passes i ++ []),
          peak_append f (passes i) [],
          peak_of_prefix f (all_passes (new.taken w u)) (all_passes (new.put w u)) (all_passes front.0, passes_front),
          peak_append f (all_passes (new.put w u)) (side_of new w u).outbox,
          ap (peak f) (behind.reached.puts w u),
          peak_below f (written_in g) (log_of new w u),
          ap (crest f) log,
        )

    peak_by : (f : Entry Message → ℕ) (N : ℕ) → ((w : ℕ) → linked g.net u w ≡ true → crest f (log_of old w u) ≤ N) → (a : RouterEvent) → e ≡ a → peak_in f a ≤ N
    peak_by f N low (alone o) is = omega arith
    peak_by f N low (puts w i) is = omega arith
    peak_by f N low (offers o) is = omega arith
    peak_by f N low (takes w i) is =
        let near : linked g.net u w ≡ true = (subst (λ (a : RouterEvent). May g u x a) is logged.step.may).0 in
        omega (arith, said_by f w i is near, low w near)

    back : (w : ℕ) → linked g.net u w ≡ true → linked g.net w u ≡ true
    back w near = (laws.peers g.net set.network u w near).back

    happens : Outcome laws.below g u M K x y e
    happens =
        calm laws.below g u M K x (fine old level u) e is_calm (subst (λ (k : Router). Step g u x e k) logged.step.leaves logged.step)
        (peak_by dial_in M (λ w near. omega (arith, level.low w u (back w near), epoch_is old level.kept w u (back w near))) e refl) (peak_by mark_in K (λ w near. level.marks w u (back w near)) e refl)

    -- ---- towards one peer

    put_size : (v : ℕ) → length (put_towards v e) ≤ length (all_passes (put_towards v e))
    put_size v = at e refl
      where
        at : (a : RouterEvent) → e ≡ a → length (put_towards v a) ≤ length (all_passes (put_towards v a))
        at (alone o) is = omega arith
        at (takes w i) is = omega arith
        at (offers o) is = omega arith
        at (puts w i) is =
            let may = subst (λ (a : RouterEvent). May g u x a) is logged.step.may in
            one (w == v) (some_passes g.net.settings.cut i may.1)
          where
            one : (b : Bool) → 1 ≤ length (passes i) → length (if b then i ∷ [] else []) ≤ length (all_passes (if b then i ∷ [] else []))
            one true h = omega (arith, h, length-append (passes i) [])
            one false h = omega arith

    module _ (lift : ℕ) (sinks : SidesSink laws.below g u M K x y e lift) where
      -- how much the event does with a peer
      abbrev doing : ℕ → ℕ
      doing v = length (put_towards v e) + length (taken_from v e) + deals e v

      pair : (v : ℕ) → linked g.net u v ≡ true → both new u v + doing v ≤ both old u v + lift
      pair v near =
          let p = laws.peers g.net set.network u v near in
          let off : (u == v) ≡ false = grind (arith, nat_tests, p.apart) in
          let puts_here : new.put u v ≡ old.put u v ++ put_towards v e = put_is u v ∙ ap (λ (b : Bool). old.put u v ++ (if b then put_towards v e else [])) (own u) in
          let takes_here : new.taken u v ≡ old.taken u v ++ [] = taken_is u v ∙ ap (λ (b : Bool). old.taken u v ++ (if b then taken_from u e else [])) off in
          let puts_there : new.put v u ≡ old.put v u ++ [] = put_is v u ∙ ap (λ (b : Bool). old.put v u ++ (if b then put_towards u e else [])) off in
          let takes_there : new.taken v u ≡ old.taken v u ++ taken_from v e = taken_is v u ∙ ap (λ (b : Bool). old.taken v u ++ (if b then taken_from v e else [])) (own u) in
          let router : side_of new u v ≡ y.sides v = ap (λ (r : Router). r.sides v) router_after in
          let light_new : weight M (prefixes g) (side_of new u v) (new.routers u).router.kept ≡ weight M (prefixes g) (y.sides v) y.kept = ap (λ (r : Router). weight M (prefixes g) (r.sides v) r.kept) router_after in
          let peer : new.routers v ≡ old.routers v = other_stays v off in
          let there_light = ap (λ (l : Logged). weight M (prefixes g) (l.router.sides u) l.router.kept + 3 * length (l.router.sides u).outbox) peer in
          let says_good : AllGood (IsSaid g u) (says g u x e v) = good_behind (IsSaid g u) (log_of old u v) (says g u x e v) (subst (λ (k : List (Entry Message)). AllGood (IsSaid g u) k) (log_after v) (behind.said u v near)) in
          let few = octets_few (written_in g) (IsSaid g u) (λ m is. frame_small laws.below.header (written_in g m) (laws.good g set u logged.known m is).0) (says g u x e v) says_good in
          let step_is : Step g u x e y = subst (λ (k : Router). Step g u x e k) logged.step.leaves logged.step in
          let width : (x.sides v).width ≡ g.net.settings.width = level.kept.reached.widths u v in
          let appended : all_passes (put_towards v e) ++ (y.sides v).outbox ≡ (x.sides v).outbox ++ passing (written_in g) (says g u x e v) =
          laws.appends g u v x y e step_is ∙ ap (λ w. (x.sides v).outbox ++ passing (written w) (says g u x e v)) width in
          omega (
            arith,
            sinks.light v near,
            light_new,
            ap (λ (s : Side). length s.outbox) router,
            there_light,
            ap length appended,
            length-append (all_passes (put_towards v e)) (y.sides v).outbox,
            length-append (x.sides v).outbox (passing (written_in g) (says g u x e v)),
            few,
            put_size v,
            ap passage puts_here,
            passage_append (old.put u v) (put_towards v e),
            ap passage takes_here,
            passage_append (old.taken u v) [],
            ap passage puts_there,
            passage_append (old.put v u) [],
            ap passage takes_there,
            passage_append (old.taken v u) (taken_from v e),
            passage_prefix (new.taken v u) (new.put v u) (step.3 v u),
            passage_prefix (old.taken u v) (old.put u v) (level.kept.reached.begins u v),
          )

      apart_both : (a b : ℕ) → (u == a) ≡ false → (u == b) ≡ false → way new a b ≡ way old a b
      apart_both a b off_a off_b =
          let puts_same : new.put a b ≡ old.put a b = put_is a b ∙ ap (λ (c : Bool). old.put a b ++ (if c then put_towards b e else [])) off_a ∙ append-nil (old.put a b) in
          let takes_same : new.taken a b ≡ old.taken a b = taken_is a b ∙ ap (λ (c : Bool). old.taken a b ++ (if c then taken_from a e else [])) off_b ∙ append-nil (old.taken a b) in
          ap (λ (l : Logged). toll (l.router.sides b) l.router.kept (new.put a b) (new.taken a b)) (other_stays a off_a) ∙ ap (λ (k : List What). toll (side_of old a b) (old.routers a).router.kept k (new.taken a b)) puts_same
          ∙ ap (λ (k : List What). toll (side_of old a b) (old.routers a).router.kept (old.put a b) k) takes_same

      any_pair : (a b : ℕ) → linked g.net a b ≡ true → both new a b ≤ both old a b + lift
      any_pair a b near = first (u == a) refl
        where
          second : (c : Bool) → (u == a) ≡ false → (u == b) ≡ c → both new a b ≤ both old a b + lift
          second true off is =
              let same : u ≡ b = eqb-true u b is in
              subst (λ (k : ℕ). both new a k ≤ both old a k + lift) same
              (omega (arith, pair a (laws.peers g.net set.network a u (subst (λ (k : ℕ). linked g.net a k ≡ true) (sym same) near)).back))
          second false off is = omega (arith, apart_both a b off is, apart_both b a is off)

          first : (c : Bool) → (u == a) ≡ c → both new a b ≤ both old a b + lift
          first true is =
              let same : u ≡ a = eqb-true u a is in
              subst (λ (k : ℕ). both new k b ≤ both old k b + lift) same (omega (arith, pair b (subst (λ (k : ℕ). linked g.net k b ≡ true) (sym same) near)))
          first false is = second (u == b) is refl

      -- ---- all links

      link_near : (l : Link) → Among l g.net.links → linked g.net l.one l.other ≡ true
      link_near l i =
          let e1 = own l.one in
          let e2 = own l.other in
          any_has (joins l.one l.other) g.net.links l i (rw (e1, e2) refl)

      abbrev pair_of : RunState → Link → ℕ
      pair_of st l = both st l.one l.other

      each : (l : Link) → Among l g.net.links → pair_of new l ≤ pair_of old l + lift
      each l i = any_pair l.one l.other (link_near l i)

      at_peer : (v n : ℕ) → linked g.net u v ≡ true → n ≤ doing v → sum_of (pair_of new) g.net.links + n ≤ sum_of (pair_of old) g.net.links + times (length g.net.links) lift
      at_peer v n near some =
          let l = any_of (joins u v) g.net.links near in
          sum_falls (pair_of new) (pair_of old) lift g.net.links each l.0 l.1 n (elim (joined u v l.0 l.2) [
            | inl same ↦ omega (arith, pair v near, some, ap (λ (k : ℕ). both new k l.0.other) same.0, ap (λ (k : ℕ). both new u k) same.1, ap (λ (k : ℕ). both old k l.0.other) same.0, ap (λ (k : ℕ). both old u k) same.1)
            | inr same ↦ omega (arith, pair v near, some, ap (λ (k : ℕ). both new k l.0.other) same.0, ap (λ (k : ℕ). both new v k) same.1, ap (λ (k : ℕ). both old k l.0.other) same.0, ap (λ (k : ℕ). both old v k) same.1)
          ])

      links_fall : sum_of (pair_of new) g.net.links + peered e ≤ sum_of (pair_of old) g.net.links + times (length g.net.links) lift
      links_fall = at e refl
        where
          none : sum_of (pair_of new) g.net.links ≤ sum_of (pair_of old) g.net.links + times (length g.net.links) lift
          none = sum_below (pair_of new) (pair_of old) lift g.net.links each

          may : (a : RouterEvent) → e ≡ a → May g u x a
          may a is = subst (λ (b : RouterEvent). May g u x b) is logged.step.may

          at : (a : RouterEvent) → e ≡ a → sum_of (pair_of new) g.net.links + peered a ≤ sum_of (pair_of old) g.net.links + times (length g.net.links) lift
          at (alone (Handles w)) is =
              at_peer w 1 (may (alone (Handles w)) is).0 (omega (arith, ap (λ (b : RouterEvent). deals b w) is, ap one_if (own w)))
          at (alone (Advertises w)) is =
              at_peer w 1 (told_near (linked g.net u w) _ _ (may (alone (Advertises w)) is)) (omega (arith, ap (λ (b : RouterEvent). deals b w) is, ap one_if (own w)))
          at (puts w i) is =
              at_peer w 1 (may (puts w i) is).0 (omega (arith, ap (λ (b : RouterEvent). length (put_towards w b)) is, ap (λ (b : Bool). length (if b then i ∷ [] else [])) (own w)))
          at (takes w i) is =
              at_peer w 1 (may (takes w i) is).0 (omega (arith, ap (λ (b : RouterEvent). length (taken_from w b)) is, ap (λ (b : Bool). length (if b then i ∷ [] else [])) (own w)))
          at (alone (Obeys c)) is = omega (arith, none)
          at (alone Ticks) is = omega (arith, none)
          at (alone Decides) is = omega (arith, none)
          at (offers made) is = omega (arith, none)

    -- ---- recordings

    here_last : (new.routers u).router.snapshots ≡ y.snapshots
    here_last = ap (λ (r : Router). r.snapshots) router_after

    there_known : Among u numbers_of
    there_known = numbered numbers_of logged.known.0 u logged.known.1 logged.known.2

    records_fall : (less : ℕ) → times (K - y.snapshots.last) size + jobs y.snapshots + less ≤ times (K - x.snapshots.last) size + jobs x.snapshots
        → sum_of (records_left new) numbers_of + less ≤ sum_of (records_left old) numbers_of
    records_fall less falls =
        omega (arith, sum_falls (records_left new) (records_left old) 0 numbers_of (λ w i. all w (u == w) refl) u there_known less here, times_none (length numbers_of))
      where
        here : records_left new u + less ≤ records_left old u + 0
        here = omega (arith, falls, ap (λ s. times (K - s.last) size + jobs s) here_last)

        all : (w : ℕ) (b : Bool) → (u == w) ≡ b → records_left new w ≤ records_left old w + 0
        all w true is = subst (λ (k : ℕ). records_left new k ≤ records_left old k + 0) (eqb-true u w is) (omega (arith, here))
        all w false is = omega (arith, ap (λ (l : Logged). times (K - l.router.snapshots.last) size + jobs l.router.snapshots) (other_stays w is))

    still_falls : Still laws.below g u M K x y e → sum_of (records_left new) numbers_of + length (offered_by e) ≤ sum_of (records_left old) numbers_of
    still_falls still = records_fall (length (offered_by e)) (omega (arith, still.jobs, ap (λ (n : ℕ). times (K - n) size) still.last))

    -- ---- the whole

    fall_by : Outcome laws.below g u M K x y e → left new + 1 ≤ left old + is_choice e * each_choice
    fall_by (Goes still sinks) = omega (arith, links_fall 0 sinks, still_falls still, counted e is_calm, times_none (length g.net.links))
    fall_by (Marks begun sinks) =
        let less = times_grows (K - y.snapshots.last) (K - x.snapshots.last) size (omega (arith, begun.above, begun.within)) in
        omega (arith, links_fall 12288 sinks, records_fall (times (length g.net.links) 12288 + 1) (omega (arith, less, begun.jobs)))
    fall_by (Chooses is still sinks) =
        let one = ap is_choice is in
        let chosen : is_choice e * each_choice ≡ each_choice = ap (λ (n : ℕ). n * each_choice) one ∙ omega arith in
        omega (arith, links_fall (12289 * length (prefixes g)) sinks, still_falls still, chosen)

    pub falls : left new + 1 ≤ left old + is_choice e * each_choice
    falls = fall_by happens

    -- ---- the bounds stay

    record Bounds : Type 0 where
      low : (v : ℕ) → linked g.net u v ≡ true → (y.sides v).link.epoch ≤ M
      marks : (v : ℕ) → linked g.net u v ≡ true → crest mark_in (says g u x e v) ≤ K
      last : y.snapshots.last ≤ K

    bounds_by : Outcome laws.below g u M K x y e → Bounds
    bounds_by (Goes still sinks) = record { low = sinks.low; marks = sinks.marks; last = omega (arith, still.last, level.lasts u logged.known) }
    bounds_by (Marks begun sinks) = record { low = sinks.low; marks = sinks.marks; last = begun.within }
    bounds_by (Chooses is still sinks) = record { low = sinks.low; marks = sinks.marks; last = omega (arith, still.last, level.lasts u logged.known) }

    bounds : Bounds
    bounds = bounds_by happens

    pub stays_level : Level new
    stays_level = record {
      kept = behind;
      low = λ a v near. low a v near (u == a) refl;
      marks = λ a v near. marks a v near (u == a) refl;
      lasts = λ a known. last a known (u == a) refl;
    }
      where
        low : (a v : ℕ) → linked g.net a v ≡ true → (b : Bool) → (u == a) ≡ b → (side_of new a v).link.epoch ≤ M
        low a v near true is =
            subst (λ (k : ℕ). (side_of new k v).link.epoch ≤ M) (eqb-true u a is)
            (omega (arith, bounds.low v (subst (λ (k : ℕ). linked g.net k v ≡ true) (sym (eqb-true u a is)) near), ap (λ (r : Router). (r.sides v).link.epoch) router_after))
        low a v near false is = omega (arith, level.low a v near, ap (λ (l : Logged). (l.router.sides v).link.epoch) (other_stays a is))

        marks : (a v : ℕ) → linked g.net a v ≡ true → (b : Bool) → (u == a) ≡ b → crest mark_in (log_of new a v) ≤ K
        marks a v near true is =
            let near_u : linked g.net u v ≡ true = subst (λ (k : ℕ). linked g.net k v ≡ true) (sym (eqb-true u a is)) near in
            subst (λ (k : ℕ). crest mark_in (log_of new k v) ≤ K) (eqb-true u a is)
            (omega (arith, bounds.marks v near_u, level.marks u v near_u, ap (crest mark_in) (log_after v), crest_append mark_in (log_of old u v) (says g u x e v)))
        marks a v near false is = omega (arith, level.marks a v near, ap (λ (l : Logged). crest mark_in (l.log v)) (other_stays a is))

        last : (a : ℕ) → IsRouter g.net.routers a → (b : Bool) → (u == a) ≡ b → (new.routers a).router.snapshots.last ≤ K
        last a known true is = subst (λ (k : ℕ). (new.routers k).router.snapshots.last ≤ K) (eqb-true u a is) (omega (arith, bounds.last, ap (λ s. s.last) here_last))
        last a known false is = omega (arith, level.lasts a known, ap (λ (l : Logged). l.router.snapshots.last) (other_stays a is))
