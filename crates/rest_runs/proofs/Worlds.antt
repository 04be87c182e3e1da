-- Rounds of a world: each that does something does calm events, of which there are only so many.
use Rattle.std.proofs.Common.{◌==◌, Bool, true, false, Some, ◌≡◌, ℕ, zero, suc, ◌+◌, ◌<◌, ◌≤◌, List, [], ◌∷◌, ◌++◌, length, refl, ap, sym, ◌∙◌, subst, arith, inl, inr, get_or}
use Rattle.std.specs.Prelude.{Ok, if◌then◌else◌}
use Rattle.std.specs.List.{AllByRecursion, flat_map}
use Rattle.std.proofs.lemmas.List.{length-append}
use mathlib.Core.Logic.{◌⊎◌}
use Rattle.ranked_policy.specs.Plans.{numbers}
use Rattle.run_model.specs.Network as runs
use Rattle.run_model.specs.Network.{alone, puts, takes, offers}
use Rattle.router_model.specs.Settings.{Setting, IsSetting, peers}
use Rattle.router_model.specs.Laws.{AnswersAreSteps}
use Rattle.router_model.specs.Step.{Obeys, Ticks, Handles, Decides, Advertises, RouterEvent}
use Rattle.router_runs.specs.Runs.{RunOrder, RunState, logged_steps}
use Rattle.world_core.specs.declared.schedule.Event.{Event}
use Rattle.world_core.specs.declared.schedule.Event.TheVariants as schedule
use Rattle.world_core.specs.World.{World, WorldAnswer, Does, Nothing, Stops, world_answer, world_after, world_of, onward, played, name_of, AgreesWith}
use Rattle.world_core.specs.Orders.{with_peer, turn, round, repeated}
use Rattle.world_core.specs.Watching.{end_of, reached, rest_in}
use Rattle.world_core.proofs.Orders.{any_place}
use Rattle.world_core.specs.Keeping.{WhatIsPlayedIsARun}
use Rattle.world_core.proofs.Playing.{doing, followed}
use Rattle.rest_runs.specs.Calm.{IsCalm, AreCalm}
use Rattle.rest_runs.specs.Resting.{CalmRunsEnd}
use Rattle.rest_runs.specs.Counted.{BoundedCalmRunsAreCounted}
use Rattle.rest_runs.specs.Rounds.{IsAtRest, RoundsComeToRest, RoundsAreCounted, RestIsFound}
use Rattle.rest_runs.proofs.Numbers.{own}
use Rattle.rest_runs.proofs.Stretch.{join}

-- ---- events of rounds

-- an event that a router tries by itself
abbrev IsTried : Event → Type 0
IsTried (schedule.Command u c) = ⊥
IsTried (schedule.Tick u) = ⊥
IsTried (schedule.Put u v) = Unit {0}
IsTried (schedule.Take u v) = Unit {0}
IsTried (schedule.Handle u v) = Unit {0}
IsTried (schedule.Decide u) = Unit {0}
IsTried (schedule.Advertise u) = Unit {0}
IsTried (schedule.Offer u) = Unit {0}

pub all_append : {A : Type 0} (P : A → Type 0) (xs ys : List A) → AllByRecursion P xs → AllByRecursion P ys → AllByRecursion P (xs ++ ys)
all_append P [] ys a b = b
all_append P (x ∷ xs) ys a b = (a.0, all_append P xs ys a.1 b)

pub all_parts : {A : Type 0} (P : A → Type 0) (xs ys : List A) → AllByRecursion P (xs ++ ys) → AllByRecursion P xs × AllByRecursion P ys
all_parts P [] ys a = (tt, a)
all_parts P (x ∷ xs) ys a = (let k = all_parts P xs ys a.1 in ((a.0, k.0), k.1))

all_over : {A B : Type 0} (P : B → Type 0) (f : A → List B) (xs : List A) → ((x : A) → AllByRecursion P (f x)) → AllByRecursion P (flat_map f xs)
all_over P f [] each = tt
all_over P f (x ∷ xs) each = all_append P (f x) (flat_map f xs) (each x) (all_over P f xs each)

round_is_tried : (g : Setting) → AllByRecursion IsTried (round g.net)
round_is_tried g =
    all_over IsTried (turn g.net) (numbers g.net.routers)
    (λ u. all_append IsTried (flat_map (with_peer u) (peers g.net u)) (schedule.Decide u ∷ schedule.Advertise u ∷ schedule.Offer u ∷ [])
    (all_over IsTried (with_peer u) (peers g.net u) (λ v. (tt, (tt, (tt, tt))))) (tt, (tt, (tt, tt))))

calm_by : (u : ℕ) (e : RouterEvent) → IsTried (name_of u e) → IsCalm e
calm_by u (alone (Obeys c)) is = is
calm_by u (alone Ticks) is = is
calm_by u (alone (Handles v)) is = tt
calm_by u (alone Decides) is = tt
calm_by u (alone (Advertises v)) is = tt
calm_by u (puts v i) is = tt
calm_by u (takes v i) is = tt
calm_by u (offers made) is = tt

calm_both : (xs ys : RunOrder) → AreCalm xs → AreCalm ys → AreCalm (xs ++ ys)
calm_both [] ys a b = b
calm_both (x ∷ xs) ys a b = (a.0, calm_both xs ys a.1 b)

module _ (g : Setting) where
  abbrev Idle : World → Event → Type 0
  Idle w event = world_answer g w event ≡ Nothing

  -- events that find nothing to do leave the world as it is
  pub idle_plays : (xs : List Event) (w : World) (at : ℕ) → AllByRecursion (Idle w) xs → played g w at xs ≡ Ok w
  idle_plays [] w at idle = refl
  idle_plays (x ∷ xs) w at idle = ap (λ (a : WorldAnswer). onward (world_of g w x at a) (λ next. played g next (at + 1) xs)) idle.0 ∙ idle_plays xs w (at + 1) idle.1

  idle_again : (n : ℕ) (xs : List Event) (w : World) → AllByRecursion (Idle w) xs → AllByRecursion (Idle w) (repeated n xs)
  idle_again zero xs w idle = tt
  idle_again (suc n) xs w idle = all_append (Idle w) xs (repeated n xs) idle (idle_again n xs w idle)

  one_of : (P : Event → Type 0) (f : ℕ → List Event) (ns : List ℕ) (k u : ℕ) → k < length ns → get_or ns k u ≡ u → AllByRecursion P (flat_map f ns) → AllByRecursion P (f u)
  one_of P f [] k u less is all = absurd (omega (arith, less))
  one_of P f (n ∷ ns) zero u less is all = subst (λ (m : ℕ). AllByRecursion P (f m)) is (all_parts P (f n) (flat_map f ns) all).0
  one_of P f (n ∷ ns) (suc k) u less is all = one_of P f ns k u (omega (arith, less)) is (all_parts P (f n) (flat_map f ns) all).1

  rests : (w : World) → AllByRecursion (Idle w) (round g.net) → IsAtRest g w
  rests w idle = record {
    events = idle;
    turns = λ u known. idle_plays (turn g.net u) w 0 (one_of (Idle w) (turn g.net) (numbers g.net.routers) known.0 u known.1 known.2 idle);
    rounds = λ n. idle_plays (repeated n (round g.net)) w 0 (idle_again n (round g.net) w idle);
  }

  -- ---- one list behind another

  record Parted (w z : World) (xs ys : List Event) (at : ℕ) : Type 0 where
    mid : World
    place : ℕ
    front : played g w at xs ≡ Ok mid
    back : played g mid place ys ≡ Ok z

  part_by : (w z : World) (x : Event) (xs ys : List Event) (at : ℕ) (a : WorldAnswer) → world_answer g w x ≡ a → ((next : World) → played g next (at + 1) (xs ++ ys) ≡ Ok z → Parted next z xs ys (at + 1))
      → onward (world_of g w x at a) (λ next. played g next (at + 1) (xs ++ ys)) ≡ Ok z → Parted w z (x ∷ xs) ys at
  part_by w z x xs ys at (Does u e stamp) is on h =
      let k = on (world_after g w x u e stamp) h in
      record { mid = k.mid; place = k.place; front = ap (λ (a : WorldAnswer). onward (world_of g w x at a) (λ next. played g next (at + 1) xs)) is ∙ k.front; back = k.back }
  part_by w z x xs ys at Nothing is on h =
      let k = on w h in
      record { mid = k.mid; place = k.place; front = ap (λ (a : WorldAnswer). onward (world_of g w x at a) (λ next. played g next (at + 1) xs)) is ∙ k.front; back = k.back }
  part_by w z x xs ys at (Stops fault) is on h = absurd cc

  part : (xs ys : List Event) (w z : World) (at : ℕ) → played g w at (xs ++ ys) ≡ Ok z → Parted w z xs ys at
  part [] ys w z at h = record { mid = w; place = at; front = refl; back = h }
  part (x ∷ xs) ys w z at h = part_by w z x xs ys at (world_answer g w x) refl (λ next k. part xs ys next z (at + 1) k) h

  -- ---- what is played goes on with the run

  module _ (steps : AnswersAreSteps) (set : IsSetting g) where
    record Onward (w y : World) (state : RunState) : Type 0 where
      later : RunOrder
      last : RunState
      run : runs.Run (logged_steps g) state later last
      calm : AreCalm later
      agrees : AgreesWith g y last

    record Goes (w y : World) (state : RunState) (events : List Event) : Type 0 where
      on : Onward w y state
      idle : length on.later ≡ 0 → AllByRecursion (Idle w) events × (y ≡ w)

    goes_by : (w y : World) (x : Event) (xs : List Event) (at : ℕ) (state : RunState) (a : WorldAnswer) → world_answer g w x ≡ a → IsTried x → AgreesWith g w state
        → ((next : World) (now : RunState) → AgreesWith g next now → played g next (at + 1) xs ≡ Ok y → Goes next y now xs)
        → onward (world_of g w x at a) (λ next. played g next (at + 1) xs) ≡ Ok y → Goes w y state (x ∷ xs)
    goes_by w y x xs at state (Does u e stamp) is tried agrees on h =
        let d = doing steps g set.network w x u e stamp is in
        let f = followed steps g w x u e stamp state agrees d in
        let k = on (world_after g w x u e stamp) f.state_after f.agrees h in
        record {
          on = record {
            later = record { router = u; event = e } ∷ k.on.later;
            last = k.on.last;
            run = (f.state_after, f.does, k.on.run);
            calm = (calm_by u e (subst IsTried (sym d.name) tried), k.on.calm);
            agrees = k.on.agrees;
          };
          idle = λ none. absurd (omega (arith, none));
        }
    goes_by w y x xs at state Nothing is tried agrees on h =
        let k = on w state agrees h in
        record { on = record { later = k.on.later; last = k.on.last; run = k.on.run; calm = k.on.calm; agrees = k.on.agrees }; idle = λ none. (let i = k.idle none in ((is, i.0), i.1)) }
    goes_by w y x xs at state (Stops fault) is tried agrees on h = absurd cc

    goes : (xs : List Event) (w y : World) (at : ℕ) (state : RunState) → AllByRecursion IsTried xs → AgreesWith g w state → played g w at xs ≡ Ok y → Goes w y state xs
    goes [] w y at state tried agrees h =
        let same : w ≡ y = cc in
        record { on = record { later = []; last = state; run = refl; calm = tt; agrees = subst (λ (k : World). AgreesWith g k state) same agrees }; idle = λ none. (tt, sym same) }
    goes (x ∷ xs) w y at state tried agrees h =
        goes_by w y x xs at state (world_answer g w x) refl tried.0 agrees (λ next now k m. goes xs next y (at + 1) now tried.1 k m) h

    -- ---- rounds

    -- so many rounds end at rest, or do at least so many events
    record Busy (w y : World) (state : RunState) (n : ℕ) : Type 0 where
      on : Onward w y state
      some : n ≤ length on.later

    -- a round that does something, and then so many
    busier : (n : ℕ) (w mid y : World) (state : RunState) (first : Goes w mid state (round g.net)) → Busy mid y first.on.last n → 1 ≤ length first.on.later → Busy w y state (suc n)
    busier n w mid y state first busy some = record {
      on = record {
        later = first.on.later ++ busy.on.later;
        last = busy.on.last;
        run = (join g first.on.later busy.on.later state first.on.last busy.on.last first.on.run busy.on.run).whole;
        calm = calm_both first.on.later busy.on.later first.on.calm busy.on.calm;
        agrees = busy.on.agrees;
      };
      some = omega (arith, some, busy.some, length-append first.on.later busy.on.later);
    }

    some_done : (w mid : World) (state : RunState) (first : Goes w mid state (round g.net)) → (length mid.run == length w.run) ≡ false → (k : ℕ) → length first.on.later ≡ k → 1 ≤ length first.on.later
    some_done w mid state first other zero none =
        let same : (length mid.run == length w.run) ≡ true = ap (λ (k : World). length k.run == length w.run) (first.idle none).1 ∙ own (length w.run) in
        absurd (let k = sym same ∙ other in cc k)
    some_done w mid state first other (suc k) is = omega (arith, is)

    one_more : (n : ℕ) (w y : World) (at : ℕ) (state : RunState) (parts : Parted w y (round g.net) (repeated n (round g.net)) at) (first : Goes w parts.mid state (round g.net))
        → IsAtRest g y ⊎ Busy parts.mid y first.on.last n → (k : ℕ) → length first.on.later ≡ k → IsAtRest g y ⊎ Busy w y state (suc n)
    one_more n w y at state parts first rest zero none =
        let i = first.idle none in
        let back : played g w parts.place (repeated n (round g.net)) ≡ Ok y = subst (λ (k : World). played g k parts.place (repeated n (round g.net)) ≡ Ok y) i.1 parts.back in
        let stays = idle_plays (repeated n (round g.net)) w parts.place (idle_again n (round g.net) w i.0) in
        let same : w ≡ y = (let e = sym stays ∙ back in cc e) in
        inl (subst (IsAtRest g) same (rests w i.0))
    one_more n w y at state parts first (inl at_rest) (suc k) some = inl at_rest
    one_more n w y at state parts first (inr busy) (suc k) some = inr (busier n w parts.mid y state first busy (omega (arith, some)))

    rounds : (n : ℕ) (w y : World) (at : ℕ) (state : RunState) → AgreesWith g w state → played g w at (repeated n (round g.net)) ≡ Ok y → IsAtRest g y ⊎ Busy w y state n
    rounds zero w y at state agrees h =
        let same : w ≡ y = cc in
        inr (record { on = record { later = []; last = state; run = refl; calm = tt; agrees = subst (λ (k : World). AgreesWith g k state) same agrees }; some = omega arith })
    rounds (suc n) w y at state agrees h =
        let parts = part (round g.net) (repeated n (round g.net)) w y at h in
        let first = goes (round g.net) w parts.mid at state (round_is_tried g) agrees parts.front in
        one_more n w y at state parts first (rounds n parts.mid y parts.place first.on.last first.on.agrees parts.back) (length first.on.later) refl

    -- so many rounds have one that does nothing, or do at least so many events
    found_by : (n passed : ℕ) (w y : World) (state : RunState) (mid : World) (first : Goes w mid state (round g.net)) → reached g w (round g.net) ≡ mid
        → ((busy : ℕ) × (rest_in g mid (passed + 1) n ≡ Some busy)) ⊎ Busy mid y first.on.last n → (b : Bool) → (length mid.run == length w.run) ≡ b
        → ((busy : ℕ) × (rest_in g w passed (suc n) ≡ Some busy)) ⊎ Busy w y state (suc n)
    found_by n passed w y state mid first to rest true same =
        let test : (length (reached g w (round g.net)).run == length w.run) ≡ true = ap (λ (k : World). length k.run == length w.run) to ∙ same in
        inl (passed, ap (λ (b : Bool). if b then Some passed else rest_in g (reached g w (round g.net)) (passed + 1) n) test)
    found_by n passed w y state mid first to (inl found) false other =
        let test : (length (reached g w (round g.net)).run == length w.run) ≡ false = ap (λ (k : World). length k.run == length w.run) to ∙ other in
        inl (found.0, ap (λ (b : Bool). if b then Some passed else rest_in g (reached g w (round g.net)) (passed + 1) n) test ∙ ap (λ (k : World). rest_in g k (passed + 1) n) to ∙ found.1)
    found_by n passed w y state mid first to (inr busy) false other = inr (busier n w mid y state first busy (some_done w mid state first other (length first.on.later) refl))

    found : (n passed : ℕ) (w y : World) (state : RunState) → AgreesWith g w state → played g w 0 (repeated n (round g.net)) ≡ Ok y
        → ((busy : ℕ) × (rest_in g w passed n ≡ Some busy)) ⊎ Busy w y state n
    found zero passed w y state agrees h =
        let same : w ≡ y = cc in
        inr (record { on = record { later = []; last = state; run = refl; calm = tt; agrees = subst (λ (k : World). AgreesWith g k state) same agrees }; some = omega arith })
    found (suc n) passed w y state agrees h =
        let parts = part (round g.net) (repeated n (round g.net)) w y 0 h in
        let first = goes (round g.net) w parts.mid 0 state (round_is_tried g) agrees parts.front in
        let back = any_place g (repeated n (round g.net)) parts.mid y parts.place 0 parts.back in
        found_by n passed w y state parts.mid first (ap (end_of w) parts.front) (found n (passed + 1) parts.mid y first.on.last first.on.agrees back) (length parts.mid.run == length w.run) refl

pub rest_is_found : AnswersAreSteps → WhatIsPlayedIsARun → CalmRunsEnd → RestIsFound
rest_is_found steps is_run ends g set safe events w is =
    let r = is_run g set events w is in
    let most = ends g set safe r.order r.state r.run in (
      most.0 + 1,
      λ n enough y h. elim (found g steps set n 0 w y r.state r.agrees h) [
        | inl at_rest ↦ at_rest
        | inr busy ↦ absurd (omega (arith, enough, busy.some, most.1 busy.on.later busy.on.last busy.on.run busy.on.calm))
      ],
    )

pub rounds_come_to_rest : AnswersAreSteps → WhatIsPlayedIsARun → CalmRunsEnd → RoundsComeToRest
rounds_come_to_rest steps is_run ends g set safe events w is =
    let r = is_run g set events w is in
    let most = ends g set safe r.order r.state r.run in (
      most.0 + 1,
      λ n enough y h. elim (rounds g steps set n w y 0 r.state r.agrees h) [
        | inl at_rest ↦ at_rest
        | inr busy ↦ absurd (omega (arith, enough, busy.some, most.1 busy.on.later busy.on.last busy.on.run busy.on.calm))
      ],
    )

pub rounds_are_counted : AnswersAreSteps → BoundedCalmRunsAreCounted → RoundsAreCounted
rounds_are_counted steps counted g set order state reached most last within B bound w agrees n enough y h =
    elim (rounds g steps set n w y 0 state agrees h) [
      | inl at_rest ↦ at_rest
      | inr busy ↦ absurd (omega (arith, enough, busy.some, counted g set order state reached most last within B bound busy.on.later busy.on.last busy.on.run busy.on.calm))
    ]
