-- What is played comes out again, and keeps its promises.
use Rattle.std.proofs.Common.{◌≡◌, ℕ, ◌+◌, true, List, [], ◌∷◌, ◌++◌, refl, ap, sym, subst}
use Rattle.std.specs.Prelude.{Ok}
use mathlib.Core.List.{IsPrefix}
use Rattle.router_model.specs.Settings.{Setting, linked}
use Rattle.router_model.specs.State.{Router}
use Rattle.router_model.specs.Step.{RouterEvent}
use Rattle.router_model.specs.Laws.{AnswersAreSteps, LinkedRoutersArePeers}
use Rattle.router_runs.specs.Promises.{UpdatesPassInOrder, NothingIsActedOnAfterTheClose}
use Rattle.router_runs.specs.Snapshots.{CloseLosesTheRecording, SnapshotsHoldInRuns}
use Rattle.run_cuts.specs.ThroughSnapshot.{RunsPassThroughSnapshots}
use Rattle.world_core.specs.declared.schedule.Event.{Event}
use Rattle.world_core.specs.World.{World, WorldAnswer, Does, Nothing, Stops, new_world, world_answer, world_after, world_of, onward, played, IsReplayed, IsRunOfWorld}
use Rattle.world_core.specs.Keeping.{PlayedWorldsKeepTheirPromises, WhatIsPlayedIsReplayed, StepsAreReplayed}
use Rattle.world_core.proofs.Calling.{what_is_played_is_a_run}

-- ---- one event more

then_at : (g : Setting) (w end last : World) (x event : Event) (xs : List Event) (at : ℕ) (a : WorldAnswer)
    → ((next : World) → played g next (at + 1) xs ≡ Ok end → played g next (at + 1) (xs ++ event ∷ []) ≡ Ok last)
    → onward (world_of g w x at a) (λ next. played g next (at + 1) xs) ≡ Ok end
    → onward (world_of g w x at a) (λ next. played g next (at + 1) (xs ++ event ∷ [])) ≡ Ok last
then_at g w end last x event xs at (Does u e stamp) go h = go (world_after g w x u e stamp) h
then_at g w end last x event xs at Nothing go h = go w h
then_at g w end last x event xs at (Stops fault) go h = absurd cc

then_one : (g : Setting) (event : Event) (u : ℕ) (e : RouterEvent) (stamp : ℕ) (end : World) → world_answer g end event ≡ Does u e stamp
    → (events : List Event) (w : World) (at : ℕ) → played g w at events ≡ Ok end → played g w at (events ++ event ∷ []) ≡ Ok (world_after g end event u e stamp)
then_one g event u e stamp end is [] w at h =
    let same : w ≡ end = cc in
    subst (λ k. played g k at (event ∷ []) ≡ Ok (world_after g end event u e stamp)) (sym same)
    (ap (λ a. onward (world_of g end event at a) (λ next. Ok next)) is)
then_one g event u e stamp end is (x ∷ xs) w at h =
    then_at g w end (world_after g end event u e stamp) x event xs at (world_answer g w x) (λ next n. then_one g event u e stamp end is xs next (at + 1) n) h

pub steps_are_replayed : StepsAreReplayed
steps_are_replayed g w event u e stamp replayed is = then_one g event u e stamp w is w.run (new_world g) 0 replayed

-- ---- a whole schedule

replayed_at : (g : Setting) (w end : World) (x : Event) (xs : List Event) (at : ℕ) (a : WorldAnswer) → IsReplayed g w → world_answer g w x ≡ a
    → ((next : World) → IsReplayed g next → played g next (at + 1) xs ≡ Ok end → IsReplayed g end)
    → onward (world_of g w x at a) (λ next. played g next (at + 1) xs) ≡ Ok end → IsReplayed g end
replayed_at g w end x xs at (Does u e stamp) was is go h = go (world_after g w x u e stamp) (steps_are_replayed g w x u e stamp was is) h
replayed_at g w end x xs at Nothing was is go h = go w was h
replayed_at g w end x xs at (Stops fault) was is go h = absurd cc

replayed : (g : Setting) (events : List Event) (w end : World) (at : ℕ) → IsReplayed g w → played g w at events ≡ Ok end → IsReplayed g end
replayed g [] w end at was h =
    let same : w ≡ end = cc in
    subst (IsReplayed g) same was
replayed g (x ∷ xs) w end at was h =
    replayed_at g w end x xs at (world_answer g w x) was refl (λ next n k. replayed g xs next end (at + 1) n k) h

pub what_is_played_is_replayed : WhatIsPlayedIsReplayed
what_is_played_is_replayed g events w h = replayed g events (new_world g) w 0 refl h

-- ---- its promises

module _ (answers_are_steps : AnswersAreSteps) (peers : LinkedRoutersArePeers) (in_order : UpdatesPassInOrder) (nothing_after : NothingIsActedOnAfterTheClose) (loses : CloseLosesTheRecording) (hold : SnapshotsHoldInRuns) (pass : RunsPassThroughSnapshots) where
  pub worlds_keep_their_promises : PlayedWorldsKeepTheirPromises
  worlds_keep_their_promises g set events w h =
      let run = what_is_played_is_a_run answers_are_steps g set events w h in
      record {
        run = run;
        in_order = λ u v e link. in_order_of run u v e link;
        octets = λ order state r agrees u v e link. (in_order g set order state r u v e link).0;
        after_close = λ order state r agrees d old new at. nothing_after g set at.before at.later d old new state at.reached at.step at.goes_on;
        closes = λ order state r agrees d old new at. loses g set at.before at.later d old new state at.reached at.step at.goes_on;
        snapshots = λ order state r agrees. hold g set order state r;
        through = λ order state r agrees. pass g set order state r;
      }
    where
      in_order_of : (run : IsRunOfWorld g w) (u v e : ℕ) → linked g.net u v ≡ true → IsPrefix (((w.routers v).router.sides u).acted e) (((w.routers u).router.sides v).sent e)
      in_order_of run u v e link =
          let are = peers g.net set.network u v link in
          let p = (in_order g set run.order run.state run.run u v e link).1 in
          subst (λ (x : Router). IsPrefix (((w.routers v).router.sides u).acted e) ((x.sides v).sent e)) (sym (run.agrees.routers u are.one))
          (subst (λ (y : Router). IsPrefix ((y.sides u).acted e) (((run.state.routers u).router.sides v).sent e)) (sym (run.agrees.routers v are.other)) p)
