-- A world's tests say which events are inside.
use Rattle.std.proofs.Common.{◌≡◌, ℕ, true, [], ◌∷◌, ◌++◌, refl, sym, ◌∙◌, append_assoc}
use Rattle.run_model.specs.Network as runs
use Rattle.run_model.specs.Network.{NetworkEvent}
use Rattle.router_model.specs.Settings.{Setting, is_router}
use Rattle.router_model.specs.Laws.{AnswersAreSteps}
use Rattle.router_runs.specs.Runs.{RunOrder, RunState, IsRunTo, new_logged}
use Rattle.run_cuts.specs.ThroughSnapshot.{RecordsBy, InsideByNumber}
use Rattle.world_core.specs.World.{new_world, AgreesWith}
use Rattle.world_core.specs.Picking.{flags}
use Rattle.world_core.specs.Replays.{IsCalledRun}
use Rattle.world_core.specs.Tested.{TestsTellWhatIsInside}
use Rattle.world_core.proofs.Replaying.{known_router}
use Rattle.world_core.proofs.Calling.{tests, reached, run_of, run_more}

module _ (g : Setting) (s : ℕ) where
  -- along a run they are the flags of the cut
  module _ (by_number : InsideByNumber) (order : RunOrder) (last : RunState) (whole : IsRunTo g order last) (cut : ℕ → ℕ) (at : ℕ → RunState)
      (recorded : (u : ℕ) → is_router g u ≡ true → RecordsBy g order last u s (at u) (cut u)) where
    are_flags : (before ds : RunOrder) (old new : RunState) → order ≡ before ++ ds → IsRunTo g before old → (r : IsCalledRun g old ds new) → tests g s old ds new r ≡ flags cut before ds
    are_flags before [] old new is to r = refl
    are_flags before (d ∷ ds) old new is to r =
        let one = by_number g order last whole d.router s (at d.router) (cut d.router) (recorded d.router (known_router g d.router r.1.1.known)) before ds d.event old is to in
        let rest = are_flags (before ++ d ∷ []) ds r.0 new (is ∙ sym (append_assoc before (d ∷ []) ds)) (run_more g before d (runs.opening (λ u. new_logged g)) old r.0 to r.1) r.3 in
        λ i. one i ∷ rest i

pub tests_tell : AnswersAreSteps → InsideByNumber → TestsTellWhatIsInside
tests_tell answers by_number g net s events w h =
    let first : AgreesWith g (new_world g) (runs.opening (λ u. new_logged g)) = record { routers = λ u k. refl; pipes = λ a b. refl; offers_made = λ s. refl } in
    let start : RunState = runs.opening (λ u. new_logged g) in
    let r = reached g s answers net events (new_world g) w start 0 first h in
    record {
      run = record { order = r.order; state = r.last; run = r.run; events = sym r.did; agrees = r.agrees };
      inside = λ cut at recorded. r.tested_so ∙ are_flags g s by_number r.order r.last (run_of g r.order start r.last r.run) cut at recorded [] r.order start r.last refl refl r.run;
    }
