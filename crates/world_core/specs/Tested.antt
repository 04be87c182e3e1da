-- Whether each event of a played schedule is inside. Its world tells: its router's last recorded number is below that
-- of the snapshot.
use Rattle.std.specs.Prelude.{ℕ, ◌≡◌, nat_lt, Bool, List, [], ◌∷◌, ◌++◌, Ok, true}
use Rattle.ranked_policy.specs.Plans.{IsNetwork}
use Rattle.router_model.specs.Settings.{Setting, is_router}
use Rattle.router_runs.specs.Runs.{RunState}
use Rattle.run_cuts.specs.ThroughSnapshot.{RecordsBy}
use Rattle.world_core.specs.declared.schedule.Event.{Event}
use Rattle.world_core.specs.World.{World, WorldAnswer, Does, Nothing, Stops, new_world, world_answer, world_after, played}
use Rattle.world_core.specs.Picking.{flags}
use Rattle.world_core.specs.Replays.{PlayedRun}

module _ (g : Setting) (s : ℕ) where
  abbrev pub test_of : World → WorldAnswer → List Bool
  test_of w (Does u e stamp) = nat_lt (w.routers u).router.snapshots.last s ∷ []
  test_of w Nothing = []
  test_of w (Stops fault) = []

  abbrev pub world_next : World → Event → WorldAnswer → World
  world_next w event (Does u e stamp) = world_after g w event u e stamp
  world_next w event Nothing = w
  world_next w event (Stops fault) = w

  -- the test of each event that was done
  abbrev pub tested : World → List Event → List Bool
  tested w [] = []
  tested w (event ∷ events) = test_of w (world_answer g w event) ++ tested (world_next w event (world_answer g w event)) events

-- a run that the events played; these tests say what is inside its cut of s
pub record TestedRun (g : Setting) (s : ℕ) (events : List Event) (w : World) : Type 0 where
  pub run : PlayedRun g w
  pub inside : (cut : ℕ → ℕ) (at : ℕ → RunState) → ((u : ℕ) → is_router g u ≡ true → RecordsBy g run.order run.state u s (at u) (cut u))
      → tested g s (new_world g) events ≡ flags cut [] run.order

abbrev pub TestsTellWhatIsInside : Type 0
TestsTellWhatIsInside =
    (g : Setting) → IsNetwork g.net → (s : ℕ) (events : List Event) (w : World) → played g (new_world g) 0 events ≡ Ok w → TestedRun g s events w
