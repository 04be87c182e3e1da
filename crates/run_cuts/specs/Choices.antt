-- The choices of a router's calls where its steps leave one: a put takes as much as it may, and an UPDATE goes to the
-- least peer that waits. A run of these choices passes through a cut by these choices, as long as no outbox is full.
use Rattle.std.specs.Prelude.{ℕ, ◌≡◌, ◌<◌, [], ◌∷◌, ◌++◌, Some}
use Rattle.std.specs.List.{find}
use Rattle.outbox.specs.Items.{next_item, octets_waiting}
use Rattle.run_model.specs.Network as runs
use Rattle.run_model.specs.Network.{alone, puts}
use Rattle.run_model.specs.ThroughCut.{first_part, second_part, with_offers}
use Rattle.snap_marker.specs.Recordings.{RouterPart}
use Rattle.router_model.specs.declared.limits.TheConstants.{OUTBOX_LIMIT}
use Rattle.router_model.specs.Settings.{Setting, IsSetting, peers}
use Rattle.router_model.specs.State.{Router, is_waiting_peer}
use Rattle.router_model.specs.Step.{RouterEvent, Advertises}
use Rattle.router_runs.specs.Runs.{RunOrder, RunState, IsRunTo, new_logged, logged_steps}
use Rattle.router_runs.specs.Snapshots.{HaveMade}
use Rattle.run_cuts.specs.ThroughSnapshot.{ThroughItsCut}

module _ (g : Setting) (u : ℕ) (x : Router) where
  abbrev pub IsChosen : RouterEvent → Type 0
  IsChosen (puts v i) = next_item g.net.settings.cut (x.sides v).outbox ≡ Some i
  IsChosen (alone (Advertises v)) = find (is_waiting_peer g u x) (peers g.net u) ≡ Some v
  IsChosen _ = Unit {0}

  -- every outbox has room
  abbrev pub HasRoom : Type 0
  HasRoom = (v : ℕ) → octets_waiting (x.sides v).outbox < OUTBOX_LIMIT

-- a run in which each event is what its router's call chooses, and no outbox is full as it comes
abbrev pub IsChosenRun : Setting → RunState → RunOrder → RunState → Type 0
IsChosenRun g old [] new = old ≡ new
IsChosenRun g old (d ∷ ds) new =
    (next : RunState) × runs.NetworkStep (logged_steps g) old d next × IsChosen g d.router (old.routers d.router).router d.event
    × HasRoom g d.router (old.routers d.router).router × IsChosenRun g next ds new

abbrev pub ChosenRunsPassThrough : Type 0
ChosenRunsPassThrough =
    (g : Setting) → IsSetting g → (order : RunOrder) (last : RunState) → IsRunTo g order last → (s : ℕ) (parts : ℕ → RouterPart)
    → HaveMade g last s parts → (t : ThroughItsCut g order last s parts) → IsChosenRun g (runs.opening (λ u. new_logged g)) order last
    → IsChosenRun g (runs.opening (λ u. new_logged g)) (first_part t.cut order ++ second_part t.cut order)
    (with_offers last (runs.offers_in (first_part t.cut order ++ second_part t.cut order)))
