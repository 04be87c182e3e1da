-- What `through_cut` has to answer: the events of the run through the cut of a snapshot, as a schedule names them.
use Rattle.std.specs.Prelude.{ℕ, ◌+◌, ◌≡◌, ◌≤◌, ltb, Bool, cond, List, [], ◌∷◌, ◌++◌, length, Ok}
use mathlib.Core.Logic.{◌⊎◌}
use Rattle.run_model.specs.Network as runs
use Rattle.run_model.specs.Offers.{Settled, Moving, Why}
use Rattle.run_model.specs.ThroughCut.{selected, first_part, with_offers}
use Rattle.run_model.specs.declared.stamps.TheConstants.{GREATEST_STAMP}
use Rattle.snap_marker.specs.Recordings.{RouterPart}
use Rattle.router_model.specs.Settings.{Setting, IsSetting}
use Rattle.router_runs.specs.Runs.{RunOrder}
use Rattle.router_runs.specs.Snapshots.{HaveMade, ComesOut}
use Rattle.run_cuts.specs.ThroughSnapshot.{ThroughItsCut}
use Rattle.world_core.specs.declared.schedule.Event.{Event}
use Rattle.world_core.specs.World.{World, new_world, played, named}
use Rattle.world_core.specs.Picking.{taken_inside, firsts, laters}
use Rattle.world_core.specs.Replays.{PlayedRun, PlaysTo, NoneIsFull, through_cut_of}
use Rattle.world_core.specs.Tested.{tested}

-- the events, how many of them were done up to each router's recording, and how many of the first lead to the cut
pub record ThroughView : Type 0 where
  pub events : List Event
  pub recorded : ℕ
  pub place : ℕ

-- the events up to each router's recording
abbrev pub inside_part : (ℕ → ℕ) → RunOrder → RunOrder
inside_part cut order = selected (λ u before e. ltb (length before) (cut u)) [] order

-- the events are the run of the world through the cut of s; if no outbox ever reached the limit, they are played to its
-- end
pub record IsThrough (g : Setting) (w : World) (run : PlayedRun g w) (s : ℕ) (t : ThroughView) : Type 0 where
  pub parts : ℕ → RouterPart
  pub made : HaveMade g run.state s parts
  pub through : ThroughItsCut g run.order run.state s parts
  pub events : t.events ≡ named (through_cut_of through)
  pub recorded : t.recorded ≡ length (inside_part through.cut run.order)
  pub place : t.place ≡ length (first_part through.cut run.order)
  pub plays : NoneIsFull g run.order → length run.order ≤ GREATEST_STAMP
      → PlaysTo g (through_cut_of through) (with_offers run.state (runs.offers_in (through_cut_of through)))

abbrev pub count_true : List Bool → ℕ
count_true [] = 0
count_true (b ∷ bs) = cond b 1 0 + count_true bs

-- the events that are picked by names and tests
abbrev pub picked_by : List Bool → List Event → ThroughView
picked_by tests events = record {
  events = firsts (λ u v. taken_inside u v tests events) [] tests events ++ laters (λ u v. taken_inside u v tests events) [] tests events;
  recorded = count_true tests;
  place = length (firsts (λ u v. taken_inside u v tests events) [] tests events);
}

abbrev pub IsDecided : (g : Setting) (w : World) → PlayedRun g w → ℕ → Type 0
IsDecided g w run s = ComesOut g run.state s Settled ⊎ ((v : ℕ) × (why : Why) × ComesOut g run.state s (Moving v why))

-- the events picked are the answer, if s is settled or moving
abbrev pub PickedIsThrough : Type 0
PickedIsThrough =
    (g : Setting) → IsSetting g → (s : ℕ) (events : List Event) (w : World) → played g (new_world g) 0 events ≡ Ok w
    → (run : PlayedRun g w) × (IsDecided g w run s → IsThrough g w run s (picked_by (tested g s (new_world g) events) w.run))
