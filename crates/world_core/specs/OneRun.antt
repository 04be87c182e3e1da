-- A world played one run, and a snapshot has one cut in it.
use Rattle.std.specs.Prelude.{ℕ, ◌≡◌}
use Rattle.snap_marker.specs.Recordings.{RouterPart}
use Rattle.router_model.specs.Settings.{Setting}
use Rattle.run_cuts.specs.ThroughSnapshot.{ThroughItsCut}
use Rattle.world_core.specs.World.{World}
use Rattle.world_core.specs.Replays.{PlayedRun, through_cut_of}
use Rattle.world_core.specs.Through.{inside_part}

abbrev pub PlayedRunsAreOne : Type 0
PlayedRunsAreOne = (g : Setting) (w : World) (a b : PlayedRun g w) → (a.order ≡ b.order) × (a.state ≡ b.state)

-- the cut of a snapshot in a played run is one, whatever parts are spoken of
abbrev pub PlayedCutsAreOne : Type 0
PlayedCutsAreOne =
    (g : Setting) (w : World) (a b : PlayedRun g w) (s : ℕ) (parts others : ℕ → RouterPart) (t : ThroughItsCut g a.order a.state s parts)
    (o : ThroughItsCut g b.order b.state s others) → (through_cut_of t ≡ through_cut_of o) × (inside_part t.cut a.order ≡ inside_part o.cut b.order)
