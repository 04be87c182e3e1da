-- Settled snapshots of a prefix without a dispute wheel, and all its stable assignments.
-- g is a setting, q a prefix, u a router's number, s a snapshot's.
use Rattle.std.specs.Prelude.{ℕ, ◌≡◌, true, List, length}
use Rattle.std.specs.List.{All}
use Rattle.prefix_lanes.specs.Bits.{PrefixView}
use Rattle.ranked_policy.specs.Plans.{IsRouter}
use Rattle.stable_paths.specs.Stable.{Problem, IsInstance, IsStable}
use Rattle.dispute_wheels.specs.Promises.{IsSafe}
use Rattle.stable_search.specs.declared.every.Every.{Every}
use Rattle.stable_search.specs.Every.{choices_of, IsEveryStable}
use Rattle.run_model.specs.Offers.{Settled}
use Rattle.snap_marker.specs.Recordings.{RouterPart}
use Rattle.router_model.specs.Settings.{Setting, IsSetting, names}
use Rattle.router_runs.specs.Runs.{RunOrder, RunState, IsRunTo}
use Rattle.router_runs.specs.Snapshots.{HaveMade, ComesOut, AsOriginated}
use Rattle.wheel_runs.specs.Changes.{problem_of}

-- a prefix without a dispute wheel has one stable assignment: of all stable assignments each part has one choice
abbrev pub SafeHaveOneChoice : Type 0
SafeHaveOneChoice =
    (p : Problem) → IsInstance p → IsSafe p → (every : Every) → IsEveryStable p every
    → All (λ part. length (choices_of part) ≡ 1) every.parts

-- of a prefix without a dispute wheel, the paths of a settled snapshot are those of the one stable assignment, if the
-- origin's part originates the prefix
abbrev pub SettlesInOne : Setting → RunState → Type 0
SettlesInOne g state =
    (s : ℕ) → ComesOut g state s Settled → (parts : ℕ → RouterPart) → HaveMade g state s parts
    → (q : PrefixView) → names g.net.origins q ≡ true → IsSafe (problem_of g q) → AsOriginated g q parts true
    → (paths : ℕ → List ℕ) → IsStable (problem_of g q) paths
    → (u : ℕ) → IsRouter g.net.routers u → (parts u).kept q ≡ paths u

-- so in every run
abbrev pub RunsSettleInOne : Type 0
RunsSettleInOne = (g : Setting) → IsSetting g → (order : RunOrder) (state : RunState) → IsRunTo g order state → SettlesInOne g state
