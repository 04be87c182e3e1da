-- How often the routers of a run change the path that they keep for a prefix.
-- g is a setting, q a prefix, u v routers' numbers, d an event with its router; old, next and last are states of a run;
-- B gives each path its number.
use Rattle.std.specs.Prelude.{ℕ, ◌+◌, ◌≡◌, ◌≤◌, Bool, true, cond, List, [], ◌∷◌}
use Rattle.prefix_lanes.specs.Bits.{PrefixView}
use Rattle.ranked_policy.specs.Plans.{IsRouter, IsNamed}
use Rattle.ranked_policy.specs.Tests.{same_path}
use Rattle.stable_paths.specs.Stable.{Problem}
use Rattle.dispute_wheels.specs.Counting.{changes, sum_over}
use Rattle.dispute_wheels.specs.Feasible.{IsFeasible}
use Rattle.dispute_wheels.specs.Promises.{IsSafe}
use Rattle.dispute_wheels.specs.RunChanges.{head_of}
use Rattle.dispute_wheels.specs.Tests.{paths_of}
use Rattle.run_model.specs.Network as runs
use Rattle.router_model.specs.Settings.{Setting, IsSetting, linked}
use Rattle.router_runs.specs.Runs.{RunOrder, RunState, IsRunTo, logged_steps, new_logged, side_of}
use Rattle.router_runs.specs.Mirrors.{table_commands_at}
use Rattle.wheel_runs.specs.Bounds.{IsBound}

-- the prefix of the network; whether its origin originates it makes no difference here
abbrev pub problem_of : Setting → PrefixView → Problem
problem_of g q = record { net = g.net; prefix = q; originated = true }

-- ---- along a run

-- the states of a run, each behind one of its events
abbrev pub states_of : (g : Setting) (order : RunOrder) (old last : RunState) → runs.Run (logged_steps g) old order last → List RunState
states_of g [] old last run = []
states_of g (d ∷ ds) old last run = run.0 ∷ states_of g ds run.0 last run.2

abbrev pub kept_by : PrefixView → ℕ → RunState → List ℕ
kept_by q u state = (state.routers u).router.kept q

-- how often router u changes what it keeps, from a state over these
abbrev pub changes_by : PrefixView → ℕ → RunState → List RunState → ℕ
changes_by q u old [] = 0
changes_by q u old (next ∷ states) = cond (same_path (kept_by q u old) (kept_by q u next)) 0 1 + changes_by q u next states

-- its router keeps the path
abbrev pub keeps : PrefixView → List ℕ → RunState → Bool
keeps q path state = same_path (kept_by q (head_of path) state) path

abbrev pub first_state : Setting → RunState
first_state g = runs.opening (λ u. new_logged g)

-- how often router u changes what it keeps in a run, and how often a path is taken up or given up by its router
abbrev pub run_changes : (g : Setting) (q : PrefixView) (order : RunOrder) (state : RunState) → IsRunTo g order state → ℕ → ℕ
run_changes g q order state run u = changes_by q u (first_state g) (states_of g order (first_state g) state run)

abbrev pub path_changes : (g : Setting) (q : PrefixView) (order : RunOrder) (state : RunState) → IsRunTo g order state → List ℕ → ℕ
path_changes g q order state run path = changes (keeps q path) (first_state g) (states_of g order (first_state g) state run)

-- ---- the bound

-- these numbers bound a run: what was commanded in it, and the last incarnation of each end in its last state, are no
-- more than what they are found from
pub record BoundsRun (g : Setting) (q : PrefixView) (order : RunOrder) (state : RunState) (B : List ℕ → ℕ) : Type 0 where
  pub commands : ℕ → ℕ
  pub dialled : ℕ → ℕ → ℕ
  pub few : (u : ℕ) → table_commands_at u order ≤ commands u
  pub low : (u v : ℕ) → linked g.net u v ≡ true → (side_of state u v).link.epoch ≤ dialled u v
  pub bound : IsBound commands dialled g.net q B

-- a feasible path is taken up and given up no more often than its number says, and a router changes what it keeps no more
-- often than the numbers of its feasible paths together
pub record ChangesSeldom (g : Setting) (q : PrefixView) (order : RunOrder) (state : RunState) : Type 0 where
  pub paths : (run : IsRunTo g order state) (B : List ℕ → ℕ) → BoundsRun g q order state B
      → (path : List ℕ) → IsFeasible g.net q path → path_changes g q order state run path ≤ B path
  pub routers : (run : IsRunTo g order state) (B : List ℕ → ℕ) → BoundsRun g q order state B
      → (u : ℕ) → IsRouter g.net.routers u → run_changes g q order state run u ≤ sum_over B (paths_of g.net q u)

-- in every run, whatever comes in which order
abbrev pub RunsChangeSeldom : Type 0
RunsChangeSeldom =
    (g : Setting) → IsSetting g → (q : PrefixView) → IsNamed g.net.origins q → (order : RunOrder) (state : RunState)
    → ChangesSeldom g q order state

-- of a prefix without a dispute wheel: if no router is commanded more often than so, and no end dials more incarnations
-- than so, a router changes what it keeps no more often than a number that does not depend on the run, however long that is
abbrev pub SafeRunsAreBounded : Type 0
SafeRunsAreBounded =
    (g : Setting) → IsSetting g → (q : PrefixView) → IsNamed g.net.origins q → IsSafe (problem_of g q)
    → (few most u : ℕ) → IsRouter g.net.routers u
    → (times : ℕ)
    × ((order : RunOrder) (state : RunState) (run : IsRunTo g order state) → ((v : ℕ) → table_commands_at v order ≤ few)
    → ((v w : ℕ) → linked g.net v w ≡ true → (side_of state v w).link.epoch ≤ most)
    → run_changes g q order state run u ≤ times)
