-- Networks that are left alone, in every run.
-- g is a setting, q a prefix, u v routers' numbers; order leads to the state, and later from there to the last one.
use Rattle.std.specs.Prelude.{ℕ, ◌+◌, ◌*◌, ◌≡◌, ◌≤◌, true, List, [], ◌∷◌, length}
use Rattle.prefix_lanes.specs.Bits.{PrefixView}
use Rattle.ranked_policy.specs.Plans.{Plan, IsNamed, numbers}
use Rattle.dispute_wheels.specs.Promises.{IsSafe}
use Rattle.run_model.specs.Network.{Run}
use Rattle.router_model.specs.Settings.{Setting, IsSetting, linked, prefixes}
use Rattle.router_runs.specs.Runs.{RunOrder, RunState, IsRunTo, logged_steps, side_of}
use Rattle.wheel_runs.specs.Changes.{states_of, changes_by}
use Rattle.rest_runs.specs.Calm.{AreCalm}

-- the sum of what a list's elements have
abbrev pub sum_of : {A : Type 0} → (A → ℕ) → List A → ℕ
sum_of f [] = 0
sum_of f (x ∷ xs) = f x + sum_of f xs

-- how often routers change what they keep in a run, all together
abbrev pub changes_in : (g : Setting) (order : RunOrder) (old last : RunState) → Run (logged_steps g) old order last → ℕ
changes_in g order old last run = sum_of (λ u. sum_of (λ q. changes_by q u old (states_of g order old last run)) (prefixes g)) (numbers g.net.routers)

-- no prefix of the network has a dispute wheel
abbrev pub AllAreSafe : Plan → Type 0
AllAreSafe net = (q : PrefixView) → IsNamed net.origins q → IsSafe (record { net = net; prefix = q; originated = true })

-- while no command is given and no second passes, no end dials above the greatest incarnation that some end was in,
-- with or without dispute wheels
abbrev pub CalmRunsDialNoHigher : Type 0
CalmRunsDialNoHigher =
    (g : Setting) → IsSetting g → (order later : RunOrder) (state last : RunState) → IsRunTo g order state
    → Run (logged_steps g) state later last → AreCalm later → (most : ℕ)
    → ((u v : ℕ) → linked g.net u v ≡ true → (side_of state u v).link.epoch ≤ most)
    → (u v : ℕ) → linked g.net u v ≡ true → (side_of last u v).link.epoch ≤ most

-- with or without dispute wheels: from each state of a run there are two numbers, so that no run goes on, without a
-- command or a second, for more events than the first, and the second for each change of a kept path: a network that is
-- left alone and never rests changes its paths for ever
abbrev pub CalmRunsChangeOrEnd : Type 0
CalmRunsChangeOrEnd =
    (g : Setting) → IsSetting g → (order : RunOrder) (state : RunState) → IsRunTo g order state
    → (work : ℕ) × (cost : ℕ)
    × ((later : RunOrder) (last : RunState) (run : Run (logged_steps g) state later last) → AreCalm later
    → length later ≤ work + cost * changes_in g later state last run)

-- without dispute wheels: from each state of a run there is a number of events that no run goes on beyond, in any
-- order, as long as no command is given and no second passes
abbrev pub CalmRunsEnd : Type 0
CalmRunsEnd =
    (g : Setting) → IsSetting g → AllAreSafe g.net → (order : RunOrder) (state : RunState) → IsRunTo g order state
    → (most : ℕ) × ((later : RunOrder) (last : RunState) → Run (logged_steps g) state later last → AreCalm later → length later ≤ most)
