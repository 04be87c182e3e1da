-- the path comes to the origin if the rest at which the loop is does, in the steps that are left
use Rattle.std.proofs.Common.{◌≡◌, ◌↔◌, ◌+◌, ℕ}
use Rattle.ranked_policy.specs.declared.limits.TheConstants.{LONGEST_PATH}
use Rattle.wheel_search.specs.Waits.{ComesIn, Comes}
use Rattle.wheel_search.proofs.wait.comes.Given as goal

abbrev pub invariant-loop-router : goal.invariant-loop-router
invariant-loop-router l =
    (n : ℕ) → n + l._router ≡ LONGEST_PATH → (Comes l.waits l.row l.place ↔ ComesIn l.waits n l.on l.at)
