-- the marks of the values passed say along which the router permits the way on, and no other is set
use Rattle.std.proofs.Common.{◌≡◌, ◌<◌, ◌≤◌, ℕ, [], ◌∷◌, get_or}
use Rattle.std.specs.Prelude.{◌↔◌}
use Rattle.std.specs.Int.{bit_at}
use Rattle.ranked_policy.specs.Choosing.{chosen_permits}
use Rattle.stable_search.specs.Picks.{Has}
use Rattle.stable_search.proofs.relating.permitted.Given as goal

abbrev pub invariant-loop-value : goal.invariant-loop-value
invariant-loop-value l =
    ((b : ℕ) → b < l.value → (Has l.marks b ↔ chosen_permits l.one.policy (l.one.router ∷ get_or l.other.values.items b [])))
    × ((b : ℕ) → l.value ≤ b → bit_at l.marks b ≡ 0)
