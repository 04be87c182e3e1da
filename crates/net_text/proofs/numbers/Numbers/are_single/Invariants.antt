-- the answer is that of what is left
use Rattle.std.proofs.Common.{◌≡◌, length}
use Rattle.ranked_policy.specs.Tests.{is_simple}
use Rattle.net_text.specs.Taking.{numbers_left}
use Rattle.net_text.proofs.numbers.Numbers.are_single.Given as goal

abbrev pub invariant-numbers : goal.invariant-numbers
invariant-numbers l = is_simple (numbers_left l.self) ≡ is_simple (numbers_left l.left)

abbrev pub decreases-numbers : goal.decreases-numbers
decreases-numbers l = length (numbers_left l.left)
