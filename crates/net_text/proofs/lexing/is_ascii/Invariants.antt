-- all of those passed are ASCII
use Rattle.std.proofs.Common.{◌≡◌, ℕ, ◌-◌, ◌<◌, ◌≤◌, length, get_or, nat_le, false}
use Rattle.net_text.proofs.lexing.is_ascii.Given as goal

abbrev pub invariant-loop-at : goal.invariant-loop-at
invariant-loop-at l = record { inside : l.at ≤ length l.line; clear : (k : ℕ) → k < l.at → nat_le 128 (get_or l.line k 0) ≡ false }

abbrev pub decreases-loop-at : goal.decreases-loop-at
decreases-loop-at l = length l.line - l.at
