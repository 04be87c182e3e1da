-- none of those passed
use Rattle.std.proofs.Common.{◌≡◌, ℕ, ◌-◌, ◌<◌, ◌≤◌, length, get_or}
use Rattle.net_text.proofs.lexing.place_from.Given as goal

abbrev pub invariant-loop-at : goal.invariant-loop-at
invariant-loop-at l = record { inside : l.at ≤ length l.octets; clear : (k : ℕ) → l.from ≤ k → k < l.at → get_or l.octets k 0 ≡ l.wanted → ⊥ }

abbrev pub decreases-loop-at : goal.decreases-loop-at
decreases-loop-at l = length l.octets - l.at
