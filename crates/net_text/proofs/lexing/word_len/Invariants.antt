-- none of those passed is a blank
use Rattle.std.proofs.Common.{◌≡◌, ℕ, ◌-◌, ◌<◌, ◌≤◌, length, get_or, false}
use Rattle.net_text.specs.Lexing.{is_blank}
use Rattle.net_text.proofs.lexing.word_len.Given as goal

abbrev pub invariant-loop-at : goal.invariant-loop-at
invariant-loop-at l = record { inside : l.at ≤ length l.line; clear : (k : ℕ) → k < l.at → is_blank (get_or l.line k 0) ≡ false }

abbrev pub decreases-loop-at : goal.decreases-loop-at
decreases-loop-at l = length l.line - l.at
