-- the lines passed do not part the text
use Rattle.std.proofs.Common.{◌+◌, ◌≤◌, length}
use Rattle.net_text.proofs.SectionLemmas.{Passed}
use Rattle.net_text.proofs.sections.split_at_section.Given as goal

abbrev pub invariant-lines : goal.invariant-lines
invariant-lines l = record { passed : Passed l.name l.text l.left l.before; inside : l.before + length l.left ≤ length l.text }

abbrev pub decreases-lines : goal.decreases-lines
decreases-lines l = length l.left
