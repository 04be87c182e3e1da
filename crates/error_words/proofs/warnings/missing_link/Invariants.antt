-- what is found so far, and what is left of the path, decide
use Rattle.std.proofs.Common.{◌≡◌, drop}
use Rattle.error_words.specs.Warnings.{missing_behind, missing_link}
use Rattle.error_words.proofs.warnings.missing_link.Given as goal

abbrev pub invariant-loop-next : goal.invariant-loop-next
invariant-loop-next l = missing_behind l.network.links l.missing l.one (drop l.next-index l.rest) ≡ missing_link l.network.links l.path
