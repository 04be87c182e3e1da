-- what was seen stands in front without its blanks, and the rest where it was
use Rattle.std.proofs.Common.{length, ◌-◌, ◌≤◌, not}
use Rattle.std.proofs.lemmas.List.Filters.{FiltersInPlace}
use Rattle.text_engines.specs.Decoding.{is_blank}
use Rattle.text_engines.proofs.blanks.pack.Given as goal

abbrev pub invariant-octets : goal.invariant-octets
invariant-octets l = FiltersInPlace (λ octet. not (is_blank octet)) l.fn.text l.text l.kept l.at × (l.end ≤ length l.text)

abbrev pub decreases-octets : goal.decreases-octets
decreases-octets l = l.end - l.at

abbrev pub invariant-blanks : goal.invariant-blanks
invariant-blanks l = FiltersInPlace (λ octet. not (is_blank octet)) l.fn.text l.text l.kept l.at × (l.initial.at ≤ l.at)

abbrev pub decreases-blanks : goal.decreases-blanks
decreases-blanks l = length l.initial.text - l.at

abbrev pub invariant-runs : goal.invariant-runs
invariant-runs l = FiltersInPlace (λ octet. not (is_blank octet)) l.fn.text l.text l.kept l.at

abbrev pub decreases-runs : goal.decreases-runs
decreases-runs l = length l.initial.text - l.at
