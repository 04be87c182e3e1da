-- each value that was passed has an octet at least
use Rattle.std.proofs.Common.{◌+◌, ◌-◌, ◌≤◌, length}
use Rattle.bgp_codec.proofs.numbers.count_values.Given as goal

abbrev pub invariant-values : goal.invariant-values
invariant-values l = record { count : l.count ≤ l.at; inside : l.count ≤ length l.octets; near : l.at ≤ length l.octets + 1024 }

abbrev pub decreases-values : goal.decreases-values
decreases-values l = (length l.octets + 1024) - l.at
