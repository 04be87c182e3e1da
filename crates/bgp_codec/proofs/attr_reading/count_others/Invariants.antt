-- each attribute that was passed has an octet at least
use Rattle.std.proofs.Common.{◌+◌, ◌-◌, ◌≤◌, length}
use Rattle.bgp_codec.proofs.attr_reading.count_others.Given as goal

abbrev pub invariant-attrs : goal.invariant-attrs
invariant-attrs l = record { count : l.count ≤ l.at; inside : l.count ≤ length l.octets; near : l.at ≤ length l.octets + 65539 }

abbrev pub decreases-attrs : goal.decreases-attrs
decreases-attrs l = (length l.octets + 65539) - l.at
