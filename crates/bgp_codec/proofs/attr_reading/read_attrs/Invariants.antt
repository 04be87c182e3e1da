-- what was read, each in its place, and what is left to read behind it, is what is read of all; each code that came has its mark
use Rattle.std.proofs.Common.{◌≡◌, length}
use Rattle.bgp_codec.specs.UpdateReading.{attrs_reading, attrs_from}
use Rattle.bgp_codec.specs.Gathering.{in_order, Marks}
use Rattle.bgp_codec.proofs.attr_reading.read_attrs.Given as goal

abbrev pub invariant-attrs : goal.invariant-attrs
invariant-attrs l = record { read : attrs_reading l.width l.octets ≡ attrs_from l.width (in_order l.attrs) l.left; marks : Marks l.came (in_order l.attrs) }

abbrev pub decreases-attrs : goal.decreases-attrs
decreases-attrs l = length l.left
