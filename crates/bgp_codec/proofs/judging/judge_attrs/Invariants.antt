-- some attributes are what was read so far, and they are remembered
use Rattle.std.proofs.Common.{◌≡◌, length}
use Rattle.bgp_codec.specs.declared.attributes.Attrs.{Attrs}
use Rattle.bgp_codec.specs.Judging.{Remembers}
use Rattle.bgp_codec.specs.UpdateReading.{attrs_reading, attrs_from}
use Rattle.bgp_codec.proofs.judging.judge_attrs.Given as goal

abbrev pub invariant-attrs : goal.invariant-attrs
invariant-attrs l = (a : Attrs) × (attrs_reading l.width l.octets ≡ attrs_from l.width a l.left) × Remembers l.width l.came a

abbrev pub decreases-attrs : goal.decreases-attrs
decreases-attrs l = length l.left
