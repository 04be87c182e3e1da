use Rattle.std.proofs.Common.{◌<◌, arith, rules}
use Rattle.std.specs.Prelude.{slice_index}
use Rattle.bgp_codec.specs.Gathering.{in_order}
use Rattle.bgp_codec.proofs.GatherLemmas.{more_marked}
use Rattle.bgp_codec.proofs.attr_reading.add_attr.Goals as goal

pub returns-then-not-is_known-clause-marks : goal.returns-then-not-is_known-clause-marks
returns-then-not-is_known-clause-marks c =
    let small : slice_index c.args.attr.now 1 < 256 = omega (arith, c.type_inv.attr 1) in
    rw c.octet_at-code.ensures (more_marked c.args.width c.args.came.now (in_order c.args.attrs.now) (in_order c.add_other.new.attrs) c.args.attr.now c.args.value.now c.add_other.result small c.requires (search rules))

pub returns-clause-marks : goal.returns-clause-marks
returns-clause-marks c =
    let small : slice_index c.args.attr.now 1 < 256 = omega (arith, c.type_inv.attr 1) in
    rw c.octet_at-code.ensures (more_marked c.args.width c.args.came.now (in_order c.args.attrs.now) (in_order c.add_value.new.attrs) c.args.attr.now c.args.value.now c.add_value.result small c.requires (search rules))
