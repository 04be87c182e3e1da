use Rattle.std.proofs.Common.{arith}
use Rattle.bgp_codec.proofs.UpdateLoops.{attrs_lengths, attrs_put, grown}
use Rattle.bgp_codec.proofs.attr_writing.put_attrs.Goals as goal

pub put_aggregator-requires-clause-room : goal.put_aggregator-requires-clause-room
put_aggregator-requires-clause-room c =
    let before = rw c.as_slice-raws.ensures at c.put_raws.ensures.items in
    omega (
      arith,
      attrs_lengths c.args.width c.args.attrs.now,
      grown c.put_raws.new.out.items c.args.out.now.items _ before,
      grown c.put_origin.new.out.items c.put_raws.new.out.items _ c.put_origin.ensures.items,
      grown c.put_path_attr.new.out.items c.put_origin.new.out.items _ c.put_path_attr.ensures.items,
      grown c.put_number.new.out.items c.put_path_attr.new.out.items _ c.put_number.ensures.items,
      grown c.put_number-2.new.out.items c.put_number.new.out.items _ c.put_number-2.ensures.items,
      grown c.put_number-3.new.out.items c.put_number-2.new.out.items _ c.put_number-3.ensures.items,
      grown c.put_atomic.new.out.items c.put_number-3.new.out.items _ c.put_atomic.ensures.items,
      c.put_raws.ensures.capacity,
      c.put_origin.ensures.capacity,
      c.put_path_attr.ensures.capacity,
      c.put_number.ensures.capacity,
      c.put_number-2.ensures.capacity,
      c.put_number-3.ensures.capacity,
      c.put_atomic.ensures.capacity,
      c.requires.room,
    )

pub put_raws-requires-2-clause-size : goal.put_raws-requires-2-clause-size
put_raws-requires-2-clause-size c = rw c.as_slice-raws.ensures (omega (arith, attrs_lengths c.args.width c.args.attrs.now, c.requires.size))

pub put_raws-requires-2-clause-room : goal.put_raws-requires-2-clause-room
put_raws-requires-2-clause-room c =
    let before = rw c.as_slice-raws.ensures at c.put_raws.ensures.items in
    rw c.as_slice-raws.ensures
    (omega (
      arith,
      attrs_lengths c.args.width c.args.attrs.now,
      grown c.put_raws.new.out.items c.args.out.now.items _ before,
      grown c.put_origin.new.out.items c.put_raws.new.out.items _ c.put_origin.ensures.items,
      grown c.put_path_attr.new.out.items c.put_origin.new.out.items _ c.put_path_attr.ensures.items,
      grown c.put_number.new.out.items c.put_path_attr.new.out.items _ c.put_number.ensures.items,
      grown c.put_number-2.new.out.items c.put_number.new.out.items _ c.put_number-2.ensures.items,
      grown c.put_number-3.new.out.items c.put_number-2.new.out.items _ c.put_number-3.ensures.items,
      grown c.put_atomic.new.out.items c.put_number-3.new.out.items _ c.put_atomic.ensures.items,
      grown c.put_aggregator.new.out.items c.put_atomic.new.out.items _ c.put_aggregator.ensures.items,
      c.put_raws.ensures.capacity,
      c.put_origin.ensures.capacity,
      c.put_path_attr.ensures.capacity,
      c.put_number.ensures.capacity,
      c.put_number-2.ensures.capacity,
      c.put_number-3.ensures.capacity,
      c.put_atomic.ensures.capacity,
      c.put_aggregator.ensures.capacity,
      c.requires.room,
    ))

pub returns-clause-items : goal.returns-clause-items
returns-clause-items c =
    let before = rw c.as_slice-raws.ensures at c.put_raws.ensures.items in
    let behind = rw c.as_slice-raws.ensures at c.put_raws-2.ensures.items in
    attrs_put c.args.width c.args.attrs.now c.args.out.now.items _ _ _ _ _ _ _ _ c.put_raws-2.new.out.items before c.put_origin.ensures.items c.put_path_attr.ensures.items c.put_number.ensures.items
    c.put_number-2.ensures.items c.put_number-3.ensures.items c.put_atomic.ensures.items c.put_aggregator.ensures.items behind
