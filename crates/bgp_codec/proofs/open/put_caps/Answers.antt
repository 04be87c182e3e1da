use Rattle.std.proofs.Common.{subst, arith}
use Rattle.std.specs.List.{AllByRecursion}
use Rattle.bgp_codec.specs.Opens.{cap_octets, CapFits}
use Rattle.bgp_codec.proofs.OpenLoops.{drop_one, put_one, room_one, cap_put}
use Rattle.bgp_codec.proofs.open.put_caps.Goals as goal

pub loop-cap-preserved : goal.loop-cap-preserved
loop-cap-preserved c =
    let left = drop_one c.args.caps.now c.loop-cap.cap-index c.cap-item.result c.loop-cap-test.true c.cap-item.is in
    let size = room_one cap_octets _ _ c.cap-item.result left in
    let value = rw (c.unwrap.ensures, c.as_slice.ensures) at c.extend_from_slice.ensures.items in
    let len = rw (c.unwrap.ensures, c.as_slice.ensures) at c.extend_from_slice.ensures.len in
    let put = cap_put c.loop-cap.out.items _ _ _ _ c.cap-item.result.code c.len.result c.push_reserved.ensures.items c.push_reserved-in-loop-cap.ensures.items value c.len.ensures.len in
    record {
      items = put_one cap_octets _ _ _ _ _ c.cap-item.result left put c.loop-cap.invariant.items;
      room = omega (
        arith,
        size,
        len,
        c.loop-cap.invariant.room,
        c.push_reserved.ensures.len,
        c.push_reserved.ensures.capacity,
        c.push_reserved-in-loop-cap.ensures.len,
        c.push_reserved-in-loop-cap.ensures.capacity,
        c.extend_from_slice.ensures.capacity,
        c.len.ensures.len,
      );
      fit = (subst (AllByRecursion CapFits) left c.loop-cap.invariant.fit).1;
      capacity = omega (arith, c.loop-cap.invariant.capacity, c.push_reserved.ensures.capacity, c.push_reserved-in-loop-cap.ensures.capacity, c.extend_from_slice.ensures.capacity);
    }
