use Rattle.std.proofs.Common.{arith}
use Rattle.router_side.proofs.Spelt.{numbers_length, address_length, grown, announcement_put}
use Rattle.router_side.proofs.told_path.put_announcement.Goals as goal

pub put_numbers-requires-clause-room : goal.put_numbers-requires-clause-room
put_numbers-requires-clause-room c =
    let head = rw c.unwrap.ensures at c.extend_from_slice.ensures.len in
    omega (arith, numbers_length c.args.width c.args.path.now, head, c.requires.room, c.extend_from_slice.ensures.capacity)

pub unwrap-requires-2 : goal.unwrap-requires-2
unwrap-requires-2 c =
    let head = rw c.unwrap.ensures at c.extend_from_slice.ensures.len in
    let path = grown c.extend_from_slice.new.self.items c.put_numbers.new.out.items _ c.put_numbers.ensures.items in
    c.extend_from_slice-2.ensures.succeeds
    (omega (
      arith,
      numbers_length c.args.width c.args.path.now,
      head,
      path,
      c.requires.room,
      c.extend_from_slice.ensures.capacity,
      c.put_numbers.ensures.capacity,
      c.put_numbers.new.out.ok.0,
      c.extend_from_slice.new.self.ok.0,
    ))

pub unwrap-requires-3 : goal.unwrap-requires-3
unwrap-requires-3 c =
    let head = rw c.unwrap.ensures at c.extend_from_slice.ensures.len in
    let path = grown c.extend_from_slice.new.self.items c.put_numbers.new.out.items _ c.put_numbers.ensures.items in
    let hop = rw c.unwrap-2.ensures at c.extend_from_slice-2.ensures.len in
    let len = address_length c.args.prefix.now c.len-len.ensures.canonical in
    let body = rw (c.octet_count-count.ensures, c.len-len.ensures.value, c.to_be_bytes-address.ensures, c.addr.ensures.value) at c.extend_from_slice-3.ensures.succeeds in
    body
    (omega (
      arith,
      numbers_length c.args.width c.args.path.now,
      len,
      head,
      path,
      hop,
      c.requires.room,
      c.extend_from_slice.ensures.capacity,
      c.put_numbers.ensures.capacity,
      c.extend_from_slice-2.ensures.capacity,
      c.put_numbers.new.out.ok.0,
      c.extend_from_slice.new.self.ok.0,
    ))

pub returns : goal.returns
returns c =
    let w = c.args.width in
    let head = rw (c.unwrap.ensures, c.asn_size.ensures) at c.extend_from_slice.ensures.items in
    let hop = rw (c.unwrap-2.ensures, c.announcement_hop.ensures, c.len-len.ensures.value) at c.extend_from_slice-2.ensures.items in
    let body = rw (c.unwrap-3.ensures, c.octet_count-count.ensures, c.len-len.ensures.value, c.to_be_bytes-address.ensures, c.addr.ensures.value) at c.extend_from_slice-3.ensures.items in
    let front = rw (c.asn_size.ensures, c.octet_count-count.ensures, c.len-len.ensures.value) at c.announcement_start.ensures in
    announcement_put w c.args.id c.args.prefix.now c.args.path.now c.len-len.ensures.canonical c.requires.few c.announcement_start.result c.args.out.now.items c.extend_from_slice.new.self.items
    c.put_numbers.new.out.items c.extend_from_slice-2.new.self.items c.extend_from_slice-3.new.self.items head c.put_numbers.ensures.items hop body front
