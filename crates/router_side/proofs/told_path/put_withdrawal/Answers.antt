use Rattle.router_side.proofs.Spelt.{withdrawal_put}
use Rattle.router_side.proofs.told_path.put_withdrawal.Goals as goal

pub returns : goal.returns
returns c = λ w.
    let head = rw (c.unwrap.ensures, c.withdrawal_front.ensures, c.octet_count-count.ensures, c.len-len.ensures.value) at c.extend_from_slice.ensures.items in
    let body = rw (c.unwrap-2.ensures, c.octet_count-count.ensures, c.len-len.ensures.value, c.to_be_bytes-address.ensures, c.addr.ensures.value) at c.extend_from_slice-2.ensures.items in
    let tail = rw c.unwrap-3.ensures at c.extend_from_slice-3.ensures.items in
    withdrawal_put w c.args.prefix.now c.len-len.ensures.canonical c.args.out.now.items c.extend_from_slice.new.self.items c.extend_from_slice-2.new.self.items
    c.extend_from_slice-3.new.self.items head body tail
