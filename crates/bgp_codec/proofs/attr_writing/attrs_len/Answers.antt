use Rattle.std.proofs.Common.{arith}
use Rattle.bgp_codec.proofs.UpdateLoops.{attrs_size}
use Rattle.bgp_codec.proofs.attr_writing.attrs_len.Goals as goal

pub returns : goal.returns
returns c =
    let before = rw c.as_slice-raws.ensures at c.raws_len.ensures in
    let behind = rw c.as_slice-raws.ensures at c.raws_len-2.ensures in
    let origin = rw c.is_some.ensures at c.given_len.ensures in
    let next_hop = rw c.is_some-2.ensures at c.given_len-2.ensures in
    let med = rw c.is_some-3.ensures at c.given_len-3.ensures in
    let local_pref = rw c.is_some-4.ensures at c.given_len-4.ensures in
    let aggregator = rw (c.is_some-5.ensures, c.asn_size.ensures) at c.given_len-6.ensures in
    omega (
      arith,
      attrs_size c.args.width c.args.attrs.now,
      before,
      origin,
      next_hop,
      med,
      local_pref,
      c.given_len-5.ensures,
      aggregator,
      c.path_attr_len.ensures,
      behind,
      c.saturating_add.ensures,
      c.saturating_add-2.ensures,
      c.saturating_add-3.ensures,
    )
