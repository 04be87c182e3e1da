use Rattle.bgp_codec.proofs.WritingLemmas.{header_put}
use Rattle.bgp_codec.proofs.writing.put_header.Goals as goal

pub returns-clause-items : goal.returns-clause-items
returns-clause-items c =
    header_put c.args.out.now.items c.extend_from_slice.new.self.items c.push_reserved.new.self.items c.push_reserved-2.new.self.items c.push_reserved-3.new.self.items
    c.to_be_bytes.result c.args.kind c.args.body_len (rw c.unwrap.ensures at c.extend_from_slice.ensures.items) c.push_reserved.ensures.items c.push_reserved-2.ensures.items c.push_reserved-3.ensures.items c.to_be_bytes.ensures
