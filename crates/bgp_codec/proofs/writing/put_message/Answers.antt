use Rattle.std.proofs.Common.{arith, ◌≤◌, length}
use Rattle.bgp_codec.specs.Spelling.{written_body}
use Rattle.bgp_codec.proofs.WritingLemmas.{length-written, written_put}
use Rattle.bgp_codec.proofs.writing.put_message.Goals as goal

pub put_header-requires-clause-fits : goal.put_header-requires-clause-fits
put_header-requires-clause-fits c = omega (arith, length-written c.args.rule.now.width c.args.message.now, c.requires.fits, c.body_len-len.ensures)

pub put_header-requires-clause-room : goal.put_header-requires-clause-room
put_header-requires-clause-room c = omega (arith, length-written c.args.rule.now.width c.args.message.now, c.requires.room)

pub put_body-requires-clause-room : goal.put_body-requires-clause-room
put_body-requires-clause-room c = omega (arith, length-written c.args.rule.now.width c.args.message.now, c.requires.room, c.put_header.ensures.len, c.put_header.ensures.capacity)

pub returns-clause-items : goal.returns-clause-items
returns-clause-items c =
    let few : length (written_body c.args.rule.now.width c.args.message.now) ≤ 4077 = omega (arith, length-written c.args.rule.now.width c.args.message.now, c.requires.fits) in
    written_put c.args.rule.now.width c.args.message.now c.args.out.now.items c.put_header.new.out.items c.put_body.new.out.items c.body_len-len.result c.kind_of.result
    (omega (arith, c.body_len-len.ensures)) c.kind_of.ensures c.put_header.ensures.items c.put_body.ensures.items
