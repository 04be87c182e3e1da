use Rattle.std.proofs.Common.{arith}
use Rattle.bgp_codec.proofs.WritingLemmas.{length-written}
use Rattle.bgp_codec.proofs.writing.written_len.Goals as goal

pub returns : goal.returns
returns c = omega (arith, length-written c.args.width c.args.message.now, c.body_len.ensures, c.saturating_add.ensures)
