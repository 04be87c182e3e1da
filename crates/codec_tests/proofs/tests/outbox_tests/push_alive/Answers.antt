use Rattle.std.proofs.Common.{arith}
use Rattle.bgp_codec.specs.declared.message.Message.TheVariants.{AliveMsg}
use Rattle.bgp_values.specs.declared.width.Width.TheVariants.{Two}
use Rattle.codec_tests.proofs.tests.outbox_tests.push_alive.Goals as goal

pub push_message-requires-clause-fits : goal.push_message-requires-clause-fits
push_message-requires-clause-fits c = omega (arith, c.written_has_a_header.ensures Two AliveMsg)

pub push_message-requires-clause-room : goal.push_message-requires-clause-room
push_message-requires-clause-room c = omega (arith, c.written_has_a_header.ensures Two AliveMsg, c.in_ok-reserve.ensures.room)
