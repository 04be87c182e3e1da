use Rattle.std.proofs.Common.{ap, length, arith}
use Rattle.bgp_codec.specs.Spelling.{written}
use Rattle.router_side.specs.Sayings.{size_of, size_where}
use Rattle.router_side.proofs.Sizes.{alive_len}
use Rattle.router_side.proofs.append.append.Goals as goal

pub push_message-requires-in-Alive-clause-room : goal.push_message-requires-in-Alive-clause-room
push_message-requires-in-Alive-clause-room c =
    let size = ap (size_of (length (written c.args.width c.args.own_open.now)) (size_where c.args.width c.args.told.now)) c.in-Alive.is in
    omega (arith, alive_len c.written_has_a_header.ensures c.nobody-in-Alive.result.width, c.requires.octets, size)

pub returns-in-Alive-clause-room : goal.returns-in-Alive-clause-room
returns-in-Alive-clause-room c =
    let size = ap (size_of (length (written c.args.width c.args.own_open.now)) (size_where c.args.width c.args.told.now)) c.in-Alive.is in
    omega (arith, alive_len c.written_has_a_header.ensures c.nobody-in-Alive.result.width, c.push_message-in-Alive.ensures.room, size)
