use Rattle.std.proofs.Common.{◌≤◌, length, arith}
use Rattle.router_side.proofs.FrontLemmas.{fault_sayable}
use Rattle.router_side.proofs.side.Side.front.Goals as goal

pub returns-in-Bad-clause-told : goal.returns-in-Bad-clause-told
returns-in-Bad-clause-told c =
    let short : length c.in-Bad.fault.extra ≤ 2 = c.header_fault_is_short.ensures c.args.self.now.framer.octets c.in-Bad.fault c.in-Bad.ensures.1 in
    fault_sayable c.written_has_a_header.ensures c.args.rule.now.width c.in-Bad.fault (omega (arith, short))
