use Rattle.bgp_framing.proofs.FrontLemmas.{is_bad, is_partial, is_whole}
use Rattle.bgp_framing.proofs.framer.next_message.Goals as goal

pub returns-in-Err : goal.returns-in-Err
returns-in-Err c = is_bad c.header_is_its_front.ensures c.args.octets.now c.in-Some.first.now c.in-Err.fault c.in-Some.ensures.cases.enough c.in-Some.ensures.cases.same c.in-Err.ensures.fault

pub returns-then-octets-len : goal.returns-then-octets-len
returns-then-octets-len c =
    let good = c.in-Ok.ensures.good in
    is_partial c.header_is_its_front.ensures c.args.octets.now c.in-Some.first.now c.in-Ok.header.len c.in-Some.ensures.cases.enough c.in-Some.ensures.cases.same good.0 good.1 c.if-octets-len.true

pub returns-else-octets-len : goal.returns-else-octets-len
returns-else-octets-len c =
    let good = c.in-Ok.ensures.good in
    is_whole c.header_is_its_front.ensures c.args.octets.now c.in-Some.first.now c.in-Ok.header.len c.in-Some.ensures.cases.enough c.in-Some.ensures.cases.same good.0 good.1 c.if-octets-len.false
