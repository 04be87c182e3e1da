use Rattle.router_side.proofs.FrontLemmas.{fault_sayable}
use Rattle.router_side.proofs.reading.decode_frame.Goals as goal

pub returns-in-Err-Fault-clause-told : goal.returns-in-Err-Fault-clause-told
returns-in-Err-Fault-clause-told c =
    let fault = rw c.in-Err-Fault.field-0-is at c.in-Err-Fault.ensures.refused in
    fault_sayable c.written_has_a_header.ensures c.args.rule.now.width c.in-Err-Fault.fault (c.fault_fits_a_message.ensures c.args.rule.now c.args.frame.now c.in-Err-Fault.fault c.requires fault)
