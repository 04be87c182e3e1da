use Rattle.std.proofs.Common.{arith}
use Rattle.router_core.proofs.Beginnings.{open_sayable}
use Rattle.router_core.proofs.opening.open_message.Goals as goal

pub returns-clause-sayable : goal.returns-clause-sayable
returns-clause-sayable c = λ w.
    rw (c.asn_field.ensures, c.params.ensures)
    (open_sayable c.written_has_a_header.ensures w c.args.width c.args.number c.args.hold c.args.id (omega (arith, c.ranges.hold.fits)) c.requires.hold (omega (arith, c.ranges.id.fits)) c.requires.id)
