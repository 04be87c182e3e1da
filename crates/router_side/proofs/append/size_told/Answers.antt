use Rattle.std.proofs.Common.{ap, arith}
use Rattle.router_side.specs.Sayings.{told_of, size_where}
use Rattle.router_side.specs.Drafts.{hand}
use Rattle.router_side.proofs.Sizes.{told_len}
use Rattle.router_side.proofs.append.size_told.Goals as goal

pub returns-in-Fault : goal.returns-in-Fault
returns-in-Fault c =
    omega (arith, told_len c.written_has_a_header.ensures c.args.width c.in-Fault.notice, c.len.ensures.len, ap (λ g. size_where c.args.width (told_of (hand g))) c.in-Fault.is)
