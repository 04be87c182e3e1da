use Rattle.std.proofs.Common.{arith}
use Rattle.bgp_codec.proofs.PathLemmas.{numbers_are}
use Rattle.bgp_codec.proofs.path.read_numbers.Goals as goal

pub returns-clause-whole : goal.returns-clause-whole
returns-clause-whole c = λ count len. numbers_are c.args.width count c.args.octets.now len (λ i. omega (arith, c.type_inv.octets i))

pub returns-in_err-reserve-clause-whole : goal.returns-in_err-reserve-clause-whole
returns-in_err-reserve-clause-whole c = λ count len. numbers_are c.args.width count c.args.octets.now len (λ i. omega (arith, c.type_inv.octets i))
