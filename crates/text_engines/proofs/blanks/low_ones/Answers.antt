use Rattle.std.proofs.Common.{nat_le, w8, arith}
use Rattle.std.proofs.lemmas.Simd.{bitmask_splat}
use Rattle.text_engines.proofs.blanks.low_ones.Goals as goal

pub returns : goal.returns
returns c = bitmask_splat w8 (λ a b. nat_le a b) c.args.octets 64 32 c.fits-octets.0 (omega arith)
