use Rattle.std.proofs.Common.{◌==◌, not, w8, arith}
use Rattle.std.proofs.lemmas.Simd.{bitmask_splat}
use Rattle.marker_lanes.proofs.others.Goals as goal

pub returns : goal.returns
returns c = bitmask_splat w8 (λ a b. not (a == b)) c.args.octets 16 255 c.fits-octets.0 (omega arith)
