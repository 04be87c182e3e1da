use Rattle.std.proofs.Common.{nat_le, w8, map, replicate, length, ap, ◌∙◌, ◌≤◌, ◌^◌, ◌%◌, arith}
use Rattle.std.proofs.lemmas.Simd.{tops_compared, zip2_splat_left, mask_l-mod}
use Rattle.std.proofs.lemmas.List.{length-map}
use lib.Lanes.{mask_l}
use Rattle.net_text.proofs.lexing.others.Goals as goal

pub returns : goal.returns
returns c =
    let octets = c.args.octets in
    let size : length (map (λ x. nat_le 128 x) octets) ≤ 64 = omega (arith, length-map octets (λ x. nat_le 128 x), c.fits-octets.0) in
    ap (λ bits. mask_l bits % 2 ^ 64) (tops_compared w8 nat_le (replicate 8 128) octets ∙ zip2_splat_left nat_le 128 8 octets c.fits-octets.0)
    ∙ mask_l-mod (map (λ x. nat_le 128 x) octets) 64 size
