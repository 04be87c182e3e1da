use Rattle.std.proofs.Common.{◌+◌, ◌≤◌, ◌<◌, length, sym, subst, arith}
use Rattle.std.proofs.lemmas.Simd.{length-chunk, get_or-chunk, Each1-from_get_or}
use Rattle.prefix_lanes.proofs.MaskedSoFar.{eight_more}
use lib.Lanes.{chunk}
use Rattle.prefix_lanes.proofs.mask.mask_all.Goals as goal

pub mask_lanes-cleared-requires : goal.mask_lanes-cleared-requires
mask_lanes-cleared-requires c =
    let lens = c.args.lens.now in
    let at = c.loop-at.at in
    let room : at + 8 ≤ length lens = omega arith in
    Each1-from_get_or (λ len. len ≤ 32) (chunk at 8 lens) 0 (λ i l.
    let below : i < 8 = omega (arith, l, length-chunk at 8 lens room) in
    subst (λ len. len ≤ 32) (sym (get_or-chunk at 8 lens i 0 below)) (c.requires.short (at + i) 0 (omega (arith, below, room))))

pub loop-at-preserved : goal.loop-at-preserved
loop-at-preserved c =
    (eight_more c.args.words.now c.loop-at.words c.args.lens.now c.mask_lanes-cleared.result c.loop-at.at (omega arith) (omega arith) c.mask_lanes-cleared.ensures c.loop-at.invariant.0, omega arith)
