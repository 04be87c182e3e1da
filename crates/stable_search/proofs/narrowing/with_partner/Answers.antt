use Rattle.std.proofs.Common.{arith, subst, sym, w64, ◌<◌}
use Rattle.std.proofs.lemmas.Nat.Bits.{bit_at-trailing_zeros}
use lib.Count.{count_trailing_zeros}
use Rattle.stable_search.proofs.NarrowLemmas.{cleared, Kept}
use Rattle.stable_search.proofs.narrowing.with_partner.Goals as goal
use Rattle.stable_search.proofs.narrowing.with_partner.Goals.{then-is_alone, else-is_alone}

pub loop-value-preserved : goal.loop-value-preserved
loop-value-preserved c =
    let value = count_trailing_zeros 64 c.loop-value.left in
    let low : value < 64 = (bit_at-trailing_zeros w64 c.loop-value.left (omega (arith, c.if-left-eq0.false)) (omega (arith, c.loop-value.auto.left-fits))).0 in
    elim c.if-is_alone.branch [
      | then-is_alone w ↦ cleared c.args.fits.now c.args.mine c.args.theirs c.loop-value.kept value c.if-is_alone.kept low (c.is_alone.ensures w.if-is_alone.true) w.kept-is c.loop-value.invariant
      | else-is_alone w ↦ subst (Kept c.args.fits.now c.args.mine c.args.theirs) (sym w.kept-is) c.loop-value.invariant
    ]
