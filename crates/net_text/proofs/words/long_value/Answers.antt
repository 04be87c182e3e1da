use Rattle.std.proofs.Common.{refl, sym, ◌∙◌, arith}
use Rattle.net_text.proofs.WordLemmas.{value_on, value_end}
use Rattle.net_text.proofs.words.long_value.Goals as goal

pub loop-x-preserved : goal.loop-x-preserved
loop-x-preserved c = record {
  whole = c.loop-x.invariant.whole
      ∙ value_on c.args.word.now c.loop-x.x-index _ c.loop-x.value c.saturating_add-value.result c.loop-x-test.true refl
      (omega (arith, c.saturating_mul.ensures, c.saturating_sub.ensures, c.from.ensures, c.saturating_add-value.ensures));
  fits = omega (arith, c.saturating_add-value.ensures);
}

pub returns : goal.returns
returns c = sym (c.loop-x.invariant.whole ∙ value_end c.args.word.now c.loop-x.x-index c.loop-x.value c.loop-x-test.false c.loop-x.invariant.fits)
