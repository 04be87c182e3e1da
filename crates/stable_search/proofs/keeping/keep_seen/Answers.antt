use Rattle.std.proofs.Common.{◌∙◌, get_or, refl, arith}
use Rattle.stable_search.proofs.KeepLemmas.{kept_on}
use Rattle.stable_search.proofs.NarrowLemmas.{narrows_start}
use Rattle.stable_search.proofs.keeping.keep_seen.Goals as goal

pub loop-k-init : goal.loop-k-init
loop-k-init c = (refl, (λ ways covered. narrows_start ways c.args.sets.now), λ all. all)

pub keep_at-some-requires-clause-inside : goal.keep_at-some-requires-clause-inside
keep_at-some-requires-clause-inside c = let x = c.requires.inside c.loop-k.k 0 c.loop-k-test.true in omega (arith, x, c.loop-k.invariant.0)

pub keep_at-some-requires-clause-picks : goal.keep_at-some-requires-clause-picks
keep_at-some-requires-clause-picks c = λ j d lt.
    let x = c.requires.picks j d lt in
    (omega (arith, x.size, c.loop-k-test.true), x.low c.loop-k.k c.loop-k-test.true)

pub loop-k-preserved : goal.loop-k-preserved
loop-k-preserved c = (
  c.keep_at-some.auto.sets ∙ c.loop-k.invariant.0,
  (λ ways covered. kept_on ways c.args.places.now c.args.picks.now c.loop-k.k (get_or c.args.places.now c.loop-k.k 0) c.args.sets.now c.loop-k.sets c.keep_at-some.new.sets c.loop-k-test.true refl covered
      (c.loop-k.invariant.1 ways covered) (c.keep_at-some.ensures.narrows ways)),
  λ all. c.keep_at-some.ensures.some (c.loop-k.invariant.2 all),
)
