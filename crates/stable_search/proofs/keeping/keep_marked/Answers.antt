use Rattle.std.proofs.Common.{◌∙◌, get_or}
use Rattle.std.proofs.lemmas.List.Elements.{Contains-get_or}
use Rattle.stable_search.proofs.NarrowLemmas.{narrows_then}
use Rattle.stable_search.proofs.SampleLemmas.{sees_before}
use Rattle.stable_search.proofs.keeping.keep_marked.Goals as goal

pub loop-place-preserved : goal.loop-place-preserved
loop-place-preserved c = (
  c.keep_only.auto.sets ∙ c.loop-place.invariant.0,
  (λ ways sees.
      (let first = c.loop-place.invariant.1 ways sees in
      let place = get_or c.args.places.now c.loop-place.place-index 0 in
      let here = sees place (Contains-get_or c.args.places.now c.loop-place.place-index 0 c.loop-place-test.true) in
      narrows_then ways c.args.sets.now c.loop-place.sets c.keep_only.new.sets first
      (c.keep_only.ensures.narrows ways (sees_before ways c.args.sets.now c.loop-place.sets c.args.seen.now place first here)))),
  λ all. c.keep_only.ensures.some (c.loop-place.invariant.2 all),
)
