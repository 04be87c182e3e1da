use Rattle.std.proofs.Common.{◌<◌, ◌∙◌, ℕ, List, [], get_or, subst, sym, arith}
use Rattle.std.proofs.lemmas.List.{get_or_default}
use Rattle.stable_search.specs.Picks.{Has}
use Rattle.stable_search.proofs.KeepLemmas.{seen_on}
use Rattle.stable_search.proofs.keeping.seen_at.Goals as goal

pub overflow_shl-seen : goal.overflow_shl-seen
overflow_shl-seen c =
    let x = c.requires c.loop-pick.pick-index c.pick-item.result c.loop-pick-test.true in
    let here : get_or c.as_slice.result.now c.args.k 0 < 64 = subst (λ (xs : List ℕ). get_or xs c.args.k 0 < 64) (sym c.pick-item.is ∙ sym c.as_slice.ensures) x.1 in
    omega (arith, here)

pub loop-pick-preserved : goal.loop-pick-preserved
loop-pick-preserved c =
    let x = c.requires c.loop-pick.pick-index c.pick-item.result c.loop-pick-test.true in
    let here : get_or c.as_slice.result.now c.args.k 0 < 64 = subst (λ (xs : List ℕ). get_or xs c.args.k 0 < 64) (sym c.pick-item.is ∙ sym c.as_slice.ensures) x.1 in
    seen_on c.args.picks.now c.loop-pick.pick-index c.args.k c.pick-item.result c.as_slice.result.now c.loop-pick.seen c.loop-pick-test.true c.pick-item.is c.as_slice.ensures here c.loop-pick.invariant

pub returns : goal.returns
returns c = λ j d lt.
    subst (λ (xs : List ℕ). Has c.loop-pick.seen (get_or xs c.args.k 0)) (get_or_default c.args.picks.now j [] d lt) (c.loop-pick.invariant j (omega (arith, lt, c.loop-pick-test.false)))
