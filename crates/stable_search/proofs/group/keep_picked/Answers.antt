use Rattle.std.proofs.Common.{◌<◌, ◌∙◌, ℕ, List, length, refl, sym, subst, arith}
use Rattle.std.specs.List.{All}
use Rattle.stable_search.specs.Groups.{IsLowPick, IsGroup, AreCovered}
use Rattle.stable_search.proofs.KeepLemmas.{picked_on}
use Rattle.stable_search.proofs.NarrowLemmas.{narrows_start}
use Rattle.stable_search.proofs.group.keep_picked.Goals as goal

pub loop-group-init : goal.loop-group-init
loop-group-init c = (refl, (λ ways are. narrows_start ways c.args.sets.now), λ all. all)

pub keep_seen-some-requires-clause-inside : goal.keep_seen-some-requires-clause-inside
keep_seen-some-requires-clause-inside c =
    let g : IsGroup c.args.sets.now c.group-item.result = subst (IsGroup c.args.sets.now) (sym c.group-item.is) (c.requires c.loop-group.group-index c.group-item.result c.loop-group-test.true) in
    subst (All (λ place. place < length c.loop-group.sets)) (sym c.as_slice.ensures) (λ k d lt. (let x = g.inside k d lt in omega (arith, x, c.loop-group.invariant.0)))

pub keep_seen-some-requires-clause-picks : goal.keep_seen-some-requires-clause-picks
keep_seen-some-requires-clause-picks c =
    let g : IsGroup c.args.sets.now c.group-item.result = subst (IsGroup c.args.sets.now) (sym c.group-item.is) (c.requires c.loop-group.group-index c.group-item.result c.loop-group-test.true) in
    subst (λ (ps : List ℕ). All (IsLowPick ps) c.as_slice-in-loop-group.result.now) (sym c.as_slice.ensures)
    (subst (All (IsLowPick c.group-item.result.places)) (sym c.as_slice-in-loop-group.ensures) (λ k d lt. (let x = g.picks k d lt in record { size = x.size; low = x.low })))

pub loop-group-preserved : goal.loop-group-preserved
loop-group-preserved c =
    let g = c.group-item.result in
    let now = c.loop-group.sets in (
      c.keep_seen-some.auto.sets ∙ c.loop-group.invariant.0,
      (λ ways are. picked_on ways c.args.groups.now c.loop-group.group-index g c.args.sets.now now c.keep_seen-some.new.sets c.loop-group-test.true c.group-item.is are (c.loop-group.invariant.1 ways are)
          (λ covered. c.keep_seen-some.ensures.narrows ways
          (subst (λ (ps : List ℕ). AreCovered ways now ps c.as_slice-in-loop-group.result.now) (sym c.as_slice.ensures) (subst (AreCovered ways now g.places) (sym c.as_slice-in-loop-group.ensures) covered)))),
      λ all. c.keep_seen-some.ensures.some (c.loop-group.invariant.2 all),
    )
