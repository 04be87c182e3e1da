use Rattle.std.proofs.Common.{◌≡◌, ◌∙◌, ℕ, List, length, sym, subst}
use Rattle.std.proofs.lemmas.Result.{err_from_is_err_and}
use Rattle.stable_search.specs.Following.{AreLevels}
use Rattle.stable_search.specs.Groups.{HaveGroups}
use Rattle.stable_search.specs.Led.{HaveLed}
use Rattle.stable_search.proofs.LedLemmas.{led_by_none}
use Rattle.stable_search.proofs.NarrowLemmas.{narrows_then}
use Rattle.stable_search.proofs.PartLemmas.{refused_before}
use Rattle.stable_search.proofs.group.groups.Goals as goal

pub returns-in_err-first : goal.returns-in_err-first
returns-in_err-first c =
    let p = err_from_is_err_and c.from_residual-in_err-first.result c.from_residual-in_err-first.ensures.1 in
    rw (p.1, p.2)
    (refused_before c.args.seats.now c.args.ways.now c.args.sets.now c.narrow_some.new.sets c.args.limits.now.most c.in_err-first.field-0.0 c.in_ok-narrow_some.ensures.narrows c.in_err-first.ensures.refused)

pub returns-in_err-groups : goal.returns-in_err-groups
returns-in_err-groups c =
    let p = err_from_is_err_and c.from_residual-in_err-groups.result c.from_residual-in_err-groups.ensures.1 in
    let narrows = narrows_then c.args.ways.now c.args.sets.now c.narrow_some.new.sets c.first_groups.new.sets c.in_ok-narrow_some.ensures.narrows c.in_ok-first.ensures.narrows in
    rw (p.1, p.2)
    (refused_before c.args.seats.now c.args.ways.now c.args.sets.now c.first_groups.new.sets c.args.limits.now.most c.in_err-groups.field-0.0 narrows c.in_err-groups.ensures.refused)

pub returns-in_err-groups-in-None : goal.returns-in_err-groups-in-None
returns-in_err-groups-in-None c =
    let p = err_from_is_err_and c.from_residual-in_err-groups-in-None.result c.from_residual-in_err-groups-in-None.ensures.1 in
    let narrows = narrows_then c.args.ways.now c.args.sets.now c.narrow_some.new.sets c.first_groups.new.sets c.in_ok-narrow_some.ensures.narrows c.in_ok-first.ensures.narrows in
    rw (p.1, p.2)
    (refused_before c.args.seats.now c.args.ways.now c.args.sets.now c.first_groups.new.sets c.args.limits.now.most c.in_err-groups-in-None.field-0.0 narrows c.in_err-groups-in-None.ensures)

pub returns-in-Some : goal.returns-in-Some
returns-in-Some c =
    let ways = c.args.ways.now in
    let levels = c.in_ok-levels.levels.items in
    let groups = c.in-Some.groups.items in
    let found = rw c.in-Some.is at c.in_ok-groups.ensures.found in
    let ends = c.args.ends.now in
    let have : HaveLed ways ends c.args.sets.now c.first_groups.new.sets levels c.args.limits.now.most groups =
    subst (λ (ls : List ℕ). HaveLed ways ends c.args.sets.now c.first_groups.new.sets ls c.args.limits.now.most groups) c.as_slice.ensures.value
    (found ends c.args.sets.now c.narrow_some.new.sets c.in_ok-narrow_some.ensures.narrows c.in_ok-first.ensures.narrows (subst (AreLevels ends c.narrow_some.new.sets) (sym c.as_slice.ensures.value) c.in_ok-levels.ensures)) in
    (c.first_groups.new.sets, (λ all. c.in_ok-first.ensures.some (c.in_ok-narrow_some.ensures.some all)), have)

pub returns-in-Some-first : goal.returns-in-Some-first
returns-in-Some-first c =
    let ways = c.args.ways.now in
    let sets = c.narrow_some.new.sets in
    let groups = c.in-Some-first.groups.items in
    let found : HaveGroups ways sets c.args.limits.now.most groups = rw c.in-Some-first.is at c.in_ok-first.ensures.found in
    let size : length c.in_ok-levels-2.levels.items ≡ length sets = c.in_ok-levels-2.ensures.0 ∙ c.in_ok-first.ensures.narrows.size in
    (sets, c.in_ok-narrow_some.ensures.some, (led_by_none ways c.args.ends.now c.args.sets.now sets c.in_ok-levels-2.levels.items groups c.in_ok-narrow_some.ensures.narrows size c.in_ok-levels-2.ensures.1 found.0, found.1))

pub returns : goal.returns
returns c =
    let ways = c.args.ways.now in
    let groups = c.in_ok-groups-in-None.groups.items in
    let have = c.in_ok-groups-in-None.ensures in
    let before = narrows_then ways c.args.sets.now c.narrow_some.new.sets c.first_groups.new.sets c.in_ok-narrow_some.ensures.narrows c.in_ok-first.ensures.narrows in (
      c.first_groups.new.sets,
      (λ all. c.in_ok-first.ensures.some (c.in_ok-narrow_some.ensures.some all)),
      (led_by_none ways c.args.ends.now c.args.sets.now c.first_groups.new.sets c.in_ok-levels-2.levels.items groups before c.in_ok-levels-2.ensures.0 c.in_ok-levels-2.ensures.1 have.0, have.1),
    )
