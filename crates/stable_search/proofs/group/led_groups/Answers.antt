use Rattle.std.proofs.Common.{List, refl, subst}
use Rattle.std.specs.List.{Any}
use Rattle.stable_search.specs.declared.way.Way.{Way}
use Rattle.stable_search.specs.Groups.{AreGroups}
use Rattle.stable_search.specs.Led.{IsOpen}
use Rattle.stable_search.proofs.LedLemmas.{led_of}
use Rattle.stable_search.proofs.group.led_groups.Goals as goal

pub returns-then-has_open-clause-found : goal.returns-then-has_open-clause-found
returns-then-has_open-clause-found c = λ ends old wide before narrowed are.
    let groups = c.in-Ok.groups.items in
    let fall : AreGroups c.in_ok-core.core.items c.args.sets.now groups = subst (λ (ws : List Way). AreGroups ws c.args.sets.now groups) c.as_slice.ensures.value c.in-Ok.ensures.0 in
    let open_is : Any (IsOpen c.args.levels.now) groups = subst (Any (IsOpen c.args.levels.now)) c.as_slice-in-Ok.ensures.value (c.if-has_open.ensures refl) in (
      led_of c.args.ways.now ends old wide c.args.sets.now c.args.levels.now c.in_ok-core.core.items groups before narrowed are c.in_ok-core.ensures.part c.in_ok-core.ensures.copies c.in_ok-core.ensures.inside fall (λ any. open_is),
      c.in-Ok.ensures.1,
    )
