use Rattle.std.proofs.Common.{◌<◌, length, refl, subst, arith}
use Rattle.std.proofs.lemmas.Bool.Decides.{nat_tests}
use Rattle.std.proofs.lemmas.List.{take_all}
use Rattle.std.proofs.lemmas.List.Elements.{All-more}
use Rattle.std.specs.List.{All}
use Rattle.stable_search.specs.declared.group.Group.{Group}
use Rattle.stable_search.proofs.group.have_picks.Goals as goal

pub loop-group-preserved : goal.loop-group-preserved
loop-group-preserved c =
    All-more (λ (group : Group). 0 < length group.picks) c.args.groups.now c.loop-group.group-index c.group-item.result c.loop-group-test.true c.loop-group.invariant
    (let some : 0 < length c.group-item.result.picks = grind (arith, nat_tests) in subst (λ (group : Group). 0 < length group.picks) c.group-item.is some)

pub returns : goal.returns
returns c = (
  λ t. subst (All (λ (group : Group). 0 < length group.picks)) (take_all c.loop-group.group-index c.args.groups.now c.loop-group-test.false) c.loop-group.invariant,
  λ all. refl,
)
