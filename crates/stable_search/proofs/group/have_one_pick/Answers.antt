use Rattle.std.proofs.Common.{◌≡◌, length, refl, sym, subst, ◌∙◌}
use Rattle.std.proofs.lemmas.List.{take_all}
use Rattle.std.proofs.lemmas.List.Elements.{All-more}
use Rattle.std.specs.List.{All}
use Rattle.stable_search.specs.declared.group.Group.{Group}
use Rattle.stable_search.proofs.group.have_one_pick.Goals as goal

pub loop-group-preserved : goal.loop-group-preserved
loop-group-preserved c =
    All-more (λ (group : Group). length group.picks ≡ 1) c.args.groups.now c.loop-group.group-index c.group-item.result c.loop-group-test.true c.loop-group.invariant
    (subst (λ (group : Group). length group.picks ≡ 1) c.group-item.is (sym c.len.ensures ∙ c.if-len-ne1.false))

pub returns : goal.returns
returns c = (
  λ t. subst (All (λ (group : Group). length group.picks ≡ 1)) (take_all c.loop-group.group-index c.args.groups.now c.loop-group-test.false) c.loop-group.invariant,
  λ all. refl,
)
