use Rattle.std.proofs.Common.{get_or, sym, subst}
use Rattle.std.proofs.lemmas.List.Elements.{Contains-get_or}
use Rattle.wheel_search.specs.declared.row.Row.{Row}
use Rattle.wheel_search.specs.Rows.{IsRow, IsWhole, paths_of}
use Rattle.wheel_search.proofs.GraphLemmas.{rest_stands}
use Rattle.wheel_search.proofs.wait.all_waits.Goals as goal

pub waits_of-requires-clause-row : goal.waits_of-requires-clause-row
waits_of-requires-clause-row c =
    subst (λ (r : Row). IsRow c.args.instance.now r) (sym c.row-item.is) (c.requires.each c.loop-row.row-index c.row-item.result c.loop-row-test.true)

pub waits_of-requires-clause-stand : goal.waits_of-requires-clause-stand
waits_of-requires-clause-stand c =
    let p = c.args.instance.now in
    let i = c.loop-row.row-index in
    let row = c.row-item.result in
    λ k d l. rest_stands c.each_policy_is_an_order.ensures p c.network-network.ensures.problem.problem c.args.rows.now c.requires row (subst (IsWhole p c.requires.longest) (sym c.row-item.is) (c.requires.whole i row c.loop-row-test.true))
    (subst (IsRow p) (sym c.row-item.is) (c.requires.each i row c.loop-row-test.true)) (get_or (paths_of row) k d) (Contains-get_or (paths_of row) k d l)
