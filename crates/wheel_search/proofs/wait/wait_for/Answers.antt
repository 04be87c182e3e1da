use Rattle.std.proofs.Common.{inl, inr}
use Rattle.wheel_search.proofs.RowLemmas.{not_alone}
use Rattle.wheel_search.proofs.wait.wait_for.Goals as goal

pub returns-in-Ranked : goal.returns-in-Ranked
returns-in-Ranked c =
    not_alone c.each_policy_is_an_order.ensures c.args.instance.now c.network-network.ensures.problem.problem c.args.row.now.seat c.requires.row.seat c.args.path.now c.requires.begins c.in_default.len_below
    (λ o. elim c.in-Ranked.is [ inl x ↦ absurd (cc (x.1, o)) | inr e ↦ absurd (cc (e, o)) ])
