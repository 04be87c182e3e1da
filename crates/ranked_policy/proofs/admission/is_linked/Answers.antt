use Rattle.ranked_policy.proofs.admission.is_linked.Goals as goal

pub returns : goal.returns
returns c =
    let known = c.requires c.args.a c.args.b in
    (λ t. known.0 (c.has.ensures.0 t), λ linked. c.has.ensures.1 (known.1 linked))
