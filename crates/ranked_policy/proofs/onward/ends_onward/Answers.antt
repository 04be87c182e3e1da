use Rattle.std.proofs.Common.{sym, ◌∙◌}
use Rattle.ranked_policy.proofs.WaysOn.{ends_more, not_empty}
use Rattle.ranked_policy.proofs.onward.ends_onward.Goals as goal

pub returns-then-not-is_empty : goal.returns-then-not-is_empty
returns-then-not-is_empty c =
    let rest = c.args.rest.now in
    let some = not_empty rest (sym c.is_empty.ensures ∙ c.if-not-is_empty.true) in
    (λ t. let h = c.ends_at.ensures.0 t in (h.0, h.1, (ends_more rest c.args.router h.0 some).1 h.2), λ h. c.ends_at.ensures.1 (h.0, h.1, (ends_more rest c.args.router h.0 some).0 h.2))
