use Rattle.std.proofs.Common.{◌≢◌, ◌∙◌, [], sym}
use Rattle.stable_paths.proofs.ListLemmas.{never}
use Rattle.stable_paths.proofs.TableLemmas.{may_by, may_not}
use Rattle.stable_paths.proofs.stability.may_have.Goals as goal
use Rattle.ranked_policy.proofs.WaysOn.{not_empty}

pub returns-in-None : goal.returns-in-None
returns-in-None c =
    let some : c.args.path.now ≢ [] = not_empty c.args.path.now (sym c.is_empty.ensures ∙ c.if-is_empty.false) in
    (λ t. absurd (never t), λ may. absurd (may_not c.args.network.now c.args.prefix.now c.args.router c.args.path.now some (λ r. never (c.in-None.ensures.some.1 r)) may))

pub returns-in-Some : goal.returns-in-Some
returns-in-Some c =
    let some : c.args.path.now ≢ [] = not_empty c.args.path.now (sym c.is_empty.ensures ∙ c.if-is_empty.false) in
    may_by c.args.network.now c.routers-known.ensures.network c.args.prefix.now c.args.router c.in-Some.table c.in-Some.ensures.value c.args.path.now some c.permits.result
    (λ t. (c.for_prefix.ensures.permits c.args.path.now).0 (c.permits.ensures.0 t), λ p. c.permits.ensures.1 ((c.for_prefix.ensures.permits c.args.path.now).1 p))
