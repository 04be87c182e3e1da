use Rattle.std.proofs.Common.{refl}
use Rattle.std.proofs.lemmas.Bool.{false≢true}
use Rattle.ranked_policy.proofs.PlaceLemmas.{prefix_found, prefix_missing}
use Rattle.ranked_policy.proofs.places.find_prefix.Goals as goal

pub returns-in-Ok-clause-some : goal.returns-in-Ok-clause-some
returns-in-Ok-clause-some c = (λ t. prefix_found c.args.origins.now c.args.prefix.now c.in-Ok.place c.in-Ok.ensures.found.0 c.in-Ok.ensures.found.1, λ is. refl)

pub returns-in-Err-clause-some : goal.returns-in-Err-clause-some
returns-in-Err-clause-some c =
    (λ t. absurd (false≢true t), λ is. absurd (prefix_missing c.args.origins.now c.args.prefix.now _ c.in-Err.ensures.bound c.in-Err.ensures.before c.in-Err.ensures.behind is))
