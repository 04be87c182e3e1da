use Rattle.std.proofs.Common.{refl}
use Rattle.std.proofs.lemmas.Bool.{false≢true}
use Rattle.ranked_policy.proofs.PlaceLemmas.{router_found, router_missing}
use Rattle.ranked_policy.proofs.places.find_router.Goals as goal

pub returns-in-Ok-clause-some : goal.returns-in-Ok-clause-some
returns-in-Ok-clause-some c = (λ t. router_found c.args.routers.now c.args.asn c.in-Ok.place c.in-Ok.ensures.found.0 c.in-Ok.ensures.found.1, λ is. refl)

pub returns-in-Err-clause-some : goal.returns-in-Err-clause-some
returns-in-Err-clause-some c =
    (λ t. absurd (false≢true t), λ is. absurd (router_missing c.args.routers.now c.args.asn _ c.in-Err.ensures.bound c.in-Err.ensures.before c.in-Err.ensures.behind is))

pub returns-in-Some-clause-some : goal.returns-in-Some-clause-some
returns-in-Some-clause-some c = (λ t. router_found c.args.routers.now c.args.asn c.in-Some.place c.in-Some.ensures.0 c.in-Some.ensures.1, λ is. refl)
