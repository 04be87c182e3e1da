use Rattle.std.proofs.Common.{subst, eqb-true, eq-eqb}
use Rattle.ranked_policy.specs.Plans.{IsOrigin}
use Rattle.ranked_policy.proofs.PlaceLemmas.{one_origin}
use Rattle.ranked_policy.proofs.places.is_origin.Goals as goal

pub returns-in-Some : goal.returns-in-Some
returns-in-Some c = (
  λ t. subst (λ u. IsOrigin c.args.origins.now u c.args.prefix.now) (eqb-true c.in-Some.router c.args.asn t) c.in-Some.ensures,
  λ is. eq-eqb c.in-Some.router c.args.asn (one_origin c.args.origins.now c.args.prefix.now c.in-Some.router c.args.asn c.requires c.in-Some.ensures is),
)
