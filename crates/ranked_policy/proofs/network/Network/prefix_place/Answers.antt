use Rattle.std.proofs.Common.{◌≡◌, ◌<◌, ℕ, List, length, map, subst}
use Rattle.std.specs.Prelude.{IfSome, Some}
use Rattle.std.specs.List.{HoldsAt, slice_get}
use Rattle.std.proofs.lemmas.Option.{IfSome_then}
use Rattle.prefix_lanes.specs.Bits.{PrefixView}
use Rattle.ranked_policy.specs.declared.network.Origin.{Origin}
use Rattle.ranked_policy.proofs.PlaceLemmas.{read_at}
use Rattle.ranked_policy.proofs.network.Network.prefix_place.Goals as goal

pub returns-clause-stands : goal.returns-clause-stands
returns-clause-stands c =
    let q = c.args.prefix.now in
    let found = subst (λ (os : List Origin). IfSome c.find_prefix.result (λ i. (i < length os) × HoldsAt (λ o. o.prefix ≡ q) os i)) c.origins.ensures.value c.find_prefix.ensures.value in
    IfSome_then c.find_prefix.result found (λ i h. read_at (λ (o : Origin). o.prefix) c.args.self.now.origins i (record { prefix = q; router = 0 }) q h.0 (h.1 (record { prefix = q; router = 0 })))
