-- The routers of a network with their peers.
use Rattle.std.proofs.Common.{ℕ, ◌≡◌, ◌<◌, ◌+◌, List, [], ◌∷◌, ◌++◌, map, take, length, ap, sym, ◌∙◌}
use Rattle.std.specs.Prelude.{get_or}
use Rattle.std.specs.List.{All}
use Rattle.std.proofs.lemmas.List.{map-append}
use Rattle.std.proofs.lemmas.List.Elements.{All-push}
use Rattle.bgp_codec.proofs.OpenLoops.{take_one}
use Rattle.ranked_policy.specs.declared.network.NetRouter.{NetRouter}
use Rattle.ranked_policy.specs.Plans.{Plan, numbers}
use Rattle.snap_collector.specs.declared.members.Member.{Member}
use Rattle.snap_collector.specs.Collector.{HasPeers}

abbrev pub AreFirst : Plan → List NetRouter → List Member → Type 0
AreFirst net rs ms = (map (λ m. m.router) ms ≡ numbers rs) × All (HasPeers net) ms

pub member_more : (net : Plan) (rs : List NetRouter) (ms : List Member) (i : ℕ) (r : NetRouter) (m : Member) → i < length rs → r ≡ get_or rs i r → m.router ≡ r.asn → HasPeers net m
    → AreFirst net (take i rs) ms → AreFirst net (take (i + 1) rs) (ms ++ m ∷ [])
member_more net rs ms i r m l is same peers h = (
  map-append (λ (x : Member). x.router) ms (m ∷ []) ∙ ap (λ k. k ++ m.router ∷ []) h.0 ∙ ap (λ (u : ℕ). numbers (take i rs) ++ u ∷ []) same
      ∙ sym (ap numbers (take_one rs i r l is) ∙ map-append (λ (x : NetRouter). x.asn) (take i rs) (r ∷ [])),
  All-push (HasPeers net) ms m h.1 peers,
)
