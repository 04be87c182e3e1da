use Rattle.std.proofs.Common.{◌≡◌, ◌<◌, subst, sym, ◌∙◌}
use Rattle.std.specs.Prelude.{◌↔◌, ℕ}
use Rattle.std.specs.List.{AllPairs, Contains}
use Rattle.std.proofs.lemmas.Result.{IfOk-weaker}
use Rattle.ranked_policy.specs.Plans.{Linked}
use Rattle.ranked_policy.specs.Peers.{peers}
use Rattle.ranked_policy.proofs.Rising.{pairs_map}
use Rattle.ranked_policy.proofs.WayLemmas.{both, way_to}
use Rattle.ranked_policy.proofs.network.Network.peers.Goals as goal

pub returns-clause-rising : goal.returns-clause-rising
returns-clause-rising c =
    IfOk-weaker c.peers_of.result _ (λ peers. AllPairs (λ u v. u < v) peers)
    (λ peers is. subst (AllPairs (λ u v. u < v)) (sym is) (pairs_map (λ link. link.other) (λ u v. u < v) c.links_of.result.now c.links_of.ensures.rising)) c.peers_of.ensures

pub returns-clause-exact : goal.returns-clause-exact
returns-clause-exact c =
    IfOk-weaker c.peers_of.result _ (λ peers. (v : ℕ) → (Contains peers v ↔ Linked c.args.self.now.links c.args.asn v))
    (λ peers is v. subst (λ ps. Contains ps v ↔ Linked c.args.self.now.links c.args.asn v) (sym is)
    (both (way_to c.links_of.result.now c.args.asn v c.links_of.ensures.from) (c.links_of.ensures.exact v))) c.peers_of.ensures

pub returns-clause-peers : goal.returns-clause-peers
returns-clause-peers c =
    IfOk-weaker c.peers_of.result _ (λ numbers. numbers ≡ peers c.args.self.now c.args.asn) (λ numbers is. is ∙ c.links_of.ensures.peers) c.peers_of.ensures
