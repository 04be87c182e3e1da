-- The members of a collector as the routers of the network of the laws of runs.
use Rattle.std.proofs.Common.{◌≡◌, ℕ, suc, arith, ◌<◌, ◌==◌, Bool, List, [], ◌∷◌, map, refl, ap, sym, ◌∙◌, subst}
use Rattle.std.specs.Prelude.{◌↔◌, ◌||◌, IsTrue}
use Rattle.std.specs.List.{All, AllPairs, Contains, list_any}
use Rattle.std.proofs.lemmas.Bool.{eqb-true, eq-eqb}
use Rattle.std.proofs.lemmas.List.{get_or_default}
use Rattle.std.proofs.lemmas.List.Elements.{All-head, All-tail}
use Rattle.std.proofs.lemmas.List.Folds.{Any-from_list_any, list_any-from_Any}
use Rattle.ranked_policy.specs.Plans.{Plan, IsNetwork, numbers}
use Rattle.run_model.specs.Offers.{HasOutcome}
use Rattle.snap_marker.specs.Recordings.{MadeOffer}
use Rattle.snap_collector.specs.declared.members.Member.{Member as MemberOf}
use Rattle.snap_collector.specs.Collecting.{member_of}
use Rattle.snap_collector.specs.Collector.{HasPeers, AreMembers, kept_of}
use Rattle.snap_collector.specs.Laws.{VerdictsAreOutcomes, CollectedAreKept}
use Rattle.snap_collector.specs.Verdicts.{IsAbove, Rises, HasLinks, is_member, verdict}
use Rattle.router_model.specs.Settings.{Setting}
use Rattle.router_runs.specs.Model.{network_of}
use Rattle.world_core.specs.Verdicts.{MembersAreOfTheNetwork, CollectorsJudgeTheirRuns}
use Rattle.world_core.proofs.Linking.{linked_is}

any_member : (ms : List MemberOf) (u : ℕ) → list_any (λ n. u == n) (map (λ m. m.router) ms) ≡ is_member (map member_of ms) u
any_member [] u = refl
any_member (m ∷ ms) u = ap (λ (b : Bool). (u == m.router) || b) (any_member ms u)

same_routers : (ms : List MemberOf) → map (λ m. m.router) (map member_of ms) ≡ map (λ m. m.router) ms
same_routers [] = refl
same_routers (m ∷ ms) = ap (λ (l : List ℕ). m.router ∷ l) (same_routers ms)

-- ---- what rises

is_above : (u : ℕ) (vs : List ℕ) → All (λ v. u < v) vs → IsAbove u vs
is_above u [] h = tt
is_above u (v ∷ vs) h = (All-head (λ v. u < v) v vs h, is_above u vs (All-tail (λ v. u < v) v vs h))

first_below : (v : ℕ) (vs : List ℕ) → AllPairs (λ s t. s < t) (v ∷ vs) → All (λ w. v < w) vs
first_below v vs up k d l = up 0 (suc k) d (omega arith) (omega (arith, l))

rest_rises : (v : ℕ) (vs : List ℕ) → AllPairs (λ s t. s < t) (v ∷ vs) → AllPairs (λ s t. s < t) vs
rest_rises v vs up i j d l m = up (suc i) (suc j) d (omega (arith, l)) (omega (arith, m))

rises : (vs : List ℕ) → AllPairs (λ s t. s < t) vs → Rises vs
rises [] up = tt
rises (v ∷ vs) up = (is_above v vs (first_below v vs up), rises vs (rest_rises v vs up))

-- ---- peers

listed : (vs : List ℕ) (v : ℕ) → IsTrue (list_any (λ w. v == w) vs) ↔ Contains vs v
listed vs v = (there, found)
  where
    there : IsTrue (list_any (λ w. v == w) vs) → Contains vs v
    there h =
        let any = Any-from_list_any (λ w. v == w) vs h in
        (any.0, any.2, get_or_default vs any.0 v any.1 any.2 ∙ any.3 ∙ sym (eqb-true v any.1 any.4))

    found : Contains vs v → IsTrue (list_any (λ w. v == w) vs)
    found h = list_any-from_Any (λ w. v == w) vs (h.0, v, h.1, h.2, eq-eqb v v refl)

links : (g : Setting) (ms : List MemberOf) → All (HasPeers g.net) ms → HasLinks (network_of g) (map member_of ms)
links g [] all = tt
links g (m ∷ ms) all =
    let peers = All-head (HasPeers g.net) m ms all in (
      λ v. sym (linked_is g.net m.router v (list_any (λ w. v == w) m.peers) (λ t. (peers.1 v).0 ((listed m.peers v).0 t), λ l. (listed m.peers v).1 ((peers.1 v).1 l))),
      rises m.peers peers.0,
      links g ms (All-tail (HasPeers g.net) m ms all),
    )

pub members_are_of_the_network : MembersAreOfTheNetwork
members_are_of_the_network g net ms are = record {
  routers = λ u. ap (list_any (λ n. u == n)) (sym are.routers) ∙ any_member ms u;
  rising = subst Rises (sym (same_routers ms ∙ are.routers)) (rises (numbers g.net.routers) net.plan.rising);
  links = links g ms are.peers;
}

-- ---- the verdicts of a world's collector

pub collectors_judge_their_runs : VerdictsAreOutcomes → CollectedAreKept → CollectorsJudgeTheirRuns
collectors_judge_their_runs outcomes kept x whole g e state agrees s =
    let members = map member_of x.collector.members in
    let network = subst (λ (n : Plan). IsNetwork n) (sym e) whole.network in
    let are = subst (λ (n : Plan). AreMembers n x.collector.members) (sym e) whole.members in
    subst (λ (ms : List MadeOffer). HasOutcome (network_of g) s state.offered (verdict members (kept_of members ms))) (sym (agrees.offers_made s))
    (outcomes (network_of g) members (members_are_of_the_network g network x.collector.members are) s state.offered _ (kept members s state.offered))
