-- A function that computes the best of a router's choices, for every network; and the network of the model of runs
-- whose routers choose by it.
use Rattle.std.specs.Prelude.{ℕ, ◌≡◌, ◌==◌, Bool, List, [], ◌∷◌, if◌then◌else◌}
use Rattle.std.specs.List.{list_any}
use Rattle.prefix_lanes.specs.Bits.{PrefixView, is_prefix}
use Rattle.ranked_policy.specs.declared.network.NetRouter.{NetRouter}
use Rattle.ranked_policy.specs.declared.network.RankRule.{RankRule}
use Rattle.ranked_policy.specs.declared.network.Link.{Link}
use Rattle.ranked_policy.specs.Plans.{Plan, IsNetwork, IsRouter, IsOrigin, numbers}
use Rattle.ranked_policy.specs.Policies.{Table}
use Rattle.ranked_policy.specs.Tests.{originates, best_of}
use Rattle.run_model.specs.Routes.{Network}
use Rattle.run_model.specs.Routes as model
use Rattle.stable_paths.specs.Stable.{Problem, IsProblem, IsBest}
use Rattle.stable_paths.specs.Promises.{Chooses}

-- the rules of a router
abbrev pub rules_of : List NetRouter → ℕ → List RankRule
rules_of [] u = []
rules_of (r ∷ rs) u = if r.asn == u then r.rules else rules_of rs u

-- the table of a router's policies
abbrev pub table_of : Plan → ℕ → Table
table_of net u = record { router = u; rules = rules_of net.routers u; origins = net.origins }

-- the routers that links join with u
abbrev pub peers_over : List Link → ℕ → List ℕ
peers_over [] u = []
peers_over (link ∷ links) u =
    if link.one == u then link.other ∷ peers_over links u
    else (if link.other == u then link.one ∷ peers_over links u else peers_over links u)

-- one more choice, if the peer has a path: the router, then that path
abbrev pub with_choice : ℕ → List ℕ → List (List ℕ) → List (List ℕ)
with_choice u [] choices = choices
with_choice u (v ∷ vs) choices = (u ∷ v ∷ vs) ∷ choices

abbrev pub choices_of : ℕ → List ℕ → (ℕ → List ℕ) → List (List ℕ)
choices_of u [] words = []
choices_of u (v ∷ vs) words = with_choice u (words v) (choices_of u vs words)

-- the best of a router's choices for a prefix, by whether it originates it and the word of each peer; an origin has itself
-- alone, or no path
abbrev pub best_by_rank : Plan → ℕ → PrefixView → Bool → (ℕ → List ℕ) → List ℕ
best_by_rank net u q originated words =
    if originates (table_of net u) q u then (if originated then u ∷ [] else [])
    else best_of (table_of net u) q (choices_of u (peers_over net.links u) words)

-- in every network, `best_by_rank` is the best of each router's choices, for each prefix
abbrev pub BestByRankIsBest : Type 0
BestByRankIsBest =
    (net : Plan) → IsNetwork net → (u : ℕ) → IsRouter net.routers u → (q : PrefixView) (originated : Bool) (words : ℕ → List ℕ)
    → IsBest (record { net = net; prefix = q; originated = originated }) words u (best_by_rank net u q originated words)

-- the network of the model of runs; which messages are UPDATEs and what they tell is a parameter
abbrev pub model_of : {M : Type 0} → (M → Bool) → (M → List (PrefixView × List ℕ)) → Plan → Network M PrefixView (List ℕ)
model_of is_update mentions net = record {
  routers = λ u. list_any (λ v. v == u) (numbers net.routers);
  linked = λ u v. list_any (λ w. w == v) (peers_over net.links u);
  named = λ q. list_any (λ origin. is_prefix origin.prefix q) net.origins;
  same_prefix = is_prefix;
  is_update = is_update;
  mentions = mentions;
  no_path = [];
  best = best_by_rank net;
}

-- it is a network, and its routers choose as in a problem of the network, if each origin of the prefix originates it as
-- the problem says
abbrev pub EachNetworkHasItsModel : Type 0 → Type 0
EachNetworkHasItsModel M =
    (is_update : M → Bool) (mentions : M → List (PrefixView × List ℕ)) (p : Problem) → IsProblem p
    → model.IsNetwork (model_of is_update mentions p.net)
    × ((originated : ℕ → Bool) → ((u : ℕ) → IsOrigin p.net.origins u p.prefix → originated u ≡ p.originated)
    → Chooses p originated (model_of is_update mentions p.net))
