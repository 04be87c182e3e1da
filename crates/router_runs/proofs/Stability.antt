-- A stable assignment of the network of the laws is one of the network: its routers, links and choices are the same.
use Rattle.std.proofs.Common.{◌≡◌, ℕ, ◌==◌, Bool, true, false, ◌&&◌, ◌||◌, cond, List, [], ◌∷◌, get_or, refl, sym, subst, inl, inr}
use Rattle.std.specs.Prelude.{◌↔◌}
use Rattle.std.specs.List.{Any}
use Rattle.std.proofs.lemmas.Bool.{or_cases, eqb-true, eq-eqb}
use Rattle.std.proofs.lemmas.List.Folds.{Any-from_list_any, list_any-from_Any}
use Rattle.prefix_lanes.specs.Bits.{PrefixView, is_prefix}
use Rattle.ranked_policy.specs.declared.network.Link.{Link}
use Rattle.ranked_policy.specs.declared.network.Origin.{Origin}
use Rattle.ranked_policy.specs.Plans.{Plan, IsRouter, IsOrigin, IsNamed, Joins, Linked, numbers}
use Rattle.ranked_policy.specs.Policies.{Table, IsTableOf}
use Rattle.stable_paths.specs.Stable.{Problem, IsBest, IsStable}
use Rattle.stable_paths.specs.Promises.{Chooses}
use Rattle.run_model.specs.Routes as routes
use Rattle.router_model.specs.Settings.{Setting, IsSetting, joins, linked, is_router, names}
use Rattle.router_runs.specs.Model.{network_of}
use Rattle.router_runs.specs.Mirrors.{EachSettingHasItsModel}
use Rattle.router_runs.proofs.Lower.{Laws}
use Rattle.router_runs.proofs.Words.{same_view}

both_are : (a b : Bool) → (a && b) ≡ true → (a ≡ true) × (b ≡ true)
both_are true b h = (refl, h)
both_are false b h = absurd cc

and_true : (a b : Bool) → a ≡ true → b ≡ true → (a && b) ≡ true
and_true true b h k = k
and_true false b h k = absurd (cc h)

or_left : (a b : Bool) → a ≡ true → (a || b) ≡ true
or_left true b h = refl
or_left false b h = absurd (cc h)

or_right : (a b : Bool) → b ≡ true → (a || b) ≡ true
or_right true b h = refl
or_right false b h = h

any_weaker : {X : Type 0} (P Q : X → Type 0) (xs : List X) → ((x : X) → P x → Q x) → Any P xs → Any Q xs
any_weaker P Q xs on a = (a.0, a.1, a.2, a.3, on a.1 a.4)

-- ---- routers and links

pub router_is : (g : Setting) (u : ℕ) → ((is_router g u ≡ true) ↔ IsRouter g.net.routers u)
router_is g u = (
  λ h. (let a = Any-from_list_any (λ n. u == n) (numbers g.net.routers) h in (a.0, a.2, subst (λ n. get_or (numbers g.net.routers) a.0 n ≡ n) (sym (eqb-true u a.1 a.4)) a.3)),
  λ c. list_any-from_Any (λ n. u == n) (numbers g.net.routers) (c.0, u, c.1, c.2, eq-eqb u u refl),
)

joins_is : (u v : ℕ) (link : Link) → joins u v link ≡ true → Joins link u v
joins_is u v link h = elim (or_cases ((link.one == u) && (link.other == v)) ((link.one == v) && (link.other == u)) h) [
  | inl a ↦ (let s = both_are (link.one == u) (link.other == v) a in inl (eqb-true link.one u s.0, eqb-true link.other v s.1))
  | inr b ↦ (let s = both_are (link.one == v) (link.other == u) b in inr (eqb-true link.one v s.0, eqb-true link.other u s.1))
]

is_joins : (u v : ℕ) (link : Link) → Joins link u v → joins u v link ≡ true
is_joins u v link h = elim h [
  | inl a ↦ or_left ((link.one == u) && (link.other == v)) ((link.one == v) && (link.other == u)) (and_true (link.one == u) (link.other == v) (eq-eqb link.one u a.0) (eq-eqb link.other v a.1))
  | inr b ↦ or_right ((link.one == u) && (link.other == v)) ((link.one == v) && (link.other == u)) (and_true (link.one == v) (link.other == u) (eq-eqb link.one v b.0) (eq-eqb link.other u b.1))
]

pub linked_is : (net : Plan) (u v : ℕ) → ((linked net u v ≡ true) ↔ Linked net.links u v)
linked_is net u v = (
  λ h. any_weaker (λ link. joins u v link ≡ true) (λ link. Joins link u v) net.links (joins_is u v) (Any-from_list_any (joins u v) net.links h),
  λ a. list_any-from_Any (joins u v) net.links (any_weaker (λ link. Joins link u v) (λ link. joins u v link ≡ true) net.links (is_joins u v) a),
)

pub named_is : (origins : List Origin) (q : PrefixView) → names origins q ≡ true → IsNamed origins q
named_is origins q h =
    any_weaker (λ o. is_prefix o.prefix q ≡ true) (λ o. o.prefix ≡ q) origins (λ o is. same_view o.prefix q is) (Any-from_list_any (λ o. is_prefix o.prefix q) origins h)

-- ---- choices

-- the best of two problems that differ in what the origin originates is one, where it is the same at the router
best_by : (net : Plan) (q : PrefixView) (one other : Bool) (words : ℕ → List ℕ) (u : ℕ) (path : List ℕ) → (IsOrigin net.origins u q → one ≡ other)
    → IsBest (record { net = net; prefix = q; originated = one }) words u path → IsBest (record { net = net; prefix = q; originated = other }) words u path
best_by net q one other words u path same best =
    let table : Table = best.0 in
    let is : IsTableOf net u table = best.1 in (
      table,
      is,
      elim best.2 [
        | inl own ↦ inl (own.0, subst (λ b. path ≡ cond b (table.router ∷ []) []) (same (subst (λ os. IsOrigin os u q) is.1 (subst (λ r. IsOrigin table.origins r q) is.0 own.0))) own.1)
        | inr chosen ↦ inr chosen
      ],
    )

pub chooses_as : (g : Setting) → IsSetting g → (q : PrefixView) → IsNamed g.net.origins q → (by : ℕ → Bool) (originated : Bool) → ((u : ℕ) → IsOrigin g.net.origins u q → by u ≡ originated)
    → Chooses (record { net = g.net; prefix = q; originated = originated }) by (network_of g)
chooses_as g set q named by originated same = record {
  routers = router_is g;
  linked = linked_is g.net;
  no_path = refl;
  best = λ u is words. best_by g.net q (by u) originated words u (g.best u q (by u) words) (same u) (set.chooses u is q named (by u) words);
}

module _ (laws : Laws) where
  -- the network of the laws is one
  pub network_is : (g : Setting) → IsSetting g → routes.IsNetwork (network_of g)
  network_is g set = record {
    apart = λ u v near. (laws.links g.net set.network u v near).apart;
    both = λ u v near. (laws.links g.net set.network u v near).back;
    known = λ u v near. (router_is g v).1 (laws.links g.net set.network u v near).other;
  }

  pub stable_of : (g : Setting) → IsSetting g → (q : PrefixView) → names g.net.origins q ≡ true → (by : ℕ → Bool) (originated : Bool)
      → ((u : ℕ) → IsOrigin g.net.origins u q → by u ≡ originated) → (paths : ℕ → List ℕ)
      → routes.IsStableAssignment (network_of g) q by paths → IsStable (record { net = g.net; prefix = q; originated = originated }) paths
  stable_of g set q named by originated same paths stable =
      let p : Problem = record { net = g.net; prefix = q; originated = originated } in
      let is = named_is g.net.origins q named in
      (laws.stable p (record { network = set.network; named = is }) by (network_of g) (chooses_as g set q is by originated same) paths).1 stable

  pub each_setting_has_its_model : EachSettingHasItsModel
  each_setting_has_its_model g set = record { network = network_is g set; routers = router_is g; linked = linked_is g.net; named = named_is g.net.origins }
