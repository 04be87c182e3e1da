-- Whether two prefixes have one rule at a router, and one origin; and that each router then has one policy for them.
use Rattle.std.proofs.Common.{◌≡◌, ◌≢◌, ℕ, Bool, true, false, List, get_or, refl, sym, ap, subst, ◌∙◌, arith, inl, inr}
use Rattle.std.specs.Prelude.{◌↔◌, ◌==◌, IsTrue, Option, Some, None, MatchOption, is_some, not}
use Rattle.std.specs.Bool.{Decides}
use Rattle.std.specs.List.{All, AllPairs, Contains}
use Rattle.std.proofs.lemmas.Bool.{cases_order, false≢true}
use Rattle.std.proofs.lemmas.Bool.Decides.{Decides-and, Decides-eqb}
use Rattle.std.proofs.lemmas.List.{get_or_default}
use Rattle.std.proofs.lemmas.List.Elements.{All-contains}
use Rattle.prefix_lanes.specs.Bits.{PrefixView, Covers, is_prefix}
use Rattle.ranked_policy.specs.declared.network.NetRouter.{NetRouter}
use Rattle.ranked_policy.specs.declared.network.Origin.{Origin}
use Rattle.ranked_policy.specs.declared.network.RankRule.{RankRule}
use Rattle.ranked_policy.specs.Plans.{Plan, IsNetwork, IsOrigin, IsBefore, AreRules, numbers}
use Rattle.ranked_policy.specs.Policies.{Table, IsTable, Originates, IsRuleFor, NoRuleFor, IsListed, IsPermitted, IsPreferred}
use Rattle.ranked_policy.specs.Promises.{OneRule}
use Rattle.stable_engine.specs.Alike.{HaveOneRule, Alike, AlikeHaveOnePolicy}

-- two items of a list are one if they have the same of what stands once
once : {X Y : Type 0} (f : X → Y) (xs : List X) → AllPairs (λ a b. f a ≢ f b) xs → (a b : X) → Contains xs a → Contains xs b → f a ≡ f b → a ≡ b
once f xs apart a b x y e = elim (cases_order x.0 y.0) [
  | inl same ↦ sym x.2 ∙ get_or_default xs x.0 a b x.1 ∙ ap (λ (k : ℕ). get_or xs k b) same ∙ y.2
  | inr differ ↦ elim differ [
    | inl less ↦ absurd (apart x.0 y.0 b less y.1 (ap f (get_or_default xs x.0 b a x.1 ∙ x.2) ∙ e ∙ sym (ap f y.2)))
    | inr more ↦ absurd (apart y.0 x.0 a more x.1 (ap f (get_or_default xs y.0 a b y.1 ∙ y.2) ∙ sym e ∙ sym (ap f x.2)))
  ]
]

same_prefix : (p q : PrefixView) → Decides (is_prefix p q) (p ≡ q)
same_prefix p q = let both = Decides-and (p.addr == q.addr) (p.len == q.len) (Decides-eqb p.addr q.addr) (Decides-eqb p.len q.len) in
    (λ t. let h = both.0 t in λ i. record { addr = h.0 i; len = h.1 i }, λ e. both.1 (ap (λ x. x.addr) e, ap (λ x. x.len) e))

-- ---- origins

not_before : (p q : PrefixView) → IsBefore p q → p ≡ q → ⊥
not_before p q (inl less) e = omega (arith, less, ap (λ (x : PrefixView). x.addr) e)
not_before p q (inr x) e = omega (arith, x.1, ap (λ (x : PrefixView). x.len) e)

-- an origin of the network is the one that originates its prefix
origin_is : (net : Plan) → IsNetwork net → (o : Origin) → Contains net.origins o → (u : ℕ) → IsOrigin net.origins u o.prefix → o.router ≡ u
origin_is net is o there u h =
    let same : h.1 ≡ o = once (λ (x : Origin). x.prefix) net.origins (λ i j d less below e. not_before (get_or net.origins i d).prefix (get_or net.origins j d).prefix (is.plan.origins.rising i j d less below) e) h.1 o (h.0, h.2, h.3) there h.4.0 in
    ap (λ (x : Origin). x.router) (sym same) ∙ h.4.1

origin_there : (net : Plan) (o : Origin) → Contains net.origins o → (u : ℕ) → o.router ≡ u → IsOrigin net.origins u o.prefix
origin_there net o there u e = (there.0, o, there.1, there.2, (refl, e))

origin_to : (net : Plan) → IsNetwork net → (one other : Origin) → Contains net.origins one → Contains net.origins other → one.router ≡ other.router
    → (u : ℕ) → IsOrigin net.origins u one.prefix → IsOrigin net.origins u other.prefix
origin_to net is one other a b e u h = origin_there net other b u (sym e ∙ origin_is net is one a u h)

-- two origins that are one router, and each router has one rule for both prefixes
pub alike_all : (net : Plan) → IsNetwork net → (one other : Origin) → Contains net.origins one → Contains net.origins other → one.router ≡ other.router
    → All (λ r. HaveOneRule r.rules one.prefix other.prefix) net.routers → Alike net one.prefix other.prefix
alike_all net is one other a b e rules = record {
  origin = λ u. (origin_to net is one other a b e u, origin_to net is other one b a (sym e) u);
  rules = rules;
}

-- two routers
pub apart_origins : (net : Plan) → IsNetwork net → (one other : Origin) → Contains net.origins one → Contains net.origins other → one.router ≢ other.router
    → Alike net one.prefix other.prefix → ⊥
apart_origins net is one other a b apart alike =
    apart (sym (origin_is net is other b one.router ((alike.origin one.router).0 (origin_there net one a one.router refl))))

-- ---- rules

pub table_at : (net : Plan) → IsNetwork net → (r : NetRouter) → Contains net.routers r → IsTable (record { router = r.asn; rules = r.rules; origins = net.origins })
table_at net is r there = record {
  all = numbers net.routers;
  rules = subst (λ (x : NetRouter). AreRules (numbers net.routers) x.asn x.rules) there.2 (is.plan.rules there.0 r there.1);
  origins = is.plan.origins;
}

covers_none : {A : Type 0} (rules : List RankRule) (q : PrefixView) (rule : RankRule) → IsRuleFor rules q rule → NoRuleFor rules q → A
covers_none rules q rule is none = absurd (All-contains (λ x. Covers x.prefix q → ⊥) rules rule none is.listed is.covers)

module _ (one : OneRule) (t : Table) (is : IsTable t) (q r : PrefixView) where
  one_rule : (a b : RankRule) → IsRuleFor t.rules q a → IsRuleFor t.rules r b → a.prefix ≡ b.prefix → HaveOneRule t.rules q r
  one_rule a b mine theirs e =
      let same : a ≡ b = once (λ (x : RankRule). x.prefix) t.rules is.rules.distinct a b mine.listed theirs.listed e in
      record {
        same = λ x. (
          λ f. subst (IsRuleFor t.rules r) (sym same ∙ one t is q a x mine f) theirs,
          λ f. subst (IsRuleFor t.rules q) (same ∙ one t is r b x theirs f) mine,
        );
        none = (λ none. covers_none t.rules q a mine none, λ none. covers_none t.rules r b theirs none);
      }

  -- the two are one exactly where their prefixes are
  pub by_rules : (a b : RankRule) → IsRuleFor t.rules q a → IsRuleFor t.rules r b → (x : Bool) → x ≡ is_prefix a.prefix b.prefix → (IsTrue x ↔ HaveOneRule t.rules q r)
  by_rules a b mine theirs x e =
      let d = same_prefix a.prefix b.prefix in
      (λ h. one_rule a b mine theirs (d.0 (sym e ∙ h)), λ h. e ∙ d.1 (ap (λ (y : RankRule). y.prefix) (one t is r a b ((h.same a).0 mine) theirs)))

pub first_alone : (rules : List RankRule) (q r : PrefixView) (a : RankRule) → IsRuleFor rules q a → NoRuleFor rules r → HaveOneRule rules q r → ⊥
first_alone rules q r a mine none h = covers_none rules r a ((h.same a).0 mine) none

-- no rule covers the first prefix
pub by_none : {X : Type 0} (now : X → RankRule) (rules : List RankRule) (q r : PrefixView) → NoRuleFor rules q → (found : Option X) → MatchOption found (NoRuleFor rules r) (λ x. IsRuleFor rules r (now x))
    → (b : Bool) → is_some found ≡ not b → (IsTrue b ↔ HaveOneRule rules q r)
by_none now rules q r mine None theirs true e = (
  λ h. record {
    same = λ x. (λ f. covers_none rules q x f mine, λ f. covers_none rules r x f theirs);
    none = (λ none. theirs, λ none. mine);
  },
  λ h. refl,
)
by_none now rules q r mine None theirs false e = absurd (false≢true e)
by_none now rules q r mine (Some x) theirs true e = absurd (false≢true (sym e))
by_none now rules q r mine (Some x) theirs false e =
    (λ h. absurd (false≢true h), λ h. absurd (covers_none rules q (now x) ((h.same (now x)).1 theirs) mine))

-- ---- one policy

module _ (t : Table) (q r : PrefixView) (rules : HaveOneRule t.rules q r) (origin : (v : ℕ) → (Originates t q v ↔ Originates t r v)) where
  listed_to : (path : List ℕ) → IsListed t.rules q path → IsListed t.rules r path
  listed_to path (inl x) = inl (x.0, (rules.same x.0).0 x.1, x.2)
  listed_to path (inr none) = inr (rules.none.0 none)

  permitted_to : (path : List ℕ) → IsPermitted t q path → IsPermitted t r path
  permitted_to path (inl own) = inl ((origin t.router).0 own.0, own.1)
  permitted_to path (inr x) = let way = x.1 in inr (
    λ o. x.0 ((origin t.router).1 o),
    record { begins = way.begins; simple = way.simple; short = way.short; ends = (way.ends.0, (origin way.ends.0).0 way.ends.1, way.ends.2) },
    listed_to path x.2,
  )

  preferred_to : (a b : List ℕ) → IsPreferred t q a b → IsPreferred t r a b
  preferred_to a b h = (
    λ o. h.0 ((origin t.router).1 o),
    elim h.1 [ inl x ↦ inl (x.0, (rules.same x.0).0 x.1, x.2) | inr x ↦ inr (rules.none.0 x.0, x.1) ],
  )

turned : (rules : List RankRule) (q r : PrefixView) → HaveOneRule rules q r → HaveOneRule rules r q
turned rules q r h = record { same = λ x. ((h.same x).1, (h.same x).0); none = (h.none.1, h.none.0) }

pub one_policy : AlikeHaveOnePolicy
one_policy net q r alike u t of =
    let a = of.2 in
    let rules : HaveOneRule t.rules q r = subst (λ (rs : List RankRule). HaveOneRule rs q r) a.4.1 (subst (λ (x : NetRouter). HaveOneRule x.rules q r) a.3 (alike.rules a.0 a.1 a.2)) in
    let there : (v : ℕ) → (Originates t q v ↔ Originates t r v) = λ v. subst (λ (os : List Origin). IsOrigin os v q ↔ IsOrigin os v r) (sym of.1) (alike.origin v) in
    let back : (v : ℕ) → (Originates t r v ↔ Originates t q v) = λ v. ((there v).1, (there v).0) in
    let rules_back = turned t.rules q r rules in
    record {
      originates = there;
      none = rules.none;
      permits = λ path. (permitted_to t q r rules there path, permitted_to t r q rules_back back path);
      prefers = λ x y. (preferred_to t q r rules there x y, preferred_to t r q rules_back back x y);
    }
