-- The origins and the rule that a table has for a prefix, and the order of its permitted paths.
use Rattle.std.proofs.Common.{◌≡◌, ℕ, ◌<◌, ◌≤◌, List, [], ◌∷◌, length, get_or, take, refl, sym, ap, subst, ◌∙◌, arith, inl, inr, Option, Some, None}
use Rattle.std.specs.Prelude.{◌≢◌, ◌↔◌}
use Rattle.std.specs.List.{AllPairs, Contains}
use mathlib.Core.Logic.{◌⊎◌}
use Rattle.std.proofs.lemmas.List.{get_or_default, take_at}
use Rattle.std.proofs.lemmas.List.Elements.{All-contains}
use Rattle.std.proofs.lemmas.Bool.{cases_order}
use Rattle.prefix_lanes.specs.Bits.{PrefixView, IsCanonical, Covers, bits}
use Rattle.prefix_lanes.specs.Laws.{HasItsLength, SameBitsSamePrefix}
use Rattle.ranked_policy.specs.declared.network.Origin.{Origin}
use Rattle.ranked_policy.specs.declared.network.RankRule.{RankRule}
use Rattle.ranked_policy.specs.Paths.{IsRoute}
use Rattle.ranked_policy.specs.Orders.{ComesFirst, IsShorter}
use Rattle.ranked_policy.specs.Laws.{comes_first_trans, comes_first_total, shorter_trans, shorter_total, shorter_first_is_an_order}
use Rattle.ranked_policy.specs.Plans.{IsBefore, IsOrigin, AreRules, AreRanked, AreOrigins}
use Rattle.ranked_policy.specs.Policies.{Table, IsTable, Originates, IsOriginOf, IsRuleFor, NoRuleFor, IsListed, IsPermitted, IsPreferred}
use Rattle.ranked_policy.specs.Choosing.{IsRankedPath}
use Rattle.ranked_policy.specs.Promises.{OneRule, EachPolicyIsAnOrder}
use Rattle.ranked_policy.proofs.Rising.{before_self}

never_later : {X Y : Type 0} (f : X → Y) (xs : List X) (k l : ℕ) (x y : X) → AllPairs (λ x y. f x ≢ f y) xs → k < l → l < length xs → get_or xs k x ≡ x → get_or xs l y ≡ y → f x ≡ f y → ⊥
never_later f xs k l x y pairs below inside at_k at_l same =
    pairs k l x below inside (ap f at_k ∙ same ∙ sym (ap f at_l) ∙ ap f (get_or_default xs l y x inside))

-- two elements that are read alike are one, where no two of the list are
pub one_of : {X Y : Type 0} (f : X → Y) (xs : List X) (k l : ℕ) (x y : X) → AllPairs (λ x y. f x ≢ f y) xs → k < length xs → l < length xs → get_or xs k x ≡ x → get_or xs l y ≡ y → f x ≡ f y → x ≡ y
one_of f xs k l x y pairs in_k in_l at_k at_l same = elim (cases_order k l) [
  | inl e ↦ sym at_k ∙ get_or_default xs k x y in_k ∙ ap (λ i. get_or xs i y) e ∙ at_l
  | inr differ ↦ elim differ [
    | inl below ↦ absurd (never_later f xs k l x y pairs below in_l at_k at_l same)
    | inr above ↦ absurd (never_later f xs l k y x pairs above in_k at_l at_k (sym same))
  ]
]

pub prefixes_differ : (origins : List Origin) → AllPairs (λ o p. IsBefore o.prefix p.prefix) origins → AllPairs (λ o p. o.prefix ≢ p.prefix) origins
prefixes_differ origins rising i j d l m same =
    before_self (get_or origins j d).prefix (subst (λ p. IsBefore p (get_or origins j d).prefix) same (rising i j d l m))

-- what was found is the origin of the prefix
pub origin_iff : (all : List ℕ) (origins : List Origin) (q : PrefixView) (origin : Option ℕ) → AreOrigins all origins → IsOriginOf origins q origin → (v : ℕ) → (origin ≡ Some v) ↔ IsOrigin origins v q
origin_iff all origins q None are none v = ((λ e. cc), λ is. absurd (none (is.0, is.1, is.2, is.3, is.4.0)))
origin_iff all origins q (Some u) are any v = (
  λ e. let same : u ≡ v = cc in subst (λ w. IsOrigin origins w q) same any,
  λ is. let same : is.1 ≡ any.1 = one_of (λ o. o.prefix) origins is.0 any.0 is.1 any.1 (prefixes_differ origins are.rising) is.2 any.2 is.3 any.3 (is.4.0 ∙ sym any.4.0) in
      ap Some (sym any.4.1 ∙ ap (λ o. o.router) (sym same) ∙ is.4.1),
)

-- the longest covering rule is one
front_of : (p q : PrefixView) (n : ℕ) → length (bits p) ≡ n → Covers p q → bits p ≡ take n (bits q)
front_of p q n l covers = sym (take_at (bits p) covers.0 n l) ∙ ap (take n) covers.1

pub one_rule : HasItsLength → SameBitsSamePrefix → (all : List ℕ) (u : ℕ) (rules : List RankRule) → AreRules all u rules → (q : PrefixView) (rule other : RankRule) → IsRuleFor rules q rule → IsRuleFor rules q other → rule ≡ other
one_rule has_length once all u rules are q rule other h g =
    let canonical : IsCanonical rule.prefix = All-contains (λ r. IsCanonical r.prefix) rules rule are.canonical h.listed in
    let canonical' : IsCanonical other.prefix = All-contains (λ r. IsCanonical r.prefix) rules other are.canonical g.listed in
    let up : rule.prefix.len ≤ other.prefix.len = All-contains (λ r. Covers r.prefix q → r.prefix.len ≤ other.prefix.len) rules rule g.longest h.listed h.covers in
    let down : other.prefix.len ≤ rule.prefix.len = All-contains (λ r. Covers r.prefix q → r.prefix.len ≤ rule.prefix.len) rules other h.longest g.listed g.covers in
    let lens : other.prefix.len ≡ rule.prefix.len = omega (arith, up, down) in
    let same_bits : bits rule.prefix ≡ bits other.prefix =
    front_of rule.prefix q rule.prefix.len (has_length rule.prefix canonical).0 h.covers ∙ sym (front_of other.prefix q rule.prefix.len ((has_length other.prefix canonical').0 ∙ lens) g.covers) in
    one_of (λ r. r.prefix) rules h.listed.0 g.listed.0 rule other are.distinct h.listed.1 g.listed.1 h.listed.2 g.listed.2 (once rule.prefix other.prefix canonical canonical' same_bits)

pub rule_or_none : {A : Type 0} (rules : List RankRule) (q : PrefixView) (rule : RankRule) → IsRuleFor rules q rule → NoRuleFor rules q → A
rule_or_none rules q rule h none = absurd (All-contains (λ r. Covers r.prefix q → ⊥) rules rule none h.listed h.covers)

-- the router originates the prefix
pub only_permits : (t : Table) (q : PrefixView) (path : List ℕ) → Originates t q t.router → (path ≡ t.router ∷ []) ↔ IsPermitted t q path
only_permits t q path is = (λ e. inl (is, e), λ h. elim h [ inl p ↦ p.1 | inr p ↦ absurd (p.0 is) ])

pub only_prefers : (t : Table) (q : PrefixView) (a b : List ℕ) → Originates t q t.router → ⊥ ↔ IsPreferred t q a b
only_prefers t q a b is = (λ never. absurd never, λ h. absurd (h.0 is))

-- a rule names the paths
ranked_route : (t : Table) (holds : IsTable t) (q : PrefixView) (origin : Option ℕ) (rule : RankRule) (path : List ℕ) → ((v : ℕ) → (origin ≡ Some v) ↔ Originates t q v) → IsRuleFor t.rules q rule
    → IsRankedPath rule.paths origin path → IsRoute t.router (Originates t q) path
ranked_route t holds q origin rule path iff for p =
    let ranked : AreRanked holds.all t.router rule.paths = All-contains (λ r. AreRanked holds.all t.router r.paths) t.rules rule holds.rules.ranked for.listed in
    record {
      begins = All-contains (λ p. (rest : List ℕ) × (p ≡ t.router ∷ rest)) rule.paths path ranked.begins p.0;
      simple = All-contains (λ p. AllPairs (λ u v. u ≢ v) p) rule.paths path ranked.simple p.0;
      short = All-contains (λ p. length p ≤ 16) rule.paths path ranked.short p.0;
      ends = (p.1.0, (iff p.1.0).0 p.1.1, p.1.2);
    }

ranked_back : (t : Table) (holds : IsTable t) → HasItsLength → SameBitsSamePrefix → (q : PrefixView) (origin : Option ℕ) (rule : RankRule) (path : List ℕ) → ((v : ℕ) → (origin ≡ Some v) ↔ Originates t q v) → IsRuleFor t.rules q rule
    → IsRoute t.router (Originates t q) path → IsListed t.rules q path → IsRankedPath rule.paths origin path
ranked_back t holds has_length once q origin rule path iff for route (inl other) =
    let same : other.0 ≡ rule = one_rule has_length once holds.all t.router t.rules holds.rules q other.0 rule other.1 for in
    (subst (λ r. Contains r.paths path) same other.2, (route.ends.0, (iff route.ends.0).1 route.ends.1, route.ends.2))
ranked_back t holds has_length once q origin rule path iff for route (inr none) = rule_or_none t.rules q rule for none

pub ranked_permits : (t : Table) (holds : IsTable t) → HasItsLength → SameBitsSamePrefix → (q : PrefixView) (origin : Option ℕ) (rule : RankRule) (path : List ℕ) → ((v : ℕ) → (origin ≡ Some v) ↔ Originates t q v)
    → (Originates t q t.router → ⊥) → IsRuleFor t.rules q rule → IsRankedPath rule.paths origin path ↔ IsPermitted t q path
ranked_permits t holds has_length once q origin rule path iff apart for = (
  λ p. inr (apart, ranked_route t holds q origin rule path iff for p, inl (rule, for, p.0)),
  λ h. elim h [ inl p ↦ absurd (apart p.0) | inr p ↦ ranked_back t holds has_length once q origin rule path iff for p.1 p.2 ],
)

ranked_first : (t : Table) (holds : IsTable t) → HasItsLength → SameBitsSamePrefix → (q : PrefixView) (rule : RankRule) (a b : List ℕ) → IsRuleFor t.rules q rule
    → ((other : RankRule) × IsRuleFor t.rules q other × ComesFirst other.paths a b) ⊎ (NoRuleFor t.rules q × IsShorter a b) → ComesFirst rule.paths a b
ranked_first t holds has_length once q rule a b for (inl other) =
    subst (λ r. ComesFirst r.paths a b) (one_rule has_length once holds.all t.router t.rules holds.rules q other.0 rule other.1 for) other.2
ranked_first t holds has_length once q rule a b for (inr none) = rule_or_none t.rules q rule for none.0

pub ranked_prefers : (t : Table) (holds : IsTable t) → HasItsLength → SameBitsSamePrefix → (q : PrefixView) (rule : RankRule) (a b : List ℕ) → (Originates t q t.router → ⊥) → IsRuleFor t.rules q rule
    → ComesFirst rule.paths a b ↔ IsPreferred t q a b
ranked_prefers t holds has_length once q rule a b apart for =
    (λ first. (apart, inl (rule, for, first)), λ h. ranked_first t holds has_length once q rule a b for h.1)

-- no rule covers the prefix
same_route : (u : ℕ) (P Q : ℕ → Type 0) (path : List ℕ) → ((v : ℕ) → P v → Q v) → IsRoute u P path → IsRoute u Q path
same_route u P Q path on h = record {
  begins = h.begins;
  simple = h.simple;
  short = h.short;
  ends = (h.ends.0, on h.ends.0 h.ends.1, h.ends.2);
}

pub shortest_permits : (t : Table) (q : PrefixView) (origin : Option ℕ) (path : List ℕ) → ((v : ℕ) → (origin ≡ Some v) ↔ Originates t q v) → (Originates t q t.router → ⊥) → NoRuleFor t.rules q
    → IsRoute t.router (λ v. origin ≡ Some v) path ↔ IsPermitted t q path
shortest_permits t q origin path iff apart none = (
  λ route. inr (apart, same_route t.router (λ v. origin ≡ Some v) (Originates t q) path (λ v. (iff v).0) route, inr none),
  λ h. elim h [ inl p ↦ absurd (apart p.0) | inr p ↦ same_route t.router (Originates t q) (λ v. origin ≡ Some v) path (λ v. (iff v).1) p.1 ],
)

shorter_first : (t : Table) (q : PrefixView) (a b : List ℕ) → NoRuleFor t.rules q → ((other : RankRule) × IsRuleFor t.rules q other × ComesFirst other.paths a b) ⊎ (NoRuleFor t.rules q × IsShorter a b) → IsShorter a b
shorter_first t q a b none (inl other) = rule_or_none t.rules q other.0 other.1 none
shorter_first t q a b none (inr h) = h.1

pub shortest_prefers : (t : Table) (q : PrefixView) (a b : List ℕ) → (Originates t q t.router → ⊥) → NoRuleFor t.rules q → IsShorter a b ↔ IsPreferred t q a b
shortest_prefers t q a b apart none = (λ shorter. (apart, inr (none, shorter)), λ h. shorter_first t q a b none h.1)

-- the permitted paths are in order
preferred_self : (t : Table) (q : PrefixView) (p : List ℕ) → IsPreferred t q p p → ⊥
preferred_self t q p h = elim h.1 [
  | inl r ↦ r.2.other refl
  | inr s ↦ (shorter_first_is_an_order (λ p. Unit {0})).irreflexive p tt s.1
]

abbrev Ordered : Table → PrefixView → List ℕ → List ℕ → Type 0
Ordered t q a b = ((other : RankRule) × IsRuleFor t.rules q other × ComesFirst other.paths a b) ⊎ (NoRuleFor t.rules q × IsShorter a b)

ordered_trans : (t : Table) (holds : IsTable t) → HasItsLength → SameBitsSamePrefix → (q : PrefixView) (a b c : List ℕ) → Ordered t q a b → Ordered t q b c → Ordered t q a c
ordered_trans t holds has_length once q a b c (inl g) (inl h) =
    let same : h.0 ≡ g.0 = one_rule has_length once holds.all t.router t.rules holds.rules q h.0 g.0 h.1 g.1 in
    inl (g.0, g.1, comes_first_trans g.0.paths a b c g.2 (subst (λ r. ComesFirst r.paths b c) same h.2))
ordered_trans t holds has_length once q a b c (inl g) (inr h) = rule_or_none t.rules q g.0 g.1 h.0
ordered_trans t holds has_length once q a b c (inr g) (inl h) = rule_or_none t.rules q h.0 h.1 g.0
ordered_trans t holds has_length once q a b c (inr g) (inr h) = inr (g.0, shorter_trans a b c g.1 h.1)

ordered_total : (t : Table) (holds : IsTable t) → HasItsLength → SameBitsSamePrefix → (q : PrefixView) (a b : List ℕ) → a ≢ b → IsListed t.rules q a → IsListed t.rules q b → Ordered t q a b ⊎ Ordered t q b a
ordered_total t holds has_length once q a b apart (inl g) (inl h) =
    let same : h.0 ≡ g.0 = one_rule has_length once holds.all t.router t.rules holds.rules q h.0 g.0 h.1 g.1 in
    elim (comes_first_total g.0.paths a b g.2 (subst (λ r. Contains r.paths b) same h.2) apart) [
      | inl first ↦ inl (inl (g.0, g.1, first))
      | inr first ↦ inr (inl (g.0, g.1, first))
    ]
ordered_total t holds has_length once q a b apart (inl g) (inr h) = rule_or_none t.rules q g.0 g.1 h
ordered_total t holds has_length once q a b apart (inr g) (inl h) = rule_or_none t.rules q h.0 h.1 g
ordered_total t holds has_length once q a b apart (inr g) (inr h) = elim (shorter_total a b apart) [
  | inl shorter ↦ inl (inr (g, shorter))
  | inr shorter ↦ inr (inr (g, shorter))
]

preferred_total : (t : Table) (holds : IsTable t) → HasItsLength → SameBitsSamePrefix → (q : PrefixView) (a b : List ℕ) → a ≢ b → IsPermitted t q a → IsPermitted t q b → IsPreferred t q a b ⊎ IsPreferred t q b a
preferred_total t holds has_length once q a b apart (inl g) (inl h) = absurd (apart (g.1 ∙ sym h.1))
preferred_total t holds has_length once q a b apart (inl g) (inr h) = absurd (h.0 g.0)
preferred_total t holds has_length once q a b apart (inr g) (inl h) = absurd (g.0 h.0)
preferred_total t holds has_length once q a b apart (inr g) (inr h) = elim (ordered_total t holds has_length once q a b apart g.2 h.2) [
  | inl first ↦ inl (g.0, first)
  | inr first ↦ inr (g.0, first)
]

pub each_policy_is_an_order : HasItsLength → SameBitsSamePrefix → EachPolicyIsAnOrder
each_policy_is_an_order has_length once t holds q = record {
  irreflexive = λ p is h. preferred_self t q p h;
  transitive = λ p r s is_p is_r is_s g h. (g.0, ordered_trans t holds has_length once q p r s g.1 h.1);
  total = λ p r is_p is_r apart. preferred_total t holds has_length once q p r apart is_p is_r;
}

pub each_one_rule : HasItsLength → SameBitsSamePrefix → OneRule
each_one_rule has_length once t holds q rule other h g = one_rule has_length once holds.all t.router t.rules holds.rules q rule other h g
