-- The tests of permitted paths and of their order, and the best of some choices.
use Rattle.std.proofs.Common.{◌≡◌, ◌≢◌, ℕ, zero, suc, ◌<◌, ◌≤◌, ◌==◌, ◌&&◌, ◌||◌, not, Bool, true, false, cond, List, [], ◌∷◌, ◌++◌, length, get_or, Option, Some, None, refl, sym, ap, subst, ◌∙◌, arith, inl, inr}
use Rattle.std.specs.Prelude.{nat_lt, nat_le, MatchOption}
use Rattle.std.specs.Bool.{Decides}
use Rattle.std.specs.List.{Any, Contains, list_any}
use mathlib.Core.Logic.{◌⊎◌}
use mathlib.Core.List.{IsPrefix}
use Rattle.std.proofs.lemmas.Bool.Decides.{nat_tests, Decides-and, Decides-or, Decides-eqb}
use Rattle.std.proofs.lemmas.Bool.{false≢true}
use Rattle.std.proofs.lemmas.List.{get_or_default}
use Rattle.std.proofs.lemmas.List.Folds.{Any-from_list_any, list_any-from_Any}
use Rattle.std.proofs.lemmas.List.Elements.{All-nil, All-cons, All-contains}
use Rattle.std.proofs.lemmas.List.Kept.{AllPairs-cons}
use Rattle.prefix_lanes.specs.Bits.{PrefixView, Covers, bits, is_prefix}
use Rattle.prefix_lanes.specs.Laws.{HasItsLength, SameBitsSamePrefix}
use Rattle.ranked_policy.specs.declared.network.RankRule.{RankRule}
use Rattle.ranked_policy.specs.Paths.{IsSimple, BeginsWith, EndsWith, IsRoute}
use Rattle.ranked_policy.specs.Orders.{IsStrictTotalOrder, ComesFirst, IsShorter}
use Rattle.ranked_policy.specs.Laws.{Above, above_from_first, first_from_above, Earlier, earlier_from_comes, comes_from_earlier}
use Rattle.ranked_policy.specs.Policies.{Table, IsTable, Originates, IsRuleFor, NoRuleFor, IsListed, IsPermitted, IsPreferred}
use Rattle.ranked_policy.specs.Promises.{OneRule}
use Rattle.ranked_policy.specs.Tests as test
use Rattle.ranked_policy.specs.Tests.{PermitsIsATest, PrefersIsATest, IsFirstOf, BestIsFirst}
use Rattle.ranked_policy.proofs.Rising.{pairs_head, pairs_tail}
use Rattle.ranked_policy.proofs.TableLemmas.{rule_or_none, each_one_rule, each_policy_is_an_order}

-- ---- tests put together

denied : {P : Type 0} (a : Bool) → Decides a P → Decides (not a) (P → ⊥)
denied true p = (λ t. absurd (false≢true t), λ never. absurd (never (p.0 refl)))
denied false p = (λ t h. false≢true (p.1 h), λ never. refl)

alike : {P Q : Type 0} (a : Bool) → Decides a P → (P → Q) → (Q → P) → Decides a Q
alike a p to back = (λ t. to (p.0 t), λ q. p.1 (back q))

lt_test : (a b : ℕ) → Decides (nat_lt a b) (a < b)
lt_test a b = (λ t. grind (arith, nat_tests, t), λ l. grind (arith, nat_tests, l))

le_test : (a b : ℕ) → Decides (nat_le a b) (a ≤ b)
le_test a b = (λ t. grind (arith, nat_tests, t), λ l. grind (arith, nat_tests, l))

any_test : {X : Type 0} (p : X → Bool) (P : X → Type 0) (xs : List X) → ((x : X) → Decides (p x) (P x)) → Decides (list_any p xs) (Any P xs)
any_test p P xs each = (
  λ t. let a = Any-from_list_any p xs t in (a.0, a.1, a.2, a.3, (each a.1).0 a.4),
  λ a. list_any-from_Any p xs (a.0, a.1, a.2, a.3, (each a.1).1 a.4),
)

-- `Contains` as `Any`
contains_test : {X : Type 0} (p : X → X → Bool) → ((x y : X) → Decides (p x y) (x ≡ y)) → (xs : List X) (y : X) → Decides (list_any (λ x. p x y) xs) (Contains xs y)
contains_test {X} p each xs y = alike (list_any (λ x. p x y) xs) (any_test (λ x. p x y) (λ x. x ≡ y) xs (λ x. each x y))
    (λ a. (a.0, a.2, subst (λ z. get_or xs a.0 z ≡ z) a.4 a.3)) (λ c. (c.0, y, c.1, c.2, refl))

-- ---- prefixes

pub prefix_test : (p q : PrefixView) → Decides (is_prefix p q) (p ≡ q)
prefix_test p q = alike (is_prefix p q) (Decides-and (p.addr == q.addr) (p.len == q.len) (Decides-eqb p.addr q.addr) (Decides-eqb p.len q.len))
    (λ h. λ i. record { addr = h.0 i; len = h.1 i }) (λ e. (ap (λ x. x.addr) e, ap (λ x. x.len) e))

bit_test : (x y : Bool) → Decides (test.same_bit x y) (x ≡ y)
bit_test true true = (λ t. refl, λ e. refl)
bit_test true false = (λ t. absurd (false≢true t), λ e. absurd (cc e))
bit_test false true = (λ t. absurd (false≢true t), λ e. absurd (cc e))
bit_test false false = (λ t. refl, λ e. refl)

begins_test : (xs ys : List Bool) → Decides (test.begins_with xs ys) (IsPrefix xs ys)
begins_test [] ys = (λ t. (ys, refl), λ h. refl)
begins_test (x ∷ xs) [] = (λ t. absurd (false≢true t), λ h. absurd (cc (h.1)))
begins_test (x ∷ xs) (y ∷ ys) = alike (test.same_bit x y && test.begins_with xs ys) (Decides-and (test.same_bit x y) (test.begins_with xs ys) (bit_test x y) (begins_test xs ys))
    (λ h. (h.1.0, joined h.1.0 h.0 h.1.1))
    (λ h. (let e : x ≡ y = cc (h.1) in e, (h.0, cc (h.1))))
  where
    joined : (rest : List Bool) → x ≡ y → xs ++ rest ≡ ys → x ∷ (xs ++ rest) ≡ y ∷ ys
    joined rest a b = cc (a, b)

covers_test : (p q : PrefixView) → Decides (test.covers p q) (Covers p q)
covers_test p q = begins_test (bits p) (bits q)

-- ---- paths

path_test : (a b : List ℕ) → Decides (test.same_path a b) (a ≡ b)
path_test [] [] = (λ t. refl, λ e. refl)
path_test [] (v ∷ vs) = (λ t. absurd (false≢true t), λ e. absurd (cc e))
path_test (u ∷ us) [] = (λ t. absurd (false≢true t), λ e. absurd (cc e))
path_test (u ∷ us) (v ∷ vs) = alike ((u == v) && test.same_path us vs) (Decides-and (u == v) (test.same_path us vs) (Decides-eqb u v) (path_test us vs))
    (λ h. (let a = h.0 in let b = h.1 in cc (a, b))) (λ e. (let a : u ≡ v = cc e in a, let b : us ≡ vs = cc e in b))

starts_test : (u : ℕ) (path : List ℕ) → Decides (test.starts_at u path) (BeginsWith path u)
starts_test u [] = (λ t. absurd (false≢true t), λ h. absurd (cc (h.1)))
starts_test u (v ∷ vs) = alike (v == u) (Decides-eqb v u) (λ e. (vs, ap (λ x. x ∷ vs) e)) (λ h. (let a : v ≡ u = cc (h.1) in a))

simple_test : (path : List ℕ) → Decides (test.is_simple path) (IsSimple path)
simple_test [] = (λ t. λ i j d l m. absurd (omega (arith, m)), λ h. refl)
simple_test (u ∷ us) = alike (not (list_any (λ v. v == u) us) && test.is_simple us) (Decides-and (not (list_any (λ v. v == u) us)) (test.is_simple us) (denied (list_any (λ v. v == u) us) (any_test (λ v. v == u) (λ v. v ≡ u) us (λ v. Decides-eqb v u))) (simple_test us))
    (λ h. AllPairs-cons (λ a b. a ≢ b) u us (λ k d l e. h.0 (k, get_or us k d, l, get_or_default us k (get_or us k d) d l, sym e)) h.1)
    (λ pairs. (λ any. pairs_head (λ a b. a ≢ b) u us pairs any.0 any.1 any.2 (sym (any.3 ∙ any.4)), pairs_tail (λ a b. a ≢ b) u us pairs))

-- the last number of a path
last_more : (u v : ℕ) (vs : List ℕ) (w : ℕ) → EndsWith (v ∷ vs) w → EndsWith (u ∷ v ∷ vs) w
last_more u v vs w h = (u ∷ h.0, ap (λ l. u ∷ l) h.1)

last_less : (u v : ℕ) (vs : List ℕ) (w : ℕ) → EndsWith (u ∷ v ∷ vs) w → EndsWith (v ∷ vs) w
last_less u v vs w ([], e) = absurd (cc e)
last_less u v vs w (x ∷ front, e) = (front, cc e)

last_one : (u w : ℕ) → EndsWith (u ∷ []) w → u ≡ w
last_one u w ([], e) = cc e
last_one u w (x ∷ [], e) = absurd (cc e)
last_one u w (x ∷ y ∷ front, e) = absurd (cc e)

last_none : (w : ℕ) → EndsWith [] w → ⊥
last_none w ([], e) = cc e
last_none w (x ∷ front, e) = cc e

ends_test : (p : ℕ → Bool) (P : ℕ → Type 0) → ((v : ℕ) → Decides (p v) (P v)) → (path : List ℕ) → Decides (test.ends_at p path) ((v : ℕ) × P v × EndsWith path v)
ends_test p P each [] = (λ t. absurd (false≢true t), λ h. absurd (last_none h.0 h.2))
ends_test p P each (u ∷ []) = alike (p u) (each u) (λ is. (u, is, ([], refl))) (λ h. subst P (sym (last_one u h.0 h.2)) h.1)
ends_test p P each (u ∷ v ∷ vs) = alike (test.ends_at p (v ∷ vs)) (ends_test p P each (v ∷ vs)) (λ h. (h.0, h.1, last_more u v vs h.0 h.2)) (λ h. (h.0, h.1, last_less u v vs h.0 h.2))

route_test : (u : ℕ) (p : ℕ → Bool) (P : ℕ → Type 0) → ((v : ℕ) → Decides (p v) (P v)) → (path : List ℕ) → Decides (test.is_route u p path) (IsRoute u P path)
route_test u p P each path =
    alike (test.is_route u p path)
    (Decides-and (test.starts_at u path) (test.is_simple path && (nat_le (length path) 16 && test.ends_at p path)) (starts_test u path)
    (Decides-and (test.is_simple path) (nat_le (length path) 16 && test.ends_at p path) (simple_test path) (Decides-and (nat_le (length path) 16) (test.ends_at p path) (le_test (length path) 16) (ends_test p P each path))))
    (λ h. record { begins = h.0; simple = h.1.0; short = h.1.1.0; ends = h.1.1.1 }) (λ r. (r.begins, (r.simple, (r.short, r.ends))))

-- ---- which comes first

above_test : (paths : List (List ℕ)) (a b : List ℕ) → Decides (test.comes_first paths a b) (Above paths a b)
above_test [] a b = (λ t. absurd (false≢true t), λ h. absurd h)
above_test (p ∷ ps) a b = Decides-and (not (test.same_path p b)) (test.same_path p a || test.comes_first ps a b) (denied (test.same_path p b) (path_test p b)) (Decides-or (test.same_path p a) (test.comes_first ps a b) (path_test p a) (above_test ps a b))

first_test : (paths : List (List ℕ)) (a b : List ℕ) → Decides (test.comes_first paths a b) (ComesFirst paths a b)
first_test paths a b = alike (test.comes_first paths a b) (above_test paths a b) (first_from_above paths a b) (above_from_first paths a b)

earlier_test : (a b : List ℕ) → Decides (test.comes_earlier a b) (Earlier a b)
earlier_test [] b = (λ t. absurd (false≢true t), λ h. absurd h)
earlier_test (x ∷ xs) [] = (λ t. absurd (false≢true t), λ h. absurd h)
earlier_test (x ∷ xs) (y ∷ ys) = Decides-or (nat_lt x y) ((x == y) && test.comes_earlier xs ys) (lt_test x y) (Decides-and (x == y) (test.comes_earlier xs ys) (Decides-eqb x y) (earlier_test xs ys))

shorter_test : (a b : List ℕ) → Decides (test.is_shorter a b) (IsShorter a b)
shorter_test a b = Decides-or (nat_lt (length a) (length b)) ((length a == length b) && test.comes_earlier a b) (lt_test (length a) (length b))
    (Decides-and (length a == length b) (test.comes_earlier a b) (Decides-eqb (length a) (length b)) (alike (test.comes_earlier a b) (earlier_test a b) (comes_from_earlier a b) (earlier_from_comes a b)))

-- ---- the rule of a prefix

abbrev IsFound : List RankRule → PrefixView → Option RankRule → Type 0
IsFound rules q None = NoRuleFor rules q
IsFound rules q (Some rule) = IsRuleFor rules q rule

pub contains_cons : {X : Type 0} (x : X) (xs : List X) (y : X) → Contains xs y → Contains (x ∷ xs) y
contains_cons x xs y c = (suc c.0, omega (arith, c.1), c.2)

here : {X : Type 0} (x : X) (xs : List X) → Contains (x ∷ xs) x
here x xs = (0, omega arith, refl)

found_more : (rule : RankRule) (rules : List RankRule) (q : PrefixView) (found : Option RankRule) → IsFound rules q found → Covers rule.prefix q → IsRuleFor (rule ∷ rules) q (test.longer rule found)
found_more rule rules q None none covers = record {
  listed = here rule rules;
  covers = covers;
  longest = All-cons (λ other. Covers other.prefix q → other.prefix.len ≤ rule.prefix.len) rule rules (λ c. omega arith) (λ k d l c. absurd (none k d l c));
}
found_more rule rules q (Some other) is covers = at (nat_lt rule.prefix.len other.prefix.len) refl
  where
    at : (b : Bool) → nat_lt rule.prefix.len other.prefix.len ≡ b → IsRuleFor (rule ∷ rules) q (cond b other rule)
    at true less =
        let l : rule.prefix.len < other.prefix.len = grind (arith, nat_tests, less) in
        record {
          listed = contains_cons rule rules other is.listed;
          covers = is.covers;
          longest = All-cons (λ r. Covers r.prefix q → r.prefix.len ≤ other.prefix.len) rule rules (λ c. omega (arith, l)) is.longest;
        }
    at false above =
        let l : other.prefix.len ≤ rule.prefix.len = grind (arith, nat_tests, above) in
        record {
          listed = here rule rules;
          covers = covers;
          longest = All-cons (λ r. Covers r.prefix q → r.prefix.len ≤ rule.prefix.len) rule rules (λ c. omega arith) (λ k d m c. (let t = is.longest k d m c in omega (arith, l, t)));
        }

found_same : (rule : RankRule) (rules : List RankRule) (q : PrefixView) (found : Option RankRule) → IsFound rules q found → (Covers rule.prefix q → ⊥) → IsFound (rule ∷ rules) q found
found_same rule rules q None none miss = All-cons (λ r. Covers r.prefix q → ⊥) rule rules miss none
found_same rule rules q (Some other) is miss = record {
  listed = contains_cons rule rules other is.listed;
  covers = is.covers;
  longest = All-cons (λ r. Covers r.prefix q → r.prefix.len ≤ other.prefix.len) rule rules (λ c. absurd (miss c)) is.longest;
}

rule_found : (rules : List RankRule) (q : PrefixView) → IsFound rules q (test.rule_for rules q)
rule_found [] q = All-nil (λ r. Covers r.prefix q → ⊥)
rule_found (rule ∷ rules) q = at (test.covers rule.prefix q) (covers_test rule.prefix q) (rule_found rules q)
  where
    at : (b : Bool) → Decides b (Covers rule.prefix q) → IsFound rules q (test.rule_for rules q) → IsFound (rule ∷ rules) q (cond b (Some (test.longer rule (test.rule_for rules q))) (test.rule_for rules q))
    at true c is = found_more rule rules q (test.rule_for rules q) is (c.0 refl)
    at false c is = found_same rule rules q (test.rule_for rules q) is (λ h. false≢true (c.1 h))

-- of the rules of a table, the longest that covers a prefix is the one that is found, and where none covers it none is found
pub rule_is : OneRule → (t : Table) → IsTable t → (q : PrefixView) {A : Type 0} (what : A → RankRule) (r : Option A) → MatchOption r (NoRuleFor t.rules q) (λ x. IsRuleFor t.rules q (what x))
    → MatchOption r (test.rule_for t.rules q ≡ None) (λ x. test.rule_for t.rules q ≡ Some (what x))
rule_is one t table q what None none = at (test.rule_for t.rules q) (rule_found t.rules q)
  where
    at : (found : Option RankRule) → IsFound t.rules q found → found ≡ None
    at None same = refl
    at (Some other) found = rule_or_none t.rules q other found none
rule_is one t table q what (Some x) is = at (test.rule_for t.rules q) (rule_found t.rules q)
  where
    at : (found : Option RankRule) → IsFound t.rules q found → found ≡ Some (what x)
    at None none = rule_or_none t.rules q (what x) is none
    at (Some other) found = ap Some (one t table q other (what x) found is)

-- ---- a router's policy

pub origin_test : (t : Table) (q : PrefixView) (u : ℕ) → Decides (test.originates t q u) (Originates t q u)
origin_test t q u = any_test (λ o. is_prefix o.prefix q && (o.router == u)) (λ o. (o.prefix ≡ q) × (o.router ≡ u)) t.origins
    (λ o. Decides-and (is_prefix o.prefix q) (o.router == u) (prefix_test o.prefix q) (Decides-eqb o.router u))

module _ (one : OneRule) (t : Table) (table : IsTable t) (q : PrefixView) where
  listed_test : (found : Option RankRule) (path : List ℕ) → IsFound t.rules q found → Decides (test.is_listed found path) (IsListed t.rules q path)
  listed_test None path none = (λ h. inr none, λ h. refl)
  listed_test (Some rule) path is = alike (list_any (λ p. test.same_path p path) rule.paths) (contains_test test.same_path path_test rule.paths path)
      (λ c. inl (rule, is, c))
      (λ h. elim h [
        | inl x ↦ subst (λ (r : RankRule). Contains r.paths path) (one t table q x.0 rule x.1 is) x.2
        | inr none ↦ rule_or_none t.rules q rule is none
      ])

  abbrev Before : List ℕ → List ℕ → Type 0
  Before a b = ((rule : RankRule) × IsRuleFor t.rules q rule × ComesFirst rule.paths a b) ⊎ (NoRuleFor t.rules q × IsShorter a b)

  before_test : (found : Option RankRule) (a b : List ℕ) → IsFound t.rules q found → Decides (test.comes_before found a b) (Before a b)
  before_test None a b none = alike (test.is_shorter a b) (shorter_test a b) (λ s. inr (none, s))
      (λ h. elim h [ inl x ↦ rule_or_none t.rules q x.0 x.1 none | inr x ↦ x.1 ])
  before_test (Some rule) a b is = alike (test.comes_first rule.paths a b) (first_test rule.paths a b) (λ f. inl (rule, is, f))
      (λ h. elim h [
        | inl x ↦ subst (λ (r : RankRule). ComesFirst r.paths a b) (one t table q x.0 rule x.1 is) x.2
        | inr x ↦ rule_or_none t.rules q rule is x.0
      ])

  permits_test : (path : List ℕ) → Decides (test.permits t q path) (IsPermitted t q path)
  permits_test path = at (test.originates t q t.router) (origin_test t q t.router)
    where
      found : IsFound t.rules q (test.rule_for t.rules q)
      found = rule_found t.rules q

      at : (b : Bool) → Decides b (Originates t q t.router)
          → Decides (cond b (test.same_path path (t.router ∷ [])) (test.is_route t.router (test.originates t q) path && test.is_listed (test.rule_for t.rules q) path)) (IsPermitted t q path)
      at true o = alike (test.same_path path (t.router ∷ [])) (path_test path (t.router ∷ [])) (λ e. inl (o.0 refl, e)) (λ h. elim h [ inl x ↦ x.1 | inr x ↦ absurd (x.0 (o.0 refl)) ])
      at false o = alike (test.is_route t.router (test.originates t q) path && test.is_listed (test.rule_for t.rules q) path)
          (Decides-and (test.is_route t.router (test.originates t q) path) (test.is_listed (test.rule_for t.rules q) path)
          (route_test t.router (test.originates t q) (Originates t q) (λ u. origin_test t q u) path) (listed_test (test.rule_for t.rules q) path found))
          (λ h. inr ((λ is. false≢true (o.1 is)), h.0, h.1)) (λ h. elim h [ inl x ↦ absurd (false≢true (o.1 x.0)) | inr x ↦ (x.1, x.2) ])

  prefers_test : (a b : List ℕ) → Decides (test.prefers t q a b) (IsPreferred t q a b)
  prefers_test a b = Decides-and (not (test.originates t q t.router)) (test.comes_before (test.rule_for t.rules q) a b) (denied (test.originates t q t.router) (origin_test t q t.router))
      (before_test (test.rule_for t.rules q) a b (rule_found t.rules q))

  -- ---- the best of some choices

  nothing_permitted : IsPermitted t q [] → ⊥
  nothing_permitted (inl x) = cc (x.1)
  nothing_permitted (inr x) = (let b = x.1.begins in cc (b.1))

  abbrev IsBestOf : List (List ℕ) → List ℕ → Type 0
  IsBestOf choices best = IsFirstOf t q choices best ⊎ ((best ≡ []) × ((other : List ℕ) → Contains choices other → IsPermitted t q other → ⊥))

  uncons : {A : Type 0} (c : List ℕ) (cs : List (List ℕ)) (other : List ℕ) → Contains (c ∷ cs) other → (c ≡ other → A) → (Contains cs other → A) → A
  uncons c cs other (zero, l, e) same rest = same e
  uncons c cs other (suc k, l, e) same rest = rest (k, omega (arith, l), e)

  module _ (order : IsStrictTotalOrder (IsPermitted t q) (IsPreferred t q)) where
    taken : (c : List ℕ) (cs : List (List ℕ)) (best : List ℕ) → IsBestOf cs best → IsPermitted t q c → (best ≡ []) ⊎ IsPreferred t q c best → IsBestOf (c ∷ cs) c
    taken c cs best (inr none) may why = inl (record {
      listed = here c cs;
      permitted = may;
      before = λ other has other_may apart. uncons c cs other has (λ e. absurd (apart e)) (λ k. absurd (none.1 other k other_may));
    })
    taken c cs best (inl first) may (inl empty) = absurd (nothing_permitted (subst (IsPermitted t q) empty first.permitted))
    taken c cs best (inl first) may (inr better) = inl (record {
      listed = here c cs;
      permitted = may;
      before = λ other has other_may apart. uncons c cs other has (λ e. absurd (apart e)) (λ k. by other other_may k (test.same_path best other) (path_test best other));
    })
      where
        by : (other : List ℕ) → IsPermitted t q other → Contains cs other → (b : Bool) → Decides b (best ≡ other) → IsPreferred t q c other
        by other other_may k true e = subst (IsPreferred t q c) (e.0 refl) better
        by other other_may k false e = order.transitive c best other may first.permitted other_may better (first.before other k other_may (λ same. false≢true (e.1 same)))

    stays : (c : List ℕ) (cs : List (List ℕ)) (best : List ℕ) → IsBestOf cs best → (IsPermitted t q c → (best ≡ []) ⊎ IsPreferred t q c best → ⊥) → IsBestOf (c ∷ cs) best
    stays c cs best (inr none) worse = inr (none.0, λ other has other_may. uncons c cs other has (λ e. worse (subst (IsPermitted t q) (sym e) other_may) (inl none.0)) (λ k. none.1 other k other_may))
    stays c cs best (inl first) worse = inl (record {
      listed = contains_cons c cs best first.listed;
      permitted = first.permitted;
      before = λ other has other_may apart. uncons c cs other has
          (λ e. elim (order.total best other first.permitted other_may apart) [
            | inl mine ↦ mine
            | inr theirs ↦ absurd (worse (subst (IsPermitted t q) (sym e) other_may) (inr (subst (λ p. IsPreferred t q p best) (sym e) theirs)))
          ])
          (λ k. first.before other k other_may apart);
    })

    pub best_is : (cs : List (List ℕ)) → IsBestOf cs (test.best_of t q cs)
    best_is [] = inr (refl, λ other has may. absurd (let l = has.1 in omega (arith, l)))
    best_is (c ∷ cs) = at (test.permits t q c && (test.same_path best [] || test.prefers t q c best))
        (Decides-and (test.permits t q c) (test.same_path best [] || test.prefers t q c best) (permits_test c) (Decides-or (test.same_path best []) (test.prefers t q c best) (path_test best []) (prefers_test c best)))
        (best_is cs)
      where
        best : List ℕ
        best = test.best_of t q cs

        at : (b : Bool) → Decides b (IsPermitted t q c × ((best ≡ []) ⊎ IsPreferred t q c best)) → IsBestOf cs best → IsBestOf (c ∷ cs) (cond b c best)
        at true why is = (let w = why.0 refl in taken c cs best is w.0 w.1)
        at false why is = stays c cs best is (λ may better. false≢true (why.1 (may, better)))

pub permits_is_a_test : HasItsLength → SameBitsSamePrefix → PermitsIsATest
permits_is_a_test has_length once t table q path = permits_test (each_one_rule has_length once) t table q path

pub prefers_is_a_test : HasItsLength → SameBitsSamePrefix → PrefersIsATest
prefers_is_a_test has_length once t table q a b = prefers_test (each_one_rule has_length once) t table q a b

pub best_is_first : HasItsLength → SameBitsSamePrefix → BestIsFirst
best_is_first has_length once t table q choices = best_is (each_one_rule has_length once) t table q (each_policy_is_an_order has_length once t table q) choices
