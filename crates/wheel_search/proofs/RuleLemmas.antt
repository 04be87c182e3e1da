-- What a router permits and prefers, by its rule.
use Rattle.std.proofs.Common.{◌≡◌, ◌≢◌, ℕ, suc, ◌<◌, ◌≤◌, Bool, true, false, List, [], ◌∷◌, ◌++◌, length, get_or, take, drop, refl, sym, ap, subst, ◌∙◌, arith, inl, inr, Option, Some, None}
use Rattle.std.specs.Prelude.{not, ◌&&◌, ◌||◌}
use Rattle.std.specs.Bool.{Decides}
use Rattle.std.specs.List.{All, AllPairs, Contains}
use Rattle.std.proofs.Common.{drop-cons}
use Rattle.std.proofs.lemmas.List.{get_or-take, take-append-drop, length-take-le, get_or_default}
use Rattle.std.proofs.lemmas.List.Elements.{Contains-get_or}
use Rattle.prefix_lanes.specs.Bits.{PrefixView}
use Rattle.ranked_policy.specs.declared.network.RankRule.{RankRule}
use Rattle.ranked_policy.specs.Paths.{EndsWith, BeginsWith}
use Rattle.ranked_policy.specs.Plans.{AreRanked}
use Rattle.ranked_policy.specs.Policies.{Table, IsTable, Originates, IsRuleFor, NoRuleFor, IsPermitted, IsPreferred}
use Rattle.ranked_policy.specs.Promises.{OneRule}
use Rattle.ranked_policy.specs.Tests as test
use Rattle.ranked_policy.specs.Tests.{PrefersIsATest, rule_for}
use Rattle.ranked_policy.proofs.TestLemmas.{rule_is, origin_test}
use Rattle.dispute_wheels.proofs.TestLemmas.{path_test}

module _ (tests : PrefersIsATest) (one : OneRule) (t : Table) (is : IsTable t) (q : PrefixView) (other : Originates t q t.router → ⊥) where
  not_origin : test.originates t q t.router ≡ false
  not_origin = at (test.originates t q t.router) (origin_test t q t.router)
    where
      at : (b : Bool) → Decides b (Originates t q t.router) → b ≡ false
      at true d = absurd (other (d.0 refl))
      at false d = refl

  -- the rule that is found is the one that covers
  the_rule : (rule found : RankRule) → rule_for t.rules q ≡ Some rule → IsRuleFor t.rules q found → found ≡ rule
  the_rule rule found e f =
      let h : rule_for t.rules q ≡ Some found = rule_is one t is q (λ (x : RankRule). x) (Some found) f in
      some_same (sym h ∙ e)
    where
      some_same : Some found ≡ Some rule → found ≡ rule
      some_same e = cc (e)

  pub rule_there : (rule : RankRule) → rule_for t.rules q ≡ Some rule → NoRuleFor t.rules q → ⊥
  rule_there rule e none =
      let h : rule_for t.rules q ≡ None = rule_is one t is q (λ (x : RankRule). x) None none in
      absurd (cc (sym h ∙ e))

  pub no_rule : rule_for t.rules q ≡ None → NoRuleFor t.rules q
  no_rule e =
      let shorter : test.prefers t q [] (0 ∷ []) ≡ true = ap (λ (b : Bool). not b && test.comes_before (rule_for t.rules q) [] (0 ∷ [])) not_origin ∙ ap (λ (r : Option RankRule). test.comes_before r [] (0 ∷ [])) e in
      let p = (tests t is q [] (0 ∷ [])).0 shorter in
      elim p.1 [
        | inl x ↦ absurd (wrong x.0 x.1)
        | inr x ↦ x.0
      ]
    where
      wrong : (rule : RankRule) → IsRuleFor t.rules q rule → ⊥
      wrong rule f = let h : rule_for t.rules q ≡ Some rule = rule_is one t is q (λ (x : RankRule). x) (Some rule) f in absurd (cc (sym h ∙ e))

  -- a rule that lists a path is the one that covers
  pub rule_covers : (rule : RankRule) → rule_for t.rules q ≡ Some rule → (path : List ℕ) (ps : List (List ℕ)) → rule.paths ≡ path ∷ ps → IsRuleFor t.rules q rule
  rule_covers rule e path ps has =
      let other_path : List ℕ = 0 ∷ path in
      let first : test.comes_first rule.paths path other_path ≡ true = ap (λ (xs : List (List ℕ)). test.comes_first xs path other_path) has ∙ comes path ps in
      let pref : test.prefers t q path other_path ≡ true = ap (λ (b : Bool). not b && test.comes_before (rule_for t.rules q) path other_path) not_origin
      ∙ ap (λ (r : Option RankRule). test.comes_before r path other_path) e ∙ first in
      let p = (tests t is q path other_path).0 pref in
      elim p.1 [
        | inl x ↦ subst (IsRuleFor t.rules q) (the_rule rule x.0 e x.1) x.1
        | inr x ↦ absurd (rule_there rule e x.0)
      ]
    where
      not_longer : (path : List ℕ) → test.same_path path (0 ∷ path) ≡ false
      not_longer path = at (test.same_path path (0 ∷ path)) (path_test path (0 ∷ path))
        where
          at : (b : Bool) → Decides b (path ≡ 0 ∷ path) → b ≡ false
          at true d = absurd (omega (arith, ap length (d.0 refl)))
          at false d = refl

      itself : (path : List ℕ) → test.same_path path path ≡ true
      itself path = (path_test path path).1 refl

      comes : (path : List ℕ) (ps : List (List ℕ)) → test.comes_first (path ∷ ps) path (0 ∷ path) ≡ true
      comes path ps = ap (λ (b : Bool). not b && (test.same_path path path || test.comes_first ps path (0 ∷ path))) (not_longer path)
          ∙ ap (λ (b : Bool). b || test.comes_first ps path (0 ∷ path)) (itself path)

  -- a permitted path is listed
  pub permitted_listed : (rule : RankRule) → rule_for t.rules q ≡ Some rule → (path : List ℕ) → IsPermitted t q path → Contains rule.paths path
  permitted_listed rule e path (inl own) = absurd (other own.0)
  permitted_listed rule e path (inr x) = elim x.2 [
    | inl l ↦ subst (λ (r : RankRule). Contains r.paths path) (the_rule rule l.0 e l.1) l.2
    | inr none ↦ absurd (rule_there rule e none)
  ]

  ranked_of : (rule : RankRule) → IsRuleFor t.rules q rule → AreRanked is.all t.router rule.paths
  ranked_of rule f = let at = f.listed in subst (λ (r : RankRule). AreRanked is.all t.router r.paths) at.2 (is.rules.ranked at.0 rule at.1)

  first_of : (paths : List (List ℕ)) (path : List ℕ) → Contains paths path → (first : List ℕ) × (others : List (List ℕ)) × (paths ≡ first ∷ others)
  first_of [] path c = absurd (omega (arith, c.1))
  first_of (x ∷ xs) path c = (x, xs, refl)

  pub rule_of : (rule : RankRule) → rule_for t.rules q ≡ Some rule → (path : List ℕ) → Contains rule.paths path → IsRuleFor t.rules q rule
  rule_of rule e path c = let f = first_of rule.paths path c in rule_covers rule e f.0 f.1 f.2

  pub listed_begins : (rule : RankRule) → rule_for t.rules q ≡ Some rule → All (λ path. BeginsWith path t.router) rule.paths
  listed_begins rule e k d l =
      let f = rule_of rule e (get_or rule.paths k d) (Contains-get_or rule.paths k d l) in
      (ranked_of rule f).begins k d l

  -- a listed path that ends at an origin is permitted
  pub listed_permitted : (rule : RankRule) → rule_for t.rules q ≡ Some rule → (path : List ℕ) (v : ℕ) → Contains rule.paths path → Originates t q v → EndsWith path v → IsPermitted t q path
  listed_permitted rule e path v c o ends =
      let f = rule_of rule e path c in
      let r = ranked_of rule f in
      inr (
        other,
        record {
          begins = subst (λ (p : List ℕ). BeginsWith p t.router) c.2 (r.begins c.0 path c.1);
          simple = subst (λ (p : List ℕ). AllPairs (λ u v. u ≢ v) p) c.2 (r.simple c.0 path c.1);
          short = subst (λ (p : List ℕ). length p ≤ 16) c.2 (r.short c.0 path c.1);
          ends = (v, o, ends);
        },
        inl (rule, f, c),
      )

  -- of two listed paths the first is preferred
  pub listed_order : (rule : RankRule) → rule_for t.rules q ≡ Some rule → (i j : ℕ) → i < j → j < length rule.paths → IsPreferred t q (get_or rule.paths i []) (get_or rule.paths j [])
  listed_order rule e i j less below =
      let f = rule_of rule e (get_or rule.paths j []) (Contains-get_or rule.paths j [] below) in
      let r = ranked_of rule f in (
        other,
        inl (
          rule,
          f,
          record {
            before = take i rule.paths;
            behind = drop (suc i) rule.paths;
            whole = sym (take-append-drop i rule.paths) ∙ ap (λ (xs : List (List ℕ)). take i rule.paths ++ xs) (drop-cons rule.paths i [] (omega (arith, less, below)));
            not_before = λ c.
                (let short : length (take i rule.paths) ≡ i = length-take-le i rule.paths (omega (arith, less, below)) in
                let at : c.0 < i = omega (arith, c.1, short) in
                let here : get_or rule.paths c.0 (get_or rule.paths j []) ≡ get_or rule.paths j [] = sym (get_or-take i rule.paths c.0 (get_or rule.paths j []) at) ∙ c.2 in
                r.distinct c.0 j [] (omega (arith, at, less)) below (get_or_default rule.paths c.0 [] (get_or rule.paths j []) (omega (arith, at, less, below)) ∙ here));
            other = r.distinct i j [] less below;
          },
        ),
      )
