-- The least prefix of a network of which something does not hold is the first one that fails its test.
use Rattle.std.proofs.Common.{◌≡◌, ℕ, zero, suc, ◌<◌, Bool, true, false, not, cond, List, [], ◌∷◌, length, map, Option, None, Some, refl, sym, ap, subst, ◌∙◌, arith, get_or}
use Rattle.std.specs.Prelude.{MatchOption, is_some, ◌||◌}
use Rattle.std.specs.Bool.{Decides}
use Rattle.std.specs.List.{AllPairs, find, list_any}
use Rattle.std.proofs.lemmas.Bool.{false_from_ne_true}
use Rattle.prefix_lanes.specs.Bits.{PrefixView}
use Rattle.ranked_policy.specs.declared.network.Origin.{Origin}
use Rattle.ranked_policy.specs.Plans.{IsNamed, IsBefore}
use Rattle.rib_tables.specs.Least.{HoldsOfAll, IsLeastWithout}

-- what is found is there just where something passes
pub any_is_found : {A : Type 0} (p : A → Bool) (xs : List A) → list_any p xs ≡ is_some (find p xs)
any_is_found p [] = refl
any_is_found p (x ∷ xs) = at (p x) (any_is_found p xs)
  where
    at : (b : Bool) → list_any p xs ≡ is_some (find p xs) → (b || list_any p xs) ≡ is_some (cond b (Some x) (find p xs))
    at true h = refl
    at false h = h

pub named_here : (o : Origin) (os : List Origin) → IsNamed (o ∷ os) o.prefix
named_here o os = (0, o, omega arith, refl, refl)

pub named_further : (o : Origin) (os : List Origin) (q : PrefixView) → IsNamed os q → IsNamed (o ∷ os) q
named_further o os q n = let lt = n.2 in (suc n.0, n.1, omega arith, n.3, n.4)

module _ (test : PrefixView → Bool) where
  abbrev fails : PrefixView → Bool
  fails q = not (test q)

  none_left : (os : List Origin) → ((q : PrefixView) → IsNamed os q → test q ≡ true) → find fails (map (λ o. o.prefix) os) ≡ None
  none_left [] all = refl
  none_left (o ∷ os) all = rw (all o.prefix (named_here o os)) (none_left os (λ q n. all q (named_further o os q n)))

  first_left : (os : List Origin) → AllPairs (λ a b. IsBefore a.prefix b.prefix) os → (q : PrefixView) (k : ℕ) (x : Origin) → k < length os → get_or os k x ≡ x → x.prefix ≡ q → test q ≡ false
      → ((p : PrefixView) → IsNamed os p → IsBefore p q → test p ≡ true) → find fails (map (λ o. o.prefix) os) ≡ Some q
  first_left [] rising q k x lt at is f before = absurd (omega (arith, lt))
  first_left (o ∷ os) rising q zero x lt at is f before =
      let here : o.prefix ≡ q = ap (λ (y : Origin). y.prefix) at ∙ is in
      let fail : test o.prefix ≡ false = ap test here ∙ f in
      rw fail (ap Some here)
  first_left (o ∷ os) rising q (suc k) x lt at is f before =
      let there : (get_or os k x).prefix ≡ q = ap (λ (y : Origin). y.prefix) at ∙ is in
      let less : IsBefore o.prefix q = subst (IsBefore o.prefix) there (rising 0 (suc k) x (omega arith) lt) in
      let rest : AllPairs (λ a b. IsBefore a.prefix b.prefix) os = λ i j d l m. rising (suc i) (suc j) d (omega (arith, l)) (omega (arith, m)) in
      rw (before o.prefix (named_here o os) less) (first_left os rest q k x (omega (arith, lt)) at is f (λ p n. before p (named_further o os p n)))

  pub least_is : (Holds : PrefixView → Type 0) (os : List Origin) → AllPairs (λ a b. IsBefore a.prefix b.prefix) os → ((q : PrefixView) → IsNamed os q → Decides (test q) (Holds q))
      → (found : Option PrefixView) → MatchOption found (HoldsOfAll os Holds) (IsLeastWithout os Holds) → found ≡ find fails (map (λ o. o.prefix) os)
  least_is Holds os rising decides None h = sym (none_left os (λ q n. (decides q n).1 (h q n)))
  least_is Holds os rising decides (Some q) h =
      let n = h.is_named in
      let d = decides q n in
      sym (first_left os rising q n.0 n.1 n.2 n.3 n.4 (false_from_ne_true (test q) (λ t. h.fails (d.0 t))) (λ p m b. (decides p m).1 (h.before p m b)))
