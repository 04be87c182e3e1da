-- A router that may have many paths has no rule for the prefix, since a rule lists at most 32.
use Rattle.std.proofs.Common.{◌≡◌, ◌≢◌, ℕ, zero, suc, ◌<◌, ◌≤◌, List, [], ◌∷◌, length, get_or, refl, sym, ap, subst, ◌∙◌, arith, inl, inr, ◌⊎◌}
use Rattle.std.specs.List.{All, AllPairs, Contains}
use Rattle.std.proofs.lemmas.Bool.{cases_order, cases_lt}
use Rattle.std.proofs.lemmas.List.{get_or_default}
use Rattle.std.proofs.lemmas.List.Elements.{All-contains}
use Rattle.ranked_policy.specs.declared.limits.TheConstants.{MOST_PATHS}
use Rattle.ranked_policy.specs.declared.network.RankRule.{RankRule}
use Rattle.ranked_policy.specs.Plans.{AreRanked}
use Rattle.ranked_policy.specs.Policies.{Table, IsTable, IsTableOf, Originates, IsRuleFor, NoRuleFor, IsPermitted}
use Rattle.ranked_policy.specs.Promises.{OneRule}
use Rattle.stable_paths.specs.Stable.{Problem, IsInstance}
use Rattle.ranked_policy.proofs.OneTable.{table_stands}
use Rattle.stable_search.specs.Fits.{MayStand}

-- ---- no more different numbers than there are

abbrev pick : (a n last : ℕ) → (a ≡ n) ⊎ ((a < n) ⊎ (n < a)) → ℕ
pick a n last (inl same) = last
pick a n last (inr differ) = a

pick_is : (a n last : ℕ) (o : (a ≡ n) ⊎ ((a < n) ⊎ (n < a))) → ((a ≡ n) × (pick a n last o ≡ last)) ⊎ ((a ≡ n → ⊥) × (pick a n last o ≡ a))
pick_is a n last (inl same) = inl (same, refl)
pick_is a n last (inr differ) = inr ((λ e. elim differ [ inl l ↦ omega (arith, l, e) | inr m ↦ omega (arith, m, e) ]), refl)

pigeons : (n m : ℕ) (f : ℕ → ℕ) → ((i : ℕ) → i < m → f i < n) → ((i j : ℕ) → i < j → j < m → f i ≡ f j → ⊥) → m ≤ n
pigeons zero zero f low apart = omega arith
pigeons zero (suc m) f low apart = absurd (let l = low 0 (omega arith) in omega (arith, l))
pigeons (suc n) zero f low apart = omega arith
pigeons (suc n) (suc m) f low apart =
    let le = pigeons n m (λ i. pick (f i) n (f m) (cases_order (f i) n)) low_on apart_on in
    omega (arith, le)
  where
    low_on : (i : ℕ) → i < m → pick (f i) n (f m) (cases_order (f i) n) < n
    low_on i lt =
        let mine = low i (omega (arith, lt)) in
        let last = low m (omega arith) in
        elim (pick_is (f i) n (f m) (cases_order (f i) n)) [
          | inl x ↦ elim (cases_order (f m) n) [
            | inl same ↦ absurd (apart i m lt (omega arith) (x.0 ∙ sym same))
            | inr differ ↦ elim differ [ inl l ↦ omega (arith, x.1, l) | inr more ↦ absurd (omega (arith, last, more)) ]
          ]
          | inr x ↦ elim (cases_order (f i) n) [
            | inl same ↦ absurd (x.0 same)
            | inr differ ↦ elim differ [ inl l ↦ omega (arith, x.1, l) | inr more ↦ absurd (omega (arith, mine, more)) ]
          ]
        ]

    apart_on : (i j : ℕ) → i < j → j < m → pick (f i) n (f m) (cases_order (f i) n) ≡ pick (f j) n (f m) (cases_order (f j) n) → ⊥
    apart_on i j lt inside e =
        let last : m < suc m = omega arith in
        let first : i < m = omega (arith, lt, inside) in
        elim (pick_is (f i) n (f m) (cases_order (f i) n)) [
          | inl x ↦ elim (pick_is (f j) n (f m) (cases_order (f j) n)) [
            | inl y ↦ apart i j lt (omega (arith, inside)) (x.0 ∙ sym y.0)
            | inr y ↦ apart j m inside last (sym y.1 ∙ sym e ∙ x.1)
          ]
          | inr x ↦ elim (pick_is (f j) n (f m) (cases_order (f j) n)) [
            | inl y ↦ apart i m first last (sym x.1 ∙ e ∙ y.1)
            | inr y ↦ apart i j lt (omega (arith, inside)) (sym x.1 ∙ e ∙ y.1)
          ]
        ]

-- ---- no more different paths than are listed

module _ (xs ys : List (List ℕ)) (once : AllPairs (λ a b. a ≢ b) xs) (all : All (Contains ys) xs) where
  abbrev place_by : (i : ℕ) → (i < length xs) ⊎ (length xs ≤ i) → ℕ
  place_by i (inl lt) = (all i [] lt).0
  place_by i (inr past) = 0

  place_is : (i : ℕ) (o : (i < length xs) ⊎ (length xs ≤ i)) → i < length xs → (place_by i o < length ys) × (get_or ys (place_by i o) [] ≡ get_or xs i [])
  place_is i (inl lt) inside = (let c = all i [] lt in (c.1, get_or_default ys c.0 [] (get_or xs i []) c.1 ∙ c.2))
  place_is i (inr past) inside = absurd (omega (arith, past, inside))

  no_more : length xs ≤ length ys
  no_more = pigeons (length ys) (length xs) (λ i. place_by i (cases_lt i (length xs))) (λ i lt. (place_is i (cases_lt i (length xs)) lt).0) (λ i j lt inside e.
      once i j [] lt inside
      (sym (place_is i (cases_lt i (length xs)) (omega (arith, lt, inside))).1 ∙ ap (λ (n : ℕ). get_or ys n []) e ∙ (place_is j (cases_lt j (length xs)) inside).1))

-- ---- no rule

module _ (one : OneRule) (p : Problem) (is : IsInstance p) (router : ℕ) (table : Table) (of : IsTableOf p.net router table) (other : Originates table p.prefix table.router → ⊥) (paths : List (List ℕ))
    (many : 64 ≤ length paths) (may : All (MayStand p.net.links p.prefix table) paths) (once : AllPairs (λ a b. a ≢ b) paths) where
  holds : IsTable table
  holds = table_stands p.net router table is.problem.network of

  module _ (ruled : NoRuleFor table.rules p.prefix → ⊥) where
    abbrev IsByRule : List ℕ → Type 0
    IsByRule path = (path ≡ []) ⊎ ((rule : RankRule) × IsRuleFor table.rules p.prefix rule × Contains rule.paths path)

    listed_by : (path : List ℕ) → IsPermitted table p.prefix path → IsByRule path
    listed_by path (inl own) = absurd (other own.0)
    listed_by path (inr x) = elim x.2 [ inl by ↦ inr by | inr none ↦ absurd (ruled none) ]

    by_rule : (path : List ℕ) → MayStand p.net.links p.prefix table path → IsByRule path
    by_rule path (inl own) = absurd (other own.0)
    by_rule path (inr x) = elim x.1 [ inl none ↦ inl none | inr on ↦ listed_by path on.0 ]

    some_rule : (rule : RankRule) × IsRuleFor table.rules p.prefix rule
    some_rule = elim (by_rule (get_or paths 0 []) (may 0 [] (omega (arith, many)))) [
      | inr by ↦ (by.0, by.1)
      | inl none ↦ elim (by_rule (get_or paths 1 []) (may 1 [] (omega (arith, many)))) [
        | inr by ↦ (by.0, by.1)
        | inl also ↦ absurd (once 0 1 [] (omega arith) (omega (arith, many)) (none ∙ sym also))
      ]
    ]

    in_rule : All (Contains ([] ∷ some_rule.0.paths)) paths
    in_rule k d lt = elim (by_rule (get_or paths k d) (may k d lt)) [
      | inl none ↦ (0, omega arith, sym none)
      | inr by ↦
          let same : by.0 ≡ some_rule.0 = one table holds p.prefix by.0 some_rule.0 by.1 some_rule.1 in
          let c : Contains some_rule.0.paths (get_or paths k d) = subst (λ (r : RankRule). Contains r.paths (get_or paths k d)) same by.2 in
          (suc c.0, omega (arith, c.1), c.2)
    ]

    too_many_for_it : ⊥
    too_many_for_it =
        let few : length some_rule.0.paths ≤ MOST_PATHS =
        (All-contains (λ (r : RankRule). AreRanked holds.all table.router r.paths) table.rules some_rule.0 holds.rules.ranked some_rule.1.listed).few in
        let le = no_more paths ([] ∷ some_rule.0.paths) once in_rule in
        omega (arith, few, le, many)

  pub no_rule : NoRuleFor table.rules p.prefix
  no_rule i d lt covers = too_many_for_it (λ none. none i d lt covers)
