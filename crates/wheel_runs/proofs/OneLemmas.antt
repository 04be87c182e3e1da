-- One stable assignment is one choice in each part.
use Rattle.std.proofs.Common.{◌≡◌, ℕ, zero, suc, ◌*◌, ◌<◌, ◌≤◌, Bool, true, false, cond, List, [], ◌∷◌, length, map, get_or, refl, sym, ap, subst, ◌∙◌, arith, inl, inr, mul-zero, zero-mul, one-mul}
use Rattle.std.specs.Prelude.{filter}
use Rattle.std.proofs.lemmas.Bool.{cases_Bool}
use Rattle.std.proofs.lemmas.List.Elements.{All-filter}
use Rattle.std.specs.List.{All}
use Rattle.std.proofs.lemmas.List.{get_or_default}
use Rattle.ranked_policy.specs.Plans.{IsRouter}
use Rattle.stable_paths.specs.Stable.{Problem, IsStable}
use Rattle.stable_search.specs.declared.every.Component.{Component}
use Rattle.stable_search.specs.declared.every.Every.{Every}
use Rattle.stable_search.specs.Every.{choices_of, IsEveryStable, factor_of, number_of}
use Rattle.stable_search.specs.Counting.{what_all_have, leads, AreCounted, StableAreCounted}
use Rattle.dispute_wheels.specs.Promises.{SafeHaveOneStable}
use Rattle.wheel_runs.specs.Settling.{SafeHaveOneChoice}

-- the same paths at each of some routers
same_map : (f h : ℕ → List ℕ) (us : List ℕ) → ((k : ℕ) → k < length us → f (get_or us k 0) ≡ h (get_or us k 0)) → map f us ≡ map h us
same_map f h [] same = refl
same_map f h (u ∷ us) same =
    let here : f u ≡ h u = same 0 (omega arith) in
    let more : map f us ≡ map h us = same_map f h us (λ k l. same (suc k) (omega (arith, l))) in
    cc (here, more)

same_parts : (f h : ℕ → List ℕ) (parts : List Component) → ((part : Component) (k : ℕ) → k < length parts → get_or parts k part ≡ part → map f part.routers ≡ map h part.routers)
    → what_all_have f parts ≡ what_all_have h parts
same_parts f h [] same = refl
same_parts f h (part ∷ parts) same =
    let here : map f part.routers ≡ map h part.routers = same part 0 (omega arith) refl in
    let more : what_all_have f parts ≡ what_all_have h parts = same_parts f h parts (λ it k l e. same it (suc k) (omega (arith, l)) e) in
    cc (here, more)

-- a product that is 1 has only factors that are 1
mul_one : (a b : ℕ) → a * b ≡ 1 → (a ≡ 1) × (b ≡ 1)
mul_one zero b e = absurd (omega (arith, e, zero-mul b))
mul_one (suc zero) b e = (refl, omega (arith, e, one-mul b))
mul_one (suc (suc a)) zero e = absurd (omega (arith, e, mul-zero (suc (suc a))))
mul_one (suc (suc a)) (suc b) e = absurd (grind (arith, e))

all_one : (parts : List Component) → number_of parts ≡ 1 → (k : ℕ) (part : Component) → k < length parts → get_or parts k part ≡ part → factor_of part ≡ 1
all_one [] e k part l at = absurd (omega (arith, l))
all_one (it ∷ parts) e zero part l at = ap factor_of (sym at) ∙ (mul_one (factor_of it) (number_of parts) e).0
all_one (it ∷ parts) e (suc k) part l at = all_one parts (mul_one (factor_of it) (number_of parts) e).1 k part (omega (arith, l)) at

-- a part that doesn't follow has as many choices as its factor
factor_is : (b : Bool) (n : ℕ) → b ≡ false → cond b 1 n ≡ 1 → n ≡ 1
factor_is true n own e = absurd cc
factor_is false n own e = e

module _ (p : Problem) (every : Every) (is : IsEveryStable p every) (x : ℕ → List ℕ) (unique : (other : ℕ → List ℕ) → IsStable p other → (u : ℕ) → IsRouter p.net.routers u → other u ≡ x u) where
  router_at : (part : Component) (k : ℕ) → k < length every.parts → get_or every.parts k part ≡ part → (j : ℕ) → j < length part.routers → IsRouter p.net.routers (get_or part.routers j 0)
  router_at part k l at j below =
      (is.routers (get_or part.routers j 0)).1 (k, part, l, at, (j, below, get_or_default part.routers j (get_or part.routers j 0) 0 below))

  all_alike : (other : ℕ → List ℕ) → IsStable p other → what_all_have other (filter leads every.parts) ≡ what_all_have x (filter leads every.parts)
  all_alike other stable =
      let Same : Component → Type 0 = λ part. map other part.routers ≡ map x part.routers in
      let all : All Same every.parts = λ k d l.
      (let part = get_or every.parts k d in
      same_map other x part.routers (λ j below. unique other stable (get_or part.routers j 0) (router_at part k l (get_or_default every.parts k part d l) j below))) in
      let leading = All-filter leads Same every.parts all in
      same_parts other x (filter leads every.parts) (λ part k l at. subst Same at (leading k part l))

  module _ (stable : IsStable p x) (found : List (List (List (List ℕ)))) (counted : AreCounted p every.parts found) where
    entry : (i : ℕ) → i < length found → get_or found i [] ≡ what_all_have x (filter leads every.parts)
    entry i l = let e = counted.each i [] l in e.2 ∙ all_alike e.0 e.1

    at_most_one : (n : ℕ) → length found ≡ n → n ≤ 1
    at_most_one zero e = omega arith
    at_most_one (suc zero) e = omega arith
    at_most_one (suc (suc n)) e =
        absurd (counted.once 0 1 [] (omega arith) (omega (arith, e)) (entry 0 (omega (arith, e)) ∙ sym (entry 1 (omega (arith, e)))))

    one_found : number_of every.parts ≡ 1
    one_found =
        let here = counted.all x stable in
        omega (arith, at_most_one (length found) refl, here.1, counted.count)

    own_has_one : (i : ℕ) (part : Component) → i < length every.parts → get_or every.parts i part ≡ part → part.follows ≡ false → length (choices_of part) ≡ 1
    own_has_one i part l at own = factor_is part.follows (length (choices_of part)) own (all_one every.parts one_found i part l at)

    parts_have_one : All (λ part. length (choices_of part) ≡ 1) every.parts
    parts_have_one i d l =
        let part = get_or every.parts i d in
        let at = get_or_default every.parts i part d l in
        elim (cases_Bool part.follows) [
          | inr own ↦ own_has_one i part l at own
          | inl led ↦ (let other = is.needed (i, part, l, at, led) in absurd (other.4.1 (own_has_one other.0 other.1 other.2 other.3 other.4.0)))
        ]

pub safe_have_one_choice : SafeHaveOneStable → StableAreCounted → SafeHaveOneChoice
safe_have_one_choice law counted p is safe every es =
    let s = law p is safe in
    let f = counted p every es in
    parts_have_one p every es s.0 s.2 s.1 f.0 f.1
