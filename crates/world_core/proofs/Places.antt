-- Where a number stands in a list, and what a change of the element at its place makes of it.
use Rattle.std.proofs.Common.{◌≡◌, ℕ, zero, suc, ◌<◌, ◌==◌, Bool, true, false, cond, List, [], ◌∷◌, length, map, refl, ap, sym, ◌∙◌, arith, subst, get_or, set}
use Rattle.std.specs.List.{AllPairs, AllByRecursion, HoldsAt}
use Rattle.std.proofs.lemmas.Bool.{eqb-true, eqb-false, eq-eqb, ne_eqb}
use Rattle.ranked_policy.specs.declared.network.NetRouter.{NetRouter}
use Rattle.ranked_policy.specs.Plans.{numbers}
use Rattle.world_core.specs.Views.{at_number, IsAt}

module _ {A : Type 0} (number : A → ℕ) where
  pub is_below : (xs : List A) (u i : ℕ) → IsAt number xs u i → i < length xs
  is_below [] u i h = absurd h
  is_below (x ∷ xs) u zero h = omega arith
  is_below (x ∷ xs) u (suc i) h = let l = is_below xs u i h.1 in omega arith

  pub number_here : (xs : List A) (u i : ℕ) (d : A) → IsAt number xs u i → number (get_or xs i d) ≡ u
  number_here [] u i d h = absurd h
  number_here (x ∷ xs) u zero d h = h
  number_here (x ∷ xs) u (suc i) d h = number_here xs u i d h.1

  pub here_same : (xs : List A) (u i : ℕ) (d e : A) → IsAt number xs u i → get_or xs i d ≡ get_or xs i e
  here_same [] u i d e h = absurd h
  here_same (x ∷ xs) u zero d e h = refl
  here_same (x ∷ xs) u (suc i) d e h = here_same xs u i d e h.1

  pub numbers_set : (xs : List A) (u i : ℕ) (y : A) → IsAt number xs u i → number y ≡ u → map number (set xs i y) ≡ map number xs
  numbers_set [] u i y h e = absurd h
  numbers_set (x ∷ xs) u zero y h e = ap (λ (n : ℕ). n ∷ map number xs) (e ∙ sym h)
  numbers_set (x ∷ xs) u (suc i) y h e = ap (λ (ns : List ℕ). number x ∷ ns) (numbers_set xs u i y h.1 e)

  pub all_set : (P : A → Type 0) (xs : List A) (u i : ℕ) (y : A) → IsAt number xs u i → AllByRecursion P xs → P y → AllByRecursion P (set xs i y)
  all_set P [] u i y h all p = absurd h
  all_set P (x ∷ xs) u zero y h all p = (p, all.1)
  all_set P (x ∷ xs) u (suc i) y h all p = (all.0, all_set P xs u i y h.1 all.1 p)

  pub all_here : (P : A → Type 0) (xs : List A) (u i : ℕ) (d : A) → IsAt number xs u i → AllByRecursion P xs → P (get_or xs i d)
  all_here P [] u i d h all = absurd h
  all_here P (x ∷ xs) u zero d h all = all.0
  all_here P (x ∷ xs) u (suc i) d h all = all_here P xs u i d h.1 all.1

  -- an element at a place, below which all numbers are less, is the first of its number
  pub first_at : (xs : List A) (u i : ℕ) → i < length xs → ((d : A) → number (get_or xs i d) ≡ u) → ((j : ℕ) (d : A) → j < i → number (get_or xs j d) < u) → IsAt number xs u i
  first_at [] u i l h below = absurd (omega arith)
  first_at (x ∷ xs) u zero l h below = h x
  first_at (x ∷ xs) u (suc i) l h below =
      let less : number x < u = below 0 x (omega arith) in
      (λ e. absurd (omega (arith, less, e)), first_at xs u i (omega arith) h (λ j d k. below (suc j) d (omega arith)))

  module _ {B : Type 0} (what : A → B) (none : B) where
    pub here : (xs : List A) (u i : ℕ) (d : A) → IsAt number xs u i → at_number number what none xs u ≡ what (get_or xs i d)
    here [] u i d h = absurd h
    here (x ∷ xs) u zero d h = rw (eq-eqb (number x) u h) refl
    here (x ∷ xs) u (suc i) d h = rw (ne_eqb (number x) u h.0) (here xs u i d h.1)

    set_here : (xs : List A) (u i : ℕ) (y : A) → IsAt number xs u i → number y ≡ u → at_number number what none (set xs i y) u ≡ what y
    set_here [] u i y h e = absurd h
    set_here (x ∷ xs) u zero y h e = rw (eq-eqb (number y) u e) refl
    set_here (x ∷ xs) u (suc i) y h e = rw (ne_eqb (number x) u h.0) (set_here xs u i y h.1 e)

    set_there : (xs : List A) (u i : ℕ) (y : A) (k : ℕ) → IsAt number xs u i → number y ≡ u → (k ≡ u → ⊥) → at_number number what none (set xs i y) k ≡ at_number number what none xs k
    set_there [] u i y k h e n = absurd h
    set_there (x ∷ xs) u zero y k h e n = rw (ne_eqb (number y) k (λ q. n (sym q ∙ e)), ne_eqb (number x) k (λ q. n (sym q ∙ h))) refl
    set_there (x ∷ xs) u (suc i) y k h e n = ap (λ (s : B). cond (number x == k) (what x) s) (set_there xs u i y k h.1 e n)

    set_by : (xs : List A) (u i : ℕ) (y : A) (k : ℕ) (b : Bool) → IsAt number xs u i → number y ≡ u → (k == u) ≡ b
        → at_number number what none (set xs i y) k ≡ cond b (what y) (at_number number what none xs k)
    set_by xs u i y k true h e t = (let same : k ≡ u = eqb-true k u t in ap (λ (n : ℕ). at_number number what none (set xs i y) n) same ∙ set_here xs u i y h e)
    set_by xs u i y k false h e t = set_there xs u i y k h e (eqb-false k u t)

    pub set_at : (xs : List A) (u i : ℕ) (y : A) (k : ℕ) → IsAt number xs u i → number y ≡ u
        → at_number number what none (set xs i y) k ≡ cond (k == u) (what y) (at_number number what none xs k)
    set_at xs u i y k h e = set_by xs u i y k (k == u) h e refl

-- ---- by rising number

map_at : {A : Type 0} (f : A → ℕ) (xs : List A) (i : ℕ) (d : A) → f (get_or xs i d) ≡ get_or (map f xs) i (f d)
map_at f [] i d = refl
map_at f (x ∷ xs) zero d = refl
map_at f (x ∷ xs) (suc i) d = map_at f xs i d

pub default_is : (ns : List ℕ) (i a b : ℕ) → i < length ns → get_or ns i a ≡ get_or ns i b
default_is [] i a b l = absurd (omega arith)
default_is (n ∷ ns) zero a b l = refl
default_is (n ∷ ns) (suc i) a b l = default_is ns i a b (omega arith)

length_map : {A : Type 0} (f : A → ℕ) (xs : List A) → length (map f xs) ≡ length xs
length_map f [] = refl
length_map f (x ∷ xs) = ap suc (length_map f xs)

abbrev pub nobody : NetRouter
nobody = record { asn = 0; id = 0; rules = [] }

pub at_place : {A : Type 0} (number : A → ℕ) (xs : List A) (routers : List NetRouter) (u i : ℕ) → map number xs ≡ numbers routers → AllPairs (λ a b. a < b) (numbers routers)
    → i < length routers → HoldsAt (λ r. r.asn ≡ u) routers i → IsAt number xs u i
at_place {A} number xs routers u i same rising l holds =
    let many : length (numbers routers) ≡ length routers = length_map (λ (r : NetRouter). r.asn) routers in
    let few : length (map number xs) ≡ length xs = length_map number xs in
    let all : length (map number xs) ≡ length (numbers routers) = ap (λ (ns : List ℕ). length ns) same in
    let inside : i < length xs = omega arith in
    let below : i < length (numbers routers) = omega arith in
    let at : (a : ℕ) → get_or (numbers routers) i a ≡ u = λ a. default_is (numbers routers) i a 0 below ∙ sym (map_at (λ (r : NetRouter). r.asn) routers i nobody) ∙ holds nobody in
    first_at number xs u i inside
    (λ d. map_at number xs i d ∙ ap (λ (ns : List ℕ). get_or ns i (number d)) same ∙ at (number d))
    (λ j d k. (let less : get_or (numbers routers) j (number d) < get_or (numbers routers) i (number d) = rising j i (number d) k below in
    subst (λ (n : ℕ). n < u) (sym (map_at number xs j d ∙ ap (λ (ns : List ℕ). get_or ns j (number d)) same))
    (subst (λ (n : ℕ). get_or (numbers routers) j (number d) < n) (at (number d)) less)))

-- ---- by the numbers alone

pub moved : {A B : Type 0} (f : A → ℕ) (g : B → ℕ) (xs : List A) (ys : List B) (u i : ℕ) → map g ys ≡ map f xs → IsAt f xs u i → IsAt g ys u i
moved f g [] ys u i e h = absurd h
moved f g (x ∷ xs) [] u i e h = absurd cc
moved f g (x ∷ xs) (y ∷ ys) u zero e h = (let same : g y ≡ f x = cc in same ∙ h)
moved f g (x ∷ xs) (y ∷ ys) u (suc i) e h =
    let same : g y ≡ f x = cc in
    let rest : map g ys ≡ map f xs = cc in
    (λ q. h.0 (sym same ∙ q), moved f g xs ys u i rest h.1)

pub map_same : (ns : List ℕ) → map (λ n. n) ns ≡ ns
map_same [] = refl
map_same (n ∷ ns) = ap (λ (ms : List ℕ). n ∷ ms) (map_same ns)

-- the number at a place of a rising list
pub rising_at : (ns : List ℕ) (u i : ℕ) → AllPairs (λ a b. a < b) ns → i < length ns → ((d : ℕ) → get_or ns i d ≡ u) → IsAt (λ n. n) ns u i
rising_at ns u i rising l is = first_at (λ n. n) ns u i l is (λ j d k. subst (λ (n : ℕ). get_or ns j d < n) (is d) (rising j i d k l))
