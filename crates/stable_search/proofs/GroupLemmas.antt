-- Pairs of groups and parts, and what a search adds to nothing.
use Rattle.std.proofs.Common.{◌≡◌, ℕ, ◌<◌, ◌+◌, List, [], ◌∷◌, ◌++◌, length, get_or, refl, sym, ap, subst, ◌∙◌, arith, inl, inr}
use Rattle.std.proofs.lemmas.Bool.{cases_order}
use Rattle.std.proofs.lemmas.List.{get_or_default, get_or_append_left, get_or_at, length-append}
use Rattle.stable_search.specs.declared.way.Way.{Way}
use Rattle.stable_search.specs.Picks.{AreAll, AddsAll}
use Rattle.stable_search.specs.Seats.{StandsAt}

pub same_at : {X : Type 0} (xs : List X) (i : ℕ) (a b : X) → StandsAt xs i a → StandsAt xs i b → a ≡ b
same_at xs i a b x y = sym x.1 ∙ get_or_default xs i a b x.0 ∙ y.1

-- one pair more stands at one place of two lists
pub pairs_on : {X Y : Type 0} (R : X → Y → Type 0) (xs : List X) (ys new : List Y) (i : ℕ) (x : X) (y : Y) → StandsAt xs i x → length ys ≡ i → new ≡ ys ++ y ∷ [] → R x y
    → ((g : ℕ) (a : X) (b : Y) → g < i → StandsAt xs g a → StandsAt ys g b → R a b) → (g : ℕ) (a : X) (b : Y) → g < i + 1 → StandsAt xs g a → StandsAt new g b → R a b
pairs_on {X} {Y} R xs ys new i x y at size e r all g a b lt xa nb =
    let yb : StandsAt (ys ++ y ∷ []) g b = subst (λ (zs : List Y). StandsAt zs g b) e nb in
    elim (cases_order g i) [
      | inl same ↦
          let a_is : x ≡ a = same_at xs i x a at (subst (λ (n : ℕ). StandsAt xs n a) same xa) in
          let b_is : y ≡ b = sym (get_or_at ys y [] b i size) ∙ ap (λ (n : ℕ). get_or (ys ++ y ∷ []) n b) (sym same) ∙ yb.1 in
          subst (λ (c : Y). R a c) b_is (subst (λ (c : X). R c y) a_is r)
      | inr differ ↦
          let under : g < i = elim differ [ inl l ↦ l | inr m ↦ absurd (omega (arith, lt, m)) ] in
          all g a b under xa (omega (arith, under, size), sym (get_or_append_left ys (y ∷ []) b g (omega (arith, under, size))) ∙ yb.1)
    ]

-- one pair more stands behind two lists
pub pairs_more : {X Y : Type 0} (R : X → Y → Type 0) (xs : List X) (ys new : List Y) (x : X) (y : Y) → length ys ≡ length xs → new ≡ ys ++ y ∷ [] → R x y
    → ((g : ℕ) (a : X) (b : Y) → StandsAt xs g a → StandsAt ys g b → R a b) → (g : ℕ) (a : X) (b : Y) → StandsAt (xs ++ x ∷ []) g a → StandsAt new g b → R a b
pairs_more {X} {Y} R xs ys new x y size e r all g a b xa nb =
    let longer = length-append xs (x ∷ []) in
    pairs_on R (xs ++ x ∷ []) ys new (length xs) x y (omega (arith, longer), get_or_at xs x [] x (length xs) refl) size e r
    (λ h c d lt xc yd. all h c d (lt, sym (get_or_append_left xs (x ∷ []) c h lt) ∙ xc.1) yd) g a b (omega (arith, longer, xa.0)) xa nb

pub all_of : (ways : List Way) (sets : List ℕ) (old new : List (List ℕ)) → old ≡ [] → AddsAll ways sets old new → AreAll ways sets new
all_of ways sets old new none adds = subst (AreAll ways sets) (sym (adds.added ∙ ap (λ (xs : List (List ℕ)). xs ++ adds.more) none)) adds.all
