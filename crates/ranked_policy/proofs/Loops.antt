-- Loops that test each element of a list, and stop at the first that fails, or that passes.
use Rattle.std.proofs.Common.{◌≡◌, ℕ, zero, suc, ◌+◌, ◌<◌, ◌≤◌, true, false, List, [], ◌∷◌, ◌++◌, length, get_or, take, refl, sym, ap, subst, ◌∙◌, arith, map, IsTrue}
use Rattle.std.specs.Prelude.{◌↔◌}
use Rattle.std.specs.List.{All, AllPairs, Any, Contains}
use Rattle.std.proofs.lemmas.List.{take_all, take_more, length-take-le, get_or-take, get_or_default, get_or-map, length-map}
use Rattle.std.proofs.lemmas.List.Elements.{All-more}
use Rattle.std.proofs.lemmas.List.Quantifiers.{all_pairs_push}
use Rattle.std.proofs.lemmas.Bool.{false≢true}

pub all_more : {X : Type 0} (P : X → Type 0) (xs : List X) (i : ℕ) (x : X) → i < length xs → x ≡ get_or xs i x → All P (take i xs) → P x → All P (take (i + 1) xs)
all_more P xs i x l read h p = All-more P xs i x l h (subst P read p)

pub all_fails : {X : Type 0} (P : X → Type 0) (xs : List X) (i : ℕ) (x : X) → i < length xs → x ≡ get_or xs i x → (P x → ⊥) → IsTrue false ↔ All P xs
all_fails P xs i x l read fails = (λ t. absurd (false≢true t), λ all. absurd (fails (subst P (sym read) (all i x l))))

pub all_done : {X : Type 0} (P : X → Type 0) (xs : List X) (i : ℕ) → length xs ≤ i → All P (take i xs) → IsTrue true ↔ All P xs
all_done P xs i l all = (λ t. subst (All P) (take_all i xs l) all, λ h. refl)

-- `Contains` as `Any`
pub contains_any : {X : Type 0} (xs : List X) (y : X) → Contains xs y → Any (λ x. x ≡ y) xs
contains_any xs y h = (h.0, y, h.1, h.2, refl)

-- a list that is read by a function contains what the function gives somewhere
contains_map_at : {X Y : Type 0} (f : X → Y) (xs : List X) (k : ℕ) (y : Y) → k < length (map f xs) → get_or (map f xs) k y ≡ y → Any (λ x. f x ≡ y) xs
contains_map_at f [] k y l e = absurd (omega (arith, l))
contains_map_at f (x ∷ xs) zero y l e = (0, x, omega arith, refl, e)
contains_map_at f (x ∷ xs) (suc k) y l e = let r = contains_map_at f xs k y (omega (arith, l)) e in (suc r.0, r.1, omega (arith, r.2), r.3, r.4)

pub contains_map : {X Y : Type 0} (f : X → Y) (xs : List X) (y : Y) → Contains (map f xs) y → Any (λ x. f x ≡ y) xs
contains_map f xs y h = contains_map_at f xs h.0 y h.1 h.2

pub map_contains : {X Y : Type 0} (f : X → Y) (xs : List X) (y : Y) → Any (λ x. f x ≡ y) xs → Contains (map f xs) y
map_contains f xs y h = (h.0, omega (arith, h.2, length-map xs f), get_or-map f xs h.0 h.1 y h.2 ∙ ap f h.3 ∙ h.4)

-- each element in turn, against those before it
pub pairs_more : {X : Type 0} (R : X → X → Type 0) (xs : List X) (i : ℕ) (x : X) → i < length xs → x ≡ get_or xs i x → AllPairs R (take i xs) → All (λ y. R y x) (take i xs) → AllPairs R (take (i + 1) xs)
pairs_more R xs i x l read pairs all =
    let more : take (i + 1) xs ≡ take i xs ++ x ∷ [] = take_more xs i x l ∙ ap (λ y. take i xs ++ y ∷ []) (sym read) in
    subst (AllPairs R) (sym more) (all_pairs_push R (take i xs) x pairs all)

pub pairs_done : {X : Type 0} (R : X → X → Type 0) (xs : List X) (i : ℕ) → length xs ≤ i → AllPairs R (take i xs) → IsTrue true ↔ AllPairs R xs
pairs_done R xs i l all = (λ t. subst (AllPairs R) (take_all i xs l) all, λ h. refl)

pub apart_from : {X : Type 0} (xs : List X) (x : X) → (Contains xs x → ⊥) → All (λ y. y ≡ x → ⊥) xs
apart_from xs x none k d l e = none (k, l, get_or_default xs k x d l ∙ e)
