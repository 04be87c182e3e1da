-- Lists that are made one by one.
use Rattle.std.proofs.Common.{◌≡◌, ℕ, ◌+◌, ◌<◌, List, [], ◌∷◌, ◌++◌, map, length, drop, get_or, refl, sym, ap, ◌∙◌}
use Rattle.std.specs.List.{AllByRecursion}
use Rattle.std.proofs.lemmas.List.{drop_more, map-append}

behind : (xs : List ℕ) (a : ℕ) (ys : List ℕ) → (xs ++ a ∷ []) ++ ys ≡ xs ++ a ∷ ys
behind [] a ys = refl
behind (x ∷ xs) a ys = ap (λ (zs : List ℕ). x ∷ zs) (behind xs a ys)

-- one more of those made, and one less of those left
pub one_more : {X Y : Type 0} (f : X → ℕ) (h : Y → ℕ) (xs : List X) (x : X) (ys : List Y) (i : ℕ) (y : Y) → i < length ys → y ≡ get_or ys i y → f x ≡ h y
    → map f (xs ++ x ∷ []) ++ map h (drop (i + 1) ys) ≡ map f xs ++ map h (drop i ys)
one_more {X} {Y} f h xs x ys i y l at e =
    ap (λ (zs : List ℕ). zs ++ map h (drop (i + 1) ys)) (map-append f xs (x ∷ []))
    ∙ behind (map f xs) (f x) (map h (drop (i + 1) ys))
    ∙ ap (λ (n : ℕ). map f xs ++ n ∷ map h (drop (i + 1) ys)) (e ∙ ap h at)
    ∙ ap (λ (zs : List Y). map f xs ++ map h zs) (sym (drop_more ys i y l))

pub all_more : {X : Type 0} (P : X → Type 0) (xs : List X) (x : X) → AllByRecursion P xs → P x → AllByRecursion P (xs ++ x ∷ [])
all_more {X} P [] x all here = (here, tt)
all_more {X} P (y ∷ xs) x all here = (all.0, all_more P xs x all.1 here)
