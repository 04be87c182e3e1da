-- Loops over a list: one item more.
use Rattle.std.proofs.Common.{◌≡◌, ℕ, ◌+◌, ◌<◌, ◌≤◌, true, false, List, [], ◌∷◌, ◌++◌, length, take, drop, get_or, refl, sym, ap, subst, ◌∙◌, append_assoc}
use Rattle.std.specs.Prelude.{◌↔◌, IsTrue}
use Rattle.std.specs.List.{flat_map, AllByRecursion}
use Rattle.std.proofs.lemmas.List.{append-nil, length-append, take_more, drop_more, drop_all, take_all}
use Rattle.std.proofs.lemmas.List.Concat.{flat_map-append}

module _ {X : Type 0} where
  pub drop_one : (xs : List X) (i : ℕ) (x : X) → i < length xs → x ≡ get_or xs i x → drop i xs ≡ x ∷ drop (i + 1) xs
  drop_one xs i x lt e = drop_more xs i x lt ∙ ap (λ (y : X). y ∷ drop (i + 1) xs) (sym e)

  pub take_one : (xs : List X) (i : ℕ) (x : X) → i < length xs → x ≡ get_or xs i x → take (i + 1) xs ≡ take i xs ++ x ∷ []
  take_one xs i x lt e = take_more xs i x lt ∙ ap (λ (y : X). take i xs ++ y ∷ []) (sym e)

  pub count_one : (f : X → List ℕ) (xs : List X) (i : ℕ) (x : X) → i < length xs → x ≡ get_or xs i x
      → length (flat_map f (take (i + 1) xs)) ≡ length (flat_map f (take i xs)) + length (f x)
  count_one f xs i x lt e =
      ap (λ (ys : List X). length (flat_map f ys)) (take_one xs i x lt e) ∙ ap length (flat_map-append f (take i xs) (x ∷ []))
      ∙ length-append (flat_map f (take i xs)) (f x ++ []) ∙ ap (λ (ys : List ℕ). length (flat_map f (take i xs)) + length ys) (append-nil (f x))

  pub count_all : (f : X → List ℕ) (xs : List X) (i : ℕ) → length xs ≤ i → length (flat_map f (take i xs)) ≡ length (flat_map f xs)
  count_all f xs i le = ap (λ (ys : List X). length (flat_map f ys)) (take_all i xs le)

  -- an item that fits leaves the question to the others
  pub fits_on : (P : X → Type 0) (all left rest : List X) (x : X) → left ≡ x ∷ rest → P x → (AllByRecursion P all ↔ AllByRecursion P left) → (AllByRecursion P all ↔ AllByRecursion P rest)
  fits_on P all left rest x e p inv = (
    λ a. (subst (AllByRecursion P) e (inv.0 a)).1,
    λ r. inv.1 (subst (AllByRecursion P) (sym e) (p, r)),
  )

  -- one that does not answers it
  pub fits_not : (P : X → Type 0) (all left rest : List X) (x : X) → left ≡ x ∷ rest → (P x → ⊥) → (AllByRecursion P all ↔ AllByRecursion P left) → (IsTrue false ↔ AllByRecursion P all)
  fits_not P all left rest x e p inv = (λ t. absurd cc, λ a. absurd (p (subst (AllByRecursion P) e (inv.0 a)).0))

  -- and where none is left all fit
  pub fits_end : (P : X → Type 0) (all : List X) (i : ℕ) → length all ≤ i → (AllByRecursion P all ↔ AllByRecursion P (drop i all)) → (IsTrue true ↔ AllByRecursion P all)
  fits_end P all i le inv = (λ t. inv.1 (subst (AllByRecursion P) (sym (drop_all i all le)) tt), λ a. refl)

  -- what one item is written as moves from what is left to what was put
  pub put_one : (f : X → List ℕ) (new old total : List ℕ) (left rest : List X) (x : X) → left ≡ x ∷ rest → new ≡ old ++ f x → old ++ flat_map f left ≡ total → new ++ flat_map f rest ≡ total
  put_one f new old total left rest x e n inv =
      ap (λ (ys : List ℕ). ys ++ flat_map f rest) n ∙ append_assoc old (f x) (flat_map f rest) ∙ ap (λ (ys : List X). old ++ flat_map f ys) (sym e) ∙ inv

  pub room_one : (f : X → List ℕ) (left rest : List X) (x : X) → left ≡ x ∷ rest → length (flat_map f left) ≡ length (f x) + length (flat_map f rest)
  room_one f left rest x e = ap (λ (ys : List X). length (flat_map f ys)) e ∙ length-append (f x) (flat_map f rest)

-- a code, a length and a value, put one after the other
pub cap_put : (old a b d value : List ℕ) (code len : ℕ) → a ≡ old ++ code ∷ [] → b ≡ a ++ len ∷ [] → d ≡ b ++ value → len ≡ length value → d ≡ old ++ (code ∷ (length value ∷ value))
cap_put old a b d value code len ea eb ed el = rw (ed, eb, ea, el) (simp append_assoc)
