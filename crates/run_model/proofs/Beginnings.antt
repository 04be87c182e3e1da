-- Beginnings of lists.
use Rattle.std.proofs.Common.{◌≡◌, ◌≤◌, List, [], ◌∷◌, ◌++◌, length, refl, arith}
use mathlib.Core.List.{IsPrefix}

module _ {A : Type 0} where
  -- of two beginnings of one list, one no longer than the other begins it
  pub shorter_begins : (xs ys all : List A) → IsPrefix xs all → IsPrefix ys all → length xs ≤ length ys → IsPrefix xs ys
  shorter_begins [] ys all p q h = (ys, refl)
  shorter_begins (x ∷ xs) [] all p q h = absurd (omega arith)
  shorter_begins (x ∷ xs) (y ∷ ys) [] p q h = let e : x ∷ (xs ++ p.0) ≡ [] = p.1 in cc
  shorter_begins (x ∷ xs) (y ∷ ys) (z ∷ all) p q h =
      let e : x ∷ (xs ++ p.0) ≡ z ∷ all = p.1 in
      let f : y ∷ (ys ++ q.0) ≡ z ∷ all = q.1 in
      let a : xs ++ p.0 ≡ all = cc in
      let b : ys ++ q.0 ≡ all = cc in
      let t = shorter_begins xs ys all (p.0, a) (q.0, b) (omega arith) in
      let g : xs ++ t.0 ≡ ys = t.1 in
      (t.0, (let same : x ≡ y = cc in λ i. same i ∷ g i))

  pub prefix_length : (xs all : List A) → IsPrefix xs all → length xs ≤ length all
  prefix_length [] all p = omega arith
  prefix_length (x ∷ xs) [] p = let e : x ∷ (xs ++ p.0) ≡ [] = p.1 in cc
  prefix_length (x ∷ xs) (y ∷ all) p =
      let e : x ∷ (xs ++ p.0) ≡ y ∷ all = p.1 in
      let f : xs ++ p.0 ≡ all = cc in
      let h = prefix_length xs all (p.0, f) in omega arith

  pub both_empty : (xs ys : List A) → xs ++ ys ≡ [] → (xs ≡ []) × (ys ≡ [])
  both_empty [] ys e = (refl, e)
  both_empty (x ∷ xs) ys e = cc
