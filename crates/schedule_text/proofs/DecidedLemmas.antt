-- The numbers of the snapshots that are decided are one list.
use Rattle.std.proofs.Common.{◌≡◌, ℕ, zero, suc, ◌<◌, List, [], ◌∷◌, length, refl, ap, sym, subst, ◌∙◌, arith, inl, inr}
use Rattle.std.specs.Prelude.{slice_index_or, ◌⊎◌}
use Rattle.std.specs.List.{AllPairs, Contains}
use Rattle.snap_marker.specs.Recordings.{MadeOffer}
use Rattle.snap_collector.specs.Verdicts.{Member}
use Rattle.schedule_text.specs.Routes.{AreDecided}

-- rising numbers are told by which they are
by_place : (z s : ℕ) (zs : List ℕ) (k : ℕ) → k < length (z ∷ zs) → slice_index_or (z ∷ zs) k s ≡ s → (z ≡ s) ⊎ Contains zs s
by_place z s zs zero lt is = inl is
by_place z s zs (suc k) lt is = inr (k, omega (arith, lt), is)

in_cons : (z s : ℕ) (zs : List ℕ) → Contains (z ∷ zs) s → (z ≡ s) ⊎ Contains zs s
in_cons z s zs h = by_place z s zs h.0 h.1 h.2

behind : (z s : ℕ) (zs : List ℕ) → Contains zs s → Contains (z ∷ zs) s
behind z s zs h = (suc h.0, omega (arith, h.1), h.2)

abbrev Rising : List ℕ → Type 0
Rising xs = AllPairs (λ s t. s < t) xs

above : (z s : ℕ) (zs : List ℕ) → Rising (z ∷ zs) → Contains zs s → z < s
above z s zs rise h = subst (λ t. z < t) h.2 (rise zero (suc h.0) s (omega arith) (omega (arith, h.1)))

rest_rises : (z : ℕ) (zs : List ℕ) → Rising (z ∷ zs) → Rising zs
rest_rises z zs rise i j d lt l = rise (suc i) (suc j) d (omega (arith, lt)) (omega (arith, l))

head_one : (x y : ℕ) (xs ys : List ℕ) → Rising (x ∷ xs) → Rising (y ∷ ys) → Contains (y ∷ ys) x → Contains (x ∷ xs) y → x ≡ y
head_one x y xs ys rx ry there here = elim (in_cons y x ys there) [
  | inl same ↦ sym same
  | inr more ↦ elim (in_cons x y xs here) [
    | inl same ↦ same
    | inr much ↦ absurd (omega (arith, above y x ys ry more, above x y xs rx much))
  ]
]

tail_has : (x y s : ℕ) (xs ys : List ℕ) → Rising (x ∷ xs) → x ≡ y → Contains (y ∷ ys) s → Contains xs s → Contains ys s
tail_has x y s xs ys rx same there here = elim (in_cons y s ys there) [
  | inl is ↦ absurd (omega (arith, above x s xs rx here, same, is))
  | inr more ↦ more
]

none_in : (s : ℕ) → Contains [] s → ⊥
none_in s h = omega (arith, h.1)

rising_one : (xs ys : List ℕ) → Rising xs → Rising ys → ((s : ℕ) → Contains xs s → Contains ys s) → ((s : ℕ) → Contains ys s → Contains xs s) → xs ≡ ys
rising_one [] [] rx ry go back = refl
rising_one [] (y ∷ ys) rx ry go back = absurd (none_in y (back y (zero, omega arith, refl)))
rising_one (x ∷ xs) [] rx ry go back = absurd (none_in x (go x (zero, omega arith, refl)))
rising_one (x ∷ xs) (y ∷ ys) rx ry go back =
    let same = head_one x y xs ys rx ry (go x (zero, omega arith, refl)) (back y (zero, omega arith, refl)) in
    let more = rising_one xs ys (rest_rises x xs rx) (rest_rises y ys ry) (λ s h. tail_has x y s xs ys rx same (go s (behind x s xs h)) h)
    (λ s h. tail_has y x s ys xs ry (sym same) (back s (behind y s ys h)) h) in
    ap (λ z. z ∷ xs) same ∙ ap (λ zs. y ∷ zs) more

pub decided_one : (members : List Member) (made : ℕ → List MadeOffer) (xs ys : List ℕ) → AreDecided members made xs → AreDecided members made ys → xs ≡ ys
decided_one members made xs ys a b =
    rising_one xs ys a.rising b.rising (λ s h. (b.exact s).1 ((a.exact s).0 h)) (λ s h. (a.exact s).1 ((b.exact s).0 h))
