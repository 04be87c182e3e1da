-- Blocks of 32 hex digits, lane by lane.
use Rattle.std.proofs.Common.{◌≡◌, ℕ, zero, suc, ◌+◌, ◌-◌, ◌*◌, ◌%◌, ◌<◌, ◌==◌, ◌&&◌, Bool, true, false, not, cond, ltb, leb, List, [], ◌∷◌, ◌++◌, map, length, get_or, replicate, refl, sym, ap, ap₂, subst, ◌∙◌, arith, inl, inr, bit_and, bit_or, unwrap_or, w8, Fits}
use Rattle.std.specs.Prelude.{nat_lt, nat_eq, slice_index}
use Rattle.std.specs.List.{list_all, range_with_len}
use Rattle.std.proofs.lemmas.Bool.{and_parts, cases_eq, cases_lt, cases_order, eq-eqb, eqb-true, le-leb, le-ltb, lt-leb, lt-ltb, ne_eqb}
use Rattle.std.proofs.lemmas.Nat.{and_mask}
use Rattle.std.proofs.lemmas.List.{get_or_append_left, length-map}
use Rattle.std.proofs.lemmas.List.FromFn.{get_or-map-range_with_len}
use Rattle.std.proofs.lemmas.Simd.{get_or-zip2, get_or-replicate, length-zip2, length-replicate, mask_l-mod, tops_compared, zip2_splat_left}
use lib.Lanes.{zip2, sel_l, top, Each1, mask_l}
use Rattle.hex.specs.Hex.{hex_digit_value}

abbrev pub digit_value : ℕ → ℕ
digit_value digit = unwrap_or (hex_digit_value digit) 255

abbrev number : ℕ → ℕ
number d = (d + (256 - 48)) % 256

abbrev letter : ℕ → ℕ
letter d = (bit_or d 32 + (256 - 97)) % 256

-- what a lane makes of a digit
abbrev lane : ℕ → ℕ
lane d = cond (top 7 (cond (ltb (number d) 10) 255 0)) (number d) (cond (top 7 (cond (ltb (letter d) 6) 255 0)) ((letter d + 10) % 256) 255)

-- a test of each octet
abbrev agree : (ℕ → ℕ) → (ℕ → ℕ) → ℕ → Bool
agree f g zero = true
agree f g (suc n) = (f n == g n) && agree f g n

agrees : (f g : ℕ → ℕ) (n : ℕ) → agree f g n ≡ true → (d : ℕ) → d < n → f d ≡ g d
agrees f g zero e d l = absurd (omega (arith, l))
agrees f g (suc n) e d l =
    let parts = and_parts (f n == g n) (agree f g n) e in
    elim (cases_order d n) [
      | inl same ↦ subst (λ k. f k ≡ g k) (sym same) (eqb-true (f n) (g n) parts.0)
      | inr other ↦ elim other [
        | inl below ↦ agrees f g n parts.1 d below
        | inr above ↦ absurd (omega (arith, l, above))
      ]
    ]

-- the lanes of n digits
abbrev values : ℕ → List ℕ → List ℕ
values n ds =
    let numbers = zip2 (λ a b. (a + (256 - b)) % 256) ds (replicate n 48) in
    let letters = zip2 (λ a b. (a + (256 - b)) % 256) (zip2 bit_or ds (replicate n 32)) (replicate n 97) in
    sel_l (map (top 7) (zip2 (λ a b. cond (ltb a b) 255 0) numbers (replicate n 10))) numbers
    (sel_l (map (top 7) (zip2 (λ a b. cond (ltb a b) 255 0) letters (replicate n 6))) (zip2 (λ a b. (a + b) % 256) letters (replicate n 10)) (replicate n 255))

made : (ds : List ℕ) → values (length ds) ds ≡ map lane ds
made [] = refl
made (d ∷ ds) = ap (λ r. lane d ∷ r) (made ds)

each : (ds : List ℕ) → Each1 (Fits w8) ds → map lane ds ≡ map digit_value ds
each [] f = refl
each (d ∷ ds) f = ap₂ (λ x xs. x ∷ xs) (agrees lane digit_value 256 refl d f.0.fits) (each ds f.1)

pub values_are : (ds : List ℕ) → length ds ≡ 32 → Each1 (Fits w8) ds → values 32 ds ≡ map digit_value ds
values_are ds n f = ap (λ k. values k ds) (sym n) ∙ made ds ∙ each ds f

same_zero : (m : ℕ) → nat_eq (0 + 2 * m) 0 ≡ nat_eq m 0
same_zero m = elim (cases_eq m 0) [
  | inl e ↦ eq-eqb _ _ (omega (arith, e)) ∙ sym (eq-eqb m 0 e)
  | inr n ↦ ne_eqb _ _ (λ z. n (omega (arith, z))) ∙ sym (ne_eqb m 0 n)
]

no_bit : (b c : Bool) (m : ℕ) (rest : Bool) → not b ≡ c → nat_eq m 0 ≡ rest → nat_eq (cond b 1 0 + 2 * m) 0 ≡ (c && rest)
no_bit true c m rest e f = ne_eqb _ _ (λ z. omega (arith, z)) ∙ ap (λ x. x && rest) e
no_bit false c m rest e f = same_zero m ∙ f ∙ ap (λ x. x && rest) e

below : (v : ℕ) → not (leb 16 v) ≡ nat_lt v 16
below v = elim (cases_lt v 16) [
  | inl l ↦ ap not (lt-leb 16 v l) ∙ sym (lt-ltb v 16 l)
  | inr l ↦ ap not (le-leb 16 v l) ∙ sym (le-ltb v 16 l)
]

none_above : (vs : List ℕ) → nat_eq (mask_l (map (λ v. leb 16 v) vs)) 0 ≡ list_all (λ v. nat_lt v 16) vs
none_above [] = refl
none_above (v ∷ vs) = no_bit (leb 16 v) (nat_lt v 16) (mask_l (map (λ v. leb 16 v) vs)) (list_all (λ v. nat_lt v 16) vs) (below v) (none_above vs)

pub all_values : (vs : List ℕ) → length vs ≡ 32
    → nat_eq (mask_l (map (top 7) (zip2 (λ a b. cond (leb a b) 255 0) (replicate 32 16) vs)) % 18446744073709551616) 0 ≡ list_all (λ v. nat_lt v 16) vs
all_values vs n =
    let bits : map (top 7) (zip2 (λ a b. cond (leb a b) 255 0) (replicate 32 16) vs) ≡ map (λ v. leb 16 v) vs = tops_compared w8 (λ a b. leb a b) (replicate 32 16) vs ∙ zip2_splat_left (λ a b. leb a b) 16 32 vs n in
    ap (λ l. nat_eq (mask_l l % 18446744073709551616) 0) bits
    ∙ ap (λ k. nat_eq k 0) (mask_l-mod (map (λ v. leb 16 v) vs) 64 (omega (arith, length-map vs (λ v. leb 16 v), n))) ∙ none_above vs

-- the low halves of 32 values, twice
abbrev halves : List ℕ → List ℕ
halves vs = zip2 bit_and vs (replicate 32 15) ++ zip2 bit_and vs (replicate 32 15)

abbrev pair : List ℕ → ℕ → ℕ
pair vs i = (get_or (halves vs) (2 * i) 0 * 16 % 256 + get_or (halves vs) (2 * i + 1) 0) % 256

half_is : (vs : List ℕ) → length vs ≡ 32 → (k : ℕ) → k < 32 → get_or (halves vs) k 0 ≡ get_or vs k 0 % 16
half_is vs n k l =
    let fifteens : List ℕ = replicate 32 15 in
    let few : List ℕ = zip2 bit_and vs fifteens in
    let m : length fifteens ≡ 32 = length-replicate {A = ℕ} 32 15 in
    get_or_append_left few few 0 k (omega (arith, l, n, length-zip2 bit_and vs fifteens (n ∙ sym m)))
    ∙ get_or-zip2 bit_and vs fifteens k 0 0 0 (omega (arith, l, n)) (omega (arith, l, m)) ∙ ap (bit_and (get_or vs k 0)) (get_or-replicate 32 k 15 0 l) ∙ and_mask (get_or vs k 0) 4

fits_octet : (a b : ℕ) → (a % 16 * 16 % 256 + b % 16) % 256 ≡ a % 16 * 16 + b % 16
fits_octet a b = omega arith

pub pairs_are : (vs : List ℕ) → length vs ≡ 32 → (i : ℕ) → i < 16 → slice_index (map (pair vs) (range_with_len 0 16)) i ≡ slice_index vs (2 * i) % 16 * 16 + slice_index vs (2 * i + 1) % 16
pairs_are vs n i l =
    get_or-map-range_with_len (pair vs) 0 16 i i 0 l (omega arith)
    ∙ ap₂ (λ a b. (a * 16 % 256 + b) % 256) (half_is vs n (2 * i) (omega (arith, l))) (half_is vs n (2 * i + 1) (omega (arith, l)))
    ∙ fits_octet (get_or vs (2 * i) 0) (get_or vs (2 * i + 1) 0)
