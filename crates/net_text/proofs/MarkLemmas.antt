-- Octets that are loaded together, and the mask of those that pass a test.
use Rattle.std.proofs.Common.{◌≡◌, ℕ, suc, ◌+◌, ◌*◌, ◌<◌, ◌≤◌, ◌==◌, Bool, true, false, not, cond, List, [], ◌∷◌, map, length, get_or, nat_le, nat_lt, refl, sym, ap, ◌∙◌, arith, inl, inr}
use Rattle.std.specs.List.{prefix_len}
use Rattle.std.proofs.lemmas.Bool.{cases_lt, and_from, leb-true, leb-false, lt-ltb, le-ltb, eq-eqb, ne_eqb}
use Rattle.std.proofs.lemmas.List.Folds.{list_all_at}
use Rattle.std.proofs.lemmas.List.Sums.{prefix_len-le-length}
use Rattle.std.proofs.lemmas.Simd.{length-chunk, trailing_mask_l, run_in_chunk_le, run_in_chunk_fails, run_in_chunk_stops, none_from_empty_mask}
use lib.Count.{count_trailing_zeros}
use lib.Lanes.{chunk, mask_l}
use Rattle.net_text.specs.Lexing.{Text, is_blank, is_ascii}

no_bit : (b : Bool) (n l m : ℕ) → n ≤ l → cond (not b) (1 + n) 0 ≡ suc l → (n ≡ l → m ≡ 0) → cond b 1 0 + 2 * m ≡ 0
no_bit false n l m le e rest = omega (arith, rest (omega (arith, e)))
no_bit true n l m le e rest = absurd (omega (arith, e))

-- none passes: no bit is set
none_marked : (p : ℕ → Bool) (xs : List ℕ) → prefix_len (λ x. not (p x)) xs ≡ length xs → mask_l (map p xs) ≡ 0
none_marked p [] e = refl
none_marked p (x ∷ xs) e = no_bit (p x) (prefix_len (λ y. not (p y)) xs) (length xs) (mask_l (map p xs)) (prefix_len-le-length (λ y. not (p y)) xs) e (none_marked p xs)

-- what holds up to i and for n octets from there holds up to their end
pub both_parts : (P : ℕ → Type 0) (i n : ℕ) → ((k : ℕ) → k < i → P k) → ((k : ℕ) → i ≤ k → k < i + n → P k) → (k : ℕ) → k < i + n → P k
both_parts P i n low high k lt =
    elim (cases_lt k i) [ inl l ↦ low k l | inr g ↦ high k g lt ]

-- no octet of these passes
pub none_passes : (p : ℕ → Bool) (xs : Text) (i n m : ℕ) → i + n ≤ length xs → m ≡ mask_l (map p (chunk i n xs)) → m ≡ 0 → (k : ℕ) → i ≤ k → k < i + n → p (get_or xs k 0) ≡ false
none_passes p xs i n m room is none = none_from_empty_mask p xs i n 0 room (sym is ∙ none)

below_end : (t n m : ℕ) → t ≤ n → (t ≡ n → m ≡ 0) → 0 < m → t < n
below_end t n m le full some = elim (cases_lt t n) [ inl l ↦ l | inr g ↦ absurd (omega (arith, some, full (omega (arith, le, g)))) ]

-- the lowest bit is of the first octet that passes
pub record IsFirst (p : ℕ → Bool) (xs : Text) (i t : ℕ) : Type 0 where
  pub inside : i + t < length xs
  pub before : (k : ℕ) → i ≤ k → k < i + t → p (get_or xs k 0) ≡ false
  pub there : p (get_or xs (i + t) 0) ≡ true

pub first_passes : (p : ℕ → Bool) (xs : Text) (i n m : ℕ) → i + n ≤ length xs → n ≤ 64 → m ≡ mask_l (map p (chunk i n xs)) → 0 < m → IsFirst p xs i (count_trailing_zeros 64 m)
first_passes p xs i n m room few is some =
    let c = chunk i n xs in
    let size : length c ≡ n = length-chunk i n xs room in
    let t = count_trailing_zeros 64 m in
    let marked : 0 < mask_l (map p c) = omega (arith, is, some) in
    let counted : t ≡ prefix_len (λ x. not (p x)) c = ap (count_trailing_zeros 64) is ∙ trailing_mask_l p 64 c (omega (arith, size, few)) marked in
    let le : t ≤ n = run_in_chunk_le p xs i n t 0 room counted in
    let full : t ≡ n → mask_l (map p c) ≡ 0 = λ e. none_marked p c (sym counted ∙ e ∙ sym size) in
    let lt : t < n = below_end t n (mask_l (map p c)) le full marked in
    record {
      inside = omega (arith, lt, room);
      before = run_in_chunk_fails p xs i n t 0 room counted;
      there = run_in_chunk_stops p xs i n t 0 room counted lt;
    }

-- ---- the tests

pub blank_is_low : (x : ℕ) → nat_le x 32 ≡ false → is_blank x ≡ false
blank_is_low x f = let high : 32 < x = leb-false x 32 f in rw (ne_eqb x 32 (omega (arith, high)), ne_eqb x 9 (omega (arith, high))) refl

pub ascii_from : (xs : Text) → ((k : ℕ) → k < length xs → nat_le 128 (get_or xs k 0) ≡ false) → is_ascii xs ≡ true
ascii_from [] h = refl
ascii_from (x ∷ xs) h = and_from _ _ (lt-ltb x 128 (leb-false 128 x (h 0 (omega arith)))) (ascii_from xs (λ k l. h (suc k) (omega arith)))

-- one of eight octets is none of ASCII
pub not_ascii : (xs : Text) (i m : ℕ) → i + 8 ≤ length xs → m ≡ mask_l (map (λ x. nat_le 128 x) (chunk i 8 xs)) → 0 < m → is_ascii xs ≡ false
not_ascii xs i m room is some =
    let first = first_passes (λ x. nat_le 128 x) xs i 8 m room (omega arith) is some in
    let high = leb-true 128 _ first.there in
    list_all_at (λ x. nat_lt x 128) xs (i + count_trailing_zeros 64 m) 0 first.inside (le-ltb _ 128 high)

-- the octets before i are ASCII, and the last eight decide
pub last_decides : (xs : Text) (i from m : ℕ) → ((k : ℕ) → k < i → nat_le 128 (get_or xs k 0) ≡ false) → from ≤ i → from + 8 ≡ length xs
    → m ≡ mask_l (map (λ x. nat_le 128 x) (chunk from 8 xs)) → (m == 0) ≡ is_ascii xs
last_decides xs i from m low le end is =
    let room : from + 8 ≤ length xs = omega (arith, end) in
    elim (cases_lt 0 m) [
      | inl some ↦ ne_eqb m 0 (omega (arith, some)) ∙ sym (not_ascii xs from m room is some)
      | inr none ↦
          let zero : m ≡ 0 = omega (arith, none) in
          let last = none_passes (λ x. nat_le 128 x) xs from 8 m room is zero in
          let all = both_parts (λ k. nat_le 128 (get_or xs k 0) ≡ false) from 8 (λ k lt. low k (omega (arith, lt, le))) last in
          eq-eqb m 0 zero ∙ sym (ascii_from xs (λ k lt. all k (omega (arith, lt, end))))
    ]
