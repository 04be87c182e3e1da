-- The bits of a number, and the number that a list of bits spells.
use Rattle.std.proofs.Common.{◌≡◌, ℕ, zero, suc, ◌+◌, ◌*◌, ◌/◌, ◌%◌, ◌^◌, ◌<◌, ◌==◌, Bool, true, false, cond, List, [], ◌∷◌, ◌++◌, length, take, refl, sym, ap, ◌∙◌, arith, zero-add}
use Rattle.std.specs.Prelude.{replicate}
use Rattle.std.proofs.lemmas.Nat.{pow_pos, shr-shr, mod-pow-add, mod_below, shr_high}
use Rattle.std.proofs.Math.Nat.{mod-one, mod-eq_of_lt, mul-add-div_right, mul-add-mod_self_right, div-eq_of_lt, zero-div, pow-suc, pow-succ', mul_assoc}
use Rattle.std.proofs.Math.Seq.{take-append_seam}
use Rattle.prefix_lanes.specs.Bits.{low_bits}

pub length_low : (n x : ℕ) → length (low_bits n x) ≡ n
length_low zero x = refl
length_low (suc n) x = omega (arith, length_low n x)

-- the high bits of a number, then its low ones
pub split_low : (m r x : ℕ) → low_bits (m + r) x ≡ low_bits m (x / 2 ^ r) ++ low_bits r x
split_low zero r x = rw (zero-add r) refl
split_low (suc m) r x =
    let n : suc m + r ≡ suc (m + r) = omega arith in
    let h : x / 2 ^ r / 2 ^ m ≡ x / 2 ^ (m + r) = shr-shr x r m ∙ ap (λ k. x / 2 ^ k) (omega arith) in
    rw (n, h) (ap (λ l. (x / 2 ^ (m + r) % 2 == 1) ∷ l) (split_low m r x))

pub first_low : (m r x : ℕ) → take m (low_bits (m + r) x) ≡ low_bits m (x / 2 ^ r)
first_low m r x = let high = low_bits m (x / 2 ^ r) in
    rw (split_low m r x) (ap (λ k. take k (high ++ low_bits r x)) (sym (length_low m (x / 2 ^ r))) ∙ take-append_seam high (low_bits r x))

-- bits above those that are asked for have no part in them
pub high_aside : (n d x : ℕ) → low_bits n (d * 2 ^ n + x) ≡ low_bits n x
high_aside zero d x = refl
high_aside (suc n) d x =
    let twice : d * 2 ^ suc n ≡ d * 2 * 2 ^ n = ap (λ m. d * m) (pow-succ' 2 n) ∙ sym (mul_assoc d 2 (2 ^ n)) in
    let half : (d * 2 * 2 ^ n + x) / 2 ^ n ≡ d * 2 + x / 2 ^ n = mul-add-div_right (pow_pos n) (d * 2) x in
    let odd : (d * 2 + x / 2 ^ n) % 2 ≡ x / 2 ^ n % 2 = mul-add-mod_self_right d 2 (x / 2 ^ n) in
    rw (twice, half, odd) (ap (λ l. (x / 2 ^ n % 2 == 1) ∷ l) (high_aside n (d * 2) x))

pub low_of_zero : (n : ℕ) → low_bits n 0 ≡ replicate n false
low_of_zero zero = refl
low_of_zero (suc n) = rw (zero-div (2 ^ n)) (ap (λ l. false ∷ l) (low_of_zero n))

-- the number that a list of bits spells
abbrev pub number : List Bool → ℕ
number [] = 0
number (b ∷ bs) = cond b (2 ^ length bs) 0 + number bs

bit_times : (r k : ℕ) → r < 2 → cond (r == 1) k 0 ≡ r * k
bit_times zero k l = omega arith
bit_times (suc zero) k l = omega arith
bit_times (suc (suc r)) k l = absurd (omega (arith, l))

pub number_low : (n x : ℕ) → number (low_bits n x) ≡ x % 2 ^ n
number_low zero x = sym (mod-one x)
number_low (suc n) x =
    let bit : cond (x / 2 ^ n % 2 == 1) (2 ^ n) 0 ≡ x / 2 ^ n % 2 * 2 ^ n = bit_times (x / 2 ^ n % 2) (2 ^ n) (mod_below (x / 2 ^ n) 2 (omega arith)) in
    let all : x % 2 ^ (1 + n) ≡ x / 2 ^ n % 2 * 2 ^ n + x % 2 ^ n = mod-pow-add x 1 n in
    let one : suc n ≡ 1 + n = omega arith in
    rw (length_low n x, bit, number_low n x, one, all) refl

pub number_fits : (bs : List Bool) → number bs < 2 ^ length bs
number_fits [] = omega arith
number_fits (true ∷ bs) = rw (pow-suc 2 (length bs)) (omega (arith, number_fits bs))
number_fits (false ∷ bs) = rw (pow-suc 2 (length bs)) (omega (arith, number_fits bs))

-- a list of bits is that of its number
pub low_of_number : (bs : List Bool) → low_bits (length bs) (number bs) ≡ bs
low_of_number [] = refl
low_of_number (true ∷ bs) =
    let n = length bs in
    let one : 2 ^ n + number bs ≡ 1 * 2 ^ n + number bs = omega arith in
    rw (one, shr_high 1 n (number bs) (number_fits bs), high_aside n 1 (number bs)) (ap (λ l. true ∷ l) (low_of_number bs))
low_of_number (false ∷ bs) = rw (zero-add (number bs), div-eq_of_lt (number_fits bs)) (ap (λ l. false ∷ l) (low_of_number bs))

-- numbers with the same bits are one
pub same_number : (n x y : ℕ) → x < 2 ^ n → y < 2 ^ n → low_bits n x ≡ low_bits n y → x ≡ y
same_number n x y l m e = sym (mod-eq_of_lt l) ∙ sym (number_low n x) ∙ ap number e ∙ number_low n y ∙ mod-eq_of_lt m
