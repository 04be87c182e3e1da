-- Sets of places, a bit at a time.
use Rattle.std.proofs.Common.{◌≡◌, ◌≢◌, ℕ, zero, suc, ◌<◌, ◌+◌, ◌-◌, ◌*◌, ◌/◌, ◌%◌, ◌^◌, true, false, List, [], ◌∷◌, length, get_or, set, refl, sym, ap, ◌∙◌, arith, inl, inr}
use Rattle.std.specs.Prelude.{◌==◌}
use Rattle.std.specs.Int.{bit_at, w64, trailing_zeros}
use Rattle.std.specs.Int.RustNames.{bit_or}
use lib.Bits.{bit_and}
use Rattle.std.proofs.lemmas.Bool.{cases_order, eq-eqb, ne_eqb}
use Rattle.std.proofs.lemmas.List.{get_or-set_other, get_or_past}
use Rattle.std.proofs.lemmas.Nat.{le_or_l, le_or_r}
use Rattle.std.proofs.lemmas.Grind.{get_or-set_at}
use Rattle.std.proofs.lemmas.Nat.Bits.{bit_at-zero, bit_at_set_same, bit_at_set_other, bit_at_clear_same, bit_at_clear_other, bit_at-trailing_zeros, shr_and_one}
use Rattle.rib_tables.specs.Places.{has}

pub has-is : (ws : List ℕ) (p : ℕ) → has (record { words = ws }) p ≡ (bit_at (get_or ws (p / 64) 0) (p % 64) == 1)
unfolding has
has-is ws p = refl

zeros : (k : ℕ) → ◌≡◌ {A = ℕ} (get_or (0 ∷ 0 ∷ 0 ∷ 0 ∷ []) k 0) 0
zeros zero = refl
zeros (suc zero) = refl
zeros (suc (suc zero)) = refl
zeros (suc (suc (suc zero))) = refl
zeros (suc (suc (suc (suc k)))) = refl

pub bit_is_zero : (n b : ℕ) → n ≡ 0 → (bit_at n b == 1) ≡ false
bit_is_zero n b e = ne_eqb (bit_at n b) 1 (λ one. let z : bit_at n b ≡ 0 = ap (λ (m : ℕ). bit_at m b) e ∙ bit_at-zero b in omega (arith, one, z))

pub has-empty : (p : ℕ) → has (record { words = 0 ∷ 0 ∷ 0 ∷ 0 ∷ [] }) p ≡ false
has-empty p = has-is (0 ∷ 0 ∷ 0 ∷ 0 ∷ []) p ∙ bit_is_zero (get_or (0 ∷ 0 ∷ 0 ∷ 0 ∷ []) (p / 64) 0) (p % 64) (zeros (p / 64))

-- what the code tests
pub has-tested : (ws : List ℕ) (p : ℕ) → (bit_and (get_or ws (p / 64) 0 / 2 ^ (p % 64)) 1 == 1) ≡ has (record { words = ws }) p
has-tested ws p = ap (λ (n : ℕ). n == 1) (shr_and_one (get_or ws (p / 64) 0) (p % 64)) ∙ sym (has-is ws p)

module _ (ws : List ℕ) (p : ℕ) (four : length ws ≡ 4) (low : p < 256) where
  abbrev with_bit : ℕ
  with_bit = bit_or (get_or ws (p / 64) 0) (1 * 2 ^ (p % 64) % 18446744073709551616)

  abbrev without_bit : ℕ
  without_bit = bit_and (get_or ws (p / 64) 0) (18446744073709551615 - 1 * 2 ^ (p % 64) % 18446744073709551616)

  inside : p / 64 < length ws
  inside = omega (arith, four, low)

  below : p % 64 < 64
  below = omega arith

  same_word : (y other : ℕ) → other / 64 ≡ p / 64 → get_or (set ws (p / 64) y) (other / 64) 0 ≡ y
  same_word y other e = get_or-set_at ws (p / 64) (other / 64) y 0 e inside

  -- a bit of another word, or another bit of this one
  elsewhere : (y : ℕ) → ((i : ℕ) → i < 64 → i ≢ p % 64 → bit_at y i ≡ bit_at (get_or ws (p / 64) 0) i) → (other : ℕ) → other ≢ p
      → has (record { words = set ws (p / 64) y }) other ≡ has (record { words = ws }) other
  elsewhere y keeps other apart =
      has-is (set ws (p / 64) y) other ∙ elim (cases_order (other / 64) (p / 64)) [
        | inl e ↦ ap (λ (n : ℕ). n == 1)
            (ap (λ (n : ℕ). bit_at n (other % 64)) (same_word y other e)
            ∙ keeps (other % 64) (omega arith) (λ s. apart (omega (arith, e, s)))
            ∙ ap (λ (k : ℕ). bit_at (get_or ws k 0) (other % 64)) (sym e))
        | inr differ ↦ ap (λ (n : ℕ). bit_at n (other % 64) == 1) (get_or-set_other ws (p / 64) (other / 64) y 0 (λ e. elim differ [ inl l ↦ omega (arith, l, e) | inr m ↦ omega (arith, m, e) ]))
      ] ∙ sym (has-is ws other)

  pub has-put_here : has (record { words = set ws (p / 64) with_bit }) p ≡ true
  has-put_here =
      has-is (set ws (p / 64) with_bit) p
      ∙ eq-eqb (bit_at (get_or (set ws (p / 64) with_bit) (p / 64) 0) (p % 64)) 1 (ap (λ (n : ℕ). bit_at n (p % 64)) (same_word with_bit p refl) ∙ bit_at_set_same w64 (get_or ws (p / 64) 0) (p % 64) below)

  pub has-put_other : (other : ℕ) → other ≢ p → has (record { words = set ws (p / 64) with_bit }) other ≡ has (record { words = ws }) other
  has-put_other = elsewhere with_bit (λ i lt apart. bit_at_set_other w64 (get_or ws (p / 64) 0) (p % 64) below i apart)

  pub has-out_here : has (record { words = set ws (p / 64) without_bit }) p ≡ false
  has-out_here =
      has-is (set ws (p / 64) without_bit) p
      ∙ ne_eqb (bit_at (get_or (set ws (p / 64) without_bit) (p / 64) 0) (p % 64)) 1 (λ one. let z = ap (λ (n : ℕ). bit_at n (p % 64)) (same_word without_bit p refl) ∙ bit_at_clear_same w64 (get_or ws (p / 64) 0) (p % 64) below in omega (arith, one, z))

  pub has-out_other : (other : ℕ) → other ≢ p → has (record { words = set ws (p / 64) without_bit }) other ≡ has (record { words = ws }) other
  has-out_other = elsewhere without_bit (λ i lt apart. bit_at_clear_other w64 (get_or ws (p / 64) 0) (p % 64) below i lt apart)

-- the first word that is not 0
pub has-first : (ws : List ℕ) (k n : ℕ) → length ws ≡ 4 → k < 4 → n ≡ get_or ws k 0 → (n ≡ 0 → ⊥) → n < 2 ^ 64 → ((j : ℕ) → j < k → get_or ws j 0 ≡ 0)
    → (64 * k + trailing_zeros w64 n < 256) × (has (record { words = ws }) (64 * k + trailing_zeros w64 n) ≡ true) × ((q : ℕ) → q < 64 * k + trailing_zeros w64 n → has (record { words = ws }) q ≡ false)
has-first ws k n four lt is some fits before =
    let t : ℕ = trailing_zeros w64 n in
    let low = bit_at-trailing_zeros w64 n (omega (arith, some)) fits in
    let t_lt : t < 64 = low.0 in
    let word : (64 * k + t) / 64 ≡ k = omega (arith, t_lt) in
    let bit : (64 * k + t) % 64 ≡ t = omega (arith, t_lt) in (
      omega (arith, t_lt, lt),
      has-is ws (64 * k + t) ∙ eq-eqb (bit_at (get_or ws ((64 * k + t) / 64) 0) ((64 * k + t) % 64)) 1 (rw (word, bit) (ap (λ (m : ℕ). bit_at m t) (sym is) ∙ low.1)),
      λ q under.
          has-is ws q ∙ elim (cases_order (q / 64) k) [
            | inl e ↦ ne_eqb (bit_at (get_or ws (q / 64) 0) (q % 64)) 1 (λ one.
                let z : bit_at (get_or ws (q / 64) 0) (q % 64) ≡ 0 = ap (λ (j : ℕ). bit_at (get_or ws j 0) (q % 64)) e ∙ ap (λ (m : ℕ). bit_at m (q % 64)) (sym is) ∙ low.2 (q % 64) (omega (arith, under, e, t_lt)) in
                omega (arith, one, z))
            | inr differ ↦ bit_is_zero (get_or ws (q / 64) 0) (q % 64) (before (q / 64) (elim differ [ inl l ↦ l | inr m ↦ absurd (omega (arith, m, under, t_lt)) ]))
          ],
    )

pub has-none : (ws : List ℕ) → ((j : ℕ) → get_or ws j 0 ≡ 0) → (q : ℕ) → has (record { words = ws }) q ≡ false
has-none ws all q = has-is ws q ∙ bit_is_zero (get_or ws (q / 64) 0) (q % 64) (all (q / 64))

-- where no word has a bit
module _ (ws : List ℕ) (four : length ws ≡ 4) where
  abbrev two : ℕ
  two = bit_or (get_or ws 0 0) (get_or ws 1 0)

  abbrev three : ℕ
  three = bit_or two (get_or ws 2 0)

  no_word : bit_or three (get_or ws 3 0) ≡ 0 → (j : ℕ) → get_or ws j 0 ≡ 0
  no_word none zero = let a = le_or_l (get_or ws 0 0) (get_or ws 1 0) in let b = le_or_l two (get_or ws 2 0) in let c = le_or_l three (get_or ws 3 0) in omega (arith, a, b, c, none)
  no_word none (suc zero) = let a = le_or_r (get_or ws 0 0) (get_or ws 1 0) in let b = le_or_l two (get_or ws 2 0) in let c = le_or_l three (get_or ws 3 0) in omega (arith, a, b, c, none)
  no_word none (suc (suc zero)) = let b = le_or_r two (get_or ws 2 0) in let c = le_or_l three (get_or ws 3 0) in omega (arith, b, c, none)
  no_word none (suc (suc (suc zero))) = let c = le_or_r three (get_or ws 3 0) in omega (arith, c, none)
  no_word none (suc (suc (suc (suc j)))) = get_or_past ws (suc (suc (suc (suc j)))) 0 (omega (arith, four))

  pub has-no_bits : bit_or three (get_or ws 3 0) ≡ 0 → (q : ℕ) → has (record { words = ws }) q ≡ false
  has-no_bits none = has-none ws (no_word none)
