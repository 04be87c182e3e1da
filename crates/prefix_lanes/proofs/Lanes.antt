-- Eight addresses, and what the lanes compute of their lengths.
use Rattle.std.proofs.Common.{◌≡◌, ℕ, zero, suc, ◌+◌, ◌-◌, ◌*◌, ◌%◌, ◌^◌, ◌<◌, ◌≤◌, ◌==◌, ◌&&◌, Bool, true, cond, eqb, List, [], ◌∷◌, map, length, replicate, refl, sym, ap, ap₂, subst, ◌∙◌, arith, inl, inr, bit_and, w32, Fits}
use Rattle.std.proofs.lemmas.Bool.{and_parts, cases_order, eqb-true}
use Rattle.std.proofs.lemmas.Nat.Bits.{and_high_mask}
use lib.Lanes.{zip2, sel_l, top, Each1}
use Rattle.prefix_lanes.specs.Bits.{masked, leading_mask}

-- the mask that a lane makes of a length
abbrev lane : ℕ → ℕ
lane len = cond (top 31 (cond (eqb len 0) 4294967295 0)) 0 ((0 + (4294967296 - 1 * 2 ^ bit_and ((32 + (4294967296 - len)) % 4294967296) 31 % 4294967296)) % 4294967296)

abbrev agree : ℕ → Bool
agree zero = true
agree (suc n) = (lane n == leading_mask n) && agree n

agrees : (n : ℕ) → agree n ≡ true → (len : ℕ) → len < n → lane len ≡ leading_mask len
agrees zero e len l = absurd (omega (arith, l))
agrees (suc n) e len l =
    let parts = and_parts (lane n == leading_mask n) (agree n) e in
    elim (cases_order len n) [
      | inl same ↦ subst (λ k. lane k ≡ leading_mask k) (sym same) (eqb-true (lane n) (leading_mask n) parts.0)
      | inr other ↦ elim other [
        | inl below ↦ agrees n parts.1 len below
        | inr above ↦ absurd (omega (arith, l, above))
      ]
    ]

-- a mask leaves the first bits of an address
pub mask_clears : (addr len : ℕ) → addr < 2 ^ 32 → len ≤ 32 → bit_and addr (leading_mask len) ≡ masked addr len
mask_clears addr len f l = and_high_mask 32 (32 - len) (omega arith) addr f

cleared : (addr len : ℕ) → addr < 2 ^ 32 → len ≤ 32 → bit_and addr (lane len) ≡ masked addr len
cleared addr len f l = ap (bit_and addr) (agrees 33 refl len (omega (arith, l))) ∙ mask_clears addr len f l

all_cleared : (words lens : List ℕ) → Each1 (Fits w32) words → Each1 (λ len. len ≤ 32) lens → zip2 bit_and words (map lane lens) ≡ zip2 masked words lens
all_cleared [] lens f l = refl
all_cleared (w ∷ words) [] f l = refl
all_cleared (w ∷ words) (n ∷ lens) f l = ap₂ (λ x xs. x ∷ xs) (cleared w n f.0.fits l.0) (all_cleared words lens f.1 l.1)

-- the masks, lane by lane, in vectors of n
abbrev masks : ℕ → List ℕ → List ℕ
masks n lens = sel_l (map (top 31) (zip2 (λ a b. cond (eqb a b) 4294967295 0) lens (replicate n 0))) (replicate n 0)
    (zip2 (λ a b. (a + (4294967296 - b)) % 4294967296) (replicate n 0) (zip2 (λ a b. a * 2 ^ b % 4294967296) (replicate n 1)
    (zip2 bit_and (zip2 (λ a b. (a + (4294967296 - b)) % 4294967296) (replicate n 32) lens) (replicate n 31))))

made : (lens : List ℕ) → masks (length lens) (map (λ x. x) lens) ≡ map lane lens
made [] = refl
made (x ∷ lens) = ap (λ r. lane x ∷ r) (made lens)

pub lanes_cleared : (words lens : List ℕ) → length lens ≡ 8 → Each1 (Fits w32) words → Each1 (λ len. len ≤ 32) lens → zip2 bit_and words (masks 8 (map (λ x. x) lens)) ≡ zip2 masked words lens
lanes_cleared words lens n f l =
    ap (λ k. zip2 bit_and words (masks k (map (λ x. x) lens))) (sym n) ∙ ap (zip2 bit_and words) (made lens) ∙ all_cleared words lens f l
