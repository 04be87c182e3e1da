-- Addresses of which the first are cleared past their lengths.
use Rattle.std.proofs.Common.{◌≡◌, ℕ, ◌+◌, ◌-◌, ◌<◌, ◌≤◌, List, length, get_or, slice_index, sym, ap, ap₂, subst, ◌∙◌, arith, inl, inr}
use Rattle.std.proofs.lemmas.Bool.{cases_lt}
use Rattle.std.proofs.lemmas.Simd.{length-chunk, length-zip2, get_or-chunk, get_or-zip2, get_or-put_chunk_below, get_or-put_chunk_at, get_or-put_chunk_above}
use lib.Lanes.{chunk, put_chunk, zip2}
use Rattle.prefix_lanes.specs.Bits.{masked}

pub record Masked (before now lens : List ℕ) (i : ℕ) : Type 0 where
  pub done : (k : ℕ) → k < i → slice_index now k ≡ masked (slice_index before k) (slice_index lens k)
  pub left : (k : ℕ) → i ≤ k → slice_index now k ≡ slice_index before k

-- eight that were cleared together
pub eight_more : (before now lens lanes : List ℕ) (at : ℕ) → at + 8 ≤ length now → at + 8 ≤ length lens → lanes ≡ zip2 masked (chunk at 8 now) (chunk at 8 lens)
    → Masked before now lens at → Masked before (put_chunk at now lanes) lens (at + 8)
eight_more before now lens lanes at room short e m =
    let words = chunk at 8 now in
    let few = chunk at 8 lens in
    let n : length words ≡ 8 = length-chunk at 8 now room in
    let k : length few ≡ 8 = length-chunk at 8 lens short in
    let long : length lanes ≡ 8 = ap length e ∙ length-zip2 masked words few (n ∙ sym k) ∙ n in
    let at_lane : (j : ℕ) → j < 8 → get_or (put_chunk at now lanes) (at + j) 0 ≡ masked (get_or before (at + j) 0) (get_or lens (at + j) 0) =
    λ j l. get_or-put_chunk_at at now lanes j 0 (omega (arith, l, long)) (omega (arith, long, room))
    ∙ ap (λ xs. get_or xs j 0) e ∙ get_or-zip2 masked words few j 0 0 0 (omega (arith, l, n)) (omega (arith, l, k))
    ∙ ap₂ masked (get_or-chunk at 8 now j 0 l ∙ m.left (at + j) (omega arith)) (get_or-chunk at 8 lens j 0 l) in
    record {
      done = λ i l. elim (cases_lt i at) [
        | inl below ↦ get_or-put_chunk_below at now lanes i 0 below ∙ m.done i below
        | inr above ↦
            let whole : at + (i - at) ≡ i = omega (arith, above) in
            subst (λ p. get_or (put_chunk at now lanes) p 0 ≡ masked (get_or before p 0) (get_or lens p 0)) whole (at_lane (i - at) (omega (arith, l, above)))
      ];
      left = λ i l. get_or-put_chunk_above at now lanes i 0 (omega (arith, l, long)) ∙ m.left i (omega (arith, l));
    }
