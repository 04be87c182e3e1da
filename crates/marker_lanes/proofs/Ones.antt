-- Octets that are all ones, seen through the mask of those that are not.
use Rattle.std.proofs.Common.{◌≡◌, ℕ, suc, ◌+◌, ◌*◌, ◌<◌, ◌≤◌, ◌==◌, Bool, true, false, not, cond, eqb, List, [], ◌∷◌, map, length, drop, replicate, refl, sym, ap, ap₂, ◌∙◌, arith}
use Rattle.std.specs.List.{prefix_len}
use Rattle.std.proofs.lemmas.Bool.{eqb-true, eq-eqb, ne_eqb}
use Rattle.std.proofs.lemmas.List.Folds.{prefix_len-append}
use Rattle.std.proofs.lemmas.List.Sums.{prefix_len-le-length}
use Rattle.std.proofs.lemmas.Simd.{chunk-drop, length-chunk, leading_from_mask_l, trailing_mask_l}
use lib.Count.{count_trailing_zeros}
use lib.Lanes.{chunk, mask_l}
use Rattle.marker_lanes.specs.Marker.{marker, is_other}

none_set : (b : Bool) (rest : ℕ) → cond (not b) 1 0 + 2 * rest ≡ 0 → (b ≡ true) × (rest ≡ 0)
none_set true rest e = (refl, omega (arith, e))
none_set false rest e = absurd (omega (arith, e))

-- no bit is set: all are ones
whole : (xs : List ℕ) → mask_l (map is_other xs) ≡ 0 → xs ≡ replicate (length xs) 255
whole [] e = refl
whole (x ∷ xs) e =
    let parts = none_set (x == 255) (mask_l (map is_other xs)) e in
    ap (λ (y : ℕ). y ∷ xs) (eqb-true x 255 parts.0) ∙ ap (λ (ys : List ℕ). 255 ∷ ys) (whole xs parts.1)

pub all_ones : (xs : List ℕ) → length xs ≡ 16 → (mask_l (map is_other xs) ≡ 0 → xs ≡ marker) × (xs ≡ marker → mask_l (map is_other xs) ≡ 0)
unfolding marker
all_ones xs len = (λ e. whole xs e ∙ ap (λ (n : ℕ). replicate n 255) len, λ e. ap (λ ys. mask_l (map is_other ys)) e)

-- the octets before the first other one
abbrev run : List ℕ → ℕ
run xs = prefix_len (λ octet. octet == 255) xs

twice : (b : Bool) → b ≡ not (not b)
twice true = refl
twice false = refl

same_run : (xs : List ℕ) → run xs ≡ prefix_len (λ x. not (is_other x)) xs
same_run [] = refl
same_run (x ∷ xs) = ap₂ (λ b n. cond b (1 + n) 0) (twice (x == 255)) (same_run xs)

all_pass : (b : Bool) (n l m : ℕ) → n ≤ l → cond b (1 + n) 0 ≡ suc l → (n ≡ l → m ≡ 0) → cond (not b) 1 0 + 2 * m ≡ 0
all_pass true n l m le e rest = omega (arith, rest (omega (arith, e)))
all_pass false n l m le e rest = absurd (omega (arith, e))

run_of_ones : (xs : List ℕ) → run xs ≡ length xs → mask_l (map is_other xs) ≡ 0
run_of_ones [] e = refl
run_of_ones (x ∷ xs) e = all_pass (x == 255) (run xs) (length xs) (mask_l (map is_other xs)) (prefix_len-le-length (λ octet. octet == 255) xs) e (run_of_ones xs)

split : (xs : List ℕ) (at : ℕ) → run (drop at xs) ≡ cond (eqb (run (chunk at 16 xs)) (length (chunk at 16 xs))) (length (chunk at 16 xs) + run (drop (at + 16) xs)) (run (chunk at 16 xs))
split xs at = ap run (chunk-drop at 16 xs) ∙ prefix_len-append (λ octet. octet == 255) (chunk at 16 xs) (drop (at + 16) xs)

-- sixteen octets of ones
pub goes_on : (xs : List ℕ) (at : ℕ) → at + 16 ≤ length xs → mask_l (map is_other (chunk at 16 xs)) ≡ 0 → run (drop at xs) ≡ 16 + run (drop (at + 16) xs)
goes_on xs at room none =
    let c = chunk at 16 xs in
    split xs at ∙ ap (λ b. cond b (length c + run (drop (at + 16) xs)) (run c)) (eq-eqb _ _ (same_run c ∙ leading_from_mask_l is_other c none))
    ∙ ap (λ n. n + run (drop (at + 16) xs)) (length-chunk at 16 xs room)

-- another octet among the sixteen
pub stops : (xs : List ℕ) (at : ℕ) → at + 16 ≤ length xs → 0 < mask_l (map is_other (chunk at 16 xs)) → run (drop at xs) ≡ count_trailing_zeros 64 (mask_l (map is_other (chunk at 16 xs)))
stops xs at room some =
    let c = chunk at 16 xs in
    split xs at ∙ ap (λ b. cond b (length c + run (drop (at + 16) xs)) (run c)) (ne_eqb _ _ (λ (e : run c ≡ length c). omega (arith, run_of_ones c e)))
    ∙ same_run c ∙ sym (trailing_mask_l is_other 64 c (omega (arith, length-chunk at 16 xs room)) some)
