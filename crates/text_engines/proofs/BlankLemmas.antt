-- Runs of octets that are no blanks, and a turn more of the loops that take blanks out.
use Rattle.std.proofs.Common.{◌≡◌, ℕ, zero, suc, Bool, ◌+◌, ◌-◌, ◌<◌, ◌≤◌, true, false, List, [], ◌∷◌, ◌++◌, length, get_or, set, take, drop, map, not, refl, sym, ap, subst, ◌∙◌, arith, ne_eqb}
use Rattle.std.specs.Prelude.{nat_le, filter}
use Rattle.std.proofs.lemmas.Bool.{leb-false}
use Rattle.std.specs.List.{All, copy_within, prefix_len}
use Rattle.std.proofs.Math.Seq.{take-add, paste}
use Rattle.std.proofs.lemmas.List.{length-drop, length-take, take-take, get_or-take, get_or_default}
use Rattle.std.proofs.lemmas.List.Edits.{take-paste, drop-paste, length-paste}
use Rattle.std.proofs.lemmas.List.Elements.{All-head, All-tail, filter-append}
use Rattle.std.proofs.lemmas.List.Sums.{prefix_len_passes, prefix_len-le-length}
use Rattle.std.proofs.lemmas.Simd.{leading_from_mask_l, trailing_mask_l}
use lib.Count.{count_trailing_zeros}
use lib.Lanes.{mask_l}
use Rattle.std.proofs.lemmas.List.Filters.{FiltersInPlace, FiltersInPlace-more_no, FiltersInPlace-more_set}
use Rattle.text_engines.specs.Decoding.{is_blank}

-- what is above a space is no blank
no_blank : (o : ℕ) → 32 < o → is_blank o ≡ false
no_blank o lt =
    let a = ne_eqb o 32 (λ e. omega arith) in
    let b = ne_eqb o 9 (λ e. omega arith) in
    let c = ne_eqb o 13 (λ e. omega arith) in
    let d = ne_eqb o 10 (λ e. omega arith) in
    rw (a, b, c, d) refl

-- an octet that is at most a space
abbrev is_low : ℕ → Bool
is_low octet = nat_le octet 32

high : (o : ℕ) → not (is_low o) ≡ true → is_blank o ≡ false
high o e = no_blank o (leb-false o 32 (not_true (is_low o) e)) where
  not_true : (b : Bool) → not b ≡ true → b ≡ false
  not_true false e = refl
  not_true true e = absurd cc

-- no blank stands before the first low octet
before_low : (xs : List ℕ) (n : ℕ) → n ≡ prefix_len (λ octet. not (is_low octet)) xs → All (λ o. is_blank o ≡ false) (take n xs)
before_low xs n is = λ k d lt.
    let short : k < n = omega (arith, lt, length-take n xs) in
    subst (λ (o : ℕ). is_blank o ≡ false) (sym (get_or-take n xs k d short)) (high (get_or xs k d) (prefix_len_passes (λ octet. not (is_low octet)) xs k d (omega (arith, short, is))))

-- no octet of a piece is low
pub whole_run : (piece : List ℕ) (low : ℕ) → length piece ≡ 64 → low ≡ mask_l (map is_low piece) → low ≡ 0 → All (λ o. is_blank o ≡ false) (take 64 piece)
whole_run piece low size is none = before_low piece 64 (sym size ∙ sym (leading_from_mask_l is_low piece (sym is ∙ none)))

-- one is
pub short_run : (piece : List ℕ) (low : ℕ) → length piece ≡ 64 → low ≡ mask_l (map is_low piece) → 0 < low
    → (count_trailing_zeros 64 low ≤ 64) × All (λ o. is_blank o ≡ false) (take (count_trailing_zeros 64 low) piece)
short_run piece low size is some =
    let counted : count_trailing_zeros 64 low ≡ prefix_len (λ octet. not (is_low octet)) piece = ap (count_trailing_zeros 64) is ∙ trailing_mask_l is_low 64 piece (omega (arith, size)) (omega (arith, is, some)) in
    (omega (arith, counted, size, prefix_len-le-length (λ octet. not (is_low octet)) piece), before_low piece (count_trailing_zeros 64 low) counted)

-- a run in front of a piece is one in front of what begins with the piece
pub run_of_front : (octets piece : List ℕ) (n : ℕ) → piece ≡ take 64 octets → n ≤ 64 → All (λ o. is_blank o ≡ false) (take n piece) → All (λ o. is_blank o ≡ false) (take n octets)
run_of_front octets piece n is few all = subst (λ (l : List ℕ). All (λ o. is_blank o ≡ false) l) (ap (take n) is ∙ take-take n 64 octets few) all

-- octets without a blank are all kept
all_kept : (xs : List ℕ) → All (λ o. is_blank o ≡ false) xs → filter (λ o. not (is_blank o)) xs ≡ xs
all_kept [] all = refl
all_kept (x ∷ xs) all =
    let f : is_blank x ≡ false = All-head (λ o. is_blank o ≡ false) x xs all in
    rw f (ap (λ (l : List ℕ). x ∷ l) (all_kept xs (All-tail (λ o. is_blank o ≡ false) x xs all)))

pub behind_behind : (i n : ℕ) (xs : List ℕ) → drop n (drop i xs) ≡ drop (i + n) xs
behind_behind zero n xs = let e : n ≡ 0 + n = omega arith in ap (λ (m : ℕ). drop m xs) e
behind_behind (suc i) zero [] = let e : suc i ≡ suc i + 0 = omega arith in ap (λ (m : ℕ). drop m []) e
behind_behind (suc i) (suc n) [] = let e : suc i + suc n ≡ suc (i + suc n) = omega arith in ap (λ (m : ℕ). drop m []) (sym e)
behind_behind (suc i) n (x ∷ xs) = let e : suc (i + n) ≡ suc i + n = omega arith in behind_behind i n xs ∙ ap (λ (m : ℕ). drop m (x ∷ xs)) e

module _ {xs ys : List ℕ} {k i : ℕ} where
  -- the next piece is kept whole
  piece_kept : (n : ℕ) → FiltersInPlace (λ o. not (is_blank o)) xs ys k i → All (λ o. is_blank o ≡ false) (take n (drop i ys))
      → take k ys ++ take n (drop i ys) ≡ filter (λ o. not (is_blank o)) (take (i + n) xs)
  piece_kept n h all =
      (λ t. h.front t ++ sym (all_kept (take n (drop i ys)) all) t) ∙ ap (λ (l : List ℕ). filter (λ o. not (is_blank o)) (take i xs) ++ filter (λ o. not (is_blank o)) (take n l)) h.rest
      ∙ sym (filter-append (λ o. not (is_blank o)) (take i xs) (take n (drop i xs))) ∙ ap (filter (λ o. not (is_blank o))) (sym (take-add i n xs))

  -- what is behind the piece is where it was
  further : (n : ℕ) → FiltersInPlace (λ o. not (is_blank o)) xs ys k i → drop (i + n) ys ≡ drop (i + n) xs
  further n h = sym (behind_behind i n ys) ∙ ap (drop n) h.rest ∙ behind_behind i n xs

  -- a piece without a blank that is moved
  pub piece_moved : (n : ℕ) → FiltersInPlace (λ o. not (is_blank o)) xs ys k i → i + n ≤ length ys → All (λ o. is_blank o ≡ false) (take n (drop i ys))
      → FiltersInPlace (λ o. not (is_blank o)) xs (copy_within ys i (i + n) k) (k + n) (i + n)
  piece_moved n h inside all =
      let size : (i + n) - i ≡ n = omega arith in
      let room : n ≤ length (drop i ys) = omega (arith, length-drop i ys) in
      let low : k ≤ length ys = omega (arith, h.behind) in
      let gap : ℕ = i - k in
      let far : i + n ≡ (k + n) + gap = omega (arith, h.behind) in
      let new : List ℕ = paste ys k (drop i ys) n in
      let done : FiltersInPlace (λ o. not (is_blank o)) xs new (k + n) (i + n) = record {
        front = take-paste ys k (drop i ys) n low room ∙ piece_kept n h all;
        rest = ap (λ (m : ℕ). drop m new) far ∙ sym (behind_behind (k + n) gap new) ∙ ap (drop gap) (drop-paste ys k (drop i ys) n low room) ∙ behind_behind (k + n) gap ys ∙ ap (λ (m : ℕ). drop m ys) (sym far)
            ∙ further n h;
        behind = omega (arith, h.behind);
        within = omega (arith, h.long);
        long = length-paste ys k (drop i ys) n (omega (arith, h.behind)) room ∙ h.long;
      } in
      subst (λ (m : ℕ). FiltersInPlace (λ o. not (is_blank o)) xs (paste ys k (drop i ys) m) (k + n) (i + n)) (sym size) done

  -- one that stands where it should
  pub piece_here : (n : ℕ) → FiltersInPlace (λ o. not (is_blank o)) xs ys k i → i + n ≤ length ys → All (λ o. is_blank o ≡ false) (take n (drop i ys)) → k ≡ i
      → FiltersInPlace (λ o. not (is_blank o)) xs ys (k + n) (i + n)
  piece_here n h inside all same = record {
    front = take-add k n ys ∙ ap (λ (m : ℕ). take k ys ++ take n (drop m ys)) same ∙ piece_kept n h all;
    rest = further n h;
    behind = omega arith;
    within = omega (arith, h.long);
    long = h.long;
  }

-- what is left begins with a run of octets that are no blanks
module _ {xs ys : List ℕ} {k i : ℕ} where
  pub moved_on : (new left : List ℕ) (n : ℕ) → FiltersInPlace (λ o. not (is_blank o)) xs ys k i → left ≡ drop i ys → i ≤ length ys → n ≤ length left → All (λ o. is_blank o ≡ false) (take n left)
      → new ≡ copy_within ys i (i + n) k → FiltersInPlace (λ o. not (is_blank o)) xs new (k + n) (i + n)
  moved_on new left n h is within room run made =
      let all : All (λ o. is_blank o ≡ false) (take n (drop i ys)) = subst (λ (l : List ℕ). All (λ o. is_blank o ≡ false) (take n l)) is run in
      subst (λ (l : List ℕ). FiltersInPlace (λ o. not (is_blank o)) xs l (k + n) (i + n)) (sym made)
      (piece_moved n h (omega (arith, room, ap length is, length-drop i ys)) all)

  pub stayed : (new left : List ℕ) (n : ℕ) → FiltersInPlace (λ o. not (is_blank o)) xs ys k i → left ≡ drop i ys → i ≤ length ys → n ≤ length left → All (λ o. is_blank o ≡ false) (take n left)
      → new ≡ ys → i ≤ k → FiltersInPlace (λ o. not (is_blank o)) xs new (k + n) (i + n)
  stayed new left n h is within room run made low =
      let all : All (λ o. is_blank o ≡ false) (take n (drop i ys)) = subst (λ (l : List ℕ). All (λ o. is_blank o ≡ false) (take n l)) is run in
      subst (λ (l : List ℕ). FiltersInPlace (λ o. not (is_blank o)) xs l (k + n) (i + n)) (sym made)
      (piece_here n h (omega (arith, room, ap length is, length-drop i ys)) all (omega (arith, low, h.behind)))

  -- one octet more
  pub octet_kept : (new : List ℕ) (n : ℕ) → FiltersInPlace (λ o. not (is_blank o)) xs ys k i → i < length ys → not (is_blank (get_or ys i 0)) ≡ true → new ≡ set ys k (get_or ys i 0) → n ≡ k + 1
      → FiltersInPlace (λ o. not (is_blank o)) xs new n (i + 1)
  octet_kept new n h lt keeps made is =
      subst (λ (l : List ℕ). FiltersInPlace (λ o. not (is_blank o)) xs l n (i + 1)) (sym made)
      (subst (λ (m : ℕ). FiltersInPlace (λ o. not (is_blank o)) xs (set ys k (get_or ys i 0)) m (i + 1)) (sym is)
      (FiltersInPlace-more_set h lt keeps (get_or_default ys i 0 (get_or ys i 0) lt)))

  pub octet_dropped : (new : List ℕ) (n : ℕ) → FiltersInPlace (λ o. not (is_blank o)) xs ys k i → i < length ys → not (is_blank (get_or ys i 0)) ≡ false → new ≡ ys → n ≡ k
      → FiltersInPlace (λ o. not (is_blank o)) xs new n (i + 1)
  octet_dropped new n h lt drops made is =
      subst (λ (l : List ℕ). FiltersInPlace (λ o. not (is_blank o)) xs l n (i + 1)) (sym made)
      (subst (λ (m : ℕ). FiltersInPlace (λ o. not (is_blank o)) xs ys m (i + 1)) (sym is) (FiltersInPlace-more_no h lt drops (get_or_default ys i 0 (get_or ys i 0) lt)))
