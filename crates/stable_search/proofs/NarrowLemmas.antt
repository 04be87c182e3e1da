-- What a narrowing of sets keeps.
use Rattle.std.proofs.Common.{◌≡◌, ◌≢◌, ℕ, zero, suc, ◌<◌, ◌-◌, ◌*◌, ◌%◌, ◌^◌, List, [], ◌∷◌, length, get_or, set, refl, sym, ap, subst, ◌∙◌, arith, inl, inr, ◌⊎◌}
use Rattle.std.specs.List.{All}
use Rattle.std.specs.Int.{bit_at, w64}
use lib.Bits.{bit_and}
use Rattle.std.proofs.lemmas.Bool.{cases_order}
use Rattle.std.proofs.lemmas.List.{length-set, get_or-set_same, get_or-set_other}
use Rattle.std.proofs.lemmas.Nat.Bits.{bit_at_and, bit_at-lt, bit_at-zero, bit_at_clear_other}
use Rattle.stable_search.specs.declared.way.Way.{Way}
use Rattle.stable_search.specs.Picks.{Has, IsIn, FitsWay, IsWithin, Solves, Narrows}

pub has_left : (a b i : ℕ) → Has (bit_and a b) i → Has a i
has_left a b i h = let e = bit_at_and a b i in let x = bit_at-lt a i in let y = bit_at-lt b i in omega (arith, e, x, y, h)

pub none_common : (a b i : ℕ) → bit_and a b ≡ 0 → Has a i → Has b i → ⊥
none_common a b i none x y =
    let e = bit_at_and a b i in
    let z : bit_at (bit_and a b) i ≡ 0 = ap (λ (n : ℕ). bit_at n i) none ∙ bit_at-zero i in
    omega (arith, e, z, x, y)

abbrev pub Kept : List ℕ → ℕ → ℕ → ℕ → Type 0
Kept fits mine theirs kept =
    ((value : ℕ) → Has kept value → Has mine value)
    × ((value : ℕ) → value < 64 → Has mine value → Has kept value ⊎ (bit_and (get_or fits value 0) theirs ≡ 0))

-- a value without a partner goes
pub cleared : (fits : List ℕ) (mine theirs kept i new : ℕ) → i < 64 → bit_and (get_or fits i 0) theirs ≡ 0
    → new ≡ bit_and kept (18446744073709551615 - 1 * 2 ^ i % 18446744073709551616) → Kept fits mine theirs kept → Kept fits mine theirs new
cleared fits mine theirs kept i new lt none e inv = (
  λ value h. inv.0 value (has_left kept (18446744073709551615 - 1 * 2 ^ i % 18446744073709551616) value (subst (λ (n : ℕ). Has n value) e h)),
  λ value low h. elim (inv.1 value low h) [
    | inr gone ↦ inr gone
    | inl stays ↦ elim (cases_order value i) [
      | inl same ↦ inr (ap (λ (k : ℕ). bit_and (get_or fits k 0) theirs) same ∙ none)
      | inr differ ↦
          let apart : value ≢ i = λ s. elim differ [ inl l ↦ omega (arith, l, s) | inr m ↦ omega (arith, m, s) ] in
          inl (ap (λ (n : ℕ). bit_at n value) e ∙ bit_at_clear_other w64 kept i lt value low apart ∙ stays)
    ]
  ],
)

pub first_of : (way : Way) (pick : List ℕ) → All (FitsWay pick) (way ∷ []) → FitsWay pick way
first_of way pick all = all 0 way (omega arith)

-- the sets without what has no partner over a way
pub narrowed : (way : Way) (sets : List ℕ) (left : ℕ) → IsWithin (length sets) way
    → Kept way.fits.items (get_or sets way.from 0) (get_or sets way.to 0) left → Narrows (way ∷ []) sets (set sets way.from left)
narrowed way sets left within kept = record {
  keeps = λ pick s. record {
    size = s.inside.size ∙ sym (length-set sets way.from left);
    low = s.inside.low;
    each = λ i lt. stays pick s i (omega (arith, lt, length-set sets way.from left));
  };
  size = length-set sets way.from left;
  fewer = λ place value has. was place value has;
}
  where
    stays : (pick : List ℕ) → Solves (way ∷ []) sets pick → (i : ℕ) → i < length sets → Has (get_or (set sets way.from left) i 0) (get_or pick i 0)
    stays pick s i lt = elim (cases_order i way.from) [
      | inl same ↦
          let here : get_or (set sets way.from left) i 0 ≡ left = ap (λ (k : ℕ). get_or (set sets way.from left) k 0) same ∙ get_or-set_same sets way.from left 0 within.from in
          let mine : Has (get_or sets way.from 0) (get_or pick way.from 0) = s.inside.each way.from within.from in
          let value : get_or pick i 0 ≡ get_or pick way.from 0 = ap (λ (k : ℕ). get_or pick k 0) same in
          let has : Has left (get_or pick way.from 0) = elim (kept.1 (get_or pick way.from 0) (s.inside.low way.from) mine) [
            | inl there ↦ there
            | inr gone ↦ absurd (none_common (get_or way.fits.items (get_or pick way.from 0) 0) (get_or sets way.to 0) (get_or pick way.to 0) gone (first_of way pick s.fits) (s.inside.each way.to within.to))
          ] in
          subst (λ (n : ℕ). Has n (get_or pick i 0)) (sym here) (subst (Has left) (sym value) has)
      | inr differ ↦
          let other : get_or (set sets way.from left) i 0 ≡ get_or sets i 0 = get_or-set_other sets way.from i left 0 (λ e. elim differ [ inl l ↦ omega (arith, l, e) | inr m ↦ omega (arith, m, e) ]) in
          subst (λ (n : ℕ). Has n (get_or pick i 0)) (sym other) (s.inside.each i lt)
    ]

    was : (i value : ℕ) → Has (get_or (set sets way.from left) i 0) value → Has (get_or sets i 0) value
    was i value has = elim (cases_order i way.from) [
      | inl same ↦
          let here : get_or (set sets way.from left) i 0 ≡ left = ap (λ (k : ℕ). get_or (set sets way.from left) k 0) same ∙ get_or-set_same sets way.from left 0 within.from in
          let set_is : get_or sets i 0 ≡ get_or sets way.from 0 = ap (λ (k : ℕ). get_or sets k 0) same in
          subst (λ (n : ℕ). Has n value) (sym set_is) (kept.0 value (subst (λ (n : ℕ). Has n value) here has))
      | inr differ ↦
          let other : get_or (set sets way.from left) i 0 ≡ get_or sets i 0 = get_or-set_other sets way.from i left 0 (λ e. elim differ [ inl l ↦ omega (arith, l, e) | inr m ↦ omega (arith, m, e) ]) in
          subst (λ (n : ℕ). Has n value) other has
    ]

-- what solves all ways solves the one at a place
pub narrows_start : (ways : List Way) (sets : List ℕ) → Narrows ways sets sets
narrows_start ways sets = record { size = refl; keeps = λ pick s. s.inside; fewer = λ place value has. has }

pub narrows_on : (ways : List Way) (i : ℕ) (way : Way) (a b d : List ℕ) → i < length ways → way ≡ get_or ways i way → Narrows ways a b → Narrows (way ∷ []) b d → Narrows ways a d
narrows_on ways i way a b d lt is first next = record {
  keeps = λ pick s.
      (let inside : IsIn b pick = first.keeps pick s in
      let fits : FitsWay pick way = subst (FitsWay pick) (sym is) (s.fits i way lt) in
      next.keeps pick (record { inside = inside; fits = one pick fits }));
  size = next.size ∙ first.size;
  fewer = λ place value has. first.fewer place value (next.fewer place value has);
}
  where
    one : (pick : List ℕ) → FitsWay pick way → All (FitsWay pick) (way ∷ [])
    one pick fits zero e l = fits
    one pick fits (suc k) e l = absurd (omega (arith, l))

pub narrows_then : (ways : List Way) (a b d : List ℕ) → Narrows ways a b → Narrows ways b d → Narrows ways a d
narrows_then ways a b d first next = record {
  keeps = λ pick s. next.keeps pick (record { inside = first.keeps pick s; fits = s.fits });
  size = next.size ∙ first.size;
  fewer = λ place value has. first.fewer place value (next.fewer place value has);
}

pub in_before : (ways : List Way) (old new pick : List ℕ) → Narrows ways old new → IsIn new pick → IsIn old pick
in_before ways old new pick narrows is = record {
  size = is.size ∙ narrows.size;
  low = is.low;
  each = λ i lt. narrows.fewer i (get_or pick i 0) (is.each i (omega (arith, lt, narrows.size)));
}
