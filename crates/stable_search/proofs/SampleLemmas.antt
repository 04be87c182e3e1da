-- Marks of the values that picks have.
use Rattle.std.proofs.Common.{◌≡◌, ◌≢◌, ℕ, ◌<◌, ◌≤◌, ◌+◌, ◌*◌, ◌%◌, ◌^◌, List, [], length, get_or, set, refl, sym, ap, subst, ◌∙◌, arith, inl, inr, ◌⊎◌}
use Rattle.std.specs.List.{Contains}
use Rattle.std.specs.Int.{w64}
use Rattle.std.specs.Int.RustNames.{bit_or}
use Rattle.std.proofs.lemmas.Bool.{cases_order}
use Rattle.std.proofs.lemmas.List.{length-set, length-append, get_or-set_same, get_or-set_other, get_or_default}
use Rattle.std.proofs.lemmas.Nat.Bits.{bit_at_set_same}
use Rattle.stable_search.specs.declared.stop.Stop.{Stop}
use Rattle.stable_search.specs.declared.stop.Stop.TheVariants as stops
use Rattle.stable_search.specs.declared.way.Way.{Way}
use Rattle.stable_search.specs.Picks.{Has, Solves, AddsAll, IsFull, Narrows, MarksMore, Sees, SeesAll}
use Rattle.stable_search.proofs.KeepLemmas.{has_either}
use Rattle.stable_search.proofs.NarrowLemmas.{in_before}

-- ---- marks

pub marks_on : (seen : List ℕ) (place bits : ℕ) → place < length seen → MarksMore seen (set seen place (bit_or (get_or seen place 0) bits))
marks_on seen place bits lt i value has = elim (cases_order i place) [
  | inl same ↦
      let mark : ℕ = bit_or (get_or seen place 0) bits in
      let here : get_or (set seen place mark) i 0 ≡ mark = ap (λ (n : ℕ). get_or (set seen place mark) n 0) same ∙ get_or-set_same seen place mark 0 lt in
      subst (λ (n : ℕ). Has n value) (sym here) (has_either (get_or seen place 0) bits value (subst (λ (k : ℕ). Has (get_or seen k 0) value) same has))
  | inr differ ↦
      let mark : ℕ = bit_or (get_or seen place 0) bits in
      let other : get_or (set seen place mark) i 0 ≡ get_or seen i 0 = get_or-set_other seen place i mark 0 (λ e. elim differ [ inl l ↦ omega (arith, l, e) | inr m ↦ omega (arith, m, e) ]) in
      subst (λ (n : ℕ). Has n value) (sym other) has
]

pub marks_then : (a b d : List ℕ) → MarksMore a b → MarksMore b d → MarksMore a d
marks_then a b d first next place value has = next place value (first place value has)

pub marked_on : (seen : List ℕ) (place value : ℕ) → place < length seen → value < 64 → Has (get_or (set seen place (bit_or (get_or seen place 0) (1 * 2 ^ value % 18446744073709551616))) place 0) value
marked_on seen place value lt low =
    let mark : ℕ = bit_or (get_or seen place 0) (1 * 2 ^ value % 18446744073709551616) in
    subst (λ (n : ℕ). Has n value) (sym (get_or-set_same seen place mark 0 lt)) (bit_at_set_same w64 (get_or seen place 0) value low)

-- ---- a value that no pick has

module _ (ways : List Way) (sets : List ℕ) (place value bits : ℕ) (inside : place < length sets) (here : Has bits value) where
  -- a pick with the value is one of the sets with that value alone at the place
  with_value : (pick : List ℕ) → Solves ways sets pick → get_or pick place 0 ≡ value → Solves ways (set sets place bits) pick
  with_value pick s e = record {
    inside = record {
      size = s.inside.size ∙ sym (length-set sets place bits);
      low = s.inside.low;
      each = λ i lt. elim (cases_order i place) [
        | inl same ↦
            let set_is : get_or (set sets place bits) i 0 ≡ bits = ap (λ (n : ℕ). get_or (set sets place bits) n 0) same ∙ get_or-set_same sets place bits 0 inside in
            let value_is : get_or pick i 0 ≡ value = ap (λ (n : ℕ). get_or pick n 0) same ∙ e in
            subst (λ (n : ℕ). Has n (get_or pick i 0)) (sym set_is) (subst (Has bits) (sym value_is) here)
        | inr differ ↦
            let other : get_or (set sets place bits) i 0 ≡ get_or sets i 0 = get_or-set_other sets place i bits 0 (λ e2. elim differ [ inl l ↦ omega (arith, l, e2) | inr m ↦ omega (arith, m, e2) ]) in
            subst (λ (n : ℕ). Has n (get_or pick i 0)) (sym other) (s.inside.each i (omega (arith, lt, length-set sets place bits)))
      ];
    };
    fits = s.fits;
  }

  pub no_pick_has : (old found : List (List ℕ)) → AddsAll ways (set sets place bits) old found → length found ≤ 0 → (pick : List ℕ) → Solves ways sets pick → get_or pick place 0 ≡ value → ⊥
  no_pick_has old found adds none pick s e =
      let c : Contains adds.more pick = adds.all.covered pick (with_value pick s e) in
      let size = ap length adds.added in
      let both = length-append old adds.more in
      omega (arith, c.1, size, both, none)

-- ---- places passed

pub sees_on : (ways : List Way) (sets places : List ℕ) (k place : ℕ) (now new : List ℕ) → k < length places → get_or places k 0 ≡ place → MarksMore now new → Sees ways sets place new
    → ((j : ℕ) → j < k → Sees ways sets (get_or places j 0) now) → (j : ℕ) → j < k + 1 → Sees ways sets (get_or places j 0) new
sees_on ways sets places k place now new lt is more here before j jlt pick s = elim (cases_order j k) [
  | inl same ↦
      let at : get_or places j 0 ≡ place = ap (λ (n : ℕ). get_or places n 0) same ∙ is in
      subst (λ (n : ℕ). Has (get_or new n 0) (get_or pick n 0)) (sym at) (here pick s)
  | inr differ ↦
      let under : j < k = elim differ [ inl l ↦ l | inr m ↦ absurd (omega (arith, jlt, m)) ] in
      more (get_or places j 0) (get_or pick (get_or places j 0) 0) (before j under pick s)
]

pub sees_all : (ways : List Way) (sets places seen : List ℕ) → ((j : ℕ) → j < length places → Sees ways sets (get_or places j 0) seen) → SeesAll ways sets places seen
sees_all ways sets places seen all place c =
    let is : get_or places c.0 0 ≡ place = get_or_default places c.0 0 place c.1 ∙ c.2 in
    subst (λ (n : ℕ). Sees ways sets n seen) is (all c.0 c.1)

-- what picks of the first sets have picks of the narrowed ones have
pub sees_before : (ways : List Way) (old new seen : List ℕ) (place : ℕ) → Narrows ways old new → Sees ways old place seen → Sees ways new place seen
sees_before ways old new seen place narrows sees pick s = sees pick (record { inside = in_before ways old new pick narrows s.inside; fits = s.fits })

-- why a search for values stops
pub stopped_by : (ways : List Way) (sets : List ℕ) (most : ℕ) (stop : Stop) → (stop ≢ stops.TooManyChoices) → IsFull ways sets most [] stop ⊎ (stop ≡ stops.TooManySteps)
stopped_by ways sets most stops.TooManyChoices not = absurd (not refl)
stopped_by ways sets most stops.TooManySteps not = inr refl
stopped_by ways sets most stops.Memory not = inl tt
