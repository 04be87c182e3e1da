-- Sets without the values that no pick has.
use Rattle.std.proofs.Common.{◌≡◌, ◌≢◌, ℕ, ◌<◌, ◌+◌, ◌*◌, ◌%◌, ◌^◌, List, [], length, get_or, set, sym, ap, subst, ◌∙◌, arith, inl, inr, ◌⊎◌}
use Rattle.std.specs.List.{All, Any, Contains}
use Rattle.std.specs.Int.{w64}
use Rattle.std.specs.Int.RustNames.{bit_or}
use lib.Bits.{bit_and}
use Rattle.std.proofs.lemmas.Bool.{cases_order}
use Rattle.std.proofs.lemmas.List.{length-set, get_or-set_same, get_or-set_other, get_or-map, get_or_default}
use Rattle.std.proofs.lemmas.Nat.Bits.{bit_at_and, bit_at_or, bit_at-lt, bit_at_set_same}
use Rattle.stable_search.specs.declared.group.Group.{Group}
use Rattle.stable_search.specs.declared.way.Way.{Way}
use Rattle.stable_search.specs.Groups.{at_places, AreCovered, AreGroups}
use Rattle.stable_search.specs.Picks.{Has, AllSome, Solves, Narrows}
use Rattle.stable_search.proofs.NarrowLemmas.{has_left, narrows_then, in_before}

pub has_either : (a b v : ℕ) → Has a v → Has (bit_or a b) v
has_either a b v h = let e = bit_at_or a b v in let l = bit_at-lt b v in omega (arith, e, l, h)

pub has_both : (a b v : ℕ) → Has a v → Has b v → Has (bit_and a b) v
has_both a b v h g = let e = bit_at_and a b v in omega (arith, e, h, g)

-- the values of one pick more
pub seen_on : (picks : List (List ℕ)) (i k : ℕ) (pick slice : List ℕ) (seen : ℕ) → i < length picks → pick ≡ get_or picks i pick → slice ≡ pick → get_or slice k 0 < 64
    → ((j : ℕ) → j < i → Has seen (get_or (get_or picks j []) k 0))
    → (j : ℕ) → j < i + 1 → Has (bit_or seen (1 * 2 ^ (get_or slice k 0) % 18446744073709551616)) (get_or (get_or picks j []) k 0)
seen_on picks i k pick slice seen lt is same_slice low before j jlt = elim (cases_order j i) [
  | inl same ↦
      let here : get_or picks j [] ≡ slice = ap (λ (n : ℕ). get_or picks n []) same ∙ get_or_default picks i [] pick lt ∙ sym is ∙ sym same_slice in
      let value : get_or (get_or picks j []) k 0 ≡ get_or slice k 0 = ap (λ (xs : List ℕ). get_or xs k 0) here in
      subst (Has (bit_or seen (1 * 2 ^ (get_or slice k 0) % 18446744073709551616))) (sym value) (bit_at_set_same w64 seen (get_or slice k 0) low)
  | inr differ ↦
      let under : j < i = elim differ [ inl l ↦ l | inr m ↦ absurd (omega (arith, jlt, m)) ] in
      has_either seen (1 * 2 ^ (get_or slice k 0) % 18446744073709551616) (get_or (get_or picks j []) k 0) (before j under)
]

module _ (ways : List Way) (sets : List ℕ) (place seen : ℕ) (inside : place < length sets) (seen_there : (pick : List ℕ) → Solves ways sets pick → Has seen (get_or pick place 0)) where
  abbrev left : ℕ
  left = bit_and (get_or sets place 0) seen

  at_place : (i : ℕ) → i ≡ place → get_or (set sets place left) i 0 ≡ left
  at_place i same = ap (λ (n : ℕ). get_or (set sets place left) n 0) same ∙ get_or-set_same sets place left 0 inside

  elsewhere : (i : ℕ) → ((i < place) ⊎ (place < i)) → get_or (set sets place left) i 0 ≡ get_or sets i 0
  elsewhere i differ = get_or-set_other sets place i left 0 (λ e. elim differ [ inl l ↦ omega (arith, l, e) | inr m ↦ omega (arith, m, e) ])

  stays : (pick : List ℕ) → Solves ways sets pick → (i : ℕ) → i < length sets → Has (get_or (set sets place left) i 0) (get_or pick i 0)
  stays pick s i lt = elim (cases_order i place) [
    | inl same ↦
        let value : get_or pick i 0 ≡ get_or pick place 0 = ap (λ (n : ℕ). get_or pick n 0) same in
        let has : Has left (get_or pick place 0) = has_both (get_or sets place 0) seen (get_or pick place 0) (s.inside.each place inside) (seen_there pick s) in
        subst (λ (n : ℕ). Has n (get_or pick i 0)) (sym (at_place i same)) (subst (Has left) (sym value) has)
    | inr differ ↦ subst (λ (n : ℕ). Has n (get_or pick i 0)) (sym (elsewhere i differ)) (s.inside.each i lt)
  ]

  was : (i value : ℕ) → Has (get_or (set sets place left) i 0) value → Has (get_or sets i 0) value
  was i value has = elim (cases_order i place) [
    | inl same ↦
        let here : Has left value = subst (λ (n : ℕ). Has n value) (at_place i same) has in
        subst (λ (n : ℕ). Has (get_or sets n 0) value) (sym same) (has_left (get_or sets place 0) seen value here)
    | inr differ ↦ subst (λ (n : ℕ). Has n value) (elsewhere i differ) has
  ]

  -- a place keeps what is marked there, and each pick that solves has a value that is
  pub kept_by : Narrows ways sets (set sets place left)
  kept_by = record {
    size = length-set sets place left;
    keeps = λ pick s. record {
      size = s.inside.size ∙ sym (length-set sets place left);
      low = s.inside.low;
      each = λ i lt. stays pick s i (omega (arith, lt, length-set sets place left));
    };
    fewer = λ i value has. was i value has;
  }

-- a place keeps a value
pub some_left : (sets : List ℕ) (place left : ℕ) → place < length sets → (value : ℕ) × Has left value → AllSome sets → AllSome (set sets place left)
some_left sets place left inside some all i lt = elim (cases_order i place) [
  | inl same ↦
      let here : get_or (set sets place left) i 0 ≡ left = ap (λ (n : ℕ). get_or (set sets place left) n 0) same ∙ get_or-set_same sets place left 0 inside in
      (some.0, subst (λ (n : ℕ). Has n some.0) (sym here) some.1)
  | inr differ ↦
      let before = all i (omega (arith, lt, length-set sets place left)) in
      let apart : i ≢ place = λ e. elim differ [ inl l ↦ omega (arith, l, e) | inr m ↦ omega (arith, m, e) ] in
      (before.0, subst (λ (n : ℕ). Has n before.0) (sym (get_or-set_other sets place i left 0 apart)) before.1)
]

-- each pick that solves has at a place a value that one of these has
pub seen_there : (ways : List Way) (sets : List ℕ) (place k seen : ℕ) (picks : List (List ℕ)) → All (λ pick. Has seen (get_or pick k 0)) picks
    → ((pick : List ℕ) → Solves ways sets pick → Any (λ other. get_or other k 0 ≡ get_or pick place 0) picks) → (pick : List ℕ) → Solves ways sets pick → Has seen (get_or pick place 0)
seen_there ways sets place k seen picks all covered pick s =
    let any = covered pick s in
    subst (Has seen) any.4 (subst (λ (xs : List ℕ). Has seen (get_or xs k 0)) any.3 (all any.0 any.1 any.2))

-- one place more of a group
pub kept_on : (ways : List Way) (places : List ℕ) (picks : List (List ℕ)) (k place : ℕ) (old now new : List ℕ) → k < length places → place ≡ get_or places k 0 → AreCovered ways old places picks → Narrows ways old now
    → (((pick : List ℕ) → Solves ways now pick → Any (λ other. get_or other k 0 ≡ get_or pick place 0) picks) → Narrows ways now new) → Narrows ways old new
kept_on ways places picks k place old now new lt is covered first next =
    narrows_then ways old now new first (next (λ pick s.
    (let c = covered pick (record { inside = in_before ways old now pick first s.inside; fits = s.fits }) in
    let value : get_or (at_places pick places) k 0 ≡ get_or pick place 0 = get_or-map (λ (i : ℕ). get_or pick i 0) places k 0 0 lt ∙ ap (λ (i : ℕ). get_or pick i 0) (sym is) in
    (c.0, at_places pick places, c.1, c.2, value))))

-- one group more
pub picked_on : (ways : List Way) (groups : List Group) (i : ℕ) (group : Group) (old now new : List ℕ) → i < length groups → group ≡ get_or groups i group → AreGroups ways old groups → Narrows ways old now
    → (AreCovered ways now group.places group.picks → Narrows ways now new) → Narrows ways old new
picked_on ways groups i group old now new lt is are first next =
    narrows_then ways old now new first (next (λ pick s.
    (let before : Solves ways old pick = record { inside = in_before ways old now pick first s.inside; fits = s.fits } in
    let all = (are.exact pick before.inside.size before.inside.low).0 before in
    subst (λ (g : Group). Contains g.picks (at_places pick g.places)) (sym is) (all i group lt))))
