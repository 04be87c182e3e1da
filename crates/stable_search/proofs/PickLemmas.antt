-- Sets that fall into two, and picks of only values.
use Rattle.std.proofs.Common.{◌≡◌, ◌≢◌, ℕ, zero, suc, ◌<◌, ◌≤◌, ◌+◌, ◌-◌, ◌*◌, ◌%◌, ◌^◌, List, [], ◌∷◌, ◌++◌, length, take, drop, get_or, set, refl, sym, ap, subst, ◌∙◌, arith, inl, inr, ◌⊎◌}
use Rattle.std.specs.List.{All, AllPairs, Contains}
use Rattle.std.specs.Int.{bit_at, w64, trailing_zeros}
use Rattle.std.specs.Int.RustNames.{bit_xor}
use lib.Bits.{bit_and}
use Rattle.std.proofs.lemmas.Bool.{cases_order, cases_lt}
use Rattle.std.proofs.lemmas.List.{length-set, length-append, length-drop, nil_from_length, take_at, get_or-set_same, get_or-set_other, get_or_append_left, get_or-append_right, get_or_past, get_or_default, same_lists, append-nil, append_assoc}
use Rattle.std.proofs.lemmas.List.Elements.{Contains-get_or, Contains-append_left, Contains-append_right, Contains-append_cases}
use Rattle.std.proofs.lemmas.Nat.Bits.{bit_at_and, bit_at_xor, bit_at-lt, bit_at-zero, bit_at_clear_other, bit_at-trailing_zeros}
use Rattle.stable_search.specs.declared.stop.Stop.{Stop}
use Rattle.stable_search.specs.declared.stop.Stop.TheVariants as stops
use Rattle.stable_search.specs.declared.way.Way.{Way}
use Rattle.stable_search.specs.Picks.{Has, IsIn, FitsWay, AreWithin, Solves, AddsAll, AddsMore, IsFull, Narrows, IsOnly, IsOnlyPick, FallsInto, LeavesOut}
use Rattle.stable_search.proofs.NarrowLemmas.{has_left, in_before}

-- ---- one set

pub falls : (values mask : ℕ) → FallsInto values (bit_xor values (bit_and values mask)) (bit_and values mask)
falls values mask = record {
  either = λ v h. (let x = bit_at_xor values (bit_and values mask) v in let a = bit_at_and values mask v in let l = bit_at-lt mask v in
      elim (cases_order (bit_at (bit_and values mask) v) 1) [
        | inl there ↦ inr there
        | inr differ ↦
            let gone : bit_at (bit_and values mask) v ≡ 0 = elim differ [ inl l ↦ omega (arith, l) | inr m ↦ (let k = bit_at-lt (bit_and values mask) v in absurd (omega (arith, m, k))) ] in
            inl (x ∙ ap (λ (n : ℕ). (n + bit_at (bit_and values mask) v) % 2) h ∙ ap (λ (n : ℕ). (1 + n) % 2) gone)
      ]);
  in_one = λ v h. (let x = bit_at_xor values (bit_and values mask) v in let a = bit_at_and values mask v in let l = bit_at-lt values v in let m = bit_at-lt mask v in let k = bit_at-lt (bit_and values mask) v in omega (arith, x, a, l, m, k, h));
  in_rest = λ v h. has_left values mask v h;
  apart = λ v one two. (let x = bit_at_xor values (bit_and values mask) v in let whole : Has values v = has_left values mask v two in
      (let z : bit_at (bit_xor values (bit_and values mask)) v ≡ 0 = x ∙ ap (λ (n : ℕ). (n + bit_at (bit_and values mask) v) % 2) whole ∙ ap (λ (n : ℕ). (1 + n) % 2) two in
      omega (arith, one, z)));
}

pub only_first : (values : ℕ) → (values ≡ 0 → ⊥) → values < 2 ^ 64
    → bit_and values (18446744073709551615 - 1 * 2 ^ (trailing_zeros w64 values) % 18446744073709551616) ≡ 0 → IsOnly values (trailing_zeros w64 values)
only_first values some fits none =
    let first = bit_at-trailing_zeros w64 values (omega (arith, some)) fits in
    record {
      low = first.0;
      here = first.1;
      alone = λ other lt h. elim (cases_order other (trailing_zeros w64 values)) [
        | inl same ↦ same
        | inr differ ↦
            let apart : other ≢ trailing_zeros w64 values = λ s. elim differ [ inl l ↦ omega (arith, l, s) | inr m ↦ omega (arith, m, s) ] in
            let stays = bit_at_clear_other w64 values (trailing_zeros w64 values) first.0 other lt apart in
            let z : bit_at (bit_and values (18446744073709551615 - 1 * 2 ^ (trailing_zeros w64 values) % 18446744073709551616)) other ≡ 0 = ap (λ (n : ℕ). bit_at n other) none ∙ bit_at-zero other in
            absurd (omega (arith, stays, z, h))
      ];
    }

-- ---- picks

pub low_values : (sets pick : List ℕ) → IsOnlyPick sets pick → (i : ℕ) → get_or pick i 0 < 64
low_values sets pick is i = elim (cases_lt i (length pick)) [
  | inl inside ↦ (is.only i (omega (arith, inside, is.size))).low
  | inr past ↦ (let e = get_or_past pick i 0 past in omega (arith, e))
]

pub all_low : (sets pick : List ℕ) → IsOnlyPick sets pick → All (λ value. value < 64) pick
all_low sets pick is k d lt = subst (λ (n : ℕ). n < 64) (get_or_default pick k 0 d lt) (low_values sets pick is k)

only_in : (sets pick : List ℕ) → IsOnlyPick sets pick → IsIn sets pick
only_in sets pick is = record { size = is.size; low = low_values sets pick is; each = λ i lt. (is.only i lt).here }

only_one : (sets pick other : List ℕ) → IsOnlyPick sets pick → IsIn sets other → other ≡ pick
only_one sets pick other is inside =
    same_lists other pick (inside.size ∙ sym is.size) (λ k d lt.
    (let low : k < length sets = omega (arith, lt, inside.size) in
    let e : get_or other k 0 ≡ get_or pick k 0 = (is.only k low).alone (get_or other k 0) (inside.low k) (inside.each k low) in
    get_or_default other k d 0 lt ∙ e ∙ get_or_default pick k 0 d (omega (arith, low, is.size))))

contains_one : (pick other : List ℕ) → other ≡ pick → Contains (pick ∷ []) other
contains_one pick other e = (0, omega arith, sym e)

one_is : (pick other : List ℕ) → Contains (pick ∷ []) other → other ≡ pick
one_is pick other (zero, lt, e) = sym e
one_is pick other (suc k, lt, e) = absurd (omega (arith, lt))

no_pairs : (pick : List ℕ) → AllPairs (λ a b. a ≢ b) (pick ∷ [])
no_pairs pick i j d lt inside = absurd (omega (arith, lt, inside))

none_pairs : AllPairs {X = List ℕ} (λ a b. a ≢ b) []
none_pairs i j d lt inside = absurd (omega (arith, lt, inside))

none_in : (pick : List ℕ) → Contains [] pick → ⊥
none_in pick c = omega (arith, c.1)

-- nothing solves sets of which one is empty
pub adds_none : (ways : List Way) (sets : List ℕ) (old new : List (List ℕ)) → new ≡ old → ((pick : List ℕ) → Solves ways sets pick → ⊥) → AddsAll ways sets old new
adds_none ways sets old new same none = record {
  more = [];
  added = same ∙ sym (append-nil old);
  all = record {
    listed = λ pick c. absurd (none_in pick c);
    covered = λ pick s. absurd (none pick s);
    distinct = none_pairs;
  };
}

pub dead : (ways : List Way) (sets pick : List ℕ) → Contains sets 0 → Solves ways sets pick → ⊥
dead ways sets pick c s =
    let here = s.inside.each c.0 c.1 in
    let z : bit_at (get_or sets c.0 0) (get_or pick c.0 0) ≡ 0 = ap (λ (n : ℕ). bit_at n (get_or pick c.0 0)) c.2 ∙ bit_at-zero (get_or pick c.0 0) in
    omega (arith, here, z)

pub misfit : (ways : List Way) (sets pick other : List ℕ) → IsOnlyPick sets pick → (All (FitsWay pick) ways → ⊥) → Solves ways sets other → ⊥
misfit ways sets pick other is not s = not (subst (λ (p : List ℕ). All (FitsWay p) ways) (only_one sets pick other is s.inside) s.fits)

pub adds_one : (ways : List Way) (sets pick : List ℕ) (old new : List (List ℕ)) → new ≡ old ++ pick ∷ [] → IsOnlyPick sets pick → All (FitsWay pick) ways → AddsAll ways sets old new
adds_one ways sets pick old new added is fits = record {
  more = pick ∷ [];
  added = added;
  all = record {
    listed = λ other c. subst (Solves ways sets) (sym (one_is pick other c)) (record { inside = only_in sets pick is; fits = fits });
    covered = λ other s. contains_one pick other (only_one sets pick other is s.inside);
    distinct = no_pairs pick;
  };
}

-- sets that a narrowing left have the same picks that solve
pub adds_narrowed : (ways : List Way) (sets left : List ℕ) (old new : List (List ℕ)) → Narrows ways sets left → AddsAll ways left old new → AddsAll ways sets old new
adds_narrowed ways sets left old new narrows adds = record {
  more = adds.more;
  added = adds.added;
  all = record {
    listed = λ pick c. (let s = adds.all.listed pick c in record { inside = in_before ways sets left pick narrows s.inside; fits = s.fits });
    covered = λ pick s. adds.all.covered pick (record { inside = narrows.keeps pick s; fits = s.fits });
    distinct = adds.all.distinct;
  };
}

-- a list that is full already, and one more that solves
pub more_one : (ways : List Way) (sets pick : List ℕ) (most : ℕ) (old : List (List ℕ)) → most ≤ length old → IsOnlyPick sets pick → All (FitsWay pick) ways → AddsMore ways sets most old
more_one ways sets pick most old full is fits = record {
  more = pick ∷ [];
  beyond = omega (arith, full);
  listed = λ other c. subst (Solves ways sets) (sym (one_is pick other c)) (record { inside = only_in sets pick is; fits = fits });
  distinct = no_pairs pick;
}

-- picks of sets inside others are picks of those
pub full_within : (ways : List Way) (inner outer : List ℕ) (most : ℕ) (old : List (List ℕ)) (stop : Stop) → ((pick : List ℕ) → IsIn inner pick → IsIn outer pick) → IsFull ways inner most old stop → IsFull ways outer most old stop
full_within ways inner outer most old stops.TooManyChoices sub adds = record {
  more = adds.more;
  beyond = adds.beyond;
  listed = λ pick c. (let s = adds.listed pick c in record { inside = sub pick s.inside; fits = s.fits });
  distinct = adds.distinct;
}
full_within ways inner outer most old stops.TooManySteps sub none = none
full_within ways inner outer most old stops.Memory sub any = any

-- ---- split

pub pairs_append : {X : Type 0} (xs ys : List X) → AllPairs (λ a b. a ≢ b) xs → AllPairs (λ a b. a ≢ b) ys → ((x : X) → Contains xs x → Contains ys x → ⊥) → AllPairs (λ a b. a ≢ b) (xs ++ ys)
pairs_append xs ys first second none i j d lt inside = elim (cases_lt j (length xs)) [
  | inl low ↦ λ e. first i j d lt low (sym (get_or_append_left xs ys d i (omega (arith, lt, low))) ∙ e ∙ get_or_append_left xs ys d j low)
  | inr high ↦
      let size = length-append xs ys in
      let there : get_or (xs ++ ys) j d ≡ get_or ys (j - length xs) d = get_or-append_right xs ys (length xs) j d refl high in
      let within : j - length xs < length ys = omega (arith, size, inside, high) in
      elim (cases_lt i (length xs)) [
        | inl low ↦ λ e.
            (let here : get_or (xs ++ ys) i d ≡ get_or xs i d = get_or_append_left xs ys d i low in
            let same : get_or ys (j - length xs) d ≡ get_or xs i d = sym there ∙ sym e ∙ here in
            none (get_or xs i d) (Contains-get_or xs i d low) (subst (Contains ys) same (Contains-get_or ys (j - length xs) d within)))
        | inr up ↦
            let here : get_or (xs ++ ys) i d ≡ get_or ys (i - length xs) d = get_or-append_right xs ys (length xs) i d refl up in
            λ e. second (i - length xs) (j - length xs) d (omega (arith, lt, up, high)) within (sym here ∙ e ∙ there)
      ]
]

pub leaves_start : (ways : List Way) (sets : List ℕ) (old : List (List ℕ)) → AreWithin (length sets) ways → LeavesOut ways sets sets old old
leaves_start ways sets old within = record {
  within = within;
  fewer = λ pick is. is;
  more = [];
  added = sym (append-nil old);
  listed = λ pick c. absurd (none_in pick c);
  covered = λ pick s. inr s.inside;
  distinct = none_pairs;
}

-- what is left falls into two, of which all picks of the one were added
pub leaves_less : (ways : List Way) (from now one rest : List ℕ) (old mid new : List (List ℕ)) → LeavesOut ways from now old mid → length rest ≡ length now
    → ((pick : List ℕ) → Solves ways now pick → IsIn one pick ⊎ IsIn rest pick) → ((pick : List ℕ) → IsIn one pick → IsIn now pick) → ((pick : List ℕ) → IsIn rest pick → IsIn now pick)
    → ((pick : List ℕ) → IsIn one pick → IsIn rest pick → ⊥) → AddsAll ways one mid new → LeavesOut ways from rest old new
leaves_less ways from now one rest old mid new leaves size either in_one in_rest apart adds = record {
  within = subst (λ (n : ℕ). AreWithin n ways) (sym size) leaves.within;
  fewer = λ pick is. leaves.fewer pick (in_rest pick is);
  more = leaves.more ++ adds.more;
  added = adds.added ∙ ap (λ (xs : List (List ℕ)). xs ++ adds.more) leaves.added ∙ append_assoc old leaves.more adds.more;
  listed = λ pick c. elim (Contains-append_cases leaves.more adds.more pick c) [
    | inl before ↦ (let x = leaves.listed pick before in (x.0, λ is. x.1 (in_rest pick is)))
    | inr here ↦ (let s = adds.all.listed pick here in (record { inside = leaves.fewer pick (in_one pick s.inside); fits = s.fits }, λ is. apart pick s.inside is))
  ];
  covered = λ pick s. elim (leaves.covered pick s) [
    | inl before ↦ inl (Contains-append_left leaves.more adds.more pick before)
    | inr left ↦ elim (either pick (record { inside = left; fits = s.fits })) [
      | inl here ↦ inl (Contains-append_right leaves.more adds.more pick (adds.all.covered pick (record { inside = here; fits = s.fits })))
      | inr later ↦ inr later
    ]
  ];
  distinct = pairs_append leaves.more adds.more leaves.distinct adds.all.distinct
      (λ pick before here. (leaves.listed pick before).1 (in_one pick (adds.all.listed pick here).inside));
}

-- what is left was added: all were
pub leaves_none : (ways : List Way) (from now : List ℕ) (old mid new : List (List ℕ)) → LeavesOut ways from now old mid → AddsAll ways now mid new → AddsAll ways from old new
leaves_none ways from now old mid new leaves adds = record {
  more = leaves.more ++ adds.more;
  added = adds.added ∙ ap (λ (xs : List (List ℕ)). xs ++ adds.more) leaves.added ∙ append_assoc old leaves.more adds.more;
  all = record {
    listed = λ pick c. elim (Contains-append_cases leaves.more adds.more pick c) [
      | inl before ↦ (leaves.listed pick before).0
      | inr here ↦ (let s = adds.all.listed pick here in record { inside = leaves.fewer pick s.inside; fits = s.fits })
    ];
    covered = λ pick s. elim (leaves.covered pick s) [
      | inl before ↦ Contains-append_left leaves.more adds.more pick before
      | inr left ↦ Contains-append_right leaves.more adds.more pick (adds.all.covered pick (record { inside = left; fits = s.fits }))
    ];
    distinct = pairs_append leaves.more adds.more leaves.distinct adds.all.distinct
        (λ pick before here. (leaves.listed pick before).1 (adds.all.listed pick here).inside);
  };
}

-- what is left does not fit: with what was added not all do
pub full_left : (ways : List Way) (from now : List ℕ) (most : ℕ) (old mid : List (List ℕ)) (stop : Stop) → LeavesOut ways from now old mid → IsFull ways now most mid stop → IsFull ways from most old stop
full_left ways from now most old mid stops.TooManyChoices leaves adds = record {
  more = leaves.more ++ adds.more;
  beyond = (let a = ap length leaves.added in let b = length-append old leaves.more in let d = length-append leaves.more adds.more in omega (arith, a, b, d, adds.beyond));
  listed = λ pick c. elim (Contains-append_cases leaves.more adds.more pick c) [
    | inl before ↦ (leaves.listed pick before).0
    | inr here ↦ (let s = adds.listed pick here in record { inside = leaves.fewer pick s.inside; fits = s.fits })
  ];
  distinct = pairs_append leaves.more adds.more leaves.distinct adds.distinct (λ pick before here. (leaves.listed pick before).1 (adds.listed pick here).inside);
}
full_left ways from now most old mid stops.TooManySteps leaves none = none
full_left ways from now most old mid stops.Memory leaves any = any

-- sets of which one falls into two
module _ (sets : List ℕ) (place one rest : ℕ) (inside : place < length sets) (parts : FallsInto (get_or sets place 0) one rest) where
  at_place : (part : ℕ) (i : ℕ) → i ≡ place → get_or (set sets place part) i 0 ≡ part
  at_place part i e = ap (λ (k : ℕ). get_or (set sets place part) k 0) e ∙ get_or-set_same sets place part 0 inside

  elsewhere : (part : ℕ) (i : ℕ) → ((i < place) ⊎ (place < i)) → get_or (set sets place part) i 0 ≡ get_or sets i 0
  elsewhere part i differ = get_or-set_other sets place i part 0 (λ e. elim differ [ inl l ↦ omega (arith, l, e) | inr m ↦ omega (arith, m, e) ])

  in_part : (part : ℕ) (pick : List ℕ) → IsIn sets pick → Has part (get_or pick place 0) → IsIn (set sets place part) pick
  in_part part pick is has = record {
    size = is.size ∙ sym (length-set sets place part);
    low = is.low;
    each = λ i lt. elim (cases_order i place) [
      | inl same ↦ subst (λ (n : ℕ). Has n (get_or pick i 0)) (sym (at_place part i same)) (subst (λ (k : ℕ). Has part (get_or pick k 0)) (sym same) has)
      | inr differ ↦ subst (λ (n : ℕ). Has n (get_or pick i 0)) (sym (elsewhere part i differ)) (is.each i (omega (arith, lt, length-set sets place part)))
    ];
  }

  from_part : (part : ℕ) → ((value : ℕ) → Has part value → Has (get_or sets place 0) value) → (pick : List ℕ) → IsIn (set sets place part) pick → IsIn sets pick
  from_part part sub pick is = record {
    size = is.size ∙ length-set sets place part;
    low = is.low;
    each = λ i lt. elim (cases_order i place) [
      | inl same ↦
          let here : Has part (get_or pick i 0) = subst (λ (n : ℕ). Has n (get_or pick i 0)) (at_place part i same) (is.each i (omega (arith, lt, length-set sets place part))) in
          subst (λ (k : ℕ). Has (get_or sets k 0) (get_or pick i 0)) (sym same) (sub (get_or pick i 0) here)
      | inr differ ↦ subst (λ (n : ℕ). Has n (get_or pick i 0)) (elsewhere part i differ) (is.each i (omega (arith, lt, length-set sets place part)))
    ];
  }

  has_part : (part : ℕ) (pick : List ℕ) → IsIn (set sets place part) pick → Has part (get_or pick place 0)
  has_part part pick is = subst (λ (n : ℕ). Has n (get_or pick place 0)) (at_place part place refl) (is.each place (omega (arith, inside, length-set sets place part)))

  pub split_either : (pick : List ℕ) → IsIn sets pick → IsIn (set sets place one) pick ⊎ IsIn (set sets place rest) pick
  split_either pick is = elim (parts.either (get_or pick place 0) (is.each place inside)) [
    | inl here ↦ inl (in_part one pick is here)
    | inr later ↦ inr (in_part rest pick is later)
  ]

  pub split_one : (pick : List ℕ) → IsIn (set sets place one) pick → IsIn sets pick
  split_one = from_part one parts.in_one

  pub split_rest : (pick : List ℕ) → IsIn (set sets place rest) pick → IsIn sets pick
  split_rest = from_part rest parts.in_rest

  pub split_apart : (pick : List ℕ) → IsIn (set sets place one) pick → IsIn (set sets place rest) pick → ⊥
  split_apart pick a b = parts.apart (get_or pick place 0) (has_part one pick a) (has_part rest pick b)

-- ---- a round

leaves_narrowed : (ways : List Way) (from now left : List ℕ) (old mid : List (List ℕ)) → LeavesOut ways from now old mid → length left ≡ length now → Narrows ways now left → LeavesOut ways from left old mid
leaves_narrowed ways from now left old mid leaves size narrows = record {
  within = subst (λ (n : ℕ). AreWithin n ways) (sym size) leaves.within;
  fewer = λ pick is. leaves.fewer pick (in_before ways now left pick narrows is);
  more = leaves.more;
  added = leaves.added;
  listed = λ pick c. (let x = leaves.listed pick c in (x.0, λ is. x.1 (in_before ways now left pick narrows is)));
  covered = λ pick s. elim (leaves.covered pick s) [
    | inl before ↦ inl before
    | inr left_in ↦ inr (narrows.keeps pick (record { inside = left_in; fits = s.fits }))
  ];
  distinct = leaves.distinct;
}

-- the sets are narrowed, and all picks of the first value of one are added
pub leaves_on : (ways : List Way) (from now left : List ℕ) (place value one rest : ℕ) (old mid same new : List (List ℕ)) → LeavesOut ways from now old mid → length left ≡ length now → Narrows ways now left
    → same ≡ mid → place < length left → value ≡ get_or left place value → FallsInto value one rest → AddsAll ways (set left place one) same new → LeavesOut ways from (set left place rest) old new
leaves_on ways from now left place value one rest old mid same new leaves size narrows e inside is parts adds =
    let falls_here : FallsInto (get_or left place 0) one rest = subst (λ (n : ℕ). FallsInto n one rest) (is ∙ get_or_default left place value 0 inside) parts in
    leaves_less ways from left (set left place one) (set left place rest) old mid new
    (leaves_narrowed ways from now left old mid leaves size narrows) (length-set left place rest)
    (λ pick s. split_either left place one rest inside falls_here pick s.inside)
    (split_one left place one rest inside falls_here) (split_rest left place one rest inside falls_here) (split_apart left place one rest inside falls_here)
    (subst (λ (xs : List (List ℕ)). AddsAll ways (set left place one) xs new) e adds)

-- the sets are narrowed, and the picks of the first value of one don't fit
pub full_on : (ways : List Way) (from now left : List ℕ) (place value one rest most : ℕ) (old mid same : List (List ℕ)) (stop : Stop) → LeavesOut ways from now old mid → Narrows ways now left
    → same ≡ mid → place < length left → value ≡ get_or left place value → FallsInto value one rest → IsFull ways (set left place one) most same stop → IsFull ways from most old stop
full_on ways from now left place value one rest most old mid same stop leaves narrows e inside is parts full =
    let falls_here : FallsInto (get_or left place 0) one rest = subst (λ (n : ℕ). FallsInto n one rest) (is ∙ get_or_default left place value 0 inside) parts in
    full_left ways from now most old mid stop leaves
    (full_within ways (set left place one) now most mid stop (λ pick here. in_before ways now left pick narrows (split_one left place one rest inside falls_here pick here))
    (subst (λ (xs : List (List ℕ)). IsFull ways (set left place one) most xs stop) e full))

-- a slice of all that a list has, written back
pub written : {X : Type 0} (items new : List X) (n : ℕ) → length new ≡ length items → length items ≡ n → take n (new ++ drop (length new) items) ≡ new
written {X} items new n size all =
    let none : drop (length new) items ≡ [] = nil_from_length (drop (length new) items) (omega (arith, length-drop (length new) items, size)) in
    ap (λ (xs : List X). take n (new ++ xs)) none ∙ take_at new [] n (omega (arith, size, all))
