-- Places that bear on each other have one label, and each label's places have their own picks.
use Rattle.std.proofs.Common.{◌≡◌, ◌≢◌, ℕ, zero, suc, ◌<◌, ◌≤◌, ◌+◌, ◌==◌, Bool, true, cond, List, [], ◌∷◌, ◌++◌, length, take, get_or, map, refl, sym, ap, subst, ◌∙◌, eq-eqb, ne_eqb, arith, inl, inr, ◌⊎◌}
use Rattle.std.specs.Prelude.{◌↔◌, Result, Ok, Err, IfOk, IfErr, IsErrAnd}
use Rattle.std.specs.List.{All, AllPairs, Any, Contains}
use Rattle.std.specs.Int.{bit_at}
use lib.Bits.{bit_and}
use Rattle.std.proofs.lemmas.Bool.{cases_order, cases_lt, eqb-true, cases_eq}
use Rattle.std.proofs.lemmas.List.{take_more, length-map, length-append, get_or_append_left, get_or-map, get_or-take, get_or_default, get_or_past, length-take-le, same_lists}
use Rattle.std.proofs.lemmas.List.Elements.{All-push, Contains-append_left, Contains-push, Contains-push_cases, Contains-get_or}
use Rattle.std.proofs.lemmas.List.Quantifiers.{all_pairs_push, Any-push}
use Rattle.std.proofs.lemmas.Nat.Bits.{bit_at_and, bit_at-lt, bit_at_above}
use Rattle.stable_search.specs.declared.group.Group.{Group}
use Rattle.stable_search.specs.declared.refusal.SearchError.{SearchError}
use Rattle.stable_search.specs.declared.refusal.SearchError.TheVariants as refusals
use Rattle.stable_search.specs.declared.seat.Seat.{Seat}
use Rattle.stable_search.specs.declared.stop.Stop.TheVariants as stops
use Rattle.stable_search.specs.declared.way.Way.{Way}
use Rattle.stable_search.specs.Picks.{Has, IsIn, FitsWay, IsWithin, AreWithin, Solves, AreAll, AddsMore, IsFull, Narrows, SeesAll}
use Rattle.stable_search.specs.Groups.{at_places, IsAway, IsPickOf, IsGroup, AreGroups, RefusesSearch, ArePlaces, FitsBetween, RefusesPlaces}
use Rattle.stable_search.specs.Parting.{IsFree, IsAlone, AreLeast, Joins, AreLabels, InPart, KeepsPart, IsCopy, AreCopies, IsPartSets, IsPartGroup, AreGrouped}

pub in_all : (a b v : ℕ) → bit_and a b ≡ a → Has a v → Has b v
in_all a b v e h =
    let m = bit_at_and a b v in
    let s : bit_at (bit_and a b) v ≡ bit_at a v = ap (λ (n : ℕ). bit_at n v) e in
    let x = bit_at-lt b v in
    omega (arith, m, s, x, h)

cons_all : (P : Way → Type 0) (v : Way) (vs : List Way) → P v → All P vs → (k : ℕ) (d : Way) → k < length (v ∷ vs) → P (get_or (v ∷ vs) k d)
cons_all P v vs p q zero d l = p
cons_all P v vs p q (suc k) d l = q k d (omega (arith, l))

pub split_last : (P : Way → Type 0) (ws : List Way) (w : Way) → All P (ws ++ w ∷ []) → All P ws × P w
split_last P [] w h = ((λ k d l. absurd (omega (arith, l))), h 0 w (omega arith))
split_last P (v ∷ vs) w h =
    let rest = split_last P vs w (λ k d l. h (suc k) d (omega (arith, l))) in
    (cons_all P v vs (h 0 v (omega arith)) rest.0, rest.1)

-- ---- labels

pub labels_on : (sets : List ℕ) (ways : List Way) (i : ℕ) (way : Way) (labels new : List ℕ) → AreWithin (length sets) ways → i < length ways → way ≡ get_or ways i way → length new ≡ length labels
    → Joins sets way labels new → AreLabels sets (take i ways) labels → AreLabels sets (take (i + 1) ways) new
labels_on sets ways i way labels new within lt is size joins are = record {
  size = size ∙ are.size;
  low = λ k klt. joins.low (length sets) (λ j jlt. are.low j (omega (arith, jlt, are.size))) k (omega (arith, klt, are.size));
  joined = λ k d klt.
      (let more : take (i + 1) ways ≡ take i ways ++ way ∷ [] = take_more ways i way lt ∙ ap (λ (w : Way). take i ways ++ w ∷ []) (sym is) in
      subst (λ (ws : List Way). k < length ws → IsFree sets (get_or ws k d) ⊎ (get_or new (get_or ws k d).from 0 ≡ get_or new (get_or ws k d).to 0)) (sym more)
      (λ l. All-push (λ (w : Way). IsFree sets w ⊎ (get_or new w.from 0 ≡ get_or new w.to 0)) (take i ways) way before joins.joined k d l) klt);
  least = joins.least are.least;
  alone = λ place plt all.
      (let more : take (i + 1) ways ≡ take i ways ++ way ∷ [] = take_more ways i way lt ∙ ap (λ (w : Way). take i ways ++ w ∷ []) (sym is) in
      let both = split_last (IsAway place) (take i ways) way (subst (All (IsAway place)) more all) in
      joins.alone place (omega (arith, plt, are.size)) both.1 (are.alone place plt both.0));
}
  where
    before : All (λ (w : Way). IsFree sets w ⊎ (get_or new w.from 0 ≡ get_or new w.to 0)) (take i ways)
    before k d klt = elim (are.joined k d klt) [
      | inl free ↦ inl free
      | inr e ↦
          let under : k < i = omega (arith, klt, length-take-le i ways (omega (arith, lt))) in
          let w_in : IsWithin (length sets) (get_or (take i ways) k d) = subst (IsWithin (length sets)) (sym (get_or-take i ways k d under)) (within k d (omega (arith, under, lt))) in
          inr (joins.kept (get_or (take i ways) k d).from (get_or (take i ways) k d).to (omega (arith, w_in.from, are.size)) (omega (arith, w_in.to, are.size)) e)
    ]

pub labels_start : (sets : List ℕ) (labels : List ℕ) → length labels ≡ length sets → ((k : ℕ) → k < length sets → get_or labels k 0 ≡ k) → AreLabels sets [] labels
labels_start sets labels size own = record {
  size = size;
  low = λ i lt. (let e = own i lt in omega (arith, e, lt));
  joined = λ k d lt. absurd (omega (arith, lt));
  least = λ i lt.
      (let e = own i (omega (arith, lt, size)) in
      (omega (arith, e), ap (λ (n : ℕ). get_or labels n 0) e));
  alone = λ place plt all other olt same. (let a = own other (omega (arith, olt, size)) in let b = own place plt in omega (arith, a, b, same));
}

module _ (sets : List ℕ) (way : Way) (old new : List ℕ) (one other : ℕ) (up : one ≤ other) (size : length new ≡ length old)
    (is : (i : ℕ) → i < length old → get_or new i 0 ≡ cond (get_or old i 0 == other) one (get_or old i 0)) where
  at_other : (i : ℕ) → i < length old → get_or old i 0 ≡ other → get_or new i 0 ≡ one
  at_other i lt e = is i lt ∙ ap (λ (b : Bool). cond b one (get_or old i 0)) (eq-eqb (get_or old i 0) other e)

  at_rest : (i : ℕ) → i < length old → (get_or old i 0 ≢ other) → get_or new i 0 ≡ get_or old i 0
  at_rest i lt not = is i lt ∙ ap (λ (b : Bool). cond b one (get_or old i 0)) (ne_eqb (get_or old i 0) other not)

  at_one : (i : ℕ) → i < length old → get_or old i 0 ≡ one → get_or new i 0 ≡ one
  at_one i lt e = elim (cases_eq (get_or old i 0) other) [ inl here ↦ at_other i lt here | inr not ↦ at_rest i lt not ∙ e ]

  module _ (a b : ℕ) (alt : a < length old) (blt : b < length old) (a_is : get_or old a 0 ≡ one) (b_is : get_or old b 0 ≡ other) where
    merged_kept : (i j : ℕ) → i < length old → j < length old → get_or old i 0 ≡ get_or old j 0 → get_or new i 0 ≡ get_or new j 0
    merged_kept i j ilt jlt e = elim (cases_eq (get_or old i 0) other) [
      | inl here ↦ at_other i ilt here ∙ sym (at_other j jlt (sym e ∙ here))
      | inr not ↦ at_rest i ilt not ∙ e ∙ sym (at_rest j jlt (λ same. not (e ∙ same)))
    ]

    merged_low : (n : ℕ) → ((i : ℕ) → i < length old → get_or old i 0 < n) → (i : ℕ) → i < length old → get_or new i 0 < n
    merged_low n all i lt = elim (cases_eq (get_or old i 0) other) [
      | inl here ↦ (let e = at_other i lt here in let low = all a alt in omega (arith, e, low, a_is))
      | inr not ↦ (let e = at_rest i lt not in let low = all i lt in omega (arith, e, low))
    ]

    merged_least : AreLeast old → AreLeast new
    merged_least least i nlt =
        let lt : i < length old = omega (arith, nlt, size) in
        elim (cases_eq (get_or old i 0) other) [
          | inl here ↦
              let e = at_other i lt here in
              let mine = least i lt in
              let first = least a alt in
              let low : one < length old = omega (arith, first.0, alt, a_is) in
              let one_is : get_or old one 0 ≡ one = ap (λ (n : ℕ). get_or old n 0) (sym a_is) ∙ first.1 ∙ a_is in
              (omega (arith, e, here, up, mine.0), ap (λ (n : ℕ). get_or new n 0) e ∙ at_one one low one_is ∙ sym e)
          | inr not ↦
              let e = at_rest i lt not in
              let mine = least i lt in
              let low : get_or old i 0 < length old = omega (arith, mine.0, lt) in (
                omega (arith, e, mine.0),
                ap (λ (n : ℕ). get_or new n 0) e ∙ at_rest (get_or old i 0) low (λ same. not (sym mine.1 ∙ same)) ∙ mine.1 ∙ sym e,
              )
        ]

    -- a place that is neither of the two
    merged_alone : (place : ℕ) → place < length old → (a ≢ place) → (b ≢ place) → IsAlone old place → IsAlone new place
    merged_alone place plt not_a not_b alone i nlt same =
        let ilt : i < length old = omega (arith, nlt, size) in
        let mine : get_or new place 0 ≡ get_or old place 0 = at_rest place plt (λ e. not_b (alone b blt (b_is ∙ sym e))) in
        elim (cases_eq (get_or old i 0) other) [
          | inl here ↦
              let e : get_or old place 0 ≡ one = sym mine ∙ sym same ∙ at_other i ilt here in
              absurd (not_a (alone a alt (a_is ∙ sym e)))
          | inr not ↦ alone i ilt (sym (at_rest i ilt not) ∙ same ∙ mine)
        ]

    pub joins_up : way.from ≡ a → way.to ≡ b → Joins sets way old new
    joins_up from to = record {
      kept = merged_kept;
      low = merged_low;
      joined = inr (ap (λ (n : ℕ). get_or new n 0) from ∙ at_one a alt a_is ∙ sym (at_other b blt b_is) ∙ ap (λ (n : ℕ). get_or new n 0) (sym to));
      least = merged_least;
      alone = λ place plt away. merged_alone place plt (λ e. away.0 (from ∙ e)) (λ e. away.1 (to ∙ e));
    }

    pub joins_down : way.from ≡ b → way.to ≡ a → Joins sets way old new
    joins_down from to = record {
      kept = merged_kept;
      low = merged_low;
      joined = inr (ap (λ (n : ℕ). get_or new n 0) from ∙ at_other b blt b_is ∙ sym (at_one a alt a_is) ∙ ap (λ (n : ℕ). get_or new n 0) (sym to));
      least = merged_least;
      alone = λ place plt away. merged_alone place plt (λ e. away.1 (to ∙ e)) (λ e. away.0 (from ∙ e));
    }

pub joins_free : (sets : List ℕ) (way : Way) (labels : List ℕ) → IsFree sets way → Joins sets way labels labels
joins_free sets way labels free = record {
  kept = λ i j ilt jlt e. e;
  low = λ n all i lt. all i lt;
  joined = inl free;
  least = λ least. least;
  alone = λ place plt away alone. alone;
}

-- ---- places of a label

abbrev pub HasPlaces : List ℕ → ℕ → ℕ → List ℕ → Type 0
HasPlaces labels label n places =
    ((place : ℕ) → (Contains places place ↔ (place < n) × (get_or labels place 0 ≡ label))) × AllPairs (λ place later. place < later) places

pub places_add : (labels : List ℕ) (label n : ℕ) (places new : List ℕ) → get_or labels n 0 ≡ label → new ≡ places ++ n ∷ [] → HasPlaces labels label n places → HasPlaces labels label (n + 1) new
places_add labels label n places new here e inv = (
  λ place. (
    λ c. elim (Contains-push_cases places n place (subst (λ (xs : List ℕ). Contains xs place) e c)) [
      | inl before ↦ (let x = (inv.0 place).0 before in (omega (arith, x.0), x.1))
      | inr same ↦ (omega (arith, same), ap (λ (k : ℕ). get_or labels k 0) (sym same) ∙ here)
    ],
    λ x. subst (λ (xs : List ℕ). Contains xs place) (sym e) (elim (cases_order place n) [
      | inl same ↦ subst (Contains (places ++ n ∷ [])) (sym same) (Contains-push places n)
      | inr differ ↦ Contains-append_left places (n ∷ []) place ((inv.0 place).1 (elim differ [ inl l ↦ l | inr m ↦ absurd (omega (arith, x.0, m)) ], x.1))
    ]),
  ),
  subst (AllPairs (λ (a b : ℕ). a < b)) (sym e) (all_pairs_push (λ (a b : ℕ). a < b) places n inv.1 (λ k d lt.
      ((inv.0 (get_or places k d)).0 (Contains-get_or places k d lt)).0)),
)

pub places_skip : (labels : List ℕ) (label n : ℕ) (places new : List ℕ) → (get_or labels n 0 ≡ label → ⊥) → new ≡ places → HasPlaces labels label n places → HasPlaces labels label (n + 1) new
places_skip labels label n places new not e inv = subst (HasPlaces labels label (n + 1)) (sym e) (
  (λ place. (
    (λ c. (let x = (inv.0 place).0 c in (omega (arith, x.0), x.1))),
    (λ x. (inv.0 place).1 (
      elim (cases_order place n) [
        | inl same ↦ absurd (not (ap (λ (k : ℕ). get_or labels k 0) (sym same) ∙ x.1))
        | inr differ ↦ elim differ [ inl l ↦ l | inr m ↦ absurd (omega (arith, x.0, m)) ]
      ],
      x.1,
    )),
  )),
  inv.1,
)

-- ---- ways of a label

any_more : {X : Type 0} (P : X → Type 0) (xs : List X) (y : X) → Any P xs → Any P (xs ++ y ∷ [])
any_more P xs y h = (let size = length-append xs (y ∷ []) in (h.0, h.1, omega (arith, size, h.2), get_or_append_left xs (y ∷ []) h.1 h.0 h.2 ∙ h.3, h.4))

pub same_fit : (pick : List ℕ) (way copy : Way) → copy.from ≡ way.from → copy.to ≡ way.to → copy.fits.items ≡ way.fits.items → (FitsWay pick copy ↔ FitsWay pick way)
same_fit pick way copy a b f =
    let set_is : get_or copy.fits.items (get_or pick copy.from 0) 0 ≡ get_or way.fits.items (get_or pick way.from 0) 0 =
    ap (λ (xs : List ℕ). get_or xs (get_or pick copy.from 0) 0) f ∙ ap (λ (k : ℕ). get_or way.fits.items (get_or pick k 0) 0) a in
    let bit_is : bit_at (get_or copy.fits.items (get_or pick copy.from 0) 0) (get_or pick copy.to 0) ≡ bit_at (get_or way.fits.items (get_or pick way.from 0) 0) (get_or pick way.to 0) =
    ap (λ (n : ℕ). bit_at n (get_or pick copy.to 0)) set_is ∙ ap (λ (k : ℕ). bit_at (get_or way.fits.items (get_or pick way.from 0) 0) (get_or pick k 0)) b in
    ((λ h. sym bit_is ∙ h), (λ h. bit_is ∙ h))

module _ (labels : List ℕ) (label : ℕ) (ways : List Way) (i : ℕ) (way : Way) (lt : i < length ways) (is : way ≡ get_or ways i way) where
  more : take (i + 1) ways ≡ take i ways ++ way ∷ []
  more = take_more ways i way lt ∙ ap (λ (w : Way). take i ways ++ w ∷ []) (sym is)

  passed_any : (P : Way → Type 0) → Any P (take i ways) → Any P (take (i + 1) ways)
  passed_any P any = subst (Any P) (sym more) (any_more P (take i ways) way any)

  last_all : (P : Way → Type 0) → All P (take i ways) → P way → All P (take (i + 1) ways)
  last_all P all p = subst (All P) (sym more) (All-push P (take i ways) way all p)

  pub copies_add : (part new : List Way) (copy : Way) → IsCopy way copy → new ≡ part ++ copy ∷ [] → AreCopies labels label (take i ways) part → AreCopies labels label (take (i + 1) ways) new
  copies_add part new copy same e are = subst (AreCopies labels label (take (i + 1) ways)) (sym e) (record {
    all = last_all (λ w. InPart labels label w → Any (IsCopy w) (part ++ copy ∷ []))
        (λ k d l inside. any_more (IsCopy (get_or (take i ways) k d)) part copy (are.all k d l inside))
        (λ inside. Any-push (IsCopy way) part copy same);
    only = All-push (λ c. Any (λ w. IsCopy w c) (take (i + 1) ways)) part copy
        (λ k d l. passed_any (λ w. IsCopy w (get_or part k d)) (are.only k d l))
        (subst (Any (λ w. IsCopy w copy)) (sym more) (Any-push (λ w. IsCopy w copy) (take i ways) way same));
  })

  pub copies_skip : (part new : List Way) → new ≡ part → (InPart labels label way → ⊥) → AreCopies labels label (take i ways) part → AreCopies labels label (take (i + 1) ways) new
  copies_skip part new e out are = subst (AreCopies labels label (take (i + 1) ways)) (sym e) (record {
    all = last_all (λ w. InPart labels label w → Any (IsCopy w) part) are.all (λ inside. absurd (out inside));
    only = λ k d l. passed_any (λ w. IsCopy w (get_or part k d)) (are.only k d l);
  })

-- what fits over the copies fits over the ways between the places
pub keeps_of : (labels : List ℕ) (label : ℕ) (ways part : List Way) → AreCopies labels label ways part → All (InPart labels label) part → KeepsPart labels label ways part
keeps_of labels label ways part are inside pick = (
  λ all k d lt in_part.
      (let c = are.all k d lt in_part in
      (same_fit pick (get_or ways k d) c.1 c.4.0 c.4.1 c.4.2).0 (subst (FitsWay pick) c.3 (all c.0 c.1 c.2))),
  λ all k d lt.
      (let w = are.only k d lt in
      let copy = get_or part k d in
      let in_way : InPart labels label w.1 = (ap (λ (n : ℕ). get_or labels n 0) (sym w.4.0) ∙ (inside k d lt).0, ap (λ (n : ℕ). get_or labels n 0) (sym w.4.1) ∙ (inside k d lt).1) in
      (same_fit pick w.1 copy w.4.0 w.4.1 w.4.2).1 (subst (λ (x : Way). InPart labels label x → FitsWay pick x) w.3 (all w.0 w.1 w.2) in_way)),
)

-- ---- the picks of a label

choices_differ : stops.TooManyChoices ≡ stops.TooManySteps → ⊥
choices_differ e = absurd cc

module _ (ways : List Way) (sets labels : List ℕ) (label : ℕ) (size : length labels ≡ length sets) (within : AreWithin (length labels) ways) (part_ways : List Way) (keeps : KeepsPart labels label ways part_ways)
    (part_sets : List ℕ) (of : IsPartSets sets labels label part_sets) (places : List ℕ) (exact : (place : ℕ) → (Contains places place ↔ (place < length labels) × (get_or labels place 0 ≡ label)))
    (rising : AllPairs (λ place later. place < later) places) (some : 0 < length places) where
  set_in : (i : ℕ) → i < length sets → get_or labels i 0 ≡ label → get_or part_sets i 0 ≡ get_or sets i 0
  set_in i lt e = of.each i lt ∙ ap (λ (b : Bool). cond b (get_or sets i 0) 1) (eq-eqb (get_or labels i 0) label e)

  set_out : (i : ℕ) → i < length sets → (get_or labels i 0 ≡ label → ⊥) → get_or part_sets i 0 ≡ 1
  set_out i lt not = of.each i lt ∙ ap (λ (b : Bool). cond b (get_or sets i 0) 1) (ne_eqb (get_or labels i 0) label not)

  label_or : (i : ℕ) → (get_or labels i 0 ≡ label) ⊎ (get_or labels i 0 ≢ label)
  label_or i = elim (cases_order (get_or labels i 0) label) [
    | inl e ↦ inl e
    | inr differ ↦ inr (λ e. elim differ [ inl l ↦ omega (arith, l, e) | inr m ↦ omega (arith, m, e) ])
  ]

  only_zero : (b : ℕ) → Has 1 b → b ≡ 0
  only_zero b h = elim (cases_lt 0 b) [
    | inl up ↦ (let z = bit_at_above 1 1 b (omega arith) (omega (arith, up)) in absurd (omega (arith, z, h)))
    | inr none ↦ omega (arith, none)
  ]

  place_of : (k : ℕ) → k < length places → (get_or places k 0 < length labels) × (get_or labels (get_or places k 0) 0 ≡ label)
  place_of k lt = (exact (get_or places k 0)).0 (Contains-get_or places k 0 lt)

  at_index : (pick : List ℕ) (k : ℕ) → k < length places → get_or (at_places pick places) k 0 ≡ get_or pick (get_or places k 0) 0
  at_index pick k lt = get_or-map (λ (i : ℕ). get_or pick i 0) places k 0 0 lt

  -- picks with the same values at the places have them at each place of the label
  same_at_label : (a b : List ℕ) → at_places a places ≡ at_places b places → (i : ℕ) → i < length labels → get_or labels i 0 ≡ label → get_or a i 0 ≡ get_or b i 0
  same_at_label a b e i lt here =
      let c = (exact i).1 (lt, here) in
      let is : get_or places c.0 0 ≡ i = get_or_default places c.0 0 i c.1 ∙ c.2 in
      ap (λ (k : ℕ). get_or a k 0) (sym is) ∙ sym (at_index a c.0 c.1) ∙ ap (λ (xs : List ℕ). get_or xs c.0 0) e ∙ at_index b c.0 c.1 ∙ ap (λ (k : ℕ). get_or b k 0) is

  same_fits : (a b : List ℕ) → ((i : ℕ) → i < length labels → get_or labels i 0 ≡ label → get_or a i 0 ≡ get_or b i 0) → (way : Way) → IsWithin (length labels) way → InPart labels label way → FitsWay a way → FitsWay b way
  same_fits a b same way w inside fits =
      let from = same way.from w.from inside.0 in
      let to = same way.to w.to inside.1 in
      subst (λ (v : ℕ). Has (get_or way.fits.items (get_or b way.from 0) 0) v) to (subst (λ (v : ℕ). Has (get_or way.fits.items v 0) (get_or a way.to 0)) from fits)

  -- a pick with 0 at each other place
  masked : List ℕ → List ℕ → List ℕ
  masked [] pick = []
  masked (l ∷ ls) [] = 0 ∷ masked ls []
  masked (l ∷ ls) (v ∷ vs) = cond (l == label) v 0 ∷ masked ls vs

  masked_size : (ls pick : List ℕ) → length (masked ls pick) ≡ length ls
  unfolding masked
  masked_size [] pick = refl
  masked_size (l ∷ ls) [] = ap suc (masked_size ls [])
  masked_size (l ∷ ls) (v ∷ vs) = ap suc (masked_size ls vs)

  masked_at : (ls pick : List ℕ) (i : ℕ) → i < length ls → length pick ≡ length ls → get_or (masked ls pick) i 0 ≡ cond (get_or ls i 0 == label) (get_or pick i 0) 0
  unfolding masked
  masked_at [] pick i lt e = absurd (omega (arith, lt))
  masked_at (l ∷ ls) [] i lt e = absurd (omega (arith, e))
  masked_at (l ∷ ls) (v ∷ vs) zero lt e = refl
  masked_at (l ∷ ls) (v ∷ vs) (suc i) lt e = masked_at ls vs i (omega (arith, lt)) (omega (arith, e))

  module _ (pick : List ℕ) (whole : length pick ≡ length sets) (low : (i : ℕ) → get_or pick i 0 < 64) (has : (i : ℕ) → i < length labels → get_or labels i 0 ≡ label → Has (get_or sets i 0) (get_or pick i 0)) where
    psize : length pick ≡ length labels
    psize = whole ∙ sym size

    m_in : (i : ℕ) → i < length labels → get_or labels i 0 ≡ label → get_or (masked labels pick) i 0 ≡ get_or pick i 0
    m_in i lt e = masked_at labels pick i lt psize ∙ ap (λ (b : Bool). cond b (get_or pick i 0) 0) (eq-eqb (get_or labels i 0) label e)

    m_out : (i : ℕ) → i < length labels → (get_or labels i 0 ≡ label → ⊥) → get_or (masked labels pick) i 0 ≡ 0
    m_out i lt not = masked_at labels pick i lt psize ∙ ap (λ (b : Bool). cond b (get_or pick i 0) 0) (ne_eqb (get_or labels i 0) label not)

    m_low : (i : ℕ) → get_or (masked labels pick) i 0 < 64
    m_low i = elim (cases_lt i (length labels)) [
      | inl lt ↦ elim (label_or i) [
        | inl e ↦ (let s = m_in i lt e in let l = low i in omega (arith, s, l))
        | inr not ↦ (let z = m_out i lt not in omega (arith, z))
      ]
      | inr past ↦ (let z = get_or_past (masked labels pick) i 0 (omega (arith, past, masked_size labels pick)) in omega (arith, z))
    ]

    m_has : (i : ℕ) → i < length labels → Has (get_or part_sets i 0) (get_or (masked labels pick) i 0)
    m_has i lt = elim (label_or i) [
      | inl e ↦
          subst (λ (s : ℕ). Has s (get_or (masked labels pick) i 0)) (sym (set_in i (omega (arith, lt, size)) e))
          (subst (Has (get_or sets i 0)) (sym (m_in i lt e)) (has i lt e))
      | inr not ↦
          subst (λ (s : ℕ). Has s (get_or (masked labels pick) i 0)) (sym (set_out i (omega (arith, lt, size)) not))
          (subst (Has 1) (sym (m_out i lt not)) refl)
    ]

    m_solves : All (λ way. InPart labels label way → FitsWay pick way) ways → Solves part_ways part_sets (masked labels pick)
    m_solves fits = record {
      inside = record {
        size = masked_size labels pick ∙ size ∙ sym of.size;
        low = m_low;
        each = λ i lt. m_has i (omega (arith, lt, of.size, size));
      };
      fits = (keeps (masked labels pick)).1 (λ k d lt inside.
          same_fits pick (masked labels pick) (λ i ilt e. sym (m_in i ilt e)) (get_or ways k d) (within k d lt) inside (fits k d lt inside));
    }

    m_same : at_places (masked labels pick) places ≡ at_places pick places
    m_same =
        let a = length-map places (λ (i : ℕ). get_or (masked labels pick) i 0) in
        let b = length-map places (λ (i : ℕ). get_or pick i 0) in
        same_lists (at_places (masked labels pick) places) (at_places pick places) (a ∙ sym b) (λ k d lt.
        (let klt : k < length places = omega (arith, lt, a) in
        let p = place_of k klt in
        get_or_default (at_places (masked labels pick) places) k d 0 lt ∙ at_index (masked labels pick) k klt ∙ m_in (get_or places k 0) p.0 p.1 ∙ sym (at_index pick k klt)
        ∙ get_or_default (at_places pick places) k 0 d (omega (arith, klt, b))))

  has_in : (pick : List ℕ) → IsIn sets pick → (i : ℕ) → i < length labels → get_or labels i 0 ≡ label → Has (get_or sets i 0) (get_or pick i 0)
  has_in pick is i lt e = is.each i (omega (arith, lt, size))

  -- what picks of the part have at its places is what picks have there
  pub part_sees : (seen : List ℕ) → SeesAll part_ways part_sets places seen → SeesAll ways sets places seen
  part_sees seen sees place c pick s =
      let here = (exact place).0 c in
      let has = has_in pick s.inside in
      subst (Has (get_or seen place 0)) (m_in pick s.inside.size s.inside.low has place here.0 here.1)
      (sees place c (masked labels pick) (m_solves pick s.inside.size s.inside.low has (λ k d lt inside. s.fits k d lt)))

  -- picks that solve and have the same values at the places are the same
  solved_once : (a b : List ℕ) → Solves part_ways part_sets a → Solves part_ways part_sets b → at_places a places ≡ at_places b places → a ≡ b
  solved_once a b sa sb e =
      let x = sa.inside in
      let y = sb.inside in
      same_lists a b (x.size ∙ sym y.size) (λ i d lt.
      (let ilt : i < length labels = omega (arith, lt, x.size, of.size, size) in
      let same : get_or a i 0 ≡ get_or b i 0 = elim (label_or i) [
        | inl here ↦ same_at_label a b e i ilt here
        | inr not ↦
            let one = set_out i (omega (arith, ilt, size)) not in
            only_zero (get_or a i 0) (subst (λ (n : ℕ). Has n (get_or a i 0)) one (x.each i (omega (arith, lt, x.size))))
            ∙ sym (only_zero (get_or b i 0) (subst (λ (n : ℕ). Has n (get_or b i 0)) one (y.each i (omega (arith, lt, x.size)))))
      ] in
      get_or_default a i d 0 lt ∙ same ∙ get_or_default b i 0 d (omega (arith, lt, x.size, y.size))))

  -- the places of the label
  part_places : ArePlaces sets places
  part_places = record {
    inside = λ k d lt. (let p = place_of k lt in let e = get_or_default places k d 0 lt in omega (arith, e, p.0, size));
    some = some;
    rising = rising;
  }

  -- a pick that solves fits between the places
  part_fits : (f : List ℕ) → Solves part_ways part_sets f → FitsBetween ways sets places f
  part_fits f s = record {
    size = s.inside.size ∙ of.size;
    each = λ i c.
        (let x = (exact i).0 c in
        subst (λ (n : ℕ). Has n (get_or f i 0)) (set_in i (omega (arith, x.0, size)) x.1) (s.inside.each i (omega (arith, x.0, size, of.size))));
    fits = λ k d lt from to. (keeps f).0 s.fits k d lt (((exact (get_or ways k d).from).0 from).1, ((exact (get_or ways k d).to).0 to).1);
  }

  -- a search of the part that is refused is so with its routers
  pub part_refused : (seats : List Seat) (most : ℕ) (why : SearchError) → RefusesSearch seats places part_ways part_sets most why → RefusesPlaces seats ways sets most why
  part_refused seats most (refusals.TooManyPaths router) r = r.1
  part_refused seats most (refusals.TooManyChoices routers) r =
      let adds : AddsMore part_ways part_sets most [] = elim r.2 [
        | inl full ↦ subst (IsFull part_ways part_sets most []) r.1.0 full
        | inr steps ↦ absurd (choices_differ (sym r.1.0 ∙ steps))
      ] in (
        places,
        part_places,
        r.1.1,
        record {
          picks = adds.more;
          more = (let beyond = adds.beyond in omega (arith, beyond));
          fit = λ k d lt. part_fits (get_or adds.more k d) (adds.listed (get_or adds.more k d) (Contains-get_or adds.more k d lt));
          once = λ i j d lt inside e. adds.distinct i j d lt inside (solved_once (get_or adds.more i d) (get_or adds.more j d)
              (adds.listed (get_or adds.more i d) (Contains-get_or adds.more i d (omega (arith, lt, inside)))) (adds.listed (get_or adds.more j d) (Contains-get_or adds.more j d inside)) e);
        },
      )
  part_refused seats most (refusals.TooManySteps routers) r = (places, part_places, r.1.1)
  part_refused seats most refusals.Memory r = tt

  module _ (found : List (List ℕ)) (all : AreAll part_ways part_sets found) where
    found_at : (pick : List ℕ) → length pick ≡ length sets → ((i : ℕ) → get_or pick i 0 < 64) → ((i : ℕ) → i < length labels → get_or labels i 0 ≡ label → Has (get_or sets i 0) (get_or pick i 0))
        → All (λ way. InPart labels label way → FitsWay pick way) ways → Contains (map (λ (f : List ℕ). at_places f places) found) (at_places pick places)
    found_at pick whole low has fits =
        let c = all.covered (masked labels pick) (m_solves pick whole low has fits) in
        let is_at : get_or found c.0 [] ≡ masked labels pick = get_or_default found c.0 [] (masked labels pick) c.1 ∙ c.2 in (
          c.0,
          (let s = length-map found (λ (f : List ℕ). at_places f places) in omega (arith, s, c.1)),
          get_or-map (λ (g : List ℕ). at_places g places) found c.0 [] (at_places pick places) c.1 ∙ ap (λ (g : List ℕ). at_places g places) is_at ∙ m_same pick whole low has,
        )

    part_exact : (pick : List ℕ) (is : IsIn sets pick) → (Contains (map (λ (f : List ℕ). at_places f places) found) (at_places pick places) ↔ All (λ way. InPart labels label way → FitsWay pick way) ways)
    part_exact pick is = (
      λ c.
          (let lt : c.0 < length found = (let s = length-map found (λ (f : List ℕ). at_places f places) in omega (arith, s, c.1)) in
          let f = get_or found c.0 [] in
          let e : at_places f places ≡ at_places pick places = sym (get_or-map (λ (g : List ℕ). at_places g places) found c.0 [] (at_places pick places) lt) ∙ c.2 in
          let s = all.listed f (Contains-get_or found c.0 [] lt) in
          let fits = (keeps f).0 s.fits in
          λ k d klt inside. same_fits f pick (same_at_label f pick e) (get_or ways k d) (within k d klt) inside (fits k d klt inside)),
      λ fits. found_at pick is.size is.low (has_in pick is) fits,
    )

    -- a pick that fits between the places is found there
    part_whole : (pick : List ℕ) → ((i : ℕ) → get_or pick i 0 < 64) → FitsBetween ways sets places pick → Contains (map (λ (f : List ℕ). at_places f places) found) (at_places pick places)
    part_whole pick low f = found_at pick f.size low (λ i lt e. f.each i ((exact i).1 (lt, e))) (λ k d lt inside.
        (let w = within k d lt in
        f.fits k d lt ((exact (get_or ways k d).from).1 (w.from, inside.0)) ((exact (get_or ways k d).to).1 (w.to, inside.1))))

    part_pick : (f : List ℕ) → Contains found f → IsPickOf sets places (at_places f places)
    part_pick f c = record {
      size = length-map places (λ (i : ℕ). get_or f i 0);
      low = λ k klt. subst (λ (n : ℕ). n < 64) (sym (at_index f k klt)) ((all.listed f c).inside.low (get_or places k 0));
      each = λ k klt.
          (let p = place_of k klt in
          let s = all.listed f c in
          let here : Has (get_or part_sets (get_or places k 0) 0) (get_or f (get_or places k 0) 0) = s.inside.each (get_or places k 0) (omega (arith, p.0, size, of.size)) in
          subst (Has (get_or sets (get_or places k 0) 0)) (sym (at_index f k klt))
          (subst (λ (n : ℕ). Has n (get_or f (get_or places k 0) 0)) (set_in (get_or places k 0) (omega (arith, p.0, size)) p.1) here));
    }

    pub found_inside : All (λ pick. All (λ place. place < length pick) places) found
    found_inside k d lt j e jlt =
        let s = (all.listed (get_or found k d) (Contains-get_or found k d lt)).inside.size in
        let p = place_of j jlt in
        let same = get_or_default places j e 0 jlt in
        omega (arith, s, p.0, same, of.size, size)

    pub part_group : (group : Group) → group.places ≡ places → group.picks ≡ map (λ (f : List ℕ). at_places f places) found → IsPartGroup sets labels label ways group
    part_group group pe fe = record {
      group = record {
        inside = subst (All (λ place. place < length sets)) (sym pe) (λ k d lt. (let p = place_of k lt in let e = get_or_default places k d 0 lt in omega (arith, e, p.0, size)));
        some = subst (λ (ps : List ℕ). 0 < length ps) (sym pe) some;
        rising = subst (AllPairs (λ (a b : ℕ). a < b)) (sym pe) rising;
        picks = subst (λ (ps : List ℕ). All (IsPickOf sets ps) group.picks) (sym pe) (subst (All (IsPickOf sets places)) (sym fe) (λ j d lt.
            (let jlt : j < length found = (let s = length-map found (λ (f : List ℕ). at_places f places) in omega (arith, s, lt)) in
            subst (IsPickOf sets places) (sym (get_or-map (λ (g : List ℕ). at_places g places) found j [] d jlt)) (part_pick (get_or found j []) (Contains-get_or found j [] jlt)))));
        once = subst (AllPairs (λ (a b : List ℕ). a ≢ b)) (sym fe) (λ i j d lt inside e.
            (let s = length-map found (λ (f : List ℕ). at_places f places) in
            let jlt : j < length found = omega (arith, s, inside) in
            let ilt : i < length found = omega (arith, jlt, lt) in
            let same : at_places (get_or found i []) places ≡ at_places (get_or found j []) places =
            sym (get_or-map (λ (g : List ℕ). at_places g places) found i [] d ilt) ∙ e ∙ get_or-map (λ (g : List ℕ). at_places g places) found j [] d jlt in
            all.distinct i j [] lt jlt (solved_once (get_or found i []) (get_or found j []) (all.listed (get_or found i []) (Contains-get_or found i [] ilt)) (all.listed (get_or found j []) (Contains-get_or found j [] jlt)) same)));
      };
      places = λ place. subst (λ (ps : List ℕ). Contains ps place ↔ (place < length labels) × (get_or labels place 0 ≡ label)) (sym pe) (exact place);
      own = record {
        fit = subst (λ (ps : List ℕ). All (λ own. (pick : List ℕ) × FitsBetween ways sets ps pick × (own ≡ at_places pick ps)) group.picks) (sym pe)
            (subst (All (λ own. (pick : List ℕ) × FitsBetween ways sets places pick × (own ≡ at_places pick places))) (sym fe) (λ j d lt.
            (let jlt : j < length found = (let s = length-map found (λ (f : List ℕ). at_places f places) in omega (arith, s, lt)) in
            let f = get_or found j [] in
            (f, part_fits f (all.listed f (Contains-get_or found j [] jlt)), get_or-map (λ (g : List ℕ). at_places g places) found j [] d jlt))));
        whole = λ pick low. subst (λ (ps : List ℕ). FitsBetween ways sets ps pick → Contains group.picks (at_places pick ps)) (sym pe)
            (subst (λ (fs : List (List ℕ)). FitsBetween ways sets places pick → Contains fs (at_places pick places)) (sym fe) (part_whole pick low));
      };
      exact = λ pick is. subst (λ (ps : List ℕ). Contains group.picks (at_places pick ps) ↔ All (λ way. InPart labels label way → FitsWay pick way) ways) (sym pe)
          (subst (λ (fs : List (List ℕ)). Contains fs (at_places pick places) ↔ All (λ way. InPart labels label way → FitsWay pick way) ways) (sym fe) (part_exact pick is));
    }

-- ---- all labels

module _ (sets labels : List ℕ) (ways : List Way) (n : ℕ) (groups : List Group) where
  pub grouped_skip : ((place : ℕ) → place < length labels → get_or labels place 0 ≡ n → ⊥) → AreGrouped sets labels ways n groups → AreGrouped sets labels ways (n + 1) groups
  grouped_skip none are = record {
    each = λ k d lt. (let x = are.each k d lt in (x.0, omega (arith, x.1), x.2));
    all = λ place lt under. elim (cases_order (get_or labels place 0) n) [
      | inl same ↦ absurd (none place lt same)
      | inr differ ↦ are.all place lt (elim differ [ inl l ↦ l | inr m ↦ absurd (omega (arith, under, m)) ])
    ];
    some = are.some;
    order = are.order;
  }

  pub grouped_add : (new : List Group) (group : Group) → new ≡ groups ++ group ∷ [] → IsPartGroup sets labels n ways group → AreGrouped sets labels ways n groups → AreGrouped sets labels ways (n + 1) new
  grouped_add new group e is are = subst (AreGrouped sets labels ways (n + 1)) (sym e) (record {
    each = All-push (λ (g : Group). (label : ℕ) × (label < n + 1) × IsPartGroup sets labels label ways g) groups group
        (λ k d lt. (let x = are.each k d lt in (x.0, omega (arith, x.1), x.2))) (n, omega arith, is);
    all = λ place lt under. elim (cases_order (get_or labels place 0) n) [
      | inl same ↦ Any-push (λ (g : Group). Contains g.places place) groups group ((is.places place).1 (lt, same))
      | inr differ ↦ any_more (λ (g : Group). Contains g.places place) groups group (are.all place lt (elim differ [ inl l ↦ l | inr m ↦ absurd (omega (arith, under, m)) ]))
    ];
    some = All-push (λ (g : Group). 0 < length g.places) groups group are.some is.group.some;
    order = all_pairs_push (λ (a b : Group). (place behind : ℕ) → Contains a.places place → Contains b.places behind → get_or labels place 0 < get_or labels behind 0) groups group are.order (λ k d lt place behind one other.
        (let x = are.each k d lt in
        let a = (x.2.places place).0 one in
        let b = (is.places behind).0 other in
        omega (arith, x.1, a.1, b.1)));
  })

pub grouped_all : (sets labels : List ℕ) (ways : List Way) (n : ℕ) (groups : List Group) → AreWithin (length sets) ways → AreLabels sets ways labels → length sets ≤ n → AreGrouped sets labels ways n groups → AreGroups ways sets groups
grouped_all sets labels ways n groups within of le are = record {
  exact = λ pick size low. (
    (λ s k d lt. (let x = are.each k d lt in (x.2.exact pick s.inside).1 (λ j e jlt inside. s.fits j e jlt))),
    (λ chosen.
        (let is : IsIn sets pick = record { size = size; low = low; each = λ i lt. has_at pick chosen i lt } in
        record { inside = is; fits = λ j e jlt. fits_at pick low is chosen j e jlt (of.joined j e jlt) })),
  );
  each = λ k d lt. (are.each k d lt).2.group;
  own = λ k d lt. (are.each k d lt).2.own;
  places = λ place lt. group_of place lt;
  apart = λ i j d lt inside place one other. (let up = are.order i j d lt inside place place one other in omega (arith, up));
  order = λ i j d lt inside.
      (let ilt : i < length groups = omega (arith, lt, inside) in
      let one = are.each i d ilt in
      let other = are.each j d inside in
      let first = first_label one.2 in
      let next = first_label other.2 in
      let up = are.order i j d lt inside (get_or (get_or groups i d).places 0 0) (get_or (get_or groups j d).places 0 0) (Contains-get_or (get_or groups i d).places 0 0 one.2.group.some)
      (Contains-get_or (get_or groups j d).places 0 0 other.2.group.some) in
      omega (arith, up, first, next));
  alone = λ place plt all k d lt here other there.
      (let x = are.each k d lt in
      let mine = (x.2.places place).0 here in
      let theirs = (x.2.places other).0 there in
      of.alone place plt all other theirs.0 (theirs.1 ∙ sym mine.1));
}
  where
    group_of : (place : ℕ) → place < length sets → Any (λ group. Contains group.places place) groups
    group_of place lt = are.all place (omega (arith, lt, of.size)) (let low = of.low place lt in omega (arith, low, le))

    -- the least place of a label is its first
    first_label : {label : ℕ} {group : Group} → IsPartGroup sets labels label ways group → get_or labels (get_or group.places 0 0) 0 ≡ get_or group.places 0 0
    first_label {label} {group} x =
        let a = get_or group.places 0 0 in
        let mine = (x.places a).0 (Contains-get_or group.places 0 0 x.group.some) in
        let least = of.least a mine.0 in
        let here : get_or labels (get_or labels a 0) 0 ≡ label = least.1 ∙ mine.1 in
        let c = (x.places (get_or labels a 0)).1 (omega (arith, least.0, mine.0), here) in
        let is : get_or group.places c.0 0 ≡ get_or labels a 0 = get_or_default group.places c.0 0 (get_or labels a 0) c.1 ∙ c.2 in
        elim (cases_lt 0 c.0) [
          | inl behind ↦ (let up : a < get_or group.places c.0 0 = x.group.rising 0 c.0 0 behind c.1 in omega (arith, up, is, least.0))
          | inr first ↦ (let zero_is : get_or group.places c.0 0 ≡ a = ap (λ (n : ℕ). get_or group.places n 0) (omega (arith, first)) in sym is ∙ zero_is)
        ]

    has_at : (pick : List ℕ) → All (λ group. Contains group.picks (at_places pick group.places)) groups → (i : ℕ) → i < length sets → Has (get_or sets i 0) (get_or pick i 0)
    has_at pick chosen i lt =
        let g = group_of i lt in
        let x : IsGroup sets g.1 = subst (IsGroup sets) g.3 (are.each g.0 g.1 g.2).2.group in
        let c : Contains g.1.picks (at_places pick g.1.places) = subst (λ (h : Group). Contains h.picks (at_places pick h.places)) g.3 (chosen g.0 g.1 g.2) in
        let place = g.4 in
        let is : IsPickOf sets g.1.places (at_places pick g.1.places) = subst (IsPickOf sets g.1.places) c.2 (x.picks c.0 (at_places pick g.1.places) c.1) in
        let i_is : get_or g.1.places place.0 0 ≡ i = get_or_default g.1.places place.0 0 i place.1 ∙ place.2 in
        let value : get_or (at_places pick g.1.places) place.0 0 ≡ get_or pick (get_or g.1.places place.0 0) 0 = get_or-map (λ (j : ℕ). get_or pick j 0) g.1.places place.0 0 0 place.1 in
        subst (λ (j : ℕ). Has (get_or sets j 0) (get_or pick j 0)) i_is (subst (Has (get_or sets (get_or g.1.places place.0 0) 0)) value (is.each place.0 place.1))

    fits_at : (pick : List ℕ) → ((i : ℕ) → get_or pick i 0 < 64) → IsIn sets pick → All (λ group. Contains group.picks (at_places pick group.places)) groups → (j : ℕ) (e : Way) → j < length ways
        → IsFree sets (get_or ways j e) ⊎ (get_or labels (get_or ways j e).from 0 ≡ get_or labels (get_or ways j e).to 0) → FitsWay pick (get_or ways j e)
    fits_at pick low is chosen j e jlt (inl free) =
        let w = within j e jlt in
        free (get_or pick (get_or ways j e).from 0) (get_or pick (get_or ways j e).to 0) (low (get_or ways j e).from) (is.each (get_or ways j e).from w.from) (is.each (get_or ways j e).to w.to)
    fits_at pick low is chosen j e jlt (inr same) =
        let w = within j e jlt in
        let g = group_of (get_or ways j e).from w.from in
        let x = are.each g.0 g.1 g.2 in
        let c = chosen g.0 g.1 g.2 in
        let place : Contains (get_or groups g.0 g.1).places (get_or ways j e).from = subst (λ (h : Group). Contains h.places (get_or ways j e).from) (sym g.3) g.4 in
        let here = (x.2.places (get_or ways j e).from).0 place in
        (x.2.exact pick is).0 c j e jlt (here.1, sym same ∙ here.1)

-- what a refusal says of sets that a narrowing left it says of the sets before
pub refused_before : (seats : List Seat) (ways : List Way) (old new : List ℕ) (most : ℕ) (why : SearchError) → Narrows ways old new → RefusesPlaces seats ways new most why → RefusesPlaces seats ways old most why
refused_before seats ways old new most (refusals.TooManyPaths router) narrows r = r
refused_before seats ways old new most (refusals.TooManyChoices routers) narrows r = (
  r.0,
  places_before r.0 r.1,
  r.2,
  record {
    picks = r.3.picks;
    more = r.3.more;
    fit = λ k d lt. (let f = r.3.fit k d lt in record { size = f.size ∙ narrows.size; each = λ i c. narrows.fewer _ _ (f.each i c); fits = f.fits });
    once = r.3.once;
  },
)
  where
    places_before : (places : List ℕ) → ArePlaces new places → ArePlaces old places
    places_before places are = record { inside = λ k d lt. (let x = are.inside k d lt in omega (arith, x, narrows.size)); some = are.some; rising = are.rising }
refused_before seats ways old new most (refusals.TooManySteps routers) narrows r =
    (r.0, record { inside = λ k d lt. (let x = r.1.inside k d lt in omega (arith, x, narrows.size)); some = r.1.some; rising = r.1.rising }, r.2)
refused_before seats ways old new most refusals.Memory narrows r = tt

-- a group of sets that a narrowing left is one of the sets before
pub group_before : (ways : List Way) (old new : List ℕ) (group : Group) → Narrows ways old new → IsGroup new group → IsGroup old group
group_before ways old new group narrows g = record {
  inside = λ i e ilt. (let x = g.inside i e ilt in omega (arith, x, narrows.size));
  some = g.some;
  rising = g.rising;
  picks = λ i e ilt. (let x = g.picks i e ilt in record { size = x.size; low = x.low; each = λ m mlt. narrows.fewer _ _ (x.each m mlt) });
  once = g.once;
}

pub within_copy : (n : ℕ) (way copy : Way) → copy.from ≡ way.from → copy.to ≡ way.to → copy.fits.items ≡ way.fits.items → IsWithin n way → IsWithin n copy
within_copy n way copy a b f is = record { from = omega (arith, a, is.from); to = omega (arith, b, is.to); few = (let s = ap length f in omega (arith, s, is.few)) }

pub if_ok : {T E : Type 0} {P Q : T → Type 0} (r : Result T E) → ((x : T) → P x → Q x) → IfOk r P → IfOk r Q
if_ok (Ok x) f h = f x h
if_ok (Err e) f h = h

-- want of memory says nothing
pub memory_refuses : {T : Type 0} (seats : List Seat) (ways : List Way) (sets : List ℕ) (most : ℕ) (r : Result T SearchError) → IsErrAnd r (λ why. why ≡ refusals.Memory) → IfErr r (RefusesPlaces seats ways sets most)
memory_refuses seats ways sets most (Ok x) h = tt
memory_refuses seats ways sets most (Err why) h = subst (RefusesPlaces seats ways sets most) (sym h) tt

pub if_err : {T E : Type 0} {P Q : E → Type 0} (r : Result T E) → ((e : E) → P e → Q e) → IfErr r P → IfErr r Q
if_err (Ok x) f h = h
if_err (Err e) f h = f e h

pub no_place : (labels : List ℕ) (label : ℕ) (places : List ℕ) → (length places == 0) ≡ true → ((place : ℕ) → (Contains places place ↔ (place < length labels) × (get_or labels place 0 ≡ label)))
    → (place : ℕ) → place < length labels → get_or labels place 0 ≡ label → ⊥
no_place labels label places none exact place lt here =
    let c = (exact place).1 (lt, here) in
    let z = eqb-true (length places) 0 none in
    omega (arith, c.1, z)
