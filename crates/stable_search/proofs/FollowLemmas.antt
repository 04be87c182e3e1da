-- Places that follow others: what a search for them finds, and that there is one way to give them values.
use Rattle.std.proofs.Common.{◌≡◌, ◌≢◌, ℕ, zero, suc, ◌<◌, ◌≤◌, ◌+◌, List, [], ◌∷◌, ◌++◌, length, take, get_or, refl, sym, ap, subst, ◌∙◌, arith, inl, inr, ◌⊎◌}
use Rattle.std.specs.Prelude.{◌↔◌}
use Rattle.std.specs.List.{All, Contains}
use lib.Bits.{bit_and}
use Rattle.std.proofs.lemmas.Bool.{cases_order, cases_lt, cases_eq}
use Rattle.std.proofs.lemmas.List.{take_more, take_all, length-append, get_or_append_left, get_or_at, get_or_past}
use Rattle.std.proofs.lemmas.List.Elements.{All-push}
use Rattle.std.proofs.lemmas.Nat.Bits.{bit_at_and, bit_at-lt}
use Rattle.stable_search.specs.declared.way.Way.{Way}
use Rattle.stable_search.specs.Following.{IsHeard, AreMet, FitsTo, Answers, FitsLevel, IsOnlyLevel, FollowTogether, AreUnmoved, AreLevels, IsRaised}
use Rattle.stable_search.specs.Picks.{Has, IsIn, FitsWay, IsOnly}
use Rattle.stable_search.proofs.PartLemmas.{split_last}

pub has_common : (a b i : ℕ) → (Has (bit_and a b) i ↔ (Has a i × Has b i))
has_common a b i = (
  (λ h. (let e = bit_at_and a b i in let x = bit_at-lt a i in let y = bit_at-lt b i in (omega (arith, e, x, y, h), omega (arith, e, x, y, h)))),
  (λ h. (let e = bit_at_and a b i in omega (arith, e, h.0, h.1))),
)

pub zero_on : (levels new : List ℕ) → new ≡ levels ++ 0 ∷ [] → ((i : ℕ) → get_or levels i 0 ≡ 0) → (i : ℕ) → get_or new i 0 ≡ 0
zero_on levels new e all i = ap (λ (xs : List ℕ). get_or xs i 0) e ∙ elim (cases_lt i (length levels)) [
  | inl lt ↦ get_or_append_left levels (0 ∷ []) 0 i lt ∙ all i
  | inr up ↦ elim (cases_eq i (length levels)) [
    | inl same ↦ get_or_at levels 0 [] 0 i (sym same)
    | inr not ↦ get_or_past (levels ++ 0 ∷ []) i 0 (let size = length-append levels (0 ∷ []) in omega (arith, size, up, not))
  ]
]

pub all_on : (P : ℕ → Type 0) (xs : List ℕ) (i : ℕ) → P (get_or xs i 0) → ((k : ℕ) → k < i → P (get_or xs k 0)) → (k : ℕ) → k < i + 1 → P (get_or xs k 0)
all_on P xs i here before k lt = elim (cases_order k i) [
  | inl same ↦ subst (λ (n : ℕ). P (get_or xs n 0)) (sym same) here
  | inr differ ↦ before k (elim differ [ inl l ↦ l | inr m ↦ absurd (omega (arith, lt, m)) ])
]

pub one_more : (P : ℕ → Type 0) (i : ℕ) → P i → ((k : ℕ) → k < i → P k) → (k : ℕ) → k < i + 1 → P k
one_more P i here before k lt = elim (cases_order k i) [
  | inl same ↦ subst P (sym same) here
  | inr differ ↦ before k (elim differ [ inl l ↦ l | inr m ↦ absurd (omega (arith, lt, m)) ])
]

-- ---- the values that are left

-- whatever values the places have, one of the sets has just the values that fit at so many ends
abbrev pub Left : List Way → List ℕ → ℕ → ℕ → List ℕ → Type 0
Left ends sets place i left =
    (pick : List ℕ) → IsIn sets pick → (set : ℕ) × Contains left set
    × ((a : ℕ) → a < 64 → (Has set a ↔ (Has (get_or sets place 0) a × FitsTo (take i ends) place pick a)))

module _ (ends : List Way) (sets : List ℕ) (place : ℕ) where
  pub left_start : (left : List ℕ) → left ≡ get_or sets place 0 ∷ [] → Left ends sets place 0 left
  left_start left e pick is = (
    get_or sets place 0,
    subst (λ (xs : List ℕ). Contains xs (get_or sets place 0)) (sym e) (0, omega arith, refl),
    λ a below. ((λ h. (h, λ k d lt. absurd (omega (arith, lt)))), (λ h. h.0)),
  )

  module _ (i : ℕ) (end : Way) (lt : i < length ends) (is : end ≡ get_or ends i end) where
    more : take (i + 1) ends ≡ take i ends ++ end ∷ []
    more = take_more ends i end lt ∙ ap (λ (w : Way). take i ends ++ w ∷ []) (sym is)

    first : (pick : List ℕ) (a : ℕ) → FitsTo (take (i + 1) ends) place pick a
        → FitsTo (take i ends) place pick a × (IsHeard place end → Has (get_or end.fits.items (get_or pick end.from 0) 0) a)
    first pick a all =
        let P : Way → Type 0 = λ w. IsHeard place w → Has (get_or w.fits.items (get_or pick w.from 0) 0) a in
        split_last P (take i ends) end (subst (All P) more all)

    last : (pick : List ℕ) (a : ℕ) → FitsTo (take i ends) place pick a → (IsHeard place end → Has (get_or end.fits.items (get_or pick end.from 0) 0) a)
        → FitsTo (take (i + 1) ends) place pick a
    last pick a all p =
        let P : Way → Type 0 = λ w. IsHeard place w → Has (get_or w.fits.items (get_or pick w.from 0) 0) a in
        subst (All P) (sym more) (All-push P (take i ends) end all p)

    pub left_skip : (left : List ℕ) → (IsHeard place end → ⊥) → Left ends sets place i left → Left ends sets place (i + 1) left
    left_skip left not inv pick inside =
        let x = inv pick inside in (
          x.0,
          x.1,
          λ a below. (
            (λ h. (let y = (x.2 a below).0 h in (y.0, last pick a y.1 (λ heard. absurd (not heard))))),
            (λ h. (x.2 a below).1 (h.0, (first pick a h.1).0)),
          ),
        )

    pub left_on : (left met : List ℕ) → end.from < length sets → IsHeard place end → AreMet end (get_or sets end.from 0) left met → Left ends sets place i left → Left ends sets place (i + 1) met
    left_on left met from heard are inv pick inside =
        let x = inv pick inside in
        let value = get_or pick end.from 0 in
        let fits = get_or end.fits.items value 0 in (
          bit_and x.0 fits,
          are value (inside.low end.from) (inside.each end.from from) x.0 x.1,
          λ a below. (
            (λ h.
                (let both = (has_common x.0 fits a).0 h in
                let y = (x.2 a below).0 both.0 in
                (y.0, last pick a y.1 (λ _. both.1)))),
            (λ h.
                (let y = first pick a h.1 in
                (has_common x.0 fits a).1 ((x.2 a below).1 (h.0, y.0), y.1 heard))),
          ),
        )

  pub left_single : (i : ℕ) (left : List ℕ) → length ends ≤ i → All (λ set. (value : ℕ) × IsOnly set value) left → Left ends sets place i left → Answers ends sets place
  left_single i left done single inv pick inside =
      let whole : take i ends ≡ ends = take_all i ends done in
      let x = inv pick inside in
      let only : (value : ℕ) × IsOnly x.0 value = subst (λ (n : ℕ). (value : ℕ) × IsOnly n value) x.1.2 (single x.1.0 x.0 x.1.1) in
      let h = (x.2 only.0 only.1.low).0 only.1.here in
      record {
        value = only.0;
        below = only.1.low;
        has = h.0;
        fits = subst (λ (ws : List Way). FitsTo ws place pick only.0) whole h.1;
        alone = λ other below has fits.
            only.1.alone other below ((x.2 other below).1 (has, subst (λ (ws : List Way). FitsTo ws place pick other) (sym whole) fits));
      }

-- ---- levels

pub levels_start : (ends : List Way) (sets levels : List ℕ) → length levels ≡ length sets → ((i : ℕ) → get_or levels i 0 ≡ 0) → AreLevels ends sets levels
levels_start ends sets levels size none = record {
  size = size;
  most = λ i lt. (let e = none i in omega (arith, e));
  unmoved = λ k d lt up. (let e = none (get_or ends k d).from in absurd (omega (arith, e, up)));
  follows = λ i lt up. (let e = none i in absurd (omega (arith, e, up)));
}

-- places of level 0 with a level below all others
module _ (ends : List Way) (sets levels raised : List ℕ) (level : ℕ) (is : IsRaised levels level raised) where
  own_same : (m : ℕ) → level < m → (place : ℕ) → (get_or levels place 0 ≡ m ↔ get_or raised place 0 ≡ m)
  own_same m high place = elim (is.each place) [
    | inl same ↦ ((λ h. same ∙ h), (λ h. sym same ∙ h))
    | inr new ↦ (
      (λ h. (let a = new.0 in absurd (omega (arith, h, a, high)))),
      (λ h. (let a = new.1 in absurd (omega (arith, h, a, high)))),
    )
  ]

  low_same : (m : ℕ) → level < m → (place : ℕ) → (get_or levels place 0 < m ↔ get_or raised place 0 < m)
  low_same m high place = elim (is.each place) [
    | inl same ↦ ((λ h. omega (arith, same, h)), (λ h. omega (arith, same, h)))
    | inr new ↦ ((λ h. (let a = new.1 in omega (arith, a, high))), (λ h. (let a = new.0 in omega (arith, a, high))))
  ]

  -- those that followed before
  before : (m : ℕ) → level < m → FollowTogether ends sets levels m → FollowTogether ends sets raised m
  before m high follow pick inside =
      let x = follow pick inside in
      record {
        more = x.more;
        inside = x.inside;
        same = λ place differ. x.same place (λ h. differ ((own_same m high place).0 h));
        fits = λ place lt own. x.fits place (omega (arith, lt, is.size)) ((own_same m high place).1 own);
        alone = λ other inside_too low fits place lt own.
            x.alone other inside_too (λ q qlt under. low q (omega (arith, qlt, is.size)) ((low_same m high q).0 under))
            (λ q qlt at. fits q (omega (arith, qlt, is.size)) ((own_same m high q).0 at)) place (omega (arith, lt, is.size)) ((own_same m high place).1 own);
      }

  pub levels_on : level ≤ length sets → ((i : ℕ) → i < length levels → 0 < get_or levels i 0 → level < get_or levels i 0) → AreLevels ends sets levels → AreUnmoved ends sets raised
      → FollowTogether ends sets raised level → AreLevels ends sets raised
  levels_on most above are unmoved follow = record {
    size = is.size ∙ are.size;
    most = λ i lt. elim (is.each i) [
      | inl same ↦ (let b = are.most i (omega (arith, lt, is.size)) in omega (arith, same, b))
      | inr new ↦ (let a = new.1 in omega (arith, a, most))
    ];
    unmoved = unmoved;
    follows = λ i lt up. elim (is.each i) [
      | inl same ↦
          let old : i < length levels = omega (arith, lt, is.size) in
          let was : 0 < get_or levels i 0 = omega (arith, same, up) in
          subst (FollowTogether ends sets raised) (sym same) (before (get_or levels i 0) (above i old was) (are.follows i old was))
      | inr new ↦ subst (FollowTogether ends sets raised) (sym new.1) follow
    ];
  }

  pub above_on : (count step : ℕ) → count < level + (step + 1) → ((i : ℕ) → i < length levels → 0 < get_or levels i 0 → count < get_or levels i 0 + step)
      → (i : ℕ) → i < length raised → 0 < get_or raised i 0 → count < get_or raised i 0 + (step + 1)
  above_on count step here inv i lt up = elim (is.each i) [
    | inl same ↦ (let b = inv i (omega (arith, lt, is.size)) (omega (arith, same, up)) in omega (arith, same, b))
    | inr new ↦ (let a = new.1 in omega (arith, a, here))
  ]

-- ---- one way to give values to the places that follow

find_level : (levels : List ℕ) (level : ℕ) → ((i : ℕ) × (i < length levels) × (get_or levels i 0 ≡ level)) ⊎ ((i : ℕ) → i < length levels → get_or levels i 0 ≢ level)
find_level [] level = inr (λ i lt e. omega (arith, lt))
find_level (l ∷ ls) level = elim (cases_eq l level) [
  | inl e ↦ inl (0, omega arith, e)
  | inr not ↦ elim (find_level ls level) [
    | inl f ↦ inl (suc f.0, omega (arith, f.1), f.2)
    | inr none ↦ inr (at not none)
  ]
]
  where
    at : (l ≢ level) → ((i : ℕ) → i < length ls → get_or ls i 0 ≢ level) → (i : ℕ) → i < length (l ∷ ls) → get_or (l ∷ ls) i 0 ≢ level
    at not none zero lt e = not e
    at not none (suc i) lt e = none i (omega (arith, lt)) e

abbrev pub AreEnds : ℕ → List Way → Type 0
AreEnds count ends = All (λ end. (end.from < count) × (end.to < count)) ends

module _ (ends : List Way) (sets levels : List ℕ) (are : AreLevels ends sets levels) (within : AreEnds (length levels) ends) where
  -- a pick that has the same at the places that follow none, and fits at the ends at followers below a level
  pub record Extended (pick : List ℕ) (below : ℕ) : Type 0 where
    pub more : List ℕ
    pub inside : IsIn sets more
    pub same : (i : ℕ) → get_or levels i 0 ≡ 0 → get_or more i 0 ≡ get_or pick i 0
    pub fits : All (λ end. 0 < get_or levels end.to 0 → get_or levels end.to 0 < below → (end.from ≢ end.to) → FitsWay more end) ends

  step_none : (pick : List ℕ) (level : ℕ) → ((i : ℕ) → i < length levels → get_or levels i 0 ≢ level) → Extended pick level → Extended pick (suc level)
  step_none pick level none e = record {
    more = e.more;
    inside = e.inside;
    same = e.same;
    fits = λ k d lt up below apart.
        (let end = within k d lt in
        let not = none (get_or ends k d).to end.1 in
        e.fits k d lt up (elim (cases_order (get_or levels (get_or ends k d).to 0) level) [
          | inl same ↦ absurd (not same)
          | inr differ ↦ elim differ [ inl l ↦ l | inr m ↦ absurd (omega (arith, below, m)) ]
        ]) apart);
  }

  -- where no value matters to a place of a lower level, any two fit
  free_fits : (pick : List ℕ) → IsIn sets pick → (k : ℕ) (d : Way) → k < length ends → get_or levels (get_or ends k d).to 0 < get_or levels (get_or ends k d).from 0 → FitsWay pick (get_or ends k d)
  free_fits pick inside k d lt up =
      let end = get_or ends k d in
      let w = within k d lt in
      are.unmoved k d lt up (get_or pick end.from 0) (get_or pick end.to 0) (inside.low end.from) (inside.each end.from (omega (arith, w.0, are.size))) (inside.each end.to (omega (arith, w.1, are.size)))

  module _ (pick : List ℕ) (level : ℕ) (some : 0 < level) (e : Extended pick level) (f : IsOnlyLevel ends sets levels level e.more) where
    next_fits : (k : ℕ) (d : Way) → k < length ends → 0 < get_or levels (get_or ends k d).to 0 → get_or levels (get_or ends k d).to 0 < suc level → ((get_or ends k d).from ≢ (get_or ends k d).to) → FitsWay f.more (get_or ends k d)
    next_fits k d lt up below apart =
        let end = get_or ends k d in
        let w = within k d lt in
        elim (cases_eq (get_or levels end.to 0) level) [
          | inl here ↦ f.fits end.to w.1 here k d lt (refl, apart)
          | inr not ↦
              let low : get_or levels end.to 0 < level = elim (cases_order (get_or levels end.to 0) level) [ inl same ↦ absurd (not same) | inr differ ↦ elim differ [ inl l ↦ l | inr m ↦ absurd (omega (arith, below, m)) ] ] in
              elim (cases_eq (get_or levels end.from 0) level) [
                | inl high ↦ free_fits f.more f.inside k d lt (omega (arith, high, low))
                | inr other ↦
                    subst (λ (v : ℕ). Has (get_or end.fits.items v 0) (get_or f.more end.to 0)) (sym (f.same end.from other))
                    (subst (Has (get_or end.fits.items (get_or e.more end.from 0) 0)) (sym (f.same end.to not)) (e.fits k d lt up low apart))
              ]
        ]

    step_on : Extended pick (suc level)
    step_on = record {
      more = f.more;
      inside = f.inside;
      same = λ i flat. f.same i (λ h. omega (arith, h, flat, some)) ∙ e.same i flat;
      fits = next_fits;
    }

  extended : (pick : List ℕ) → Extended pick 1 → (n : ℕ) → Extended pick (suc n)
  extended pick start zero = start
  extended pick start (suc n) =
      let e = extended pick start n in
      elim (find_level levels (suc n)) [
        | inl f ↦ step_on pick (suc n) (omega arith) e (subst (λ (m : ℕ). IsOnlyLevel ends sets levels m e.more) f.2 (are.follows f.0 f.1 (let same = f.2 in omega (arith, same)) e.more e.inside))
        | inr none ↦ step_none pick (suc n) none e
      ]

  -- any pick, but for the places that follow, which fits at the ends at and beside these
  pub all_extended : (pick : List ℕ) → IsIn sets pick
      → (more : List ℕ) × IsIn sets more × ((i : ℕ) → get_or levels i 0 ≡ 0 → get_or more i 0 ≡ get_or pick i 0)
      × All (λ end. ((0 < get_or levels end.from 0) ⊎ (0 < get_or levels end.to 0)) → (end.from ≢ end.to) → FitsWay more end) ends
  all_extended pick inside =
      let start : Extended pick 1 = record {
        more = pick;
        inside = inside;
        same = λ i flat. refl;
        fits = λ k d lt up below apart. absurd (omega (arith, up, below));
      } in
      let e = extended pick start (length sets) in (
        e.more,
        e.inside,
        e.same,
        λ k d lt some apart.
            (let end = within k d lt in
            let most = are.most (get_or ends k d).to end.1 in
            elim (cases_lt 0 (get_or levels (get_or ends k d).to 0)) [
              | inl up ↦ e.fits k d lt up (omega (arith, most)) apart
              | inr flat ↦ free_fits e.more e.inside k d lt (elim some [ inl up ↦ omega (arith, up, flat) | inr up ↦ absurd (omega (arith, up, flat)) ])
            ]),
      )

  fits_level : (pick : List ℕ) → All (FitsWay pick) ends → (level : ℕ) → FitsLevel ends levels level pick
  fits_level pick all level place lt own k d klt heard =
      subst (λ (m : ℕ). Has (get_or (get_or ends k d).fits.items (get_or pick (get_or ends k d).from 0) 0) (get_or pick m 0)) heard.0 (all k d klt)

  -- picks that fit and are the same at the places that follow none are the same
  module _ (one other : List ℕ) (one_in : IsIn sets one) (other_in : IsIn sets other) (one_fits : All (FitsWay one) ends) (other_fits : All (FitsWay other) ends)
      (same : (i : ℕ) → i < length levels → get_or levels i 0 ≡ 0 → get_or one i 0 ≡ get_or other i 0) where
    same_below : (n i : ℕ) → i < length levels → get_or levels i 0 < n → get_or one i 0 ≡ get_or other i 0
    same_below zero i lt below = absurd (omega (arith, below))
    same_below (suc n) i lt below = elim (cases_eq (get_or levels i 0) 0) [
      | inl flat ↦ same i lt flat
      | inr not ↦
          let level = get_or levels i 0 in
          let f = are.follows i lt (omega (arith, not)) one one_in in
          let mine = f.alone one one_in (λ q qlt under. refl) (fits_level one one_fits level) i lt refl in
          let theirs = f.alone other other_in (λ q qlt under. sym (same_below n q qlt (omega (arith, under, below)))) (fits_level other other_fits level) i lt refl in
          mine ∙ sym theirs
    ]

    pub same_everywhere : (i : ℕ) → i < length levels → get_or one i 0 ≡ get_or other i 0
    same_everywhere i lt = same_below (suc (get_or levels i 0)) i lt (omega arith)
