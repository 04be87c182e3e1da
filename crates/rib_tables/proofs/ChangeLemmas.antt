-- Rows by their prefixes, and changes of them.
use Rattle.std.proofs.Common.{◌≡◌, ◌≢◌, ℕ, zero, suc, ◌<◌, ◌+◌, Bool, true, false, ◌||◌, cond, List, [], ◌∷◌, ◌++◌, length, get_or, set, map, position, refl, sym, ap, subst, ◌∙◌, arith, inl, inr, Some, None, Option}
use Rattle.std.specs.Prelude.{MatchOption}
use Rattle.std.specs.List.{slice_get, AllPairs}
use Rattle.std.proofs.lemmas.Bool.{cases_Bool, cases_order, both_ways, false_from_ne_true, or_parts}
use Rattle.std.proofs.lemmas.List.Quantifiers.{position-Some}
use Rattle.std.specs.List.{list_any, All}
use Rattle.std.specs.Option.{is_some}
use Rattle.std.specs.Option.{option_map}
use Rattle.std.proofs.lemmas.List.{length-map, length-set, set-set, length-append, get_or_append_left}
use Rattle.std.proofs.Math.Seq.{get_or-append_seam}
use Rattle.std.proofs.lemmas.Bool.{cond-true, cond-false, or_left}
use Rattle.std.proofs.Math.Bool.{or-false, or_assoc}
use Rattle.std.proofs.lemmas.Option.{slice_get-get_or, slice_get_within, get_or_from_slice_get, slice_get_cases, slice_get-map, same_Some}
use Rattle.rib_tables.specs.declared.row.Row.{Row}
use Rattle.rib_tables.specs.declared.place_set.PlaceSet.{PlaceSet}
use Rattle.rib_tables.specs.Places.{has}
use Rattle.rib_tables.specs.Rows.{AreFit, Marks, on, hearing, hearing_all}
use Rattle.prefix_lanes.specs.Bits.{PrefixView, is_prefix}
use Rattle.rib_tables.specs.declared.word.Word.{Word}
use Rattle.rib_tables.specs.Words.{lists}
use Rattle.rib_tables.proofs.WordLemmas.{is_prefix-true, is_prefix-from}

slice_get_tail : {X : Type 0} (x : X) (xs : List X) (i : ℕ) (y : X) → slice_get (x ∷ xs) (suc i) ≡ Some y → slice_get xs i ≡ Some y
slice_get_tail {X} x xs i y at = at

-- a test that nothing of a list passes
each_fails : (t : PrefixView → Bool) (keys : List PrefixView) → list_any t keys ≡ false → (i : ℕ) (p : PrefixView) → slice_get keys i ≡ Some p → t p ≡ false
each_fails t [] none i p at = absurd (let lt = slice_get_within [] i p at in omega (arith, lt))
each_fails t (k ∷ ks) none zero p at = ap t (sym (same_Some k p at)) ∙ (or_parts (t k) (list_any t ks) none).0
each_fails t (k ∷ ks) none (suc i) p at = each_fails t ks (or_parts (t k) (list_any t ks) none).1 i p (slice_get_tail k ks i p at)

-- and the other way about
pub each_passes : (t : PrefixView → Bool) (keys : List PrefixView) → ((i : ℕ) (p : PrefixView) → slice_get keys i ≡ Some p → t p ≡ false) → list_any t keys ≡ false
each_passes t [] none = refl
each_passes t (k ∷ ks) none = ap (λ (b : Bool). b || list_any t ks) (none 0 k refl) ∙ each_passes t ks (λ i p at. none (suc i) p at)

pub place_from : (q : PrefixView) (keys : List PrefixView) (r : Option ℕ) → r ≡ position (is_prefix q) keys → is_some r ≡ list_any (is_prefix q) keys
    → MatchOption r ((i : ℕ) (p : PrefixView) → slice_get keys i ≡ Some p → is_prefix q p ≡ false) (λ i. slice_get keys i ≡ Some q)
place_from q keys None is found = λ i p at. each_fails (is_prefix q) keys (sym found) i p at
place_from q keys (Some i) is found =
    let at = position-Some (is_prefix q) keys i q (sym is) in
    slice_get-get_or keys i q at.0 ∙ ap Some (sym (is_prefix-true q (get_or keys i q) at.1))

-- ---- rows by their prefixes

pub within : {X : Type 0} (xs : List X) (i : ℕ) → i < length xs → (x : X) × (slice_get xs i ≡ Some x)
within {X} xs i lt = elim (slice_get_cases xs i).1 [ inl here ↦ (here.0, here.2) | inr past ↦ absurd (omega (arith, lt, past.0)) ]

module _ (keys : List PrefixView) (rows : List Row) (listed : keys ≡ map (λ r. r.prefix) rows) where
  pub key_at : (i : ℕ) (r : Row) → slice_get rows i ≡ Some r → slice_get keys i ≡ Some r.prefix
  key_at i r at = ap (λ (ks : List PrefixView). slice_get ks i) listed ∙ slice_get-map (λ (s : Row). s.prefix) rows i ∙ ap (option_map (λ (s : Row). s.prefix)) at

  pub many : length rows ≡ length keys
  many = sym (length-map rows (λ (r : Row). r.prefix)) ∙ ap (λ (ks : List PrefixView). length ks) (sym listed)

  pub row_at : (i : ℕ) (q : PrefixView) → slice_get keys i ≡ Some q → (r : Row) × (slice_get rows i ≡ Some r) × (r.prefix ≡ q)
  row_at i q at =
      let lt = slice_get_within keys i q at in
      let here = within rows i (omega (arith, lt, many)) in
      (here.0, here.1, same_Some here.0.prefix q (sym (key_at i here.0 here.1) ∙ at))

pub once_at : (keys : List PrefixView) → AllPairs (λ p q. p ≢ q) keys → (i j : ℕ) (p : PrefixView) → slice_get keys i ≡ Some p → slice_get keys j ≡ Some p → i ≡ j
once_at keys once i j p at also =
    let first = get_or_from_slice_get keys i p p at in
    let next = get_or_from_slice_get keys j p p also in
    elim (cases_order i j) [
      | inl same ↦ same
      | inr differ ↦ elim differ [
        | inl less ↦ absurd (once i j p less (slice_get_within keys j p also) (first ∙ sym next))
        | inr more ↦ absurd (once j i p more (slice_get_within keys i p at) (next ∙ sym first))
      ]
    ]

-- ---- a change of one row

module _ (q : PrefixView) (g : Row → Row) where
  pub untouched : (rows : List Row) → ((i : ℕ) (r : Row) → slice_get rows i ≡ Some r → is_prefix q r.prefix ≡ false) → map (on q g) rows ≡ rows
  untouched [] none = refl
  untouched (r ∷ rs) none = ap (λ (s : Row). s ∷ map (on q g) rs) (cond-false (is_prefix q r.prefix) (g r) r (none 0 r refl)) ∙ ap (λ (ss : List Row). r ∷ ss) (untouched rs (λ i s at. none (suc i) s at))

  pub set_is_map : (rows : List Row) (i : ℕ) (r : Row) → slice_get rows i ≡ Some r → is_prefix q r.prefix ≡ true
      → ((j : ℕ) (s : Row) → slice_get rows j ≡ Some s → j ≢ i → is_prefix q s.prefix ≡ false) → set rows i (g r) ≡ map (on q g) rows
  set_is_map [] i r at is others = absurd (let lt = slice_get_within [] i r at in omega (arith, lt))
  set_is_map (x ∷ xs) zero r at is others =
      let same : x ≡ r = same_Some x r at in
      let head : on q g x ≡ g r = ap (on q g) same ∙ cond-true (is_prefix q r.prefix) (g r) r is in
      ap (λ (s : Row). s ∷ xs) (sym head) ∙ ap (λ (ss : List Row). on q g x ∷ ss) (sym (untouched xs (λ j s there. others (suc j) s there (λ e. absurd cc))))
  set_is_map (x ∷ xs) (suc i) r at is others =
      let head : on q g x ≡ x = cond-false (is_prefix q x.prefix) (g x) x (others 0 x refl (λ e. absurd cc)) in
      ap (λ (s : Row). s ∷ set xs i (g r)) (sym head)
      ∙ ap (λ (ss : List Row). on q g x ∷ ss) (set_is_map xs i r at is (λ j s there apart. others (suc j) s there (λ e. apart (omega (arith, e)))))

-- the change of the row at the place of a prefix is that of the prefix
pub set_at_key : (keys : List PrefixView) (n : ℕ) (rows : List Row) → AreFit keys n rows → (q : PrefixView) (i : ℕ) → slice_get keys i ≡ Some q → (g : Row → Row) (r : Row) → slice_get rows i ≡ Some r
    → set rows i (g r) ≡ map (on q g) rows
set_at_key keys n rows fit q i at g r there =
    let key : slice_get keys i ≡ Some r.prefix = key_at keys rows fit.listed i r there in
    set_is_map q g rows i r there (is_prefix-from q r.prefix (same_Some q r.prefix (sym at ∙ key)))
    (λ j s here apart. false_from_ne_true (is_prefix q s.prefix) (λ t. apart (once_at keys fit.once j i q (key_at keys rows fit.listed j s here ∙ ap Some (sym (is_prefix-true q s.prefix t))) at)))

-- only the place of the prefix is new in the set
pub marks_one : (keys : List PrefixView) (n : ℕ) (rows : List Row) → AreFit keys n rows → (q : PrefixView) (i : ℕ) → slice_get keys i ≡ Some q → (old new : PlaceSet) → has new i ≡ true
    → ((j : ℕ) → j ≢ i → has new j ≡ has old j) → Marks (λ r. is_prefix q r.prefix) rows old new
marks_one keys n rows fit q i at old new here others = λ j out.
    let apart : j ≢ i = λ e. both_ways (has new j) out (ap (has new) e ∙ here) in (
      sym (others j apart) ∙ out,
      λ r there. false_from_ne_true (is_prefix q r.prefix) (λ t. apart (once_at keys fit.once j i q (key_at keys rows fit.listed j r there ∙ ap Some (sym (is_prefix-true q r.prefix t))) at)),
    )

pub same_rows : (keys : List PrefixView) (n : ℕ) (rows : List Row) → AreFit keys n rows → (q : PrefixView) → ((i : ℕ) (p : PrefixView) → slice_get keys i ≡ Some p → is_prefix q p ≡ false)
    → (g : Row → Row) → rows ≡ map (on q g) rows
same_rows keys n rows fit q none g = sym (untouched q g rows (λ i r at. none i r.prefix (key_at keys rows fit.listed i r at)))

-- a place of a key is a place of a row, and has words of all peers
pub place_fits : (keys : List PrefixView) (n : ℕ) (rows : List Row) → AreFit keys n rows → (q : PrefixView) (i : ℕ) → slice_get keys i ≡ Some q → (i < length rows) × (i < 256)
place_fits keys n rows fit q i at = let lt = slice_get_within keys i q at in (let m = many keys rows fit.listed in omega (arith, lt, m), let f = fit.few in omega (arith, lt, f))

-- ---- the same word for each prefix of a list

pub map_after : {X Y Z : Type 0} (f : X → Y) (g : Y → Z) (h : X → Z) → ((x : X) → g (f x) ≡ h x) → (xs : List X) → map g (map f xs) ≡ map h xs
map_after f g h same [] = refl
map_after f g h same (x ∷ xs) = ap (λ y. y ∷ map g (map f xs)) (same x) ∙ ap (λ ys. h x ∷ ys) (map_after f g h same xs)

pub map_same : {X : Type 0} (f : X → X) → ((x : X) → f x ≡ x) → (xs : List X) → map f xs ≡ xs
map_same f same [] = refl
map_same f same (x ∷ xs) = ap (λ y. y ∷ map f xs) (same x) ∙ ap (λ ys. x ∷ ys) (map_same f same xs)

lists-push : (ps : List PrefixView) (q p : PrefixView) → lists (ps ++ q ∷ []) p ≡ (lists ps p || is_prefix q p)
lists-push [] q p = or-false (is_prefix q p)
lists-push (x ∷ xs) q p = ap (λ b. is_prefix x p || b) (lists-push xs q p) ∙ sym (or_assoc (is_prefix x p) (lists xs p) (is_prefix q p))

module _ (k : ℕ) (w : Word) where
  hearing_twice : (r : Row) → hearing k w (hearing k w r) ≡ hearing k w r
  hearing_twice r = ap (λ ws. record { prefix = r.prefix; own = r.own; policy = r.policy; originated = r.originated; kept = r.kept; heard = ws; sent = r.sent }) (set-set r.heard k w w)

  one_more_hears : (ps : List PrefixView) (q : PrefixView) (r : Row) → on q (hearing k w) (hearing_all ps k w r) ≡ hearing_all (ps ++ q ∷ []) k w r
  one_more_hears ps q r =
      let whole = ap (λ (b : Bool). cond b (hearing k w r) r) (lists-push ps q r.prefix) in
      elim (cases_Bool (lists ps r.prefix)) [
        | inl t ↦
            ap (on q (hearing k w)) (cond-true (lists ps r.prefix) (hearing k w r) r t)
            ∙ elim (cases_Bool (is_prefix q r.prefix)) [
              | inl u ↦ cond-true (is_prefix q r.prefix) (hearing k w (hearing k w r)) (hearing k w r) u ∙ hearing_twice r
              | inr u ↦ cond-false (is_prefix q r.prefix) (hearing k w (hearing k w r)) (hearing k w r) u
            ]
            ∙ sym (whole ∙ cond-true (lists ps r.prefix || is_prefix q r.prefix) (hearing k w r) r (or_left (lists ps r.prefix) (is_prefix q r.prefix) t))
        | inr f ↦
            ap (on q (hearing k w)) (cond-false (lists ps r.prefix) (hearing k w r) r f)
            ∙ sym (whole ∙ ap (λ (b : Bool). cond (b || is_prefix q r.prefix) (hearing k w r) r) f)
      ]

  pub hears_one_more : (rows : List Row) (ps : List PrefixView) (q : PrefixView) → map (on q (hearing k w)) (map (hearing_all ps k w) rows) ≡ map (hearing_all (ps ++ q ∷ []) k w) rows
  hears_one_more rows ps q = map_after (hearing_all ps k w) (on q (hearing k w)) (hearing_all (ps ++ q ∷ []) k w) (one_more_hears ps q) rows

  pub hears_none : (rows : List Row) → rows ≡ map (hearing_all [] k w) rows
  hears_none rows = sym (map_same (hearing_all [] k w) (λ r. refl) rows)

  -- a property that a change by the word keeps
  pub hearing_keeps : {X : Type 0} (f : Row → X) → ((r : Row) → f (hearing k w r) ≡ f r) → (ps : List PrefixView) (r : Row) → f (hearing_all ps k w r) ≡ f r
  hearing_keeps {X} f same ps r = elim (cases_Bool (lists ps r.prefix)) [
    | inl t ↦ ap f (cond-true (lists ps r.prefix) (hearing k w r) r t) ∙ same r
    | inr n ↦ ap f (cond-false (lists ps r.prefix) (hearing k w r) r n)
  ]

-- where each row of a changed list comes from
pub from_map : {X Y : Type 0} (f : X → Y) (xs : List X) (i : ℕ) (y : Y) → slice_get (map f xs) i ≡ Some y → (x : X) × (slice_get xs i ≡ Some x) × (y ≡ f x)
from_map {X} {Y} f xs i y at =
    let lt = slice_get_within (map f xs) i y at in
    let size = length-map xs f in
    let here = within xs i (omega (arith, lt, size)) in
    (here.0, here.1, same_Some y (f here.0) (sym at ∙ slice_get-map f xs i ∙ ap (option_map f) here.1))

pub to_map : {X Y : Type 0} (f : X → Y) (xs : List X) (i : ℕ) (x : X) → slice_get xs i ≡ Some x → slice_get (map f xs) i ≡ Some (f x)
to_map {X} {Y} f xs i x at = slice_get-map f xs i ∙ ap (option_map f) at

-- a change of rows that keeps their prefixes and how many words they have
pub fits_map : (keys : List PrefixView) (n : ℕ) (rows : List Row) (f : Row → Row) → ((r : Row) → (f r).prefix ≡ r.prefix) → ((r : Row) → length (f r).heard ≡ length r.heard) → ((r : Row) → length (f r).sent ≡ length r.sent)
    → AreFit keys n rows → AreFit keys n (map f rows)
fits_map keys n rows f prefix heard sent fit = record {
  listed = fit.listed ∙ sym (map_after f (λ (r : Row). r.prefix) (λ (r : Row). r.prefix) prefix rows);
  once = fit.once;
  few = fit.few;
  heard = λ i r at. let x = from_map f rows i r at in ap (λ (s : Row). length s.heard) x.2 ∙ heard x.0 ∙ fit.heard i x.0 x.1;
  sent = λ i r at. let x = from_map f rows i r at in ap (λ (s : Row). length s.sent) x.2 ∙ sent x.0 ∙ fit.sent i x.0 x.1;
}

pub fits_hearing : (keys : List PrefixView) (n : ℕ) (rows new : List Row) (ps : List PrefixView) (k : ℕ) (w : Word) → AreFit keys n rows → new ≡ map (hearing_all ps k w) rows → AreFit keys n new
fits_hearing keys n rows new ps k w fit is =
    subst (AreFit keys n) (sym is)
    (fits_map keys n rows (hearing_all ps k w) (hearing_keeps k w (λ r. r.prefix) (λ r. refl) ps) (hearing_keeps k w (λ r. length r.heard) (λ r. length-set r.heard k w) ps) (hearing_keeps k w (λ r. length r.sent) (λ r. refl) ps) fit)

-- one prefix alone
pub hears_single : (k : ℕ) (w : Word) (rows : List Row) (q : PrefixView) → map (on q (hearing k w)) rows ≡ map (hearing_all (q ∷ []) k w) rows
hears_single k w rows q = ap (map (on q (hearing k w))) (hears_none k w rows) ∙ hears_one_more k w rows [] q

-- the last of words that are all one, and those before it
module _ (a : Word) (ws front : List Word) (w : Word) (is : ws ≡ front ++ w ∷ []) (all : All (λ one. one ≡ a) ws) where
  size : length ws ≡ length front + 1
  size = ap (λ (xs : List Word). length xs) is ∙ length-append front (w ∷ [])

  pub last_of : w ≡ a
  last_of = sym (get_or-append_seam front w [] a) ∙ ap (λ (xs : List Word). get_or xs (length front) a) (sym is) ∙ all (length front) a (omega (arith, size))

  pub front_of : All (λ one. one ≡ a) front
  front_of = λ k d lt. sym (get_or_append_left front (w ∷ []) d k lt) ∙ ap (λ (xs : List Word). get_or xs k d) (sym is) ∙ all k d (omega (arith, size, lt))

-- lists whose items are the same after these changes, place by place
pub maps_by_places : {X Y Z : Type 0} (f : X → Z) (g : Y → Z) (xs : List X) (ys : List Y) → length xs ≡ length ys → ((i : ℕ) (x : X) (y : Y) → slice_get xs i ≡ Some x → slice_get ys i ≡ Some y → f x ≡ g y) → map f xs ≡ map g ys
maps_by_places {X} {Y} {Z} f g [] [] size each = refl
maps_by_places {X} {Y} {Z} f g [] (y ∷ ys) size each = absurd (omega (arith, size))
maps_by_places {X} {Y} {Z} f g (x ∷ xs) [] size each = absurd (omega (arith, size))
maps_by_places {X} {Y} {Z} f g (x ∷ xs) (y ∷ ys) size each =
    ap (λ (z : Z). z ∷ map f xs) (each 0 x y refl refl) ∙ ap (λ (zs : List Z). g y ∷ zs) (maps_by_places f g xs ys (omega (arith, size)) (λ i a b at there. each (suc i) a b at there))

-- a list whose items are those of another after a change
pub map_by_places : {X : Type 0} (f : X → X) (old new : List X) → length new ≡ length old → ((i : ℕ) (x : X) → slice_get old i ≡ Some x → slice_get new i ≡ Some (f x)) → new ≡ map f old
map_by_places {X} f old new size each =
    sym (maps_by_places f (λ (x : X). x) old new (sym size) (λ i x y at there. same_Some (f x) y (sym (each i x at) ∙ there)) ∙ map_same (λ (x : X). x) (λ x. refl) new)
