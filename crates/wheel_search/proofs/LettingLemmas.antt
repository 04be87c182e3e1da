-- Paths that are let go, one by one.
use Rattle.std.proofs.Common.{◌≡◌, ◌≢◌, ℕ, zero, suc, ◌<◌, ◌≤◌, ◌+◌, Bool, true, false, List, [], ◌∷◌, ◌++◌, length, get_or, set, refl, sym, ap, subst, ◌∙◌, arith, inl, inr, append_assoc, length-append, Option, Some, None}
use Rattle.std.specs.Prelude.{slice_index, slice_index_or, cond, IsSome}
use Rattle.std.specs.Option.{option_to_list}
use Rattle.std.specs.List.{sum_by}
use Rattle.std.proofs.lemmas.List.{length-set, get_or-set_other, get_or_default}
use Rattle.std.proofs.lemmas.Grind.{get_or-set_at}
use Rattle.std.proofs.lemmas.List.Sums.{sum_by-set}
use Rattle.std.proofs.lemmas.Bool.{cases_eq}
use mathlib.Core.Logic.{◌⊎◌}
use Rattle.wheel_search.specs.declared.wait.Wait.{Wait}
use Rattle.wheel_search.specs.declared.wait.Wait.TheVariants.{Rest}
use Rattle.wheel_search.specs.declared.letting.Letting.{Letting}
use Rattle.wheel_search.specs.Waits.{wait_of, count_of, Comes, AreWithin, IsFree}
use Rattle.wheel_search.specs.Letting.{AreGone, Holds, IsBusy, IsOn, HasGone, IsHeld, MayGo}
use Rattle.wheel_search.proofs.WaitLemmas.{free_rest, free_more, same_row, same_place}

-- one more path of a row goes
module _ (waits : List (List Wait)) (gone : List ℕ) (r i : ℕ) (g : AreGone waits gone) (known : r < length waits) (here : slice_index gone r ≡ i) (below : i < count_of waits r)
    (free : Comes waits r i → (v k : ℕ) → wait_of waits r i ≡ Rest v k → k < slice_index gone v) where
  now : ℕ → ℕ
  now row = slice_index (set gone r (i + 1)) row

  now_here : (row : ℕ) → row ≡ r → slice_index (set gone r (i + 1)) row ≡ i + 1
  now_here row same = get_or-set_at gone r row (i + 1) 0 same (omega (arith, g.size, known))

  now_other : (row : ℕ) → row ≢ r → slice_index (set gone r (i + 1)) row ≡ slice_index gone row
  now_other row other = get_or-set_other gone r row (i + 1) 0 other

  free_here : (place : ℕ) → place < i + 1 → IsFree waits (suc g.turns) r place
  free_here place l = λ better le c v k e. elim (cases_eq better i) [
    | inl same ↦ g.free v k (free (subst (λ (x : ℕ). Comes waits r x) same c) v k (subst (λ (x : ℕ). wait_of waits r x ≡ Rest v k) same e))
    | inr other ↦ free_rest waits g.turns r better v k (g.free r better (omega (arith, here, le, l, other))) better (omega arith) c e
  ]

  pub went_one : AreGone waits (set gone r (i + 1))
  went_one = record {
    size = length-set gone r (i + 1) ∙ g.size;
    low = λ row. elim (cases_eq row r) [
      | inl same ↦ subst (λ (x : ℕ). slice_index (set gone r (i + 1)) x ≤ count_of waits x) (sym same) (omega (arith, now_here r refl, below))
      | inr other ↦ omega (arith, now_other row other, g.low row)
    ];
    turns = suc g.turns;
    free = λ row place l. elim (cases_eq row r) [
      | inl same ↦ subst (λ (x : ℕ). IsFree waits (suc g.turns) x place) (sym same) (free_here place (omega (arith, l, now_here row same)))
      | inr other ↦ free_more waits g.turns row place (g.free row place (omega (arith, l, now_other row other)))
    ];
  }

  pub more_now : (other : ℕ) → slice_index gone other ≤ slice_index (set gone r (i + 1)) other
  more_now other = elim (cases_eq other r) [
    | inl same ↦ omega (arith, now_here other same, ap (λ (x : ℕ). slice_index gone x) same, here)
    | inr apart ↦ omega (arith, now_other other apart)
  ]

  pub here_now : slice_index (set gone r (i + 1)) r ≡ i + 1
  here_now = now_here r refl

-- ---- rows that are busy

pub shut_then : (xs : List Bool) (r : ℕ) → r < length xs → slice_index_or xs r false ≡ false → set (set xs r true) r false ≡ xs
shut_then [] r l e = absurd (omega (arith, l))
shut_then (x ∷ xs) zero l e = ap (λ (b : Bool). b ∷ xs) (sym e)
shut_then (x ∷ xs) (suc r) l e = ap (λ (bs : List Bool). x ∷ bs) (shut_then xs r (omega (arith, l)) e)

abbrev shut_count : Bool → ℕ
shut_count busy = cond busy 0 1

pub fewer_shut : (xs : List Bool) (r : ℕ) → r < length xs → slice_index_or xs r false ≡ false → sum_by (λ busy. cond busy 0 1) (set xs r true) < sum_by (λ busy. cond busy 0 1) xs
fewer_shut xs r l e =
    let h : sum_by shut_count (set xs r true) + shut_count (get_or xs r false) ≡ sum_by shut_count xs + shut_count true = sum_by-set shut_count xs r true false l in
    let one : shut_count (get_or xs r false) ≡ 1 = ap shut_count e in
    omega (arith, h, one)

-- the busy rows behind one more
pub busy_more : (xs : List Bool) (r row : ℕ) → r < length xs → IsBusy (set xs r true) row → (row ≡ r) ⊎ IsBusy xs row
busy_more xs r row l b = elim (cases_eq row r) [
  | inl same ↦ inl same
  | inr other ↦ inr (sym (get_or-set_other xs r row true false other) ∙ b)
]

pub busy_before : (xs : List Bool) (r row : ℕ) → r < length xs → IsBusy xs row → IsBusy (set xs r true) row
busy_before xs r row l b = elim (cases_eq row r) [
  | inl same ↦ get_or-set_at xs r row true false same l
  | inr other ↦ get_or-set_other xs r row true false other ∙ b
]

pub apart_from : (xs : List Bool) (r row : ℕ) → slice_index_or xs r false ≡ false → IsBusy xs row → row ≢ r
apart_from xs r row shut b same = absurd (cc (ap (λ (x : ℕ). slice_index_or xs x false) same, shut, b))

-- ---- a row that is let go

module _ (waits : List (List Wait)) (old : Letting) (row last : ℕ) (may : MayGo waits old row last) (gone : List ℕ) (busy : List Bool) (trail : List ℕ) (place : ℕ)
    (on : IsOn waits old gone busy trail row place) (under : place < last + 1) where
  inside : row < length old.busy.items
  inside = omega (arith, may.size, may.known)

  was_shut : (other : ℕ) → IsBusy busy other → (other ≡ row) ⊎ IsBusy old.busy.items other
  was_shut other b = busy_more old.busy.items row other inside (subst (λ (bs : List Bool). IsBusy bs other) on.marked b)

  still : (other : ℕ) → IsBusy old.busy.items other → IsBusy busy other
  still other b = subst (λ (bs : List Bool). IsBusy bs other) (sym on.marked) (busy_before old.busy.items row other inside b)

  row_busy : IsBusy busy row
  row_busy = subst (λ (bs : List Bool). IsBusy bs row) (sym on.marked) (get_or-set_at old.busy.items row row true false refl inside)

  pub fewer_on : sum_by (λ busy. cond busy 0 1) busy < sum_by (λ busy. cond busy 0 1) old.busy.items
  fewer_on = subst (λ (bs : List Bool). sum_by (λ busy. cond busy 0 1) bs < sum_by (λ busy. cond busy 0 1) old.busy.items) (sym on.marked) (fewer_shut old.busy.items row inside may.shut)

  module _ (next at : ℕ) (waits_for : wait_of waits row place ≡ Rest next at) where
    -- what was read of the mark of the rest's row
    pub busy_read : AreWithin waits → (b : Bool) → b ≡ get_or busy next b → b ≡ true → IsBusy busy next
    busy_read within b e is =
        let size : length busy ≡ length old.busy.items = ap length on.marked ∙ length-set old.busy.items row true in
        get_or_default busy next false b (omega (arith, size, may.size, (within row place next at waits_for).known)) ∙ sym e ∙ is

    pub may_on : AreWithin waits → (now : Letting) → now.gone.items ≡ gone → now.busy.items ≡ busy → slice_index gone next ≤ at → slice_index_or busy next false ≡ false → MayGo waits now next at
    may_on within now g b behind shut = let w = within row place next at waits_for in record {
      gone = subst (AreGone waits) (sym g) on.are;
      size = ap length (b ∙ on.marked) ∙ length-set old.busy.items row true ∙ may.size;
      known = w.known;
      below = w.below;
      fits = w.fits;
      shut = subst (λ (bs : List Bool). slice_index_or bs next false ≡ false) (sym b) shut;
      first = subst (λ (xs : List ℕ). slice_index xs next ≤ at) (sym g) behind;
    }

    module _ (comes : Comes waits row place) where
      holds_now : (new : List ℕ) → slice_index new row ≡ place → slice_index new next ≤ at → Holds waits new row next
      holds_now new here behind = record {
        at = at;
        waits_for = subst (λ (i : ℕ). wait_of waits row i ≡ Rest next at) (sym here) waits_for;
        comes = subst (λ (i : ℕ). Comes waits row i) (sym here) comes;
        behind = behind;
      }

      -- the rest is in a busy row
      pub closes_here : (new : Letting) → new.gone.items ≡ gone → new.trail.items ≡ trail → slice_index gone next ≤ at → IsBusy busy next → IsHeld waits old new row last next
      closes_here new g t behind b =
          let here : slice_index new.gone.items row ≡ place = ap (λ (xs : List ℕ). slice_index xs row) g ∙ on.reached in
          let low : slice_index new.gone.items next ≤ at = subst (λ (xs : List ℕ). slice_index xs next ≤ at) (sym g) behind in
          record {
            gone = subst (AreGone waits) (sym g) on.are;
            short = omega (arith, here, under);
            rows = [];
            trail = t ∙ on.pushed;
            holds = holds_now new.gone.items here low;
            back = elim (was_shut next b) [ inl same ↦ inr (0, omega arith, sym same) | inr busy ↦ inl busy ];
            stay = λ r busy. ap (λ (xs : List ℕ). slice_index xs r) g ∙ on.stay r busy;
          }

      -- the rest's row is held
      pub held_on : (now new : Letting) → now.gone.items ≡ gone → now.busy.items ≡ busy → now.trail.items ≡ trail → (closes : ℕ) → IsHeld waits now new next at closes → IsHeld waits old new row last closes
      held_on now new g b t closes h =
          let kept : slice_index new.gone.items row ≡ slice_index now.gone.items row = h.stay row (subst (λ (bs : List Bool). IsBusy bs row) (sym b) row_busy) in
          let here : slice_index new.gone.items row ≡ place = kept ∙ ap (λ (xs : List ℕ). slice_index xs row) g ∙ on.reached in
          record {
            gone = h.gone;
            short = omega (arith, here, under);
            rows = next ∷ h.rows;
            trail = h.trail ∙ ap (λ (xs : List ℕ). xs ++ next ∷ h.rows) (t ∙ on.pushed) ∙ append_assoc old.trail.items (row ∷ []) (next ∷ h.rows);
            holds = (holds_now new.gone.items here h.short, h.holds);
            back = elim h.back [
              | inl busy ↦ elim (was_shut closes (subst (λ (bs : List Bool). IsBusy bs closes) b busy)) [ inl same ↦ inr (0, omega arith, sym same) | inr was ↦ inl was ]
              | inr c ↦ inr (suc c.0, omega (arith, c.1), c.2)
            ];
            stay = λ r busy. h.stay r (subst (λ (bs : List Bool). IsBusy bs r) (sym b) (still r busy)) ∙ ap (λ (xs : List ℕ). slice_index xs r) g ∙ on.stay r busy;
          }

    -- the rest went, and the row is as it was
    pub went_on : (now new : Letting) → now.gone.items ≡ gone → now.busy.items ≡ busy → now.trail.items ≡ trail → HasGone waits now new next at
        → IsOn waits old new.gone.items new.busy.items new.trail.items row place × (at < slice_index new.gone.items next)
    went_on now new g b t h =
        let kept : slice_index new.gone.items row ≡ slice_index now.gone.items row = h.stay row (subst (λ (bs : List Bool). IsBusy bs row) (sym b) row_busy) in (
          record {
            are = h.gone;
            reached = kept ∙ ap (λ (xs : List ℕ). slice_index xs row) g ∙ on.reached;
            marked = h.busy ∙ b ∙ on.marked;
            pushed = h.trail ∙ t ∙ on.pushed;
            stay = λ r busy. h.stay r (subst (λ (bs : List Bool). IsBusy bs r) (sym b) (still r busy)) ∙ ap (λ (xs : List ℕ). slice_index xs r) g ∙ on.stay r busy;
            more = λ other. omega (arith, h.more other, ap (λ (xs : List ℕ). slice_index xs other) g, on.more other);
          },
          h.through,
        )

  -- the path at the place goes
  pub step_on : (Comes waits row place → (v k : ℕ) → wait_of waits row place ≡ Rest v k → k < slice_index gone v) → IsOn waits old (set gone row (place + 1)) busy trail row (place + 1)
  step_on free =
      let below : place < count_of waits row = omega (arith, may.below, under) in
      record {
        are = went_one waits gone row place on.are may.known on.reached below free;
        reached = here_now waits gone row place on.are may.known on.reached below free;
        marked = on.marked;
        pushed = on.pushed;
        stay = λ r busy. get_or-set_other gone row r (place + 1) 0 (apart_from old.busy.items row r may.shut busy) ∙ on.stay r busy;
        more = λ other. omega (arith, on.more other, more_now waits gone row place on.are may.known on.reached below free other);
      }

-- all went, up to the last
pub done_on : (waits : List (List Wait)) (old new : Letting) (row last : ℕ) → MayGo waits old row last → (gone : List ℕ) (busy : List Bool) (trail : List ℕ) (place : ℕ) → IsOn waits old gone busy trail row place → last < place
    → new.gone.items ≡ gone → new.busy.items ≡ set busy row false → new.trail.items ≡ old.trail.items → HasGone waits old new row last
done_on waits old new row last may gone busy trail place on past g b t = record {
  gone = subst (AreGone waits) (sym g) on.are;
  through = subst (λ (xs : List ℕ). last < slice_index xs row) (sym g) (omega (arith, on.reached, past));
  busy = b ∙ ap (λ (bs : List Bool). set bs row false) on.marked ∙ shut_then old.busy.items row (omega (arith, may.size, may.known)) may.shut;
  trail = t;
  stay = λ r busy. ap (λ (xs : List ℕ). slice_index xs r) g ∙ on.stay r busy;
  more = λ other. subst (λ (xs : List ℕ). slice_index old.gone.items other ≤ slice_index xs other) (sym g) (on.more other);
}

-- the rest of a path went
pub free_by : (waits : List (List Wait)) (gone : List ℕ) (row place next at : ℕ) → wait_of waits row place ≡ Rest next at → at < slice_index gone next
    → (v k : ℕ) → wait_of waits row place ≡ Rest v k → k < slice_index gone v
free_by waits gone row place next at is went v k e =
    let same = sym is ∙ e in
    subst (λ (x : ℕ). k < slice_index gone x) (same_row next at v k same) (omega (arith, same_place next at v k same, went))

pub shut_read : (xs : List Bool) (row : ℕ) (b : Bool) → b ≡ get_or xs row b → b ≡ false → slice_index_or xs row false ≡ false
shut_read xs row true e is = absurd (cc (is))
shut_read xs row false e is = sym e

-- the last row of a trail is taken off
abbrev pub head_or : ℕ → List ℕ → ℕ
head_or d [] = d
head_or d (z ∷ zs) = z

abbrev pub rest_of : List ℕ → List ℕ
rest_of [] = []
rest_of (z ∷ zs) = zs

snoc_front : (xs ys : List ℕ) (a b : ℕ) → xs ++ a ∷ [] ≡ ys ++ b ∷ [] → ys ≡ xs
snoc_front [] [] a b e = refl
snoc_front [] (y ∷ ys) a b e = absurd (omega (arith, ap length e, length-append ys (b ∷ [])))
snoc_front (x ∷ xs) [] a b e = absurd (omega (arith, ap length e, length-append xs (a ∷ [])))
snoc_front (x ∷ xs) (y ∷ ys) a b e = ap (λ (z : ℕ). z ∷ ys) (sym (ap (head_or x) e)) ∙ ap (λ (zs : List ℕ). x ∷ zs) (snoc_front xs ys a b (ap rest_of e))

pub popped : (xs ys : List ℕ) (a : ℕ) (last : Option ℕ) → xs ++ a ∷ [] ≡ ys ++ option_to_list last → IsSome last → ys ≡ xs
popped xs ys a None e some = absurd (cc (some))
popped xs ys a (Some b) e some = snoc_front xs ys a b e
