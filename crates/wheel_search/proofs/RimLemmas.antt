-- The rims of a circle of rows that hold one another are a dispute wheel.
use Rattle.std.proofs.Common.{◌≡◌, ◌≢◌, ℕ, zero, suc, ◌<◌, ◌≤◌, ◌+◌, List, [], ◌∷◌, ◌++◌, length, map, take, drop, ◌-◌, refl, sym, ap, subst, ◌∙◌, arith, inl, inr, append_assoc, append-nil, length-append}
use Rattle.std.specs.Prelude.{slice_index}
use Rattle.std.specs.List.{All}
use Rattle.std.proofs.lemmas.List.{take_all, length-take, length-drop, get_or-take, get_or-drop}
use mathlib.Core.Logic.{◌⊎◌}
use Rattle.ranked_policy.specs.Promises.{EachPolicyIsAnOrder}
use Rattle.stable_paths.specs.Stable.{Problem, IsProblem}
use Rattle.dispute_wheels.specs.Wheels as wheels
use Rattle.dispute_wheels.specs.Wheels.{LeadsTo, LeadRound, Game, IsRim, AreRims, IsWheel}
use Rattle.dispute_wheels.specs.Feasible.{IsFeasible, game_of}
use Rattle.wheel_search.specs.declared.rim.Rim.{Rim}
use Rattle.wheel_search.specs.declared.letting.Letting.{Letting}
use Rattle.wheel_search.specs.declared.row.Row.{Row}
use Rattle.wheel_search.specs.declared.wait.Wait.{Wait}
use Rattle.wheel_search.specs.declared.wait.Wait.TheVariants.{Rest}
use Rattle.wheel_search.specs.Waits.{wait_of}
use Rattle.wheel_search.specs.Letting.{AreGone, Holds, HoldRound, IsCircle}
use Rattle.wheel_search.specs.Rows.{AreRows, AreWaits, paths_at, path_at, router_at}
use Rattle.wheel_search.specs.Found.{as_rim}
use Rattle.wheel_search.specs.Rims.{rim_at, HeldAt, AreHeld, AddsRim, AreRimsOf}
use Rattle.wheel_search.proofs.WaitLemmas.{same_row, same_place}
use Rattle.wheel_search.proofs.LettingLemmas.{head_or, rest_of}
use Rattle.wheel_search.proofs.GraphLemmas.{goes, inside, counts, begins_here, likes_here, comes_feasible, within}

-- ---- rims of which some go on by the spoke itself

module _ (g : Game) where
  -- the better paths of rims are the spokes themselves
  abbrev Stay : List wheels.Rim → Type 0
  Stay [] = Unit {0}
  Stay (w ∷ ws) = (w.over ≡ w.spoke) × Stay ws

  -- those of the rims are picked whose better path is another
  abbrev pub Picks : List wheels.Rim → List wheels.Rim → Type 0
  Picks [] rims = rims ≡ []
  Picks (w ∷ ws) rims = ((w.over ≡ w.spoke) × Picks ws rims) ⊎ (IsRim g w × ((more : List wheels.Rim) × (rims ≡ w ∷ more) × Picks ws more))

  lead_on : (r w x : wheels.Rim) → LeadsTo r w → w.over ≡ w.spoke → LeadsTo w x → LeadsTo r x
  lead_on r w x one same two = record {
    front = one.front ++ two.front;
    some = λ none. absurd (front_some one.front two.front one.some none);
    whole = one.whole ∙ ap (λ (s : List ℕ). one.front ++ s) (sym same ∙ two.whole) ∙ sym (append_assoc one.front two.front x.spoke);
  }
    where
      front_some : (a b : List ℕ) → a ≢ [] → a ++ b ≡ [] → ⊥
      front_some [] b some none = some refl
      front_some (y ∷ a) b some none = absurd (omega (arith, ap length none))

  -- past a rim that stays
  past : (r w : wheels.Rim) (ws : List wheels.Rim) (last : wheels.Rim) → LeadsTo r w → w.over ≡ w.spoke → LeadRound w ws last → LeadRound r ws last
  past r w [] last one same round = lead_on r w last one same round
  past r w (x ∷ ws) last one same round = (lead_on r w x one same round.0, round.1)

  picked_round : (r : wheels.Rim) (ws rims : List wheels.Rim) (last : wheels.Rim) → LeadRound r ws last → Picks ws rims → LeadRound r rims last
  picked_round r [] rims last round none = subst (λ (xs : List wheels.Rim). LeadRound r xs last) (sym none) round
  picked_round r (w ∷ ws) rims last round (inl stays) = picked_round r ws rims last (past r w ws last round.0 stays.0 round.1) stays.1
  picked_round r (w ∷ ws) rims last round (inr x) =
      subst (λ (xs : List wheels.Rim). LeadRound r xs last) (sym x.1.1) (round.0, picked_round w ws x.1.0 last round.1 x.1.2)

  picked_rims : (ws rims : List wheels.Rim) → Picks ws rims → AreRims g rims
  picked_rims [] rims none = subst (AreRims g) (sym none) tt
  picked_rims (w ∷ ws) rims (inl stays) = picked_rims ws rims stays.1
  picked_rims (w ∷ ws) rims (inr x) = subst (AreRims g) (sym x.1.1) (x.0, picked_rims ws x.1.0 x.1.2)

  pick_stay : (ws pre rims : List wheels.Rim) → Picks ws rims → Stay pre → Picks (ws ++ pre) rims
  pick_stay [] [] rims picks stay = picks
  pick_stay [] (w ∷ pre) rims picks stay = inl (stay.0, pick_stay [] pre rims picks stay.1)
  pick_stay (w ∷ ws) pre rims (inl x) stay = inl (x.0, pick_stay ws pre rims x.1 stay)
  pick_stay (w ∷ ws) pre rims (inr x) stay = inr (x.0, (x.1.0, x.1.1, pick_stay ws pre x.1.0 x.1.2 stay))

  stay_more : (pre : List wheels.Rim) (w : wheels.Rim) → Stay pre → w.over ≡ w.spoke → Stay (pre ++ w ∷ [])
  stay_more [] w stay same = (same, tt)
  stay_more (x ∷ pre) w stay same = (stay.0, stay_more pre w stay.1 same)

  -- a round from the next rim on
  turn_round : (x : wheels.Rim) (ws : List wheels.Rim) (w last : wheels.Rim) → LeadRound x ws w → LeadsTo w last → LeadRound x (ws ++ w ∷ []) last
  turn_round x [] w last round lead = (round, lead)
  turn_round x (y ∷ ws) w last round lead = (round.0, turn_round y ws w last round.1 lead)

  shorter : (r x : wheels.Rim) → r.over ≡ r.spoke → LeadsTo r x → length x.spoke < length r.spoke
  shorter r x same lead = by lead.front lead.some (sym same ∙ lead.whole)
    where
      by : (front : List ℕ) → front ≢ [] → r.spoke ≡ front ++ x.spoke → length x.spoke < length r.spoke
      by [] some whole = absurd (some refl)
      by (y ∷ front) some whole = omega (arith, ap length whole, length-append front x.spoke)

  all_shorter : (r : wheels.Rim) (ws : List wheels.Rim) (last : wheels.Rim) → r.over ≡ r.spoke → Stay ws → LeadRound r ws last → length last.spoke < length r.spoke
  all_shorter r [] last same stay round = shorter r last same round
  all_shorter r (w ∷ ws) last same stay round = omega (arith, shorter r w same round.0, all_shorter w ws last stay.0 stay.1 round.1)

  picked_wheel : (w : wheels.Rim) (ws pre rims : List wheels.Rim) → Stay pre → LeadRound w (ws ++ pre) w → Picks (w ∷ ws) rims → IsWheel g rims
  picked_wheel w ws pre rims stay round (inr x) =
      subst (IsWheel g) (sym x.1.1) (x.0, picked_rims ws x.1.0 x.1.2, picked_round w (ws ++ pre) x.1.0 w round (pick_stay ws pre x.1.0 x.1.2 stay))
  picked_wheel w [] pre rims stay round (inl x) = absurd (omega (arith, all_shorter w pre w x.0 stay round))
  picked_wheel w (y ∷ ws) pre rims stay round (inl x) =
      picked_wheel y ws (pre ++ w ∷ []) rims (stay_more pre w stay x.0)
      (subst (λ (xs : List wheels.Rim). LeadRound y xs y) (append_assoc ws pre (w ∷ [])) (turn_round y (ws ++ pre) w y round.1 round.0)) x.1

  pub wheel_of_picks : (w : wheels.Rim) (ws rims : List wheels.Rim) → LeadRound w ws w → Picks (w ∷ ws) rims → IsWheel g rims
  wheel_of_picks w ws rims round picks = picked_wheel w ws [] rims tt (subst (λ (xs : List wheels.Rim). LeadRound w xs w) (sym (append-nil ws)) round) picks

-- ---- the rims of a circle of rows

module _ (law : EachPolicyIsAnOrder) (p : Problem) (is : IsProblem p) (rows : List Row) (are : AreRows p rows) (waits : List (List Wait)) (aw : AreWaits p rows waits) (gone : List ℕ) where
  rim_of : (held by : ℕ) → Holds waits gone held by → wheels.Rim
  rim_of held by h = as_rim (rim_at rows gone by h.at)

  rims_of : (a : ℕ) (bs : List ℕ) (last : ℕ) → HoldRound waits gone a bs last → List wheels.Rim
  rims_of a [] last h = rim_of a last h ∷ []
  rims_of a (b ∷ bs) last h = rim_of a b h.0 ∷ rims_of b bs last h.1

  leads : (x y z : ℕ) (h : Holds waits gone x y) (k : Holds waits gone y z) → LeadsTo (rim_of x y h) (rim_of y z k)
  unfolding rim_of
  leads x y z h k =
      let on = goes law p is rows are waits aw y (slice_index gone y) z k.at k.waits_for in
      record { front = router_at rows y ∷ []; some = λ e. absurd (omega (arith, ap length e)); whole = on.whole }

  leads_round : (x a : ℕ) (first : Holds waits gone x a) (bs : List ℕ) (last : ℕ) (round : HoldRound waits gone a bs last) (z : ℕ) (next : Holds waits gone last z)
      → LeadRound (rim_of x a first) (rims_of a bs last round) (rim_of last z next)
  unfolding rims_of
  leads_round x a first [] last round z next = (leads x a last first round, leads a last z round next)
  leads_round x a first (b ∷ bs) last round z next = (leads x a b first round.0, leads_round a b round.0 bs last round.1 z next)

  feasible_at : (x y : ℕ) → Holds waits gone x y → IsFeasible p.net p.prefix (path_at rows x (slice_index gone x))
  feasible_at x y h =
      let at = inside law p is rows are waits aw x (slice_index gone x) y h.at h.waits_for in
      comes_feasible law p is rows are waits aw 16 x (slice_index gone x) at.0 at.1 h.comes

  rest_feasible : (x y : ℕ) (h : Holds waits gone x y) → IsFeasible p.net p.prefix (path_at rows y h.at)
  rest_feasible x y h =
      let on = goes law p is rows are waits aw x (slice_index gone x) y h.at h.waits_for in
      let b = begins_here law p is rows are y on.known h.at on.below in
      subst (IsFeasible p.net p.prefix) (sym b.1) (down (router_at rows x) (router_at rows y) b.0 (subst (IsFeasible p.net p.prefix) (on.whole ∙ ap (λ (s : List ℕ). router_at rows x ∷ s) b.1) (feasible_at x y h)))
    where
      down : (u v : ℕ) (more : List ℕ) → IsFeasible p.net p.prefix (u ∷ v ∷ more) → IsFeasible p.net p.prefix (v ∷ more)
      down u v more f = f.2

  -- a rim whose better path is another
  is_rim : (x y z : ℕ) (h : Holds waits gone x y) (k : Holds waits gone y z) → h.at ≢ slice_index gone y → IsRim (game_of p) (rim_of x y h)
  unfolding rim_of
  is_rim x y z h k other =
      let on = goes law p is rows are waits aw x (slice_index gone x) y h.at h.waits_for in
      record {
        spoke = rest_feasible x y h;
        over = feasible_at y z k;
        better = likes_here law p is rows are y on.known (slice_index gone y) h.at (omega (arith, h.behind, other)) on.below;
      }

  -- the row that holds the first row of a round
  first_of : (a : ℕ) (bs : List ℕ) (last : ℕ) → HoldRound waits gone a bs last → (y : ℕ) × Holds waits gone a y
  first_of a [] last round = (last, round)
  first_of a (b ∷ bs) last round = (b, round.0)

  -- what was added for one row
  one : (a b y : ℕ) (h : Holds waits gone a b) (k : Holds waits gone b y) (rims : List Rim) (more : List ℕ) (ws : List wheels.Rim) → AreRimsOf rows waits gone (a ∷ more) rims
      → ((others : List Rim) → AreRimsOf rows waits gone more others → Picks (game_of p) ws (map as_rim others)) → Picks (game_of p) (rim_of a b h ∷ ws) (map as_rim rims)
  unfolding rim_of
  one a b y h k rims more ws (x, r) on =
      let same = sym x.waits_for ∙ h.waits_for in
      let row : x.row ≡ b = same_row x.row x.at b h.at same in
      let at : x.at ≡ h.at = same_place x.row x.at b h.at same in
      elim r [
        | inl stays ↦ inl (ap (path_at rows b) (ap (slice_index gone) (sym row) ∙ sym stays.0 ∙ at), on rims stays.1)
        | inr adds ↦
            let other : h.at ≢ slice_index gone b = λ e. adds.0 (at ∙ e ∙ ap (slice_index gone) (sym row)) in
            let rim : rim_at rows gone x.row x.at ≡ rim_at rows gone b h.at = ap (λ (v : ℕ). rim_at rows gone v x.at) row ∙ ap (rim_at rows gone b) at in
            inr (is_rim a b y h k other, (map as_rim adds.1.0, ap (map as_rim) adds.1.1 ∙ ap (λ (w : Rim). as_rim w ∷ map as_rim adds.1.0) rim, on adds.1.0 adds.1.2))
      ]

  -- the rims that were added for the rows of a round, of which the last holds a row that holds another
  picks : (a : ℕ) (bs : List ℕ) (last z : ℕ) (round : HoldRound waits gone a bs last) (next : Holds waits gone last z) (rims : List Rim) → AreRimsOf rows waits gone (a ∷ bs) rims
      → Picks (game_of p) (rims_of a bs last round) (map as_rim rims)
  unfolding rims_of
  picks a [] last z round next rims r = one a last z round next rims [] [] r (λ others none. ap (map as_rim) none)
  picks a (b ∷ bs) last z round next rims r = one a b (first_of b bs last round.1).0 round.0 (first_of b bs last round.1).1 rims (b ∷ bs) (rims_of b bs last round.1) r
      (λ others more. picks b bs last z round.1 next others more)

  pub circle_wheel : (a : ℕ) (bs : List ℕ) → HoldRound waits gone a bs a → (rims : List Rim) → AreRimsOf rows waits gone (a ∷ bs) rims → IsWheel (game_of p) (map as_rim rims)
  unfolding rims_of
  circle_wheel a [] round rims r =
      wheel_of_picks (game_of p) (rim_of a a round) [] (map as_rim rims) (leads a a a round round) (picks a [] a a round round rims r)
  circle_wheel a (b ∷ bs) round rims r =
      wheel_of_picks (game_of p) (rim_of a b round.0) (rims_of b bs a round.1) (map as_rim rims) (leads_round a b round.0 bs a round.1 b round.0) (picks a (b ∷ bs) a b round round.0 rims r)

-- ---- one row after the other

pub more_rims : (rows : List Row) (waits : List (List Wait)) (gone : List ℕ) (held : List ℕ) (rims : List Rim) (row : ℕ) (new : List Rim) → AreRimsOf rows waits gone held rims → AddsRim rows waits gone row rims new
    → AreRimsOf rows waits gone (held ++ row ∷ []) new
more_rims rows waits gone [] rims row new none (h, inl x) = (h, inl (x.0, x.1 ∙ none))
more_rims rows waits gone [] rims row new none (h, inr x) = (h, inr (x.0, ([], x.1 ∙ ap (λ (rs : List Rim). rs ++ rim_at rows gone h.row h.at ∷ []) none, refl)))
more_rims rows waits gone (held ∷ more) rims row new (k, inl y) adds = (k, inl (y.0, more_rims rows waits gone more rims row new y.1 adds))
more_rims rows waits gone (held ∷ more) rims row new (k, inr y) (h, inl x) =
    (k, inr (y.0, (y.1.0, x.1 ∙ y.1.1, more_rims rows waits gone more y.1.0 row y.1.0 y.1.2 (h, inl (x.0, refl)))))
more_rims rows waits gone (held ∷ more) rims row new (k, inr y) (h, inr x) =
    let rim = rim_at rows gone h.row h.at in
    (k, inr (y.0, (y.1.0 ++ rim ∷ [], x.1 ∙ ap (λ (rs : List Rim). rs ++ rim ∷ []) y.1.1, more_rims rows waits gone more y.1.0 row (y.1.0 ++ rim ∷ []) y.1.2 (h, inr (x.0, refl)))))

-- a circle from one of its rows on
pub round_from : (waits : List (List Wait)) (gone : List ℕ) (first : ℕ) (rows : List ℕ) (last : ℕ) (front : List ℕ) (row : ℕ) (more : List ℕ) → HoldRound waits gone first rows last → first ∷ rows ≡ front ++ row ∷ more
    → HoldRound waits gone row more last
round_from waits gone first rows last [] row more round e =
    subst (λ (x : ℕ). HoldRound waits gone x more last) (ap (head_or first) e) (subst (λ (xs : List ℕ). HoldRound waits gone first xs last) (ap rest_of e) round)
round_from waits gone first [] last (x ∷ front) row more round e = absurd (omega (arith, ap length e, length-append front (row ∷ more)))
round_from waits gone first (next ∷ rows) last (x ∷ front) row more round e = round_from waits gone next rows last front row more round.1 (ap rest_of e)

-- the rest that a held row waits for stands in a row, and is not in front of its first path that did not go
pub held_place : (rows : List Row) (waits : List (List Wait)) (gone : List ℕ) → AreHeld rows waits gone → (held row at : ℕ) → HeldAt waits gone held → wait_of waits held (slice_index gone held) ≡ Rest row at
    → (row < length rows) × (at < length (paths_at rows row)) × (slice_index gone row ≤ at)
held_place rows waits gone are held row at h e =
    let place = are.within held (slice_index gone held) row at e in
    let same = sym h.waits_for ∙ e in
    let known : row < length rows = omega (arith, place.known, are.same) in
    (known, omega (arith, place.below, are.counts row known), subst (λ (x : ℕ). slice_index gone x ≤ at) (same_row h.row h.at row at same) (omega (arith, h.behind, same_place h.row h.at row at same)))

-- it is held at that place
abbrev pub held_here : (rows : List Row) (waits : List (List Wait)) (gone : List ℕ) → AreHeld rows waits gone → (held row at : ℕ) → HeldAt waits gone held → wait_of waits held (slice_index gone held) ≡ Rest row at → HeldAt waits gone held
held_here rows waits gone are held row at h e = record { row = row; at = at; waits_for = e; behind = (held_place rows waits gone are held row at h e).2 }

pub rim_is : (rows : List Row) (gone : List ℕ) (row at : ℕ) (spoke over : List ℕ) → spoke ≡ path_at rows row at → over ≡ path_at rows row (slice_index gone row) → record { spoke = spoke; over = over } ≡ rim_at rows gone row at
rim_is rows gone row at spoke over s o = λ i. record { spoke = s i; over = o i }

-- ---- a circle from another of its rows on

join_round : (waits : List (List Wait)) (gone : List ℕ) (a : ℕ) (xs : List ℕ) (b : ℕ) (bs : List ℕ) (last : ℕ) → HoldRound waits gone a xs b → HoldRound waits gone b bs last → HoldRound waits gone a (xs ++ b ∷ bs) last
join_round waits gone a [] b bs last h k = (h, k)
join_round waits gone a (x ∷ xs) b bs last h k = (h.0, join_round waits gone x xs b bs last h.1 k)

front_round : (waits : List (List Wait)) (gone : List ℕ) (a : ℕ) (bs : List ℕ) (last : ℕ) (front : List ℕ) (y : ℕ) (ys : List ℕ) → bs ≡ front ++ y ∷ ys → HoldRound waits gone a bs last → HoldRound waits gone a front y
front_round waits gone a [] last [] y ys e round = absurd (omega (arith, ap length e))
front_round waits gone a (b ∷ bs) last [] y ys e round = subst (Holds waits gone a) (ap (head_or b) e) round.0
front_round waits gone a [] last (x ∷ front) y ys e round = absurd (omega (arith, ap length e))
front_round waits gone a (b ∷ bs) last (x ∷ front) y ys e round =
    let same : b ≡ x = ap (head_or b) e in
    (subst (Holds waits gone a) same round.0, subst (λ (v : ℕ). HoldRound waits gone v front y) same (front_round waits gone b bs last front y ys (ap rest_of e) round.1))

turned_round : (waits : List (List Wait)) (gone : List ℕ) (a : ℕ) (bs : List ℕ) (front : List ℕ) (y : ℕ) (ys : List ℕ) → a ∷ bs ≡ front ++ y ∷ ys → HoldRound waits gone a bs a → HoldRound waits gone y (ys ++ front) y
turned_round waits gone a bs [] y ys e round =
    let here : a ≡ y = ap (head_or a) e in
    let more : bs ≡ ys ++ [] = ap rest_of e ∙ sym (append-nil ys) in
    subst (λ (x : ℕ). HoldRound waits gone x (ys ++ []) x) here (subst (λ (xs : List ℕ). HoldRound waits gone a xs a) more round)
turned_round waits gone a bs (x ∷ front) y ys e round =
    let here : a ≡ x = ap (head_or a) e in
    let back = round_from waits gone a bs a (x ∷ front) y ys round e in
    join_round waits gone y ys x front y (subst (HoldRound waits gone y ys) here back)
    (subst (λ (v : ℕ). HoldRound waits gone v front y) here (front_round waits gone a bs a front y ys (ap rest_of e) round))

module _ (law : EachPolicyIsAnOrder) (p : Problem) (is : IsProblem p) (rows : List Row) (are : AreRows p rows) (waits : List (List Wait)) (aw : AreWaits p rows waits) (gone : List ℕ) where
  pub turned_wheel : (a : ℕ) (bs : List ℕ) → HoldRound waits gone a bs a → (front back : List ℕ) → front ++ back ≡ a ∷ bs → (rims : List Rim) → AreRimsOf rows waits gone (back ++ front) rims → IsWheel (game_of p) (map as_rim rims)
  turned_wheel a bs round front [] e rims r =
      circle_wheel law p is rows are waits aw gone a bs round rims (subst (λ (xs : List ℕ). AreRimsOf rows waits gone xs rims) (sym (append-nil front) ∙ e) r)
  turned_wheel a bs round front (y ∷ ys) e rims r =
      circle_wheel law p is rows are waits aw gone y (ys ++ front) (turned_round waits gone a bs front y ys (sym e) round) rims r

  -- what the rows of a circle need for their rims
  pub held_rows : AreGone waits gone → AreHeld rows waits gone
  held_rows g = record {
    size = g.size;
    same = aw.size;
    counts = counts law p is rows are waits aw;
    low = g.low;
    within = within law p is rows are waits aw;
  }

  held_at : (a b : ℕ) → Holds waits gone a b → (a < length waits) × HeldAt waits gone a
  held_at a b h =
      let at = inside law p is rows are waits aw a (slice_index gone a) b h.at h.waits_for in
      (omega (arith, at.0, aw.size), record { row = b; at = h.at; waits_for = h.waits_for; behind = h.behind })

  pub all_held : (a : ℕ) (bs : List ℕ) (last : ℕ) → HoldRound waits gone a bs last → All (λ row. (row < length waits) × HeldAt waits gone row) (a ∷ bs)
  all_held a [] last round zero d l = held_at a last round
  all_held a [] last round (suc k) d l = absurd (omega (arith, l))
  all_held a (b ∷ bs) last round zero d l = held_at a b round.0
  all_held a (b ∷ bs) last round (suc k) d l = all_held b bs last round.1 k d (omega (arith, l))

pub round_here : (waits : List (List Wait)) (letting : Letting) (closes : ℕ) → IsCircle waits letting closes → (front rows : List ℕ) → letting.trail.items ≡ front ++ closes ∷ rows → HoldRound waits letting.gone.items closes rows closes
round_here waits letting closes c front rows e = round_from waits letting.gone.items c.first c.rows closes front closes rows c.holds (sym c.trail ∙ e)

pub all_front : (P : ℕ → Type 0) (xs : List ℕ) (n : ℕ) → All P xs → All P (take n xs)
all_front P xs n all k d l =
    let below : k < n = omega (arith, l, length-take n xs) in
    subst P (sym (get_or-take n xs k d below)) (all k d (omega (arith, l, length-take n xs)))

pub all_back : (P : ℕ → Type 0) (xs : List ℕ) (n : ℕ) → All P xs → All P (drop n xs)
all_back P xs n all k d l = subst P (sym (get_or-drop n xs k d)) (all (n + k) d (omega (arith, l, length-drop n xs)))

-- all of a list that is left behind a place
pub back_all : (xs : List ℕ) (n : ℕ) → take (length xs - n) (drop n xs) ≡ drop n xs
back_all xs n = take_all (length xs - n) (drop n xs) (omega (arith, length-drop n xs))
