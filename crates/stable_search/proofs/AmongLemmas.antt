-- The choices of a part are those of its routers' paths that fit together.
use Rattle.std.proofs.Common.{◌≡◌, ◌≢◌, ℕ, zero, suc, ◌<◌, ◌+◌, ◌==◌, Bool, true, false, cond, List, [], ◌∷◌, length, get_or, map, refl, sym, ap, subst, ◌∙◌, eq-eqb, ne_eqb, arith, inl, inr}
use Rattle.std.specs.List.{All, AllPairs, Contains}
use Rattle.std.specs.Int.{bit_at}
use Rattle.std.proofs.lemmas.Bool.{cases_eq, cases_lt, both_ways}
use Rattle.std.proofs.lemmas.List.{length-map, get_or_default}
use Rattle.std.proofs.lemmas.List.Elements.{Contains-get_or}
use Rattle.ranked_policy.specs.Plans.{IsNetwork, IsRouter, Linked, numbers}
use Rattle.ranked_policy.proofs.OneTable.{one_table}
use Rattle.ranked_policy.proofs.Reached.{linked_back}
use Rattle.ranked_policy.specs.Policies.{Table, IsTableOf, Originates}
use Rattle.stable_paths.specs.Stable.{Problem, IsInstance, IsStable}
use Rattle.stable_search.specs.declared.every.Component.{Component}
use Rattle.stable_search.specs.declared.group.Group.{Group}
use Rattle.stable_search.specs.declared.seat.Seat.{Seat}
use Rattle.stable_search.specs.declared.way.Way.{Way}
use Rattle.stable_search.specs.Counting.{SeveralHaveNone}
use Rattle.stable_search.specs.Every.{choices_of, HasChoice, AreChoices, Disputes, Trails, ChooseAmong}
use Rattle.stable_search.specs.Fits.{MayStand, FitsAt, FitsAmong, FitTogether, StableIsFitting}
use Rattle.stable_search.specs.Groups.{at_places, AreOwn, AreValues, ArePartsOf, ArePlaces, FitsBetween, IsGroup, IsPartOf}
use Rattle.stable_search.specs.Led.{AreLed}
use Rattle.stable_search.specs.Parting.{IsFree}
use Rattle.stable_search.specs.Picks.{AllSome, FitsWay, Has, Narrows}
use Rattle.stable_search.specs.Seats.{IsSeat, FitsBoth, FitsEnd, StandsAt, IsWayOf, AreWaysOf, IsEndOf, AreEndsOf}
use Rattle.stable_search.proofs.ChoiceLemmas.{as_many}
use Rattle.stable_search.proofs.CombineLemmas.{path_in, have_choice, either_path, same_in}
use Rattle.stable_search.proofs.EveryLemmas.{Picked, picked, one_value, linked_apart, begins, at_end, end_at, router_at, is_router, has_paths, low, solves, at_index, routers_once, has_at, picks_part, router_in, in_router}
use Rattle.stable_search.proofs.PartLemmas.{same_fit, group_before}
use Rattle.stable_search.proofs.PlaceLemmas.{stands, here}
use Rattle.stable_search.proofs.RefusalLemmas.{value_at, by_seat, by_seat_is, some_routers, together, together_same, path_is}
use Rattle.stable_search.proofs.RelateLemmas.{same_seat}

-- ---- the values of a set

-- the values whose places, from this one on, are in the set
kept : List (List ℕ) → ℕ → ℕ → List (List ℕ)
kept [] set at = []
kept (x ∷ xs) set at = cond (bit_at set at == 1) (x ∷ kept xs set (at + 1)) (kept xs set (at + 1))

kept_first : (x : List ℕ) (xs : List (List ℕ)) (set at : ℕ) → Has set at → kept (x ∷ xs) set at ≡ x ∷ kept xs set (at + 1)
unfolding kept
kept_first x xs set at has = ap (λ (b : Bool). cond b (x ∷ kept xs set (at + 1)) (kept xs set (at + 1))) (eq-eqb (bit_at set at) 1 has)

kept_later : (x : List ℕ) (xs : List (List ℕ)) (set at : ℕ) → (Has set at → ⊥) → kept (x ∷ xs) set at ≡ kept xs set (at + 1)
unfolding kept
kept_later x xs set at not = ap (λ (b : Bool). cond b (x ∷ kept xs set (at + 1)) (kept xs set (at + 1))) (ne_eqb (bit_at set at) 1 not)

behind : (x path : List ℕ) (xs : List (List ℕ)) → Contains xs path → Contains (x ∷ xs) path
behind x path xs c = (suc c.0, omega (arith, c.1), c.2)

kept_has : (xs : List (List ℕ)) (set at j : ℕ) → j < length xs → Has set (at + j) → Contains (kept xs set at) (get_or xs j [])
kept_has [] set at j lt has = absurd (omega (arith, lt))
kept_has (x ∷ xs) set at zero lt has =
    subst (λ (ys : List (List ℕ)). Contains ys x) (sym (kept_first x xs set at (subst (Has set) (omega arith) has))) (0, omega arith, refl)
kept_has (x ∷ xs) set at (suc j) lt has =
    let later = kept_has xs set (at + 1) j (omega (arith, lt)) (subst (Has set) (omega arith) has) in
    elim (cases_eq (bit_at set at) 1) [
      | inl first ↦ subst (λ (ys : List (List ℕ)). Contains ys (get_or xs j [])) (sym (kept_first x xs set at first)) (behind x (get_or xs j []) (kept xs set (at + 1)) later)
      | inr not ↦ subst (λ (ys : List (List ℕ)). Contains ys (get_or xs j [])) (sym (kept_later x xs set at not)) later
    ]

-- the place of a value that is kept
record Kept (xs : List (List ℕ)) (set at : ℕ) (path : List ℕ) : Type 0 where
  j : ℕ
  inside : j < length xs
  has : Has set (at + j)
  is : get_or xs j [] ≡ path

has_kept : (xs : List (List ℕ)) (set at : ℕ) (path : List ℕ) → Contains (kept xs set at) path → Kept xs set at path
unfolding kept
has_kept [] set at path c = absurd (omega (arith, c.1))
has_kept (x ∷ xs) set at path c = elim (cases_eq (bit_at set at) 1) [
  | inl first ↦ one (has_kept xs set (at + 1) path) first (subst (λ (ys : List (List ℕ)). Contains ys path) (kept_first x xs set at first) c)
  | inr not ↦ more (has_kept xs set (at + 1) path (subst (λ (ys : List (List ℕ)). Contains ys path) (kept_later x xs set at not) c))
]
  where
    more : Kept xs set (at + 1) path → Kept (x ∷ xs) set at path
    more k = record { j = suc k.j; inside = (let lt = k.inside in omega (arith, lt)); has = subst (Has set) (omega arith) k.has; is = k.is }

    one : (Contains (kept xs set (at + 1)) path → Kept xs set (at + 1) path) → Has set at → Contains (x ∷ kept xs set (at + 1)) path → Kept (x ∷ xs) set at path
    one later first (zero, lt, e) = record { j = 0; inside = omega arith; has = subst (Has set) (omega arith) first; is = e }
    one later first (suc n, lt, e) = more (later (n, omega (arith, lt), e))

-- the values of each seat are some
pub seats_some : (p : Problem) (seats : List Seat) → All (IsSeat p) seats → (sets : List ℕ) → AreValues seats sets → AllSome sets
seats_some p seats each sets values i lt =
    let s = stands seats i (omega (arith, lt, values.0)) in
    (0, (values.1 i 0 s.0 s.1).1 (here (IsSeat p) seats i s.0 each s.1).some)

-- in a list of one place all places are one
same_place : (places : List ℕ) (one other : ℕ) → length places ≡ 1 → Contains places one → Contains places other → one ≡ other
same_place places one other size c d =
    let i : c.0 ≡ 0 = (let lt = c.1 in omega (arith, lt, size)) in
    let j : d.0 ≡ 0 = (let lt = d.1 in omega (arith, lt, size)) in
    sym c.2 ∙ get_or_default places c.0 one other c.1 ∙ ap (λ (n : ℕ). get_or places n other) (i ∙ sym j) ∙ d.2

-- a router by itself has a path that it may have
lone_has : (p : Problem) → IsNetwork p.net → (may : ℕ → List (List ℕ)) (part : Component) → length part.routers ≡ 1 → 0 < length (may (get_or part.routers 0 0))
    → (table : Table) × IsTableOf p.net (get_or part.routers 0 0) table × All (MayStand p.net.links p.prefix table) (may (get_or part.routers 0 0)) → AreChoices p may part → 0 < length (choices_of part)
lone_has p net may part single some t choices =
    let u = get_or part.routers 0 0 in
    let here_u : Contains part.routers u = Contains-get_or part.routers 0 0 (omega (arith, single)) in
    let same : (v : ℕ) → Contains part.routers v → u ≡ v = λ v c. same_place part.routers u v single here_u c in
    let path = get_or (may u) 0 [] in
    let path_in_u : Contains (may u) path = Contains-get_or (may u) 0 [] some in
    let fit : FitTogether p part.routers (λ v. path) = λ v c. (
      t.0,
      subst (λ (n : ℕ). IsTableOf p.net n t.0) (same v c) t.1,
      record {
        may = t.2 0 [] some;
        fits = λ w cw linked not. absurd (linked_apart p.net net t.0.router w linked (t.1.0 ∙ same w cw));
      },
    ) in
    let choice = (choices (λ v. path)).1 ((λ v c. subst (λ (n : ℕ). Contains (may n) path) (same v c) path_in_u), fit) in
    let lt = choice.1 in
    omega (arith, lt)

module _ (p : Problem) (is : IsInstance p) (law : StableIsFitting) (seats : List Seat) (at : map (λ (s : Seat). s.router) seats ≡ numbers p.net.routers) (each : All (IsSeat p) seats)
    (ways : List Way) (over : AreWaysOf p.net.links seats ways) (sets : List ℕ) (values : AreValues seats sets) (now : List ℕ) (narrows : Narrows ways sets now)
    (ends : List Way) (ends_of : AreEndsOf p.net.links seats ends) (levels : List ℕ) (groups : List Group) (led : AreLed ways ends sets now levels groups) (parts : List Component) (of : ArePartsOf seats levels groups parts) (alive : AllSome now) where
  size_now : length now ≡ length seats
  size_now = narrows.size ∙ values.0

  seat_is : (i : ℕ) (s : Seat) → StandsAt seats i s → IsSeat p s
  seat_is i s st = here (IsSeat p) seats i s each st

  -- ---- the paths that a router may have

  abbrev may : ℕ → List (List ℕ)
  may u = by_seat (λ (s : Seat) set. kept s.values.items set 0) [] seats now u

  may_is : (i : ℕ) (s : Seat) → StandsAt seats i s → may s.router ≡ kept s.values.items (get_or now i 0) 0
  may_is i s st = by_seat_is (λ (s : Seat) set. kept s.values.items set 0) [] seats now i s (routers_once p is seats at) st size_now

  -- a value of the set stands for one of them
  may_has : (i : ℕ) (s : Seat) → StandsAt seats i s → (v : ℕ) (path : List ℕ) → Has (get_or now i 0) v → get_or s.values.items v [] ≡ path → Contains (may s.router) path
  may_has i s st v path has e =
      let inside : v < length s.values.items = (values.1 i v s st).0 (narrows.fewer i v has) in
      subst (λ (ys : List (List ℕ)). Contains ys path) (sym (may_is i s st)) (subst (Contains (kept s.values.items (get_or now i 0) 0)) e (kept_has s.values.items (get_or now i 0) 0 v inside (subst (Has (get_or now i 0)) (omega arith) has)))

  may_some : (u : ℕ) → IsRouter p.net.routers u → 0 < length (may u)
  may_some u router =
      let r = router_at p is law seats at each ways over sets values u router in
      let a = alive r.0 (let lt = r.2.0 in omega (arith, lt, size_now)) in
      let c = may_has r.0 r.1 r.2 a.0 (get_or r.1.values.items a.0 []) a.1 refl in
      subst (λ (n : ℕ). 0 < length (may n)) r.3 (let lt = c.1 in omega (arith, lt))

  may_stand : (u : ℕ) → IsRouter p.net.routers u → (table : Table) × IsTableOf p.net u table × All (MayStand p.net.links p.prefix table) (may u)
  may_stand u router =
      let r = router_at p is law seats at each ways over sets values u router in
      let x = seat_is r.0 r.1 r.2 in
      subst (λ (n : ℕ). (table : Table) × IsTableOf p.net n table × All (MayStand p.net.links p.prefix table) (may n)) r.3 (
        x.table,
        x.of,
        λ k d lt.
            (let paths = kept r.1.values.items (get_or now r.0 0) 0 in
            let path = get_or (may r.1.router) k d in
            let c : Contains paths path = subst (λ (ys : List (List ℕ)). Contains ys path) (may_is r.0 r.1 r.2) (Contains-get_or (may r.1.router) k d lt) in
            let v = has_kept r.1.values.items (get_or now r.0 0) 0 path c in
            x.may path (v.j, v.inside, get_or_default r.1.values.items v.j path [] v.inside ∙ v.is)),
      )

  may_stable : (paths : ℕ → List ℕ) → IsStable p paths → (u : ℕ) → IsRouter p.net.routers u → Contains (may u) (paths u)
  may_stable paths stable u router =
      let r = router_at p is law seats at each ways over sets values u router in
      let k = picked seats paths (has_paths p is law seats at each ways over sets values paths stable) in
      let inside = narrows.keeps k.pick (solves p is law seats at each ways over sets values paths ((law p is paths).0 stable) k) in
      subst (λ (n : ℕ). Contains (may n) (paths n)) r.3
      (may_has r.0 r.1 r.2 (get_or k.pick r.0 0) (paths r.1.router) (inside.each r.0 (let lt = r.2.0 in omega (arith, lt, size_now))) (k.is r.0 r.1 r.2))

  -- ---- a group and its part

  module _ (g : ℕ) (group : Group) (part : Component) (st : StandsAt groups g group) (pt : StandsAt parts g part) where
    fall : IsGroup now group
    fall = here (IsGroup now) groups g group led.fall.each st

    group_is : IsGroup sets group
    group_is = group_before ways sets now group narrows fall

    of_part : IsPartOf seats levels group part
    of_part = of.each g group part st pt

    own : AreOwn led.core now group
    own = here (AreOwn led.core now) groups g group led.fall.own st

    seated : (i : ℕ) → Contains group.places i → (s : Seat) × StandsAt seats i s
    seated i c = stands seats i (let inside = fall.inside c.0 i c.1 in let e = c.2 in omega (arith, inside, e, size_now))

    are : ArePlaces sets group.places
    are = record { inside = group_is.inside; some = group_is.some; rising = group_is.rising }

    -- no way leads from a place that follows to one of its group
    way_flat : (way : Way) → IsWayOf p.net.links seats way → Contains group.places way.from → Contains group.places way.to → (place : ℕ) → Contains group.places place → 0 < get_or levels place 0 → ⊥
    way_flat way w from to place c up =
        let single : length group.places ≡ 1 = here (λ (x : Group). (place : ℕ) → Contains x.places place → 0 < get_or levels place 0 → length x.places ≡ 1) groups g group led.alone st place c up in
        let same : way.to ≡ way.from = same_place group.places way.to way.from single to from in
        let one : w.other ≡ w.one = same_seat seats way.from w.other w.one (subst (λ (n : ℕ). StandsAt seats n w.other) same w.to) w.from in
        linked_apart p.net is.problem.network w.one.router w.other.router w.linked (ap (λ (s : Seat). s.router) (sym one))

    flat : (way : Way) → IsWayOf p.net.links seats way → Contains group.places way.from → Contains group.places way.to → (place : ℕ) → Contains group.places place → get_or levels place 0 ≡ 0
    flat way w from to place c = elim (cases_lt 0 (get_or levels place 0)) [
      | inl up ↦ absurd (way_flat way w from to place c up)
      | inr none ↦ omega (arith, none)
    ]

    -- what fits over the copies fits over the ways
    outer : (pick : List ℕ) → FitsBetween led.core now group.places pick → FitsBetween ways sets group.places pick
    outer pick fit = record {
      size = fit.size ∙ narrows.size;
      each = λ i c. narrows.fewer i (get_or pick i 0) (fit.each i c);
      fits = λ k d lt from to.
          (let way = get_or ways k d in
          let w = over.each k d lt in
          let c = led.copies.all k d lt (flat way w from to way.from from, flat way w from to way.to to) in
          let copy_fits = fit.fits c.0 c.1 c.2 in
          let fits : FitsWay pick c.1 = subst (λ (x : Way). Contains group.places x.from → Contains group.places x.to → FitsWay pick x) c.3 copy_fits
          (subst (Contains group.places) (sym c.4.0) from) (subst (Contains group.places) (sym c.4.1) to) in
          (same_fit pick way c.1 c.4.0 c.4.1 c.4.2).0 fits);
    }

    -- ---- a choice fits together

    module _ (paths : ℕ → List ℕ) (c : HasChoice paths part) where
      abbrev j : ℕ
      j = c.0

      jlt : j < length group.picks
      jlt = (let lt = c.1 in let many = as_many seats levels group part of_part in omega (arith, lt, many))

      is_choice : get_or (choices_of part) j [] ≡ map paths part.routers
      is_choice = get_or_default (choices_of part) j [] (map paths part.routers) c.1 ∙ c.2

      fit : (pick : List ℕ) × FitsBetween led.core now group.places pick × (get_or group.picks j [] ≡ at_places pick group.places)
      fit = own.fit j [] jlt

      -- the pick stands for the paths
      value_is_path : (i : ℕ) (s : Seat) → Contains group.places i → StandsAt seats i s → get_or s.values.items (get_or fit.0 i 0) [] ≡ paths s.router
      value_is_path i s place at_seat =
          let klt : place.0 < length group.places = place.1 in
          let i_is : get_or group.places place.0 0 ≡ i = get_or_default group.places place.0 0 i klt ∙ place.2 in
          let here_at : StandsAt seats (get_or group.places place.0 0) s = subst (λ (n : ℕ). StandsAt seats n s) (sym i_is) at_seat in
          let value : get_or (get_or group.picks j []) place.0 0 ≡ get_or fit.0 i 0 = ap (λ (q : List ℕ). get_or q place.0 0) fit.2 ∙ at_index group.places fit.0 place.0 klt ∙ ap (λ (n : ℕ). get_or fit.0 n 0) i_is in
          ap (λ (v : ℕ). get_or s.values.items v []) (sym value) ∙ has_at seats sets values levels group group_is part of_part paths j jlt is_choice place.0 klt s here_at

      choice_may : (u : ℕ) → Contains part.routers u → Contains (may u) (paths u)
      choice_may u in_part =
          let r = router_in seats sets values levels group group_is part of_part u in_part in
          subst (λ (n : ℕ). Contains (may n) (paths n)) r.4 (may_has r.0 r.1 r.3 (get_or fit.0 r.0 0) (paths r.1.router) (fit.1.each r.0 r.2) (value_is_path r.0 r.1 r.2 r.3))

      choice_fits : FitTogether p part.routers paths
      choice_fits =
          let full = outer fit.0 fit.1 in
          together_same p part.routers (value_at seats fit.0) paths
          (λ u in_part.
          (let r = router_in seats sets values levels group group_is part of_part u in_part in
          subst (λ (n : ℕ). value_at seats fit.0 n ≡ paths n) r.4
          (path_is p is law seats at each ways over sets values group.places part.routers are of_part.routers fit.0 full r.0 r.1 r.3 ∙ value_is_path r.0 r.1 r.2 r.3)))
          (together p is law seats at each ways over sets values group.places part.routers are of_part.routers fit.0 full)

    -- ---- what fits together is a choice

    module _ (paths : ℕ → List ℕ) (have : (u : ℕ) → Contains part.routers u → Contains (may u) (paths u)) (fit : FitTogether p part.routers paths) where
      -- each other router has its first path
      abbrev other : ℕ → List ℕ
      other u = path_in part.routers (map paths part.routers) u (by_seat (λ (s : Seat) set. get_or s.values.items 0 []) [] seats now u)

      routers_rising : AllPairs (λ u v. u < v) part.routers
      routers_rising = (some_routers p is law seats at each ways over sets values group.places part.routers are of_part.routers).rising

      other_maps : map other part.routers ≡ map paths part.routers
      other_maps = have_choice part.routers (map paths part.routers) (λ u. by_seat (λ (s : Seat) set. get_or s.values.items 0 []) [] seats now u) routers_rising (length-map part.routers paths)

      other_is : (u : ℕ) → Contains part.routers u → other u ≡ paths u
      other_is u c = same_in other paths part.routers u other_maps c

      -- the place of a router's path among its values
      place_of : (i : ℕ) (s : Seat) → StandsAt seats i s → Contains part.routers s.router → Kept s.values.items (get_or now i 0) 0 (other s.router)
      place_of i s at_seat c =
          has_kept s.values.items (get_or now i 0) 0 (other s.router)
          (subst (Contains (kept s.values.items (get_or now i 0) 0)) (sym (other_is s.router c)) (subst (λ (ys : List (List ℕ)). Contains ys (paths s.router)) (may_is i s at_seat) (have s.router c)))

      other_has : (i : ℕ) (s : Seat) → StandsAt seats i s → Contains s.values.items (other s.router)
      other_has i s at_seat = elim (either_path part.routers (map paths part.routers) s.router (by_seat (λ (s : Seat) set. get_or s.values.items 0 []) [] seats now s.router)) [
        | inl first ↦
            let some = (seat_is i s at_seat).some in
            let e = first ∙ by_seat_is (λ (s : Seat) set. get_or s.values.items 0 []) [] seats now i s (routers_once p is seats at) at_seat size_now in
            (0, some, get_or_default s.values.items 0 (other s.router) [] some ∙ sym e)
        | inr c ↦
            let k = place_of i s at_seat c in
            (k.j, k.inside, get_or_default s.values.items k.j (other s.router) [] k.inside ∙ k.is)
      ]

      values_are : Picked seats other
      values_are = picked seats other other_has

      together_other : FitTogether p part.routers other
      together_other = together_same p part.routers paths other (λ u c. sym (other_is u c)) fit

      -- at one end of a link between two of the routers
      end_fits : (i : ℕ) (s : Seat) → StandsAt seats i s → Contains part.routers s.router → (v : ℕ) → Contains part.routers v → Linked p.net.links s.router v → FitsEnd s v (other s.router) (other v)
      end_fits i s at_seat c v cv linked =
          let x = seat_is i s at_seat in
          let f = together_other s.router c in
          let among : FitsAmong p part.routers other x.table = subst (FitsAmong p part.routers other) (one_table p.net s.router f.0 x.table is.problem.network f.1 x.of) f.2 in
          at_end p s x v (other s.router) (other v) (begins p s x (other s.router) (other_has i s at_seat))
          (λ not. subst (λ (n : ℕ). FitsAt x.table p.prefix v (other n) (other v)) x.of.0
          (among.fits v cv (subst (λ (n : ℕ). Linked p.net.links n v) (sym x.of.0) linked) not))

      way_fits : (way : Way) → IsWayOf p.net.links seats way → Contains group.places way.from → Contains group.places way.to → FitsWay values_are.pick way
      way_fits way w from to =
          let k = values_are in
          let a = get_or k.pick way.from 0 in
          let b = get_or k.pick way.to 0 in
          let one_in = in_router seats sets values levels group group_is part of_part way.from w.one from w.from in
          let other_in = in_router seats sets values levels group group_is part of_part way.to w.other to w.to in
          let mine = end_fits way.from w.one w.from one_in w.other.router other_in w.linked in
          let theirs = end_fits way.to w.other w.to other_in w.one.router one_in (linked_back p.net.links w.one.router w.other.router w.linked) in
          let both : FitsBoth w.one w.other (other w.one.router) (other w.other.router) = (mine, theirs) in
          (w.fits.exact a b (k.inside way.from w.one w.from) (k.inside way.to w.other w.to)).1
          (subst (λ (q : List ℕ). FitsBoth w.one w.other q (get_or w.other.values.items b [])) (sym (k.is way.from w.one w.from))
          (subst (FitsBoth w.one w.other (other w.one.router)) (sym (k.is way.to w.other w.to)) both))

      between : FitsBetween led.core now group.places values_are.pick
      between = record {
        size = values_are.size ∙ sym size_now;
        each = λ i c.
            (let s = seated i c in
            let in_part = in_router seats sets values levels group group_is part of_part i s.0 c s.1 in
            let k = place_of i s.0 s.1 in_part in
            let x = seat_is i s.0 s.1 in
            let same : k.j ≡ get_or values_are.pick i 0 = one_value s.0.values.items k.j (get_or values_are.pick i 0) x.distinct k.inside (values_are.inside i s.0 s.1) (k.is ∙ sym (values_are.is i s.0 s.1)) in
            subst (Has (get_or now i 0)) same (subst (Has (get_or now i 0)) (omega arith) k.has));
        fits = λ n d lt from to.
            (let w = led.copies.only n d lt in
            let copy = get_or led.core n d in
            let way_is : IsWayOf p.net.links seats w.1 = subst (IsWayOf p.net.links seats) w.3 (over.each w.0 w.1 w.2) in
            let from_in = subst (Contains group.places) w.4.0 from in
            let to_in = subst (Contains group.places) w.4.1 to in
            (same_fit values_are.pick w.1 copy w.4.0 w.4.1 w.4.2).1 (way_fits w.1 way_is from_in to_in));
      }

      fits_choice : HasChoice paths part
      fits_choice =
          let c = own.whole values_are.pick (low p is law seats at each ways over sets values other values_are) between in
          subst (Contains (choices_of part)) other_maps (picks_part seats sets values levels group group_is part of_part other values_are c)

  all_choices : (g : ℕ) (group : Group) (part : Component) → StandsAt groups g group → StandsAt parts g part → AreChoices p may part
  all_choices g group part st pt paths = (
    λ c. (choice_may g group part st pt paths c, choice_fits g group part st pt paths c),
    λ both. fits_choice g group part st pt paths both.0 both.1,
  )

  -- ---- a router in dispute and one that follows

  -- a place of a group that has no pick or several, and isn't led, follows none
  flat_at : (g : ℕ) (group : Group) (part : Component) → StandsAt groups g group → StandsAt parts g part → part.follows ≡ false → (length (choices_of part) ≢ 1) → (i : ℕ) → Contains group.places i → get_or levels i 0 ≡ 0
  flat_at g group part st pt own many i c = elim (cases_lt 0 (get_or levels i 0)) [
    | inr none ↦ omega (arith, none)
    | inl up ↦
        let it = of.each g group part st pt in
        let single : length group.places ≡ 1 = here (λ (x : Group). (place : ℕ) → Contains x.places place → 0 < get_or levels place 0 → length x.places ≡ 1) groups g group led.alone st i c up in
        let first : get_or group.places 0 0 ≡ i = same_place group.places (get_or group.places 0 0) i single (Contains-get_or group.places 0 0 (omega (arith, single))) c in
        let s = seated g group part st pt i c in
        let e : get_or part.routers 0 0 ≡ s.0.router = it.routers.each 0 s.0 (omega (arith, single)) (subst (λ (n : ℕ). StandsAt seats n s.0) (sym first) s.1) in
        let router : IsRouter p.net.routers (get_or part.routers 0 0) = subst (IsRouter p.net.routers) (sym e) (is_router p is law seats at each ways over sets values i s.0 s.1) in
        let has = lone_has p is.problem.network may part (it.routers.size ∙ single) (may_some (get_or part.routers 0 0) router) (may_stand (get_or part.routers 0 0) router) (all_choices g group part st pt) in
        let several : 1 < length group.picks = (let size = as_many seats levels group part it in omega (arith, has, many, size)) in
        absurd (both_ways part.follows own (it.follows.1 (several, subst (λ (n : ℕ). 0 < get_or levels n 0) (sym first) up)))
  ]

  -- the place of a group that is led follows
  up_at : (g : ℕ) (group : Group) (part : Component) → StandsAt groups g group → StandsAt parts g part → part.follows ≡ true → (i : ℕ) → Contains group.places i → 0 < get_or levels i 0
  up_at g group part st pt flag i c =
      let l = (of.each g group part st pt).follows.0 flag in
      let some = (group_is g group part st pt).some in
      let first = Contains-get_or group.places 0 0 some in
      let single : length group.places ≡ 1 = here (λ (x : Group). (place : ℕ) → Contains x.places place → 0 < get_or levels place 0 → length x.places ≡ 1) groups g group led.alone st (get_or group.places 0 0) first l.1 in
      subst (λ (n : ℕ). 0 < get_or levels n 0) (same_place group.places (get_or group.places 0 0) i single first c) l.1

  -- at the end of a link from a place of a higher level each two of their paths fit
  free_end : (i : ℕ) (s : Seat) → StandsAt seats i s → (j : ℕ) (t : Seat) → StandsAt seats j t → Linked p.net.links s.router t.router → get_or levels i 0 < get_or levels j 0
      → (path theirs : List ℕ) → Contains (may s.router) path → Contains (may t.router) theirs → FitsEnd s t.router path theirs
  free_end i s st j t to linked up path theirs mine other =
      let h = ends_of.all j to.0 i t s to st (linked_back p.net.links s.router t.router linked) in
      let end = h.1 in
      let w = here (IsEndOf p.net.links seats) ends h.0 end ends_of.each (h.2, h.3) in
      let higher : get_or levels end.to 0 < get_or levels end.from 0 =
      subst (λ (n : ℕ). get_or levels n 0 < get_or levels end.from 0) (sym h.4.1) (subst (λ (n : ℕ). get_or levels i 0 < get_or levels n 0) (sym h.4.0) up) in
      let free : IsFree led.wide end = here (λ (x : Way). get_or levels x.to 0 < get_or levels x.from 0 → IsFree led.wide x) ends h.0 end led.levels_are.unmoved (h.2, h.3) higher in
      let a = has_kept t.values.items (get_or now j 0) 0 theirs (subst (λ (ys : List (List ℕ)). Contains ys theirs) (may_is j t to) other) in
      let b = has_kept s.values.items (get_or now i 0) 0 path (subst (λ (ys : List (List ℕ)). Contains ys path) (may_is i s st) mine) in
      let a_wide : Has (get_or led.wide end.from 0) a.j = subst (λ (n : ℕ). Has (get_or led.wide n 0) a.j) (sym h.4.0) (led.narrowed.fewer j a.j (subst (Has (get_or now j 0)) (omega arith) a.has)) in
      let b_wide : Has (get_or led.wide end.to 0) b.j = subst (λ (n : ℕ). Has (get_or led.wide n 0) b.j) (sym h.4.1) (led.narrowed.fewer i b.j (subst (Has (get_or now i 0)) (omega arith) b.has)) in
      let few = (seat_is j t to).few in
      let inside = a.inside in
      let fits : Has (get_or end.fits.items a.j 0) b.j = free a.j b.j (omega (arith, few, inside)) a_wide b_wide in
      let one : w.one ≡ t = same_seat seats j w.one t (subst (λ (n : ℕ). StandsAt seats n w.one) h.4.0 w.from) to in
      let two : w.other ≡ s = same_seat seats i w.other s (subst (λ (n : ℕ). StandsAt seats n w.other) h.4.1 w.to) st in
      let at_end : FitsEnd w.other w.one.router (get_or w.other.values.items b.j []) (get_or w.one.values.items a.j []) =
      (w.fits.exact a.j b.j (subst (λ (r : Seat). a.j < length r.values.items) (sym one) a.inside) (subst (λ (r : Seat). b.j < length r.values.items) (sym two) b.inside)).0 fits in
      let at_seats : FitsEnd s t.router (get_or s.values.items b.j []) (get_or t.values.items a.j []) =
      subst (λ (r : Seat). FitsEnd r t.router (get_or r.values.items b.j []) (get_or t.values.items a.j [])) two
      (subst (λ (r : Seat). FitsEnd w.other r.router (get_or w.other.values.items b.j []) (get_or r.values.items a.j [])) one at_end) in
      subst (λ (q : List ℕ). FitsEnd s t.router q theirs) b.is (subst (FitsEnd s t.router (get_or s.values.items b.j [])) a.is at_seats)

  unmoved : (u v : ℕ) → Disputes parts u → Trails parts v → Linked p.net.links u v → (table : Table) → IsTableOf p.net u table → (Originates table p.prefix table.router → ⊥)
      → (path theirs : List ℕ) → Contains (may u) path → Contains (may v) theirs → FitsAt table p.prefix v path theirs
  unmoved u v d f linked table of_table not path theirs mine other =
      let group = stands groups d.0 (let lt = d.2 in omega (arith, lt, of.size)) in
      let pt : StandsAt parts d.0 d.1 = (d.2, d.3) in
      let r = router_in seats sets values levels group.0 (group_is d.0 group.0 d.1 group.1 pt) d.1 (of.each d.0 group.0 d.1 group.1 pt) u d.4.2 in
      let flat = flat_at d.0 group.0 d.1 group.1 pt d.4.0 d.4.1 r.0 r.2 in
      let led_group = stands groups f.0 (let lt = f.2 in omega (arith, lt, of.size)) in
      let qt : StandsAt parts f.0 f.1 = (f.2, f.3) in
      let q = router_in seats sets values levels led_group.0 (group_is f.0 led_group.0 f.1 led_group.1 qt) f.1 (of.each f.0 led_group.0 f.1 led_group.1 qt) v f.4.1 in
      let up = up_at f.0 led_group.0 f.1 led_group.1 qt f.4.0 q.0 q.2 in
      let s = r.1 in
      let t = q.1 in
      let x = seat_is r.0 s r.3 in
      let same : x.table ≡ table = one_table p.net u x.table table is.problem.network (subst (λ (n : ℕ). IsTableOf p.net n x.table) r.4 x.of) of_table in
      let linked_seats : Linked p.net.links s.router t.router = subst (λ (n : ℕ). Linked p.net.links n t.router) (sym r.4) (subst (Linked p.net.links u) (sym q.4) linked) in
      let fits = free_end r.0 s r.3 q.0 t q.3 linked_seats (omega (arith, flat, up)) path theirs (subst (λ (n : ℕ). Contains (may n) path) (sym r.4) mine) (subst (λ (n : ℕ). Contains (may n) theirs) (sym q.4) other) in
      let at_table : FitsAt x.table p.prefix t.router path theirs = end_at p s x t.router path theirs (subst (λ (n : Table). Originates n p.prefix n.router → ⊥) (sym same) not) fits in
      subst (λ (n : ℕ). FitsAt table p.prefix n path theirs) q.4 (subst (λ (n : Table). FitsAt n p.prefix t.router path theirs) same at_table)

  pub among : ChooseAmong p parts
  among = record {
    may = may;
    some = may_some;
    stand = may_stand;
    has = may_stable;
    choices = λ g d lt.
        (let group = stands groups g (omega (arith, lt, of.size)) in
        let part = get_or parts g d in
        let pt : StandsAt parts g part = (lt, get_or_default parts g part d lt) in
        all_choices g group.0 part group.1 pt);
    unmoved = unmoved;
  }

pub several_have_none : SeveralHaveNone
several_have_none p is every all g d lt none = elim (cases_lt 1 (length (get_or every.parts g d).routers)) [
  | inl more ↦ more
  | inr few ↦
      let part : Component = get_or every.parts g d in
      let some = (all.parts g d lt).some in
      let u = get_or part.routers 0 0 in
      let router : IsRouter p.net.routers u = (all.routers u).1 (g, part, lt, get_or_default every.parts g part d lt, Contains-get_or part.routers 0 0 some) in
      let has = lone_has p is.network all.among.may part (omega (arith, few, some)) (all.among.some u router) (all.among.stand u router) (all.among.choices g d lt) in
      absurd (omega (arith, has, none))
]
