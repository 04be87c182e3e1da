-- A stable assignment has one of the choices of each part, and any choices of the parts that don't follow are had in one.
use Rattle.std.proofs.Common.{◌≡◌, ◌≢◌, ℕ, ◌<◌, ◌≤◌, false, List, [], length, get_or, map, sym, ap, subst, ◌∙◌, arith, inl, inr, ◌⊎◌}
use Rattle.std.specs.List.{All, AllPairs, Contains}
use Rattle.std.proofs.lemmas.Bool.{cases_Bool, both_ways, cases_lt}
use Rattle.std.proofs.lemmas.List.{get_or_default}
use Rattle.ranked_policy.specs.Plans.{IsRouter, numbers}
use Rattle.stable_paths.specs.Stable.{Problem, IsInstance, IsStable}
use Rattle.stable_search.specs.declared.every.Every.{Every}
use Rattle.stable_search.specs.declared.every.Component.{Component}
use Rattle.stable_search.specs.declared.group.Group.{Group}
use Rattle.stable_search.specs.declared.seat.Seat.{Seat}
use Rattle.stable_search.specs.declared.way.Way.{Way}
use Rattle.stable_search.specs.Every.{choices_of, HasChoice, HaveChoices, Agree, IsPart, IsEveryStable}
use Rattle.stable_search.specs.Fits.{IsFitting, StableIsFitting}
use Rattle.stable_search.specs.Groups.{at_places, IsGroup, AreGroups, AreValues, IsLed, IsPartOf, ArePartsOf}
use Rattle.stable_search.specs.Led.{IsOpen, AreLed}
use Rattle.stable_search.specs.Picks.{AllSome, Has, FitsWay, IsIn, Solves, Narrows}
use Rattle.stable_search.specs.Seats.{IsSeat, StandsAt, AreWaysOf, AreEndsOf}
use Rattle.stable_search.proofs.AmongLemmas.{among}
use Rattle.stable_search.proofs.ChoiceLemmas.{as_many}
use Rattle.stable_search.proofs.CombineLemmas.{AreApart, filled, map_same, same_in}
use Rattle.stable_search.proofs.EveryLemmas.{Picked, picked, one_value, router_at, is_router, has_paths, low, solves, solves_ends, fitting_by, routers_once, routers_rise, part_has, part_picks, picks_part, is_part, router_in, in_router}
use Rattle.stable_search.proofs.FollowLemmas.{AreEnds, all_extended, same_everywhere}
use Rattle.stable_search.proofs.NarrowLemmas.{in_before, narrows_then}
use Rattle.stable_search.proofs.PartLemmas.{group_before}
use Rattle.stable_search.proofs.PlaceLemmas.{stands, here}
use Rattle.stable_search.proofs.RefusalLemmas.{value_at, value_is}

-- a list of at most one has one
one_of_few : (xs : List (List (List ℕ))) (a b : List (List ℕ)) → length xs ≤ 1 → Contains xs a → Contains xs b → a ≡ b
one_of_few xs a b few c d =
    let i : c.0 ≡ 0 = (let lt = c.1 in omega (arith, lt, few)) in
    let j : d.0 ≡ 0 = (let lt = d.1 in omega (arith, lt, few)) in
    sym c.2 ∙ get_or_default xs c.0 a b c.1 ∙ ap (λ (n : ℕ). get_or xs n b) (i ∙ sym j) ∙ d.2

module _ (p : Problem) (is : IsInstance p) (law : StableIsFitting) (seats : List Seat) (at : map (λ (s : Seat). s.router) seats ≡ numbers p.net.routers) (each : All (IsSeat p) seats)
    (ways : List Way) (over : AreWaysOf p.net.links seats ways) (ends : List Way) (ends_of : AreEndsOf p.net.links seats ends) (sets : List ℕ) (values : AreValues seats sets) (now : List ℕ)
    (levels : List ℕ) (groups : List Group) (led : AreLed ways ends sets now levels groups) (found : Every) (of : ArePartsOf seats levels groups found.parts) where
  fall : AreGroups led.core now groups
  fall = led.fall

  narrows : Narrows ways sets now
  narrows = narrows_then ways sets led.wide now led.before led.narrowed

  size_now : length now ≡ length seats
  size_now = narrows.size ∙ values.0

  size_levels : length levels ≡ length seats
  size_levels = led.levels_are.size ∙ led.before.size ∙ values.0

  group_at : (g : ℕ) → g < length groups → (group : Group) × StandsAt groups g group
  group_at g lt = stands groups g lt

  part_at : (g : ℕ) → g < length groups → (part : Component) × StandsAt found.parts g part
  part_at g lt = stands found.parts g (omega (arith, lt, of.size))

  group_is : (g : ℕ) (group : Group) → StandsAt groups g group → IsGroup sets group
  group_is g group st = group_before ways sets now group narrows (here (IsGroup now) groups g group fall.each st)

  once : (i : ℕ) (s : Seat) → StandsAt seats i s → AllPairs (λ path later. path ≢ later) s.values.items
  once i s st = (here (IsSeat p) seats i s each st).distinct

  single : (g : ℕ) (group : Group) → StandsAt groups g group → (place : ℕ) → Contains group.places place → 0 < get_or levels place 0 → length group.places ≡ 1
  single g group st = here (λ (x : Group). (place : ℕ) → Contains x.places place → 0 < get_or levels place 0 → length x.places ≡ 1) groups g group led.alone st

  -- the first of a group's places
  first_place : (g : ℕ) (group : Group) → StandsAt groups g group → Contains group.places (get_or group.places 0 0)
  first_place g group st = (let some = (group_is g group st).some in (0, some, get_or_default group.places 0 (get_or group.places 0 0) 0 some))

  -- in a group of one place each place is the first
  only_first : (g : ℕ) (group : Group) → StandsAt groups g group → length group.places ≡ 1 → (place : ℕ) → Contains group.places place → get_or group.places 0 0 ≡ place
  only_first g group st one place c =
      let i : c.0 ≡ 0 = (let lt = c.1 in omega (arith, lt, one)) in
      ap (λ (n : ℕ). get_or group.places n 0) (sym i) ∙ get_or_default group.places c.0 0 place c.1 ∙ c.2

  led_alone : (g : ℕ) (group : Group) → StandsAt groups g group → IsLed levels group → length group.places ≡ 1
  led_alone g group st l = single g group st (get_or group.places 0 0) (first_place g group st) l.1

  -- ---- a stable assignment has choices

  module _ (paths : ℕ → List ℕ) (stable : IsStable p paths) where
    fitting : IsFitting p paths
    fitting = (law p is paths).0 stable

    values_of : Picked seats paths
    values_of = picked seats paths (has_paths p is law seats at each ways over sets values paths stable)

    solved : Solves ways sets values_of.pick
    solved = solves p is law seats at each ways over sets values paths fitting values_of

    at_ends : All (FitsWay values_of.pick) ends
    at_ends = solves_ends p is law seats at each ways over sets values paths ends ends_of fitting values_of

    inside_wide : IsIn led.wide values_of.pick
    inside_wide = led.before.keeps values_of.pick solved

    inside_now : IsIn now values_of.pick
    inside_now = narrows.keeps values_of.pick solved

    has_each : All (HasChoice paths) found.parts
    has_each g d lt =
        let core : Solves led.core now values_of.pick = record { inside = inside_now; fits = (led.keeps values_of.pick).1 (λ k e klt in_part. solved.fits k e klt) } in
        let all = (fall.exact values_of.pick inside_now.size inside_now.low).0 core in
        let group = group_at g (omega (arith, lt, of.size)) in
        let part = get_or found.parts g d in
        picks_part seats sets values levels group.0 (group_is g group.0 group.1) part (of.each g group.0 part group.1 (lt, get_or_default found.parts g part d lt)) paths values_of
        (here (λ (x : Group). Contains x.picks (at_places values_of.pick x.places)) groups g group.0 all group.1)

  -- ---- parts

  are_parts : All IsPart found.parts
  are_parts g d lt =
      let group = group_at g (omega (arith, lt, of.size)) in
      let part = get_or found.parts g d in
      is_part seats sets values levels group.0 (group_is g group.0 group.1) part (of.each g group.0 part group.1 (lt, get_or_default found.parts g part d lt)) once (routers_rise p is seats at) (led_alone g group.0 group.1)

  are_apart : AreApart found.parts
  are_apart g h d lt inside u one other =
      let first = group_at g (omega (arith, lt, inside, of.size)) in
      let next = group_at h (omega (arith, inside, of.size)) in
      let part = get_or found.parts g d in
      let later = get_or found.parts h d in
      let r = router_in seats sets values levels first.0 (group_is g first.0 first.1) part (of.each g first.0 part first.1 (omega (arith, lt, inside), get_or_default found.parts g part d (omega (arith, lt, inside)))) u one in
      let t = router_in seats sets values levels next.0 (group_is h next.0 next.1) later (of.each h next.0 later next.1 (inside, get_or_default found.parts h later d inside)) u other in
      let same : r.0 ≡ t.0 = routers_once p is seats at r.0 t.0 r.1 t.1 r.3 t.3 (r.4 ∙ sym t.4) in
      let apart = fall.apart g h first.0 lt next.1.0 in
      apart r.0 (subst (λ (x : Group). Contains x.places r.0) (sym first.1.1) r.2)
      (subst (λ (x : Group). Contains x.places r.0) (sym (get_or_default groups h first.0 next.0 next.1.0 ∙ next.1.1)) (subst (Contains next.0.places) (sym same) t.2))

  -- the group and the part of a place
  around : (i : ℕ) (s : Seat) → StandsAt seats i s → (g : ℕ) × (group : Group) × (part : Component) × StandsAt groups g group × StandsAt found.parts g part × Contains group.places i × Contains part.routers s.router
  around i s st =
      let f = fall.places i (omega (arith, st.0, size_now)) in
      let part = part_at f.0 f.2 in
      let at_g : StandsAt groups f.0 f.1 = (f.2, f.3) in
      (f.0, f.1, part.0, at_g, part.1, f.4, in_router seats sets values levels f.1 (group_is f.0 f.1 at_g) part.0 (of.each f.0 f.1 part.0 at_g part.1) i s f.4 st)

  -- the part of a place that follows none follows none
  leads_at : (i : ℕ) (s : Seat) (st : StandsAt seats i s) → get_or levels i 0 ≡ 0 → (around i s st).2.follows ≡ false
  leads_at i s st flat =
      let a = around i s st in
      elim (cases_Bool a.2.follows) [
        | inr own ↦ own
        | inl flag ↦
            let l = (of.each a.0 a.1 a.2 a.3 a.4).follows.0 flag in
            let first = only_first a.0 a.1 a.3 (led_alone a.0 a.1 a.3 l) i a.5 in
            let up : 0 < get_or levels i 0 = subst (λ (n : ℕ). 0 < get_or levels n 0) first l.1 in
            absurd (omega (arith, up, flat))
      ]

  within : AreEnds (length levels) ends
  within k d lt =
      let w = ends_of.each k d lt in
      (omega (arith, w.from.0, size_levels), omega (arith, w.to.0, size_levels))

  -- ---- choices are had

  module _ (paths : ℕ → List ℕ) (have : HaveChoices paths found.parts) where
    full : (full : ℕ → List ℕ) × All (HasChoice full) found.parts × Agree full paths found.parts
    full = filled paths found.parts are_parts are_apart have

    has_all : (i : ℕ) (s : Seat) → StandsAt seats i s → Contains s.values.items (full.0 s.router)
    has_all i s st =
        let a = around i s st in
        part_has seats sets values levels a.1 (group_is a.0 a.1 a.3) a.2 (of.each a.0 a.1 a.2 a.3 a.4) full.0 (here (HasChoice full.0) found.parts a.0 a.2 full.1 a.4) i s a.5 st

    start : Picked seats full.0
    start = picked seats full.0 has_all

    start_solved : Solves led.core now start.pick
    start_solved = (fall.exact start.pick (start.size ∙ sym size_now) (low p is law seats at each ways over sets values full.0 start)).1 (λ g d lt.
        (let group = get_or groups g d in
        let at_g : StandsAt groups g group = (lt, get_or_default groups g group d lt) in
        let part = part_at g lt in
        part_picks seats sets values levels group (group_is g group at_g) part.0 (of.each g group part.0 at_g part.1) full.0 once start (here (HasChoice full.0) found.parts g part.0 full.1 part.1)))

    more : (more : List ℕ) × IsIn led.wide more × ((i : ℕ) → get_or levels i 0 ≡ 0 → get_or more i 0 ≡ get_or start.pick i 0)
        × All (λ end. ((0 < get_or levels end.from 0) ⊎ (0 < get_or levels end.to 0)) → (end.from ≢ end.to) → FitsWay more end) ends
    more = all_extended ends led.wide levels led.levels_are within start.pick (in_before ways led.wide now start.pick led.narrowed start_solved.inside)

    -- nothing changed between places that follow none
    core_fits : All (λ way. (get_or levels way.from 0 ≡ 0) → get_or levels way.to 0 ≡ 0 → FitsWay more.0 way) ways
    core_fits k d lt from to =
        let way = get_or ways k d in
        subst (λ (v : ℕ). Has (get_or way.fits.items v 0) (get_or more.0 way.to 0)) (sym (more.2 way.from from))
        (subst (Has (get_or way.fits.items (get_or start.pick way.from 0) 0)) (sym (more.2 way.to to)) ((led.keeps start.pick).0 start_solved.fits k d lt (from, to)))

    abbrev stable_paths : ℕ → List ℕ
    stable_paths = value_at seats more.0

    value_here : (i : ℕ) (s : Seat) → StandsAt seats i s → stable_paths s.router ≡ get_or s.values.items (get_or more.0 i 0) []
    value_here i s st = value_is seats more.0 i s (routers_once p is seats at) st (more.1.size ∙ led.before.size ∙ values.0)

    inside_at : (i : ℕ) (s : Seat) → StandsAt seats i s → get_or more.0 i 0 < length s.values.items
    inside_at i s st = (values.1 i (get_or more.0 i 0) s st).0 (led.before.fewer i (get_or more.0 i 0) (more.1.each i (let a = led.before.size in omega (arith, st.0, a, values.0))))

    abbrev as_picked : Picked seats stable_paths
    as_picked = record { pick = more.0; size = more.1.size ∙ led.before.size ∙ values.0; inside = inside_at; is = λ i s st. sym (value_here i s st) }

    is_stable : IsStable p stable_paths
    is_stable = (law p is stable_paths).1 (fitting_by p is law seats at each ways over sets values stable_paths ends ends_of levels
        (λ i s st.
        (let v = get_or more.0 i 0 in
        let inside = inside_at i s st in
        (v, inside, get_or_default s.values.items v (stable_paths s.router) [] inside ∙ sym (value_here i s st)))) as_picked core_fits more.3)

    -- at a place that follows none nothing changed
    same_at : (i : ℕ) (s : Seat) → StandsAt seats i s → get_or levels i 0 ≡ 0 → stable_paths s.router ≡ full.0 s.router
    same_at i s st flat = value_here i s st ∙ ap (λ (v : ℕ). get_or s.values.items v []) (more.2 i flat) ∙ start.is i s st

    agree_at : (g : ℕ) (group : Group) (part : Component) → StandsAt groups g group → StandsAt found.parts g part → part.follows ≡ false → map stable_paths part.routers ≡ map full.0 part.routers
    agree_at g group part st pt own =
        let first = get_or group.places 0 0 in
        let of_part = of.each g group part st pt in
        elim (cases_lt 0 (get_or levels first 0)) [
          | inl up ↦ elim (cases_lt 1 (length group.picks)) [
            | inl several ↦ absurd (both_ways part.follows own (of_part.follows.1 (several, up)))
            | inr few ↦
                one_of_few (choices_of part) (map stable_paths part.routers) (map full.0 part.routers) (omega (arith, few, as_many seats levels group part of_part))
                (here (HasChoice stable_paths) found.parts g part (has_each stable_paths is_stable) pt) (here (HasChoice full.0) found.parts g part full.1 pt)
          ]
          | inr flat ↦ map_same stable_paths full.0 part.routers (λ u c.
              (let r = router_in seats sets values levels group (group_is g group st) part of_part u c in
              let level : get_or levels r.0 0 ≡ 0 = elim (cases_lt 0 (get_or levels r.0 0)) [
                | inl up ↦
                    let e = only_first g group st (single g group st r.0 r.2 up) r.0 r.2 in
                    let z : 0 < get_or levels first 0 = subst (λ (n : ℕ). 0 < get_or levels n 0) (sym e) up in
                    absurd (omega (arith, z, flat))
                | inr none ↦ omega (arith, none)
              ] in
              subst (λ (v : ℕ). stable_paths v ≡ full.0 v) r.4 (same_at r.0 r.1 r.3 level)))
        ]

    agree : Agree stable_paths paths found.parts
    agree g d lt own =
        let group = group_at g (omega (arith, lt, of.size)) in
        let part = get_or found.parts g d in
        agree_at g group.0 part group.1 (lt, get_or_default found.parts g part d lt) own ∙ full.2 g d lt own

  -- ---- and in one alone

  module _ (one other : ℕ → List ℕ) (one_is : IsStable p one) (other_is : IsStable p other) (agree : Agree one other found.parts) where
    abbrev one_values : Picked seats one
    one_values = values_of one one_is

    abbrev other_values : Picked seats other
    other_values = values_of other other_is

    same_low : (i : ℕ) → i < length levels → get_or levels i 0 ≡ 0 → get_or one_values.pick i 0 ≡ get_or other_values.pick i 0
    same_low i lt flat =
        let s = stands seats i (omega (arith, lt, size_levels)) in
        let a = around i s.0 s.1 in
        let maps : map one a.2.routers ≡ map other a.2.routers = here (λ (part : Component). part.follows ≡ false → map one part.routers ≡ map other part.routers) found.parts a.0 a.2 agree a.4 (leads_at i s.0 s.1 flat) in
        let paths : one s.0.router ≡ other s.0.router = same_in one other a.2.routers s.0.router maps a.6 in
        one_value s.0.values.items (get_or one_values.pick i 0) (get_or other_values.pick i 0) (once i s.0 s.1) (one_values.inside i s.0 s.1) (other_values.inside i s.0 s.1)
        (one_values.is i s.0 s.1 ∙ paths ∙ sym (other_values.is i s.0 s.1))

    same_paths : (u : ℕ) → IsRouter p.net.routers u → one u ≡ other u
    same_paths u router =
        let r = router_at p is law seats at each ways over sets values u router in
        let same = same_everywhere ends led.wide levels led.levels_are within one_values.pick other_values.pick (inside_wide one one_is) (inside_wide other other_is) (at_ends one one_is) (at_ends other other_is) same_low r.0
        (let lt = r.2.0 in omega (arith, lt, size_levels)) in
        subst (λ (v : ℕ). one v ≡ other v) r.3 (sym (one_values.is r.0 r.1 r.2) ∙ ap (λ (v : ℕ). get_or r.1.values.items v []) same ∙ other_values.is r.0 r.1 r.2)

  -- ---- all of them

  -- the seat of a part's least router
  least_of : (group : Group) (part : Component) → IsGroup sets group → IsPartOf seats levels group part → (s : Seat) × StandsAt seats (get_or group.places 0 0) s × (get_or part.routers 0 0 ≡ s.router)
  least_of group part x o =
      let s = stands seats (get_or group.places 0 0) (let inside = x.inside 0 0 x.some in omega (arith, inside, values.0)) in
      (s.0, s.1, o.routers.each 0 s.0 x.some s.1)

  open_part : (h : ℕ) (group : Group) (part : Component) → StandsAt groups h group → StandsAt found.parts h part → IsOpen levels group → (part.follows ≡ false) × (length (choices_of part) ≢ 1)
  open_part h group part st pt open_is =
      let of_part = of.each h group part st pt in (
        elim (cases_Bool part.follows) [ inl flag ↦ absurd (open_is.0 (of_part.follows.0 flag)) | inr own ↦ own ],
        λ e. open_is.1 (sym (as_many seats levels group part of_part) ∙ e),
      )

  pub every : AllSome now → IsEveryStable p found
  every alive = record {
    listed = has_each;
    whole = λ paths have. (stable_paths paths have, is_stable paths have, agree paths have);
    decided = same_paths;
    parts = are_parts;
    routers = λ u. (
      λ router.
          (let r = router_at p is law seats at each ways over sets values u router in
          let a = around r.0 r.1 r.2 in
          (a.0, a.2, a.4.0, a.4.1, subst (Contains a.2.routers) r.3 a.6)),
      λ any.
          (let group = group_at any.0 (omega (arith, any.2, of.size)) in
          let r = router_in seats sets values levels group.0 (group_is any.0 group.0 group.1) any.1 (of.each any.0 group.0 any.1 group.1 (any.2, any.3)) u any.4 in
          subst (IsRouter p.net.routers) r.4 (is_router p is law seats at each ways over sets values r.0 r.1 r.3)),
    );
    apart = are_apart;
    order = λ g h d lt inside.
        (let first = group_at g (omega (arith, lt, inside, of.size)) in
        let next = group_at h (omega (arith, inside, of.size)) in
        let part = get_or found.parts g d in
        let later = get_or found.parts h d in
        let one = least_of first.0 part (group_is g first.0 first.1) (of.each g first.0 part first.1 (omega (arith, lt, inside), get_or_default found.parts g part d (omega (arith, lt, inside)))) in
        let other = least_of next.0 later (group_is h next.0 next.1) (of.each h next.0 later next.1 (inside, get_or_default found.parts h later d inside)) in
        let order : get_or first.0.places 0 0 < get_or next.0.places 0 0 =
        subst (λ (x : Group). get_or x.places 0 0 < get_or next.0.places 0 0) first.1.1
        (subst (λ (x : Group). get_or (get_or groups g first.0).places 0 0 < get_or x.places 0 0) (get_or_default groups h first.0 next.0 next.1.0 ∙ next.1.1) (fall.order g h first.0 lt next.1.0)) in
        let up = routers_rise p is seats at (get_or first.0.places 0 0) (get_or next.0.places 0 0) one.0 other.0 one.1 other.1 order in
        omega (arith, up, one.2, other.2));
    needed = λ any.
        (let group = group_at any.0 (omega (arith, any.2, of.size)) in
        let l = (of.each any.0 group.0 any.1 group.1 (any.2, any.3)).follows.0 any.4 in
        let o = led.needed (any.0, group.0, group.1.0, group.1.1, l) in
        let part = part_at o.0 o.2 in
        (o.0, part.0, part.1.0, part.1.1, open_part o.0 o.1 part.0 (o.2, o.3) part.1 o.4));
    among = among p is law seats at each ways over sets values now narrows ends ends_of levels groups led found.parts of alive;
  }
