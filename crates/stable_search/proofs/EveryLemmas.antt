-- The stable assignments are those that have of each part one of its choices.
use Rattle.std.proofs.Common.{◌≡◌, ◌≢◌, ℕ, zero, suc, ◌<◌, List, [], ◌∷◌, length, get_or, map, refl, sym, ap, subst, ◌∙◌, arith, inl, inr, ◌⊎◌}
use Rattle.std.specs.List.{All, AllPairs, Contains}
use Rattle.std.proofs.lemmas.Bool.{cases_Bool, cases_order, cases_lt, both_ways}
use Rattle.std.proofs.lemmas.List.{length-map, get_or-map, get_or_default, get_or_past, same_lists}
use Rattle.ranked_policy.specs.Paths.{BeginsWith}
use Rattle.ranked_policy.specs.declared.network.Link.{Link}
use Rattle.ranked_policy.specs.Plans.{Plan, IsNetwork, Joins, Linked, IsRouter, numbers}
use Rattle.ranked_policy.specs.Policies.{IsTableOf, Originates}
use Rattle.stable_paths.specs.Stable.{Problem, IsInstance, IsStable}
use Rattle.ranked_policy.proofs.OneTable.{one_table}
use Rattle.stable_paths.proofs.TableLemmas.{linked_is}
use Rattle.stable_search.specs.declared.every.Component.{Component}
use Rattle.stable_search.specs.declared.group.Group.{Group}
use Rattle.stable_search.specs.declared.seat.Seat.{Seat}
use Rattle.stable_search.specs.declared.way.Way.{Way}
use Rattle.stable_search.specs.Fits.{MayStand, FitsAt, FitsPeers, IsFitting, StableIsFitting}
use Rattle.stable_search.specs.Every.{picked_paths, choices_of, ArePlacesIn, HasChoice, IsPart}
use Rattle.stable_search.specs.Picks.{FitsWay, Solves}
use Rattle.stable_search.specs.Seats.{IsSeat, FitsBy, FitsEnd, FitsBoth, StandsAt, IsWayOf, AreWaysOf, IsEndOf, AreEndsOf}
use Rattle.stable_search.specs.Groups.{at_places, IsPickOf, IsGroup, AreValues, IsShown, IsLed, IsPartOf}
use Rattle.stable_search.proofs.ChoiceLemmas.{as_many, path_picked, size_picked}
use Rattle.stable_search.proofs.FitLemmas.{not_nil}
use Rattle.stable_search.proofs.PlaceLemmas.{stands, here}
use Rattle.stable_search.proofs.RelateLemmas.{same_seat}
use Rattle.ranked_policy.proofs.Reached.{linked_back}

pub linked_apart : (net : Plan) → IsNetwork net → (u v : ℕ) → Linked net.links u v → u ≢ v
linked_apart net is u v a same =
    let apart = is.plan.links.apart a.0 a.1 a.2 in
    apart (elim (subst (λ (l : Link). Joins l u v) (sym a.3) a.4) [ inl x ↦ x.0 ∙ (same ∙ sym x.1) | inr x ↦ x.0 ∙ (sym same ∙ sym x.1) ])

-- ---- one end of a link

module _ (p : Problem) (seat : Seat) (x : IsSeat p seat) where
  pub begins : (path : List ℕ) → Contains seat.values.items path → (path ≡ []) ⊎ BeginsWith path x.table.router
  begins path c = elim (x.may path c) [
    | inl own ↦ inr ([], own.1)
    | inr other ↦ elim other.1 [
      | inl none ↦ inl none
      | inr on ↦ inr (on.1.peer ∷ on.1.rest, on.1.whole)
    ]
  ]

  pub end_at : (v : ℕ) (path theirs : List ℕ) → (Originates x.table p.prefix x.table.router → ⊥) → FitsEnd seat v path theirs → FitsAt x.table p.prefix v path theirs
  end_at v path theirs not (inl own) = absurd (not (x.origin.0 own))
  end_at v path theirs not (inr fits) =
      let by : FitsBy seat.policy x.table.router v path theirs = subst (λ (n : ℕ). FitsBy seat.policy n v path theirs) (sym x.of.0) fits in
      record {
        over = by.over;
        best = λ may apart.
            (let b = by.best ((x.speaks.permits (x.table.router ∷ theirs)).1 may) apart in
            ((λ none. not_nil x.table.router b.0.0 (sym b.0.1 ∙ none)), (x.speaks.prefers path (x.table.router ∷ theirs)).0 b.1));
      }

  pub at_end : (v : ℕ) (path theirs : List ℕ) → (path ≡ []) ⊎ BeginsWith path x.table.router
      → ((Originates x.table p.prefix x.table.router → ⊥) → FitsAt x.table p.prefix v path theirs) → FitsEnd seat v path theirs
  at_end v path theirs starts fits = elim (cases_Bool seat.is_origin) [
    | inl own ↦ inl own
    | inr other ↦
        let at = fits (λ o. both_ways seat.is_origin other (x.origin.1 o)) in
        let by : FitsBy seat.policy x.table.router v path theirs = record {
          over = at.over;
          best = λ may apart.
              (let b = at.best ((x.speaks.permits (x.table.router ∷ theirs)).0 may) apart in
              (elim starts [ inl none ↦ absurd (b.0 none) | inr on ↦ on ], (x.speaks.prefers path (x.table.router ∷ theirs)).1 b.1));
        } in
        inr (subst (λ (n : ℕ). FitsBy seat.policy n v path theirs) x.of.0 by)
  ]

-- ---- values for paths

-- of each seat the value that stands for its path
pub record Picked (seats : List Seat) (paths : ℕ → List ℕ) : Type 0 where
  pub pick : List ℕ
  pub size : length pick ≡ length seats
  pub inside : (i : ℕ) (s : Seat) → StandsAt seats i s → get_or pick i 0 < length s.values.items
  pub is : (i : ℕ) (s : Seat) → StandsAt seats i s → get_or s.values.items (get_or pick i 0) [] ≡ paths s.router

pub picked : (seats : List Seat) (paths : ℕ → List ℕ) → ((i : ℕ) (s : Seat) → StandsAt seats i s → Contains s.values.items (paths s.router)) → Picked seats paths
picked [] paths has = record { pick = []; size = refl; inside = λ i s at. absurd (omega (arith, at.0)); is = λ i s at. absurd (omega (arith, at.0)) }
picked (t ∷ ts) paths has =
    let first : Contains t.values.items (paths t.router) = has 0 t (omega arith, refl) in
    let rest : Picked ts paths = picked ts paths (λ i s at. has (suc i) s (omega (arith, at.0), at.1)) in
    record {
      pick = first.0 ∷ rest.pick;
      size = ap suc rest.size;
      inside = λ i s at. inside_at first rest i s at;
      is = λ i s at. is_at first rest i s at;
    }
  where
    inside_at : (first : Contains t.values.items (paths t.router)) (rest : Picked ts paths) (i : ℕ) (s : Seat) → StandsAt (t ∷ ts) i s → get_or (first.0 ∷ rest.pick) i 0 < length s.values.items
    inside_at first rest zero s at = subst (λ (r : Seat). first.0 < length r.values.items) at.1 first.1
    inside_at first rest (suc i) s at = rest.inside i s (omega (arith, at.0), at.1)

    is_at : (first : Contains t.values.items (paths t.router)) (rest : Picked ts paths) (i : ℕ) (s : Seat) → StandsAt (t ∷ ts) i s → get_or s.values.items (get_or (first.0 ∷ rest.pick) i 0) [] ≡ paths s.router
    is_at first rest zero s at =
        subst (λ (r : Seat). get_or r.values.items first.0 [] ≡ paths r.router) at.1 (get_or_default t.values.items first.0 [] (paths t.router) first.1 ∙ first.2)
    is_at first rest (suc i) s at = rest.is i s (omega (arith, at.0), at.1)

pub one_value : (values : List (List ℕ)) (a b : ℕ) → AllPairs (λ path later. path ≢ later) values → a < length values → b < length values → get_or values a [] ≡ get_or values b [] → a ≡ b
one_value values a b apart lt also e = elim (cases_order a b) [
  | inl same ↦ same
  | inr differ ↦ elim differ [
    | inl less ↦ absurd (apart a b [] less also e)
    | inr more ↦ absurd (apart b a [] more lt (sym e))
  ]
]

module _ (p : Problem) (is : IsInstance p) (law : StableIsFitting) (seats : List Seat) (at : map (λ (s : Seat). s.router) seats ≡ numbers p.net.routers) (each : All (IsSeat p) seats)
    (ways : List Way) (over : AreWaysOf p.net.links seats ways) (sets : List ℕ) (values : AreValues seats sets) where
  pub seat_at : (i : ℕ) (s : Seat) → StandsAt seats i s → IsSeat p s
  seat_at i s st = here (IsSeat p) seats i s each st

  pub router_at : (u : ℕ) → IsRouter p.net.routers u → (i : ℕ) × (s : Seat) × StandsAt seats i s × (s.router ≡ u)
  router_at u router =
      let c : Contains (map (λ (s : Seat). s.router) seats) u = subst (λ (xs : List ℕ). Contains xs u) (sym at) router in
      let lt : c.0 < length seats = (let size = length-map seats (λ (s : Seat). s.router) in omega (arith, size, c.1)) in
      let s = stands seats c.0 lt in
      (c.0, s.0, s.1, ap (λ (r : Seat). r.router) (sym s.1.1) ∙ sym (get_or-map (λ (r : Seat). r.router) seats c.0 s.0 u lt) ∙ c.2)

  pub is_router : (i : ℕ) (s : Seat) → StandsAt seats i s → IsRouter p.net.routers s.router
  is_router i s st =
      subst (λ (xs : List ℕ). Contains xs s.router) at
      (i, (let size = length-map seats (λ (r : Seat). r.router) in omega (arith, size, st.0)), get_or-map (λ (r : Seat). r.router) seats i s s.router st.0 ∙ ap (λ (r : Seat). r.router) st.1)

  module _ (paths : ℕ → List ℕ) where
    pub fits_seat : IsFitting p paths → (i : ℕ) (s : Seat) (st : StandsAt seats i s) → FitsPeers p paths (seat_at i s st).table
    fits_seat fitting i s st =
        let f = fitting s.router (is_router i s st) in
        subst (FitsPeers p paths) (one_table p.net s.router f.0 (seat_at i s st).table is.problem.network f.1 (seat_at i s st).of) f.2

    pub has_paths : IsStable p paths → (i : ℕ) (s : Seat) → StandsAt seats i s → Contains s.values.items (paths s.router)
    has_paths stable i s st = (seat_at i s st).has paths stable

    fits_end : IsFitting p paths → (i : ℕ) (s : Seat) → StandsAt seats i s → (v : ℕ) → Linked p.net.links s.router v → FitsEnd s v (paths s.router) (paths v)
    fits_end fitting i s st v linked =
        let x = seat_at i s st in
        at_end p s x v (paths s.router) (paths v) (begins p s x (paths s.router) (has_paths ((law p is paths).1 fitting) i s st))
        (λ not. subst (λ (n : ℕ). FitsAt x.table p.prefix v (paths n) (paths v)) x.of.0
        ((fits_seat fitting i s st).fits v (subst (λ (n : ℕ). Linked p.net.links n v) (sym x.of.0) linked) not))

    pub low : (k : Picked seats paths) (i : ℕ) → get_or k.pick i 0 < 64
    low k i = elim (cases_lt i (length seats)) [
      | inl inside ↦ (let s = stands seats i inside in let lt = k.inside i s.0 s.1 in let few = (seat_at i s.0 s.1).few in omega (arith, lt, few))
      | inr past ↦ (let e = get_or_past k.pick i 0 (omega (arith, past, k.size)) in omega (arith, e))
    ]

    -- the values of a stable assignment solve
    pub solves : IsFitting p paths → (k : Picked seats paths) → Solves ways sets k.pick
    solves fitting k = record {
      inside = record {
        size = k.size ∙ sym values.0;
        low = low k;
        each = λ i lt. (let s = stands seats i (omega (arith, lt, values.0)) in (values.1 i (get_or k.pick i 0) s.0 s.1).1 (k.inside i s.0 s.1));
      };
      fits = λ n d lt. way_fits (get_or ways n d) (over.each n d lt);
    }
      where
        way_fits : (way : Way) → IsWayOf p.net.links seats way → FitsWay k.pick way
        way_fits way w =
            let a = get_or k.pick way.from 0 in
            let b = get_or k.pick way.to 0 in
            let mine = fits_end fitting way.from w.one w.from w.other.router w.linked in
            let theirs = fits_end fitting way.to w.other w.to w.one.router (linked_back p.net.links w.one.router w.other.router w.linked) in
            let both : FitsBoth w.one w.other (paths w.one.router) (paths w.other.router) = (mine, theirs) in
            (w.fits.exact a b (k.inside way.from w.one w.from) (k.inside way.to w.other w.to)).1
            (subst (λ (q : List ℕ). FitsBoth w.one w.other q (get_or w.other.values.items b [])) (sym (k.is way.from w.one w.from))
            (subst (FitsBoth w.one w.other (paths w.one.router)) (sym (k.is way.to w.other w.to)) both))

    -- and they fit at each end of a link
    pub solves_ends : (ends : List Way) → AreEndsOf p.net.links seats ends → IsFitting p paths → (k : Picked seats paths) → All (FitsWay k.pick) ends
    solves_ends ends of fitting k n d lt = end_fits (get_or ends n d) (of.each n d lt)
      where
        end_fits : (end : Way) → IsEndOf p.net.links seats end → FitsWay k.pick end
        end_fits end w =
            let a = get_or k.pick end.from 0 in
            let b = get_or k.pick end.to 0 in
            let theirs = fits_end fitting end.to w.other w.to w.one.router (linked_back p.net.links w.one.router w.other.router w.linked) in
            (w.fits.exact a b (k.inside end.from w.one w.from) (k.inside end.to w.other w.to)).1
            (subst (λ (q : List ℕ). FitsEnd w.other w.one.router q (get_or w.one.values.items a [])) (sym (k.is end.to w.other w.to))
            (subst (FitsEnd w.other w.one.router (paths w.other.router)) (sym (k.is end.from w.one w.from)) theirs))

    -- and an assignment is stable whose values fit over each way between places that follow none, and at both ends of each
    -- link of another
    pub fitting_by : (ends : List Way) → AreEndsOf p.net.links seats ends → (levels : List ℕ) → ((i : ℕ) (s : Seat) → StandsAt seats i s → Contains s.values.items (paths s.router)) → (k : Picked seats paths)
        → All (λ way. (get_or levels way.from 0 ≡ 0) → get_or levels way.to 0 ≡ 0 → FitsWay k.pick way) ways
        → All (λ end. ((0 < get_or levels end.from 0) ⊎ (0 < get_or levels end.to 0)) → (end.from ≢ end.to) → FitsWay k.pick end) ends → IsFitting p paths
    fitting_by ends of levels has k flat_fits fits u router =
        let r = router_at u router in
        let i = r.0 in
        let s = r.1 in
        let x = seat_at i s r.2 in (
          x.table,
          subst (λ (n : ℕ). IsTableOf p.net n x.table) r.3 x.of,
          record {
            may = subst (λ (n : ℕ). MayStand p.net.links p.prefix x.table (paths n)) (sym x.of.0) (x.may (paths s.router) (has i s r.2));
            fits = λ v linked not. fits_at i s r.2 v (subst (λ (n : ℕ). Linked p.net.links n v) x.of.0 linked) not;
          },
        )
      where
        -- over a way between places that follow none
        both_flat : (i : ℕ) (s : Seat) → StandsAt seats i s → (j : ℕ) (t : Seat) → StandsAt seats j t → Linked p.net.links s.router t.router
            → get_or levels i 0 ≡ 0 → get_or levels j 0 ≡ 0 → FitsBoth s t (paths s.router) (paths t.router)
        both_flat i s st j t to linked one_flat other_flat =
            let h = over.all i st.0 j s t st to linked in
            let way = h.1 in
            let w = here (IsWayOf p.net.links seats) ways h.0 way over.each (h.2, h.3) in
            let fits_way : FitsWay k.pick way =
            here (λ (x : Way). get_or levels x.from 0 ≡ 0 → get_or levels x.to 0 ≡ 0 → FitsWay k.pick x) ways h.0 way flat_fits (h.2, h.3)
            (ap (λ (n : ℕ). get_or levels n 0) h.4.0 ∙ one_flat) (ap (λ (n : ℕ). get_or levels n 0) h.4.1 ∙ other_flat) in
            let one : w.one ≡ s = same_seat seats i w.one s (subst (λ (n : ℕ). StandsAt seats n w.one) h.4.0 w.from) st in
            let other : w.other ≡ t = same_seat seats j w.other t (subst (λ (n : ℕ). StandsAt seats n w.other) h.4.1 w.to) to in
            let values_fit = (w.fits.exact (get_or k.pick way.from 0) (get_or k.pick way.to 0) (k.inside way.from w.one w.from) (k.inside way.to w.other w.to)).0 fits_way in
            let paths_fit : FitsBoth w.one w.other (paths w.one.router) (paths w.other.router) =
            subst (FitsBoth w.one w.other (paths w.one.router)) (k.is way.to w.other w.to)
            (subst (λ (q : List ℕ). FitsBoth w.one w.other q (get_or w.other.values.items (get_or k.pick way.to 0) [])) (k.is way.from w.one w.from) values_fit) in
            subst (λ (r : Seat). FitsBoth s r (paths s.router) (paths r.router)) other
            (subst (λ (r : Seat). FitsBoth r w.other (paths r.router) (paths w.other.router)) one paths_fit)

        apart : (i : ℕ) (s : Seat) → StandsAt seats i s → (j : ℕ) (t : Seat) → StandsAt seats j t → Linked p.net.links s.router t.router → j ≡ i → ⊥
        apart i s st j t to linked e =
            let same : t ≡ s = same_seat seats i t s (subst (λ (n : ℕ). StandsAt seats n t) e to) st in
            linked_apart p.net is.problem.network s.router t.router linked (ap (λ (r : Seat). r.router) (sym same))

        -- at the second end of a link
        end_fits : (i : ℕ) (s : Seat) → StandsAt seats i s → (j : ℕ) (t : Seat) → StandsAt seats j t → Linked p.net.links s.router t.router
            → (0 < get_or levels i 0) ⊎ (0 < get_or levels j 0) → FitsEnd t s.router (paths t.router) (paths s.router)
        end_fits i s st j t to linked some =
            let h = of.all i st.0 j s t st to linked in
            let end = h.1 in
            let w = here (IsEndOf p.net.links seats) ends h.0 end of.each (h.2, h.3) in
            let some_at : (0 < get_or levels end.from 0) ⊎ (0 < get_or levels end.to 0) = elim some [
              | inl up ↦ inl (subst (λ (n : ℕ). 0 < get_or levels n 0) (sym h.4.0) up)
              | inr up ↦ inr (subst (λ (n : ℕ). 0 < get_or levels n 0) (sym h.4.1) up)
            ] in
            let differ : end.from ≢ end.to = λ e. apart i s st j t to linked (sym h.4.1 ∙ sym e ∙ h.4.0) in
            let fits_way : FitsWay k.pick end =
            here (λ (x : Way). ((0 < get_or levels x.from 0) ⊎ (0 < get_or levels x.to 0)) → (x.from ≢ x.to) → FitsWay k.pick x) ends h.0 end fits (h.2, h.3) some_at differ in
            let one : w.one ≡ s = same_seat seats i w.one s (subst (λ (n : ℕ). StandsAt seats n w.one) h.4.0 w.from) st in
            let other : w.other ≡ t = same_seat seats j w.other t (subst (λ (n : ℕ). StandsAt seats n w.other) h.4.1 w.to) to in
            let values_fit = (w.fits.exact (get_or k.pick end.from 0) (get_or k.pick end.to 0) (k.inside end.from w.one w.from) (k.inside end.to w.other w.to)).0 fits_way in
            let paths_fit : FitsEnd w.other w.one.router (paths w.other.router) (paths w.one.router) =
            subst (FitsEnd w.other w.one.router (paths w.other.router)) (k.is end.from w.one w.from)
            (subst (λ (q : List ℕ). FitsEnd w.other w.one.router q (get_or w.one.values.items (get_or k.pick end.from 0) [])) (k.is end.to w.other w.to) values_fit) in
            subst (λ (r : Seat). FitsEnd r s.router (paths r.router) (paths s.router)) other
            (subst (λ (r : Seat). FitsEnd w.other r.router (paths w.other.router) (paths r.router)) one paths_fit)

        both_beside : (i : ℕ) (s : Seat) → StandsAt seats i s → (j : ℕ) (t : Seat) → StandsAt seats j t → Linked p.net.links s.router t.router
            → (0 < get_or levels i 0) ⊎ (0 < get_or levels j 0) → FitsBoth s t (paths s.router) (paths t.router)
        both_beside i s st j t to linked some = (
          end_fits j t to i s st (linked_back p.net.links s.router t.router linked) (elim some [ inl up ↦ inr up | inr up ↦ inl up ]),
          end_fits i s st j t to linked some,
        )

        both_at : (i : ℕ) (s : Seat) → StandsAt seats i s → (j : ℕ) (t : Seat) → StandsAt seats j t → Linked p.net.links s.router t.router → FitsBoth s t (paths s.router) (paths t.router)
        both_at i s st j t to linked = elim (cases_lt 0 (get_or levels i 0)) [
          | inl up ↦ both_beside i s st j t to linked (inl up)
          | inr one_flat ↦ elim (cases_lt 0 (get_or levels j 0)) [
            | inl up ↦ both_beside i s st j t to linked (inr up)
            | inr other_flat ↦ both_flat i s st j t to linked (omega (arith, one_flat)) (omega (arith, other_flat))
          ]
        ]

        fits_at : (i : ℕ) (s : Seat) (st : StandsAt seats i s) (v : ℕ) → Linked p.net.links s.router v → (Originates (seat_at i s st).table p.prefix (seat_at i s st).table.router → ⊥)
            → FitsAt (seat_at i s st).table p.prefix v (paths (seat_at i s st).table.router) (paths v)
        fits_at i s st v linked not =
            let x = seat_at i s st in
            let r = router_at v (linked_is p.net is.problem.network s.router v linked) in
            let both = both_at i s st r.0 r.1 r.2 (subst (Linked p.net.links s.router) (sym r.3) linked) in
            let end : FitsEnd s v (paths s.router) (paths v) = subst (λ (n : ℕ). FitsEnd s n (paths s.router) (paths n)) r.3 both.0 in
            subst (λ (n : ℕ). FitsAt x.table p.prefix v (paths n) (paths v)) (sym x.of.0) (end_at p s x v (paths s.router) (paths v) not end)

-- ---- parts

pub at_index : (places : List ℕ) (pick : List ℕ) (k : ℕ) → k < length places → get_or (at_places pick places) k 0 ≡ get_or pick (get_or places k 0) 0
at_index places pick k lt = get_or-map (λ (i : ℕ). get_or pick i 0) places k 0 0 lt

rising_once : (xs : List ℕ) (i j : ℕ) → AllPairs (λ u v. u < v) xs → i < length xs → j < length xs → get_or xs i 0 ≡ get_or xs j 0 → i ≡ j
rising_once xs i j rising lt also e = elim (cases_order i j) [
  | inl same ↦ same
  | inr differ ↦ elim differ [
    | inl less ↦ (let up : get_or xs i 0 < get_or xs j 0 = rising i j 0 less also in absurd (omega (arith, up, e)))
    | inr more ↦ (let up : get_or xs j 0 < get_or xs i 0 = rising j i 0 more lt in absurd (omega (arith, up, e)))
  ]
]

-- ---- routers of seats

module _ (p : Problem) (is : IsInstance p) (seats : List Seat) (at : map (λ (s : Seat). s.router) seats ≡ numbers p.net.routers) where
  pub routers_once : (i j : ℕ) (s t : Seat) → StandsAt seats i s → StandsAt seats j t → s.router ≡ t.router → i ≡ j
  routers_once i j s t st to e =
      let f : Seat → ℕ = λ r. r.router in
      let size = length-map seats f in
      let rising : AllPairs (λ u v. u < v) (map f seats) = subst (AllPairs (λ u v. u < v)) (sym at) is.problem.network.plan.rising in
      rising_once (map f seats) i j rising (omega (arith, size, st.0)) (omega (arith, size, to.0))
      (get_or-map f seats i s 0 st.0 ∙ ap f st.1 ∙ e ∙ ap f (sym to.1) ∙ sym (get_or-map f seats j t 0 to.0))

  pub routers_rise : (i j : ℕ) (s t : Seat) → StandsAt seats i s → StandsAt seats j t → i < j → s.router < t.router
  routers_rise i j s t st to lt =
      let f : Seat → ℕ = λ r. r.router in
      let size = length-map seats f in
      let rising : AllPairs (λ u v. u < v) (map f seats) = subst (AllPairs (λ u v. u < v)) (sym at) is.problem.network.plan.rising in
      let up : get_or (map f seats) i 0 < get_or (map f seats) j 0 = rising i j 0 lt (omega (arith, size, to.0)) in
      let one : get_or (map f seats) i 0 ≡ s.router = get_or-map f seats i s 0 st.0 ∙ ap f st.1 in
      let other : get_or (map f seats) j 0 ≡ t.router = get_or-map f seats j t 0 to.0 ∙ ap f to.1 in
      omega (arith, up, one, other)

-- ---- a part

module _ (seats : List Seat) (sets : List ℕ) (values : AreValues seats sets) (levels : List ℕ) (group : Group) (is : IsGroup sets group) (part : Component) (of : IsPartOf seats levels group part) where
  seat_of : (k : ℕ) → k < length group.places → (s : Seat) × StandsAt seats (get_or group.places k 0) s
  seat_of k lt = stands seats (get_or group.places k 0) (let inside = is.inside k 0 lt in omega (arith, inside, values.0))

  count : length (choices_of part) ≡ length group.picks
  count = as_many seats levels group part of

  -- the part's choices are those that the group's picks stand for
  shown : (j : ℕ) → j < length group.picks → IsShown seats group.places (get_or group.picks j []) (get_or (choices_of part) j [])
  shown j jlt =
      let pick : List ℕ = get_or group.picks j [] in
      let of_pick : IsPickOf sets group.places pick = is.picks j [] jlt in
      let choice : get_or (choices_of part) j [] ≡ picked_paths part.values pick =
      get_or-map (picked_paths part.values) part.picks j [] [] (omega (arith, jlt, ap length of.picks)) ∙ ap (λ (ps : List (List ℕ)). picked_paths part.values (get_or ps j [])) of.picks in
      subst (IsShown seats group.places pick) (sym choice) (record {
        size = size_picked part.values pick (of_pick.size ∙ sym of.values.size) ∙ of.values.size;
        each = λ k s klt st.
            path_picked part.values pick k (omega (arith, klt, of.values.size)) (omega (arith, klt, of_pick.size))
            ∙ ap (λ (vs : List (List ℕ)). get_or vs (get_or pick k 0) []) (of.values.each k s klt st);
      })

  -- a pick of the group that stands for a choice of the part
  pick_path : (j k : ℕ) → j < length group.picks → k < length group.places → (s : Seat) → StandsAt seats (get_or group.places k 0) s
      → (get_or (get_or group.picks j []) k 0 < length s.values.items)
      × (get_or (get_or (choices_of part) j []) k [] ≡ get_or s.values.items (get_or (get_or group.picks j []) k 0) [])
  pick_path j k jlt klt s st =
      ((values.1 (get_or group.places k 0) (get_or (get_or group.picks j []) k 0) s st).0 ((is.picks j [] jlt).each k klt), (shown j jlt).each k s klt st)

  pub choice_size : (j : ℕ) → j < length group.picks → length (get_or (choices_of part) j []) ≡ length part.routers
  choice_size j jlt = (shown j jlt).size ∙ sym of.routers.size

  module _ (paths : ℕ → List ℕ) where
    pub has_at : (j : ℕ) → j < length group.picks → get_or (choices_of part) j [] ≡ map paths part.routers → (k : ℕ) → k < length group.places → (s : Seat) → StandsAt seats (get_or group.places k 0) s
        → get_or s.values.items (get_or (get_or group.picks j []) k 0) [] ≡ paths s.router
    has_at j jlt e k klt s st =
        sym (pick_path j k jlt klt s st).1
        ∙ ap (λ (c : List (List ℕ)). get_or c k []) e
        ∙ get_or-map paths part.routers k 0 [] (omega (arith, klt, of.routers.size))
        ∙ ap paths (of.routers.each k s klt st)

    -- where the part has a choice, each router of it has one of its values
    pub part_has : HasChoice paths part → (i : ℕ) (s : Seat) → Contains group.places i → StandsAt seats i s → Contains s.values.items (paths s.router)
    part_has c i s place st =
        let jlt : c.0 < length group.picks = omega (arith, c.1, count) in
        let e : get_or (choices_of part) c.0 [] ≡ map paths part.routers = get_or_default (choices_of part) c.0 [] (map paths part.routers) c.1 ∙ c.2 in
        let klt : place.0 < length group.places = place.1 in
        let i_is : get_or group.places place.0 0 ≡ i = get_or_default group.places place.0 0 i klt ∙ place.2 in
        let here_at : StandsAt seats (get_or group.places place.0 0) s = subst (λ (n : ℕ). StandsAt seats n s) (sym i_is) st in
        let v = get_or (get_or group.picks c.0 []) place.0 0 in
        let inside : v < length s.values.items = (pick_path c.0 place.0 jlt klt s here_at).0 in
        (v, inside, get_or_default s.values.items v (paths s.router) [] inside ∙ has_at c.0 jlt e place.0 klt s here_at)

    -- and its values are one of the group's picks
    pub part_picks : ((i : ℕ) (s : Seat) → StandsAt seats i s → AllPairs (λ path later. path ≢ later) s.values.items) → (k : Picked seats paths) → HasChoice paths part → Contains group.picks (at_places k.pick group.places)
    part_picks once k c =
        let jlt : c.0 < length group.picks = omega (arith, c.1, count) in
        let e : get_or (choices_of part) c.0 [] ≡ map paths part.routers = get_or_default (choices_of part) c.0 [] (map paths part.routers) c.1 ∙ c.2 in
        let pick : List ℕ = get_or group.picks c.0 [] in
        let of_pick : IsPickOf sets group.places pick = is.picks c.0 [] jlt in
        let same : pick ≡ at_places k.pick group.places =
        same_lists pick (at_places k.pick group.places) (of_pick.size ∙ sym (length-map group.places (λ (i : ℕ). get_or k.pick i 0))) (λ n d lt.
        (let klt : n < length group.places = omega (arith, lt, of_pick.size) in
        let s = seat_of n klt in
        let i = get_or group.places n 0 in
        let equal : get_or pick n 0 ≡ get_or k.pick i 0 =
        one_value s.0.values.items (get_or pick n 0) (get_or k.pick i 0) (once i s.0 s.1) (pick_path c.0 n jlt klt s.0 s.1).0 (k.inside i s.0 s.1) (has_at c.0 jlt e n klt s.0 s.1 ∙ sym (k.is i s.0 s.1)) in
        get_or_default pick n d 0 lt ∙ equal ∙ sym (at_index group.places k.pick n klt) ∙ get_or_default (at_places k.pick group.places) n 0 d (omega (arith, klt, length-map group.places (λ (i : ℕ). get_or k.pick i 0))))) in
        (c.0, jlt, get_or_default group.picks c.0 (at_places k.pick group.places) [] jlt ∙ same)

    -- a pick of the group that is of an assignment's values stands for its choice
    pub picks_part : (k : Picked seats paths) → Contains group.picks (at_places k.pick group.places) → HasChoice paths part
    picks_part k c =
        let jlt : c.0 < length group.picks = c.1 in
        let pick : List ℕ = get_or group.picks c.0 [] in
        let pick_is : pick ≡ at_places k.pick group.places = get_or_default group.picks c.0 [] (at_places k.pick group.places) jlt ∙ c.2 in
        let choice : List (List ℕ) = get_or (choices_of part) c.0 [] in
        let same : choice ≡ map paths part.routers =
        same_lists choice (map paths part.routers) (choice_size c.0 jlt ∙ sym (length-map part.routers paths)) (λ n d lt.
        (let size = choice_size c.0 jlt in
        let klt : n < length group.places = omega (arith, lt, size, of.routers.size) in
        let s = seat_of n klt in
        let value : get_or pick n 0 ≡ get_or k.pick (get_or group.places n 0) 0 = ap (λ (q : List ℕ). get_or q n 0) pick_is ∙ at_index group.places k.pick n klt in
        get_or_default choice n d [] lt ∙ (pick_path c.0 n jlt klt s.0 s.1).1 ∙ ap (λ (v : ℕ). get_or s.0.values.items v []) value ∙ k.is (get_or group.places n 0) s.0 s.1
        ∙ ap paths (sym (of.routers.each n s.0 klt s.1)) ∙ sym (get_or-map paths part.routers n 0 d (omega (arith, lt, size))))) in
        (c.0, omega (arith, jlt, count), get_or_default (choices_of part) c.0 (map paths part.routers) [] (omega (arith, jlt, count)) ∙ same)

  -- a pick has a place for each router, among its paths
  places_in : (j : ℕ) → j < length group.picks → ArePlacesIn part.values (get_or group.picks j [])
  places_in j jlt = record {
    size = (is.picks j [] jlt).size ∙ sym of.values.size;
    each = λ k lt.
        (let klt : k < length group.places = omega (arith, lt, of.values.size) in
        let s = seat_of k klt in
        let paths : get_or part.values k [] ≡ s.0.values.items = of.values.each k s.0 klt s.1 in
        subst (λ (ps : List (List ℕ)). get_or (get_or group.picks j []) k 0 < length ps) (sym paths) (pick_path j k jlt klt s.0 s.1).0);
  }

  -- the part's routers differ, its choices have a path for each, and none is listed twice
  pub is_part : ((i : ℕ) (s : Seat) → StandsAt seats i s → AllPairs (λ path later. path ≢ later) s.values.items)
      → ((i j : ℕ) (s t : Seat) → StandsAt seats i s → StandsAt seats j t → i < j → s.router < t.router)
      → (IsLed levels group → length group.places ≡ 1) → IsPart part
  is_part once routers_rise single = record {
    some = (let some = is.some in omega (arith, some, of.routers.size));
    rising = λ a b d lt inside.
        (let alt : a < length group.places = omega (arith, lt, inside, of.routers.size) in
        let blt : b < length group.places = omega (arith, inside, of.routers.size) in
        let s = seat_of a alt in
        let t = seat_of b blt in
        let up = routers_rise (get_or group.places a 0) (get_or group.places b 0) s.0 t.0 s.1 t.1 (is.rising a b 0 lt blt) in
        let one : get_or part.routers a d ≡ s.0.router = get_or_default part.routers a d 0 (omega (arith, lt, inside)) ∙ of.routers.each a s.0 alt s.1 in
        let other : get_or part.routers b d ≡ t.0.router = get_or_default part.routers b d 0 inside ∙ of.routers.each b t.0 blt t.1 in
        omega (arith, up, one, other));
    values = of.values.size ∙ sym of.routers.size;
    picks = subst (All (ArePlacesIn part.values)) (sym of.picks) (λ j d lt.
        subst (ArePlacesIn part.values) (get_or_default group.picks j [] d lt) (places_in j lt));
    whole = λ j d lt. ap length (get_or_default (choices_of part) j d [] lt) ∙ choice_size j (omega (arith, lt, count));
    once = λ a b d lt inside e.
        (let alt : a < length group.picks = omega (arith, lt, inside, count) in
        let blt : b < length group.picks = omega (arith, inside, count) in
        let one : List ℕ = get_or group.picks a [] in
        let other : List ℕ = get_or group.picks b [] in
        let choices : get_or (choices_of part) a [] ≡ get_or (choices_of part) b [] = get_or_default (choices_of part) a [] d (omega (arith, lt, inside)) ∙ e ∙ get_or_default (choices_of part) b d [] inside in
        let of_one : IsPickOf sets group.places one = is.picks a [] alt in
        let of_other : IsPickOf sets group.places other = is.picks b [] blt in
        let same : one ≡ other =
        same_lists one other (of_one.size ∙ sym of_other.size) (λ n e2 nlt.
        (let klt : n < length group.places = omega (arith, nlt, of_one.size) in
        let s = seat_of n klt in
        let i = get_or group.places n 0 in
        let equal : get_or one n 0 ≡ get_or other n 0 =
        one_value s.0.values.items (get_or one n 0) (get_or other n 0) (once i s.0 s.1) (pick_path a n alt klt s.0 s.1).0 (pick_path b n blt klt s.0 s.1).0
        (sym (pick_path a n alt klt s.0 s.1).1 ∙ ap (λ (c : List (List ℕ)). get_or c n []) choices ∙ (pick_path b n blt klt s.0 s.1).1) in
        get_or_default one n e2 0 nlt ∙ equal ∙ get_or_default other n 0 e2 (omega (arith, klt, of_other.size)))) in
        is.once a b [] lt blt same);
    alone = λ follows.
        (let led = of.follows.0 follows in
        (omega (arith, single led, of.routers.size), (let more = led.0 in omega (arith, more, count))));
  }

  -- its routers are those at the group's places
  pub router_in : (u : ℕ) → Contains part.routers u → (i : ℕ) × (s : Seat) × Contains group.places i × StandsAt seats i s × (s.router ≡ u)
  router_in u c =
      let klt : c.0 < length group.places = omega (arith, c.1, of.routers.size) in
      let s = seat_of c.0 klt in
      let i = get_or group.places c.0 0 in
      (i, s.0, (c.0, klt, get_or_default group.places c.0 i 0 klt), s.1, sym (of.routers.each c.0 s.0 klt s.1) ∙ get_or_default part.routers c.0 0 u c.1 ∙ c.2)

  pub in_router : (i : ℕ) (s : Seat) → Contains group.places i → StandsAt seats i s → Contains part.routers s.router
  in_router i s c st =
      let klt : c.0 < length group.places = c.1 in
      let i_is : get_or group.places c.0 0 ≡ i = get_or_default group.places c.0 0 i klt ∙ c.2 in
      let lt : c.0 < length part.routers = omega (arith, klt, of.routers.size) in
      (c.0, lt, get_or_default part.routers c.0 s.router 0 lt ∙ of.routers.each c.0 s klt (subst (λ (n : ℕ). StandsAt seats n s) (sym i_is) st))
