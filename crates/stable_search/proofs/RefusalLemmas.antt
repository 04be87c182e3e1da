-- What a refusal of a search says of routers.
use Rattle.std.proofs.Common.{◌≡◌, ◌≢◌, ℕ, zero, suc, ◌<◌, ◌≤◌, ◌==◌, Bool, cond, List, [], ◌∷◌, length, get_or, map, refl, sym, ap, subst, ◌∙◌, eq-eqb, ne_eqb, arith}
use Rattle.std.specs.Prelude.{Result, Ok, Err, IfErr, IsErrAnd}
use Rattle.std.specs.List.{All, Contains}
use Rattle.std.proofs.lemmas.List.{length-map, get_or-map, get_or_default, same_lists}
use Rattle.ranked_policy.specs.Plans.{Linked, IsRouter, numbers}
use Rattle.ranked_policy.specs.Policies.{IsTableOf}
use Rattle.stable_paths.specs.Stable.{Problem, IsInstance}
use Rattle.stable_search.specs.declared.every.Component.{Component}
use Rattle.stable_search.specs.declared.group.Group.{Group}
use Rattle.stable_search.specs.declared.limits.SearchLimits.{SearchLimits}
use Rattle.stable_search.specs.declared.refusal.SearchError.{SearchError}
use Rattle.stable_search.specs.declared.refusal.SearchError.TheVariants as refusals
use Rattle.stable_search.specs.declared.seat.Seat.{Seat}
use Rattle.stable_search.specs.declared.way.Way.{Way}
use Rattle.stable_search.specs.Fits.{MayStand, FitsAt, FitTogether, StableIsFitting}
use Rattle.stable_search.specs.Groups.{at_places, AreValues, AreRoutersAt, ArePartsOf, ArePlaces, FitsBetween, HasMorePicks, RefusesPlaces}
use Rattle.stable_search.specs.Picks.{FitsWay}
use Rattle.stable_search.specs.Refusals.{AreFew, AreSomeRouters, HasMoreChoices, IsPathsRefusal, IsRefusal}
use Rattle.stable_search.specs.Seats.{IsSeat, FitsEnd, FitsBoth, StandsAt, IsWayOf, AreWaysOf}
use Rattle.stable_search.proofs.ChoiceLemmas.{as_many}
use Rattle.stable_search.proofs.EveryLemmas.{end_at, one_value, is_router, routers_once, routers_rise}
use Rattle.stable_search.proofs.PlaceLemmas.{stands, here}
use Rattle.stable_search.proofs.RelateLemmas.{same_seat}

-- ---- a pick as an assignment

-- of the router of a seat, what the seat and the number at its place give
pub by_seat : {X : Type 0} → (Seat → ℕ → X) → X → List Seat → List ℕ → ℕ → X
by_seat gives none [] ns u = none
by_seat gives none (s ∷ ss) [] u = none
by_seat gives none (s ∷ ss) (n ∷ ns) u = cond (s.router == u) (gives s n) (by_seat gives none ss ns u)

pub by_seat_is : {X : Type 0} (gives : Seat → ℕ → X) (none : X) (seats : List Seat) (ns : List ℕ) (i : ℕ) (s : Seat)
    → ((a b : ℕ) (x y : Seat) → StandsAt seats a x → StandsAt seats b y → x.router ≡ y.router → a ≡ b) → StandsAt seats i s → length ns ≡ length seats → by_seat gives none seats ns s.router ≡ gives s (get_or ns i 0)
unfolding by_seat
by_seat_is gives none [] ns i s once st size = absurd (omega (arith, st.0))
by_seat_is gives none (t ∷ ts) [] i s once st size = absurd (omega (arith, size))
by_seat_is gives none (t ∷ ts) (n ∷ ns) zero s once st size =
    ap (λ (b : Bool). cond b (gives t n) (by_seat gives none ts ns s.router)) (eq-eqb t.router s.router (ap (λ (r : Seat). r.router) st.1)) ∙ ap (λ (r : Seat). gives r n) st.1
by_seat_is gives none (t ∷ ts) (n ∷ ns) (suc i) s once st size =
    let differ : t.router ≢ s.router = λ e. (let z : 0 ≡ suc i = once 0 (suc i) t s (omega arith, refl) st e in absurd (omega (arith, z))) in
    ap (λ (b : Bool). cond b (gives t n) (by_seat gives none ts ns s.router)) (ne_eqb t.router s.router differ)
    ∙ by_seat_is gives none ts ns i s (λ a b x y xa yb e. (let same : suc a ≡ suc b = once (suc a) (suc b) x y (omega (arith, xa.0), xa.1) (omega (arith, yb.0), yb.1) e in omega (arith, same))) (omega (arith, st.0), st.1) (omega (arith, size))

-- the path that a pick gives a router
abbrev pub value_at : List Seat → List ℕ → ℕ → List ℕ
value_at seats pick u = by_seat (λ s v. get_or s.values.items v []) [] seats pick u

pub value_is : (seats : List Seat) (pick : List ℕ) (i : ℕ) (s : Seat) → ((a b : ℕ) (x y : Seat) → StandsAt seats a x → StandsAt seats b y → x.router ≡ y.router → a ≡ b) → StandsAt seats i s → length pick ≡ length seats
    → value_at seats pick s.router ≡ get_or s.values.items (get_or pick i 0) []
value_is seats pick i s once st size = by_seat_is (λ s v. get_or s.values.items v []) [] seats pick i s once st size

-- what fits together of one assignment does of another that has the same paths at the routers
pub together_same : (p : Problem) (routers : List ℕ) (one other : ℕ → List ℕ) → ((u : ℕ) → Contains routers u → one u ≡ other u) → FitTogether p routers one → FitTogether p routers other
together_same p routers one other same fit u c =
    let f = fit u c in
    let mine : one f.0.router ≡ other f.0.router = same f.0.router (subst (Contains routers) (sym f.1.0) c) in (
      f.0,
      f.1,
      record {
        may = subst (MayStand p.net.links p.prefix f.0) mine f.2.may;
        fits = λ v cv linked not.
            subst (λ (path : List ℕ). FitsAt f.0 p.prefix v path (other v)) mine
            (subst (FitsAt f.0 p.prefix v (one f.0.router)) (same v cv) (f.2.fits v cv linked not));
      },
    )

module _ (p : Problem) (is : IsInstance p) (law : StableIsFitting) (seats : List Seat) (at : map (λ (s : Seat). s.router) seats ≡ numbers p.net.routers) (each : All (IsSeat p) seats)
    (ways : List Way) (over : AreWaysOf p.net.links seats ways) (sets : List ℕ) (values : AreValues seats sets) where
  module _ (places routers : List ℕ) (are : ArePlaces sets places) (of : AreRoutersAt seats places routers) where
    seat_of : (k : ℕ) → k < length places → (s : Seat) × StandsAt seats (get_or places k 0) s
    seat_of k lt = stands seats (get_or places k 0) (let inside = are.inside k 0 lt in omega (arith, inside, values.0))

    -- the seat of one of the routers
    seat_in : (u : ℕ) → Contains routers u → (i : ℕ) × (s : Seat) × Contains places i × StandsAt seats i s × (s.router ≡ u)
    seat_in u c =
        let klt : c.0 < length places = omega (arith, c.1, of.size) in
        let s = seat_of c.0 klt in
        let i = get_or places c.0 0 in
        (i, s.0, (c.0, klt, get_or_default places c.0 i 0 klt), s.1, sym (of.each c.0 s.0 klt s.1) ∙ get_or_default routers c.0 0 u c.1 ∙ c.2)

    pub some_routers : AreSomeRouters p routers
    some_routers = record {
      some = (let some = are.some in omega (arith, some, of.size));
      rising = λ a b d lt inside.
          (let alt : a < length places = omega (arith, lt, inside, of.size) in
          let blt : b < length places = omega (arith, inside, of.size) in
          let s = seat_of a alt in
          let t = seat_of b blt in
          let up = routers_rise p is seats at (get_or places a 0) (get_or places b 0) s.0 t.0 s.1 t.1 (are.rising a b 0 lt blt) in
          let one : get_or routers a d ≡ s.0.router = get_or_default routers a d 0 (omega (arith, lt, inside)) ∙ of.each a s.0 alt s.1 in
          let other : get_or routers b d ≡ t.0.router = get_or_default routers b d 0 inside ∙ of.each b t.0 blt t.1 in
          omega (arith, up, one, other));
      known = λ k d lt.
          (let klt : k < length places = omega (arith, lt, of.size) in
          let s = seat_of k klt in
          let same : get_or routers k d ≡ s.0.router = get_or_default routers k d 0 lt ∙ of.each k s.0 klt s.1 in
          subst (IsRouter p.net.routers) (sym same) (is_router p is law seats at each ways over sets values (get_or places k 0) s.0 s.1));
    }

    module _ (pick : List ℕ) (fit : FitsBetween ways sets places pick) where
      inside_at : (i : ℕ) (s : Seat) → Contains places i → StandsAt seats i s → get_or pick i 0 < length s.values.items
      inside_at i s c st = (values.1 i (get_or pick i 0) s st).0 (fit.each i c)

      pub path_is : (i : ℕ) (s : Seat) → StandsAt seats i s → value_at seats pick s.router ≡ get_or s.values.items (get_or pick i 0) []
      path_is i s st = value_is seats pick i s (routers_once p is seats at) st (fit.size ∙ values.0)

      has_path : (i : ℕ) (s : Seat) → Contains places i → StandsAt seats i s → Contains s.values.items (value_at seats pick s.router)
      has_path i s c st =
          let v = get_or pick i 0 in
          let inside = inside_at i s c st in
          (v, inside, get_or_default s.values.items v (value_at seats pick s.router) [] inside ∙ sym (path_is i s st))

      both_at : (i : ℕ) (s : Seat) → Contains places i → StandsAt seats i s → (j : ℕ) (t : Seat) → Contains places j → StandsAt seats j t → Linked p.net.links s.router t.router
          → FitsBoth s t (value_at seats pick s.router) (value_at seats pick t.router)
      both_at i s ci st j t cj to linked =
          let h = over.all i st.0 j s t st to linked in
          let way = h.1 in
          let w = here (IsWayOf p.net.links seats) ways h.0 way over.each (h.2, h.3) in
          let from_in : Contains places way.from = subst (Contains places) (sym h.4.0) ci in
          let to_in : Contains places way.to = subst (Contains places) (sym h.4.1) cj in
          let fits : FitsWay pick way = here (λ (x : Way). Contains places x.from → Contains places x.to → FitsWay pick x) ways h.0 way fit.fits (h.2, h.3) from_in to_in in
          let one : w.one ≡ s = same_seat seats i w.one s (subst (λ (n : ℕ). StandsAt seats n w.one) h.4.0 w.from) st in
          let other : w.other ≡ t = same_seat seats j w.other t (subst (λ (n : ℕ). StandsAt seats n w.other) h.4.1 w.to) to in
          let values_fit = (w.fits.exact (get_or pick way.from 0) (get_or pick way.to 0) (inside_at way.from w.one from_in w.from) (inside_at way.to w.other to_in w.to)).0 fits in
          let paths_fit : FitsBoth w.one w.other (value_at seats pick w.one.router) (value_at seats pick w.other.router) =
          subst (FitsBoth w.one w.other (value_at seats pick w.one.router)) (sym (path_is way.to w.other w.to))
          (subst (λ (q : List ℕ). FitsBoth w.one w.other q (get_or w.other.values.items (get_or pick way.to 0) [])) (sym (path_is way.from w.one w.from)) values_fit) in
          subst (λ (r : Seat). FitsBoth s r (value_at seats pick s.router) (value_at seats pick r.router)) other
          (subst (λ (r : Seat). FitsBoth r w.other (value_at seats pick r.router) (value_at seats pick w.other.router)) one paths_fit)

      -- what a pick gives the routers fits
      pub together : FitTogether p routers (value_at seats pick)
      together u c =
          let r = seat_in u c in
          let s = r.1 in
          let x = here (IsSeat p) seats r.0 s each r.3 in (
            x.table,
            subst (λ (n : ℕ). IsTableOf p.net n x.table) r.4 x.of,
            record {
              may = subst (λ (n : ℕ). MayStand p.net.links p.prefix x.table (value_at seats pick n)) (sym x.of.0) (x.may (value_at seats pick s.router) (has_path r.0 s r.2 r.3));
              fits = λ v cv linked not.
                  (let t = seat_in v cv in
                  let both = both_at r.0 s r.2 r.3 t.0 t.1 t.2 t.3 (subst (Linked p.net.links s.router) (sym t.4) (subst (λ (n : ℕ). Linked p.net.links n v) x.of.0 linked)) in
                  let end : FitsEnd s v (value_at seats pick s.router) (value_at seats pick v) = subst (λ (n : ℕ). FitsEnd s n (value_at seats pick s.router) (value_at seats pick n)) t.4 both.0 in
                  subst (λ (n : ℕ). FitsAt x.table p.prefix v (value_at seats pick n) (value_at seats pick v)) (sym x.of.0) (end_at p s x v (value_at seats pick s.router) (value_at seats pick v) not end));
            },
          )

      choice_at : (k : ℕ) (s : Seat) → k < length places → StandsAt seats (get_or places k 0) s → get_or (map (value_at seats pick) routers) k [] ≡ get_or s.values.items (get_or pick (get_or places k 0) 0) []
      choice_at k s klt st =
          get_or-map (value_at seats pick) routers k 0 [] (omega (arith, klt, of.size)) ∙ ap (value_at seats pick) (of.each k s klt st) ∙ path_is (get_or places k 0) s st

    -- picks that give the routers the same paths are the same at the places
    same_picks : (one other : List ℕ) → FitsBetween ways sets places one → FitsBetween ways sets places other → map (value_at seats one) routers ≡ map (value_at seats other) routers → at_places one places ≡ at_places other places
    same_picks one other fit fits e =
        let a = length-map places (λ (i : ℕ). get_or one i 0) in
        let b = length-map places (λ (i : ℕ). get_or other i 0) in
        same_lists (at_places one places) (at_places other places) (a ∙ sym b) (λ k d lt.
        (let klt : k < length places = omega (arith, lt, a) in
        let i = get_or places k 0 in
        let s = seat_of k klt in
        let c : Contains places i = (k, klt, get_or_default places k i 0 klt) in
        let equal : get_or one i 0 ≡ get_or other i 0 =
        one_value s.0.values.items (get_or one i 0) (get_or other i 0) (here (IsSeat p) seats i s.0 each s.1).distinct (inside_at one fit i s.0 c s.1) (inside_at other fits i s.0 c s.1)
        (sym (choice_at one fit k s.0 klt s.1) ∙ ap (λ (xs : List (List ℕ)). get_or xs k []) e ∙ choice_at other fits k s.0 klt s.1) in
        get_or_default (at_places one places) k d 0 lt ∙ get_or-map (λ (n : ℕ). get_or one n 0) places k 0 0 klt ∙ equal ∙ sym (get_or-map (λ (n : ℕ). get_or other n 0) places k 0 0 klt)
        ∙ get_or_default (at_places other places) k 0 d (omega (arith, klt, b))))

    -- more picks than so many are more choices
    more_choices : (most : ℕ) → HasMorePicks ways sets places most → HasMoreChoices p most routers
    more_choices most h =
        let choice : List ℕ → List (List ℕ) = λ pick. map (value_at seats pick) routers in
        let size = length-map h.picks choice in
        record {
          choices = map choice h.picks;
          more = (let more = h.more in omega (arith, more, size));
          fit = λ j d lt.
              (let jlt : j < length h.picks = omega (arith, lt, size) in
              (value_at seats (get_or h.picks j []), together (get_or h.picks j []) (h.fit j [] jlt), get_or-map choice h.picks j [] d jlt));
          once = λ i j d lt inside e.
              (let jlt : j < length h.picks = omega (arith, inside, size) in
              let ilt : i < length h.picks = omega (arith, jlt, lt) in
              h.once i j [] lt jlt
              (same_picks (get_or h.picks i []) (get_or h.picks j []) (h.fit i [] ilt) (h.fit j [] jlt) (sym (get_or-map choice h.picks i [] d ilt) ∙ e ∙ get_or-map choice h.picks j [] d jlt)));
        }

  -- the refusal of a search of places is one of routers
  pub places_refused : (limits : SearchLimits) (why : SearchError) → RefusesPlaces seats ways sets limits.most why → IsRefusal p limits why
  places_refused limits (refusals.TooManyPaths router) r = absurd r
  places_refused limits (refusals.TooManyChoices routers) r = (some_routers r.0 routers r.1 r.2, more_choices r.0 routers r.1 r.2 limits.most r.3)
  places_refused limits (refusals.TooManySteps routers) r = some_routers r.0 routers r.1 r.2
  places_refused limits refusals.Memory r = tt

-- ---- other refusals

pub paths_refused : (p : Problem) (limits : SearchLimits) (why : SearchError) → IsPathsRefusal p why → IsRefusal p limits why
paths_refused p limits (refusals.TooManyPaths router) r = r
paths_refused p limits (refusals.TooManyChoices routers) r = absurd r
paths_refused p limits (refusals.TooManySteps routers) r = absurd r
paths_refused p limits refusals.Memory r = tt

pub memory_refused : {T : Type 0} (p : Problem) (limits : SearchLimits) (r : Result T SearchError) → IsErrAnd r (λ why. why ≡ refusals.Memory) → IfErr r (IsRefusal p limits)
memory_refused p limits (Ok x) h = tt
memory_refused p limits (Err why) h = subst (IsRefusal p limits) (sym h) tt

-- ---- how many choices

-- parts have as many choices as their groups have picks
pub few_parts : (seats : List Seat) (levels : List ℕ) (groups : List Group) (parts : List Component) (most : ℕ) → ArePartsOf seats levels groups parts → All (λ group. length group.picks ≤ most) groups → AreFew most parts
few_parts seats levels groups parts most of few g d lt =
    let group = stands groups g (omega (arith, lt, of.size)) in
    let part = get_or parts g d in
    let count = as_many seats levels group.0 part (of.each g group.0 part group.1 (lt, get_or_default parts g part d lt)) in
    let here_few = here (λ (x : Group). length x.picks ≤ most) groups g group.0 few group.1 in
    omega (arith, count, here_few)
