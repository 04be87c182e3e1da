-- How many routers a router's path has at most in a stable assignment.
use Rattle.std.proofs.Common.{◌≡◌, ◌≢◌, ℕ, zero, suc, ◌<◌, ◌≤◌, ◌+◌, List, [], ◌∷◌, ◌++◌, length, get_or, map, set, refl, sym, ap, subst, ◌∙◌, arith, inl, inr, ◌⊎◌}
use Rattle.std.proofs.Common.{Option, Some, None}
use Rattle.std.specs.Prelude.{IsTrue}
use Rattle.std.specs.List.{All, Contains}
use Rattle.std.proofs.lemmas.Bool.{cases_order, cases_lt}
use Rattle.std.proofs.lemmas.List.{length-map, get_or-map, get_or_default, length-set, get_or-set_same, get_or-set_other, get_or_append_left, get_or_at}
use Rattle.std.proofs.lemmas.List.Elements.{All-contains}
use Rattle.std.proofs.lemmas.List.Kept.{AllPairs-cons}
use Rattle.ranked_policy.specs.declared.limits.TheConstants.{LONGEST_PATH}
use Rattle.ranked_policy.specs.declared.policy.Chosen.{Chosen}
use Rattle.ranked_policy.specs.declared.policy.Chosen.TheVariants.{Only, Ranked, Shortest}
use Rattle.ranked_policy.specs.Choosing.{chosen_permits, chosen_prefers}
use Rattle.ranked_policy.specs.Orders.{IsShorter}
use Rattle.ranked_policy.specs.Paths.{IsSimple, EndsWith}
use Rattle.ranked_policy.specs.Plans.{IsRouter, Linked, numbers}
use Rattle.ranked_policy.specs.Policies.{Table, IsPermitted}
use Rattle.ranked_policy.specs.Promises.{EachPolicyIsAnOrder}
use Rattle.ranked_policy.specs.Choices.{HasPathOver, IsChoice}
use Rattle.stable_paths.specs.Stable.{Problem, IsInstance, IsStable, IsBestOf}
use Rattle.ranked_policy.proofs.OneTable.{one_table}
use Rattle.stable_paths.proofs.TableLemmas.{linked_is}
use Rattle.stable_search.specs.declared.chooser.Chooser.{Chooser}
use Rattle.stable_search.specs.declared.seat.Seat.{Seat}
use Rattle.stable_search.specs.Choosers.{IsChooser}
use Rattle.stable_search.specs.Fixing.{AreFixed}
use Rattle.stable_search.specs.Reaching.{Reaches, AreReaches, IsRankedTo, IsRuled, IsFirstReach, IsShortestTo, IsNextReach, AreBounds}
use Rattle.stable_search.specs.Seats.{StandsAt}
use Rattle.stable_search.proofs.FitLemmas.{not_nil, no_path_alone}
use Rattle.stable_search.proofs.FixLemmas.{router_of, stable_may, over_peer, chooser_at}
use Rattle.stable_search.proofs.PlaceLemmas.{stands, here}

-- ---- lists of numbers

-- a number is in a list or is not
in_or_out : (xs : List ℕ) (u : ℕ) → Contains xs u ⊎ (Contains xs u → ⊥)
in_or_out [] u = inr (λ c. omega (arith, c.1))
in_or_out (x ∷ xs) u = elim (cases_order x u) [
  | inl same ↦ inl (0, omega arith, same)
  | inr differ ↦ elim (in_or_out xs u) [
    | inl c ↦ inl (suc c.0, (let lt = c.1 in omega (arith, lt)), c.2)
    | inr out ↦ inr (λ c. later c differ out)
  ]
]
  where
    later : Contains (x ∷ xs) u → (x < u) ⊎ (u < x) → (Contains xs u → ⊥) → ⊥
    later (zero, lt, e) differ out = elim differ [ inl l ↦ omega (arith, l, e) | inr m ↦ omega (arith, m, e) ]
    later (suc k, lt, e) differ out = out (k, omega (arith, lt), e)

-- the first of a list, or one of the others
first_or_later : (x : ℕ) (xs : List ℕ) (u : ℕ) → Contains (x ∷ xs) u → (x ≡ u) ⊎ Contains xs u
first_or_later x xs u (zero, lt, e) = inl e
first_or_later x xs u (suc k, lt, e) = inr (k, omega (arith, lt), e)

-- what ends a list ends what stands behind its first, if something does
ends_later : (x : ℕ) (xs : List ℕ) (v : ℕ) → xs ≢ [] → EndsWith (x ∷ xs) v → EndsWith xs v
ends_later x xs v some ([], e) = absurd (some (ap (λ (ys : List ℕ). tail_of ys) e))
  where
    tail_of : List ℕ → List ℕ
    tail_of [] = []
    tail_of (y ∷ ys) = ys
ends_later x xs v some (y ∷ ys, e) = (ys, ap (λ (zs : List ℕ). tail_of zs) e)
  where
    tail_of : List ℕ → List ℕ
    tail_of [] = []
    tail_of (z ∷ zs) = zs

ends_on : (x : ℕ) (xs : List ℕ) (v : ℕ) → EndsWith xs v → EndsWith (x ∷ xs) v
ends_on x xs v ends = (x ∷ ends.0, ap (λ (ys : List ℕ). x ∷ ys) ends.1)

ends_some : (xs : List ℕ) (v : ℕ) → EndsWith xs v → xs ≢ []
ends_some xs v ([], e) none = not_nil v [] (sym e ∙ none)
ends_some xs v (y ∷ ys, e) none = not_nil y (ys ++ v ∷ []) (sym e ∙ none)

-- ---- by the kind of policy

some_is : (a b : ℕ) → Some a ≡ Some b → a ≡ b
some_is a b e = ap (λ (o : Option ℕ). or_zero o) e
  where
    or_zero : Option ℕ → ℕ
    or_zero None = 0
    or_zero (Some n) = n

-- a router without a rule permits its path along one that it is not on
shortest_permits : (policy : Chosen) (u origin : ℕ) (theirs : List ℕ) → IsShortestTo policy u origin → IsSimple theirs → (Contains theirs u → ⊥) → length theirs + 1 ≤ LONGEST_PATH → EndsWith theirs origin
    → chosen_permits policy (u ∷ theirs)
shortest_permits (Only only) u origin theirs s simple out short ends = absurd s
shortest_permits (Ranked rule) u origin theirs s simple out short ends = absurd s
shortest_permits (Shortest all) u origin theirs s simple out short ends = record {
  begins = (theirs, ap (λ (n : ℕ). n ∷ theirs) (sym s.0));
  simple = AllPairs-cons (λ a b. a ≢ b) u theirs (λ k d lt e. out (k, lt, get_or_default theirs k u d lt ∙ sym e)) simple;
  short = omega (arith, short);
  ends = (origin, s.1, ends_on u theirs origin ends);
}

-- and then has one that is no longer
shortest_length : (policy : Chosen) (u origin : ℕ) (mine theirs : List ℕ) → IsShortestTo policy u origin → chosen_permits policy mine → ((mine ≡ u ∷ theirs → ⊥) → chosen_prefers policy mine (u ∷ theirs))
    → (length mine ≤ length theirs + 1) × EndsWith mine origin
shortest_length (Only only) u origin mine theirs s may before = absurd s
shortest_length (Ranked rule) u origin mine theirs s may before = absurd s
shortest_length (Shortest all) u origin mine theirs s may before = (
  elim (cases_lt (length theirs + 1) (length mine)) [
    | inl long ↦ absurd (longer long (before (λ e. (let same = ap length e in omega (arith, long, same)))))
    | inr short ↦ short
  ],
  subst (EndsWith mine) (some_is may.ends.0 origin (sym may.ends.1 ∙ s.1)) may.ends.2,
)
  where
    longer : length theirs + 1 < length mine → IsShorter mine (u ∷ theirs) → ⊥
    longer long (inl less) = omega (arith, long, less)
    longer long (inr same) = (let e = same.0 in omega (arith, long, e))

ranked_within : (policy : Chosen) (origin most : ℕ) (path : List ℕ) → IsRankedTo policy origin most → chosen_permits policy path → (length path ≤ most) × EndsWith path origin
ranked_within (Only only) origin most path r may = absurd r
ranked_within (Shortest all) origin most path r may = absurd r
ranked_within (Ranked rule) origin most path r may = (
  All-contains (λ (listed : List ℕ). length listed ≤ most) rule.paths.now path r.1 may.0,
  subst (EndsWith path) (some_is may.1.0 origin (sym may.1.1 ∙ r.0)) may.1.2,
)

-- ---- in a stable assignment

module _ (law : EachPolicyIsAnOrder) (p : Problem) (is : IsInstance p) (choosers : List Chooser) (at : map (λ (it : Chooser). it.router) choosers ≡ numbers p.net.routers) (each : All (IsChooser p) choosers) where
  module _ (paths : ℕ → List ℕ) (stable : IsStable p paths) where
    abbrev Shape : ℕ → Type 0
    Shape w = (paths w ≡ []) ⊎ ((paths w ≡ w ∷ []) ⊎ ((v : ℕ) × IsRouter p.net.routers v × (paths w ≡ w ∷ paths v) × (paths v ≢ [])))

    -- no path, that of an origin, or one over a peer's
    shape : (w : ℕ) → IsRouter p.net.routers w → Shape w
    shape w router =
        let x = chooser_at law p is choosers at each w router in
        let it = x.1 in
        let mine = here (IsChooser p) choosers x.0 it each x.2 in
        subst Shape x.3 (elim (stable_may law p is it mine paths stable) [
          | inl own ↦ inr (inl own.1)
          | inr other ↦ elim (over_peer law p is it mine paths stable other.0) [
            | inl none ↦ inl none
            | inr over ↦ inr (inr (over.0, linked_is p.net is.problem.network it.router over.0 over.1, over.2, over.3))
          ]
        ])

    -- a router on another's path has none that is longer, and one to the same origin
    abbrev Within : ℕ → ℕ → Type 0
    Within w u = (length (paths u) ≤ length (paths w)) × ((origin : ℕ) → EndsWith (paths w) origin → EndsWith (paths u) origin)

    itself : (w u : ℕ) → w ≡ u → Within w u
    itself w u same = subst (Within w) same (omega arith, λ origin ends. ends)

    within : (n w : ℕ) → IsRouter p.net.routers w → length (paths w) ≤ n → (u : ℕ) → Contains (paths w) u → Within w u
    within zero w router short u c = absurd (let lt = c.1 in omega (arith, lt, short))
    within (suc n) w router short u c = elim (shape w router) [
      | inl none ↦ absurd (let e = ap length none in let lt = c.1 in omega (arith, e, lt))
      | inr some ↦ elim some [
        | inl own ↦ elim (first_or_later w [] u (subst (λ (xs : List ℕ). Contains xs u) own c)) [
          | inl same ↦ itself w u same
          | inr later ↦ absurd (let lt = later.1 in omega (arith, lt))
        ]
        | inr over ↦ elim (first_or_later w (paths over.0) u (subst (λ (xs : List ℕ). Contains xs u) over.2 c)) [
          | inl same ↦ itself w u same
          | inr later ↦
              let size = ap length over.2 in
              let rest = within n over.0 over.1 (omega (arith, size, short)) u later in (
                (let less = rest.0 in omega (arith, less, size)),
                λ origin ends. rest.1 origin (ends_later w (paths over.0) origin over.3 (subst (λ (xs : List ℕ). EndsWith xs origin) over.2 ends)),
              )
        ]
      ]
    ]

    alone : (u : ℕ) → IsSimple (u ∷ [])
    alone u i j d lt inside = absurd (omega (arith, lt, inside))

    empty : IsSimple []
    empty i j d lt inside = absurd (omega (arith, inside))

    -- no router is on a path twice
    simple : (w : ℕ) → IsRouter p.net.routers w → IsSimple (paths w)
    simple w router =
        let x = chooser_at law p is choosers at each w router in
        let it = x.1 in
        let mine = here (IsChooser p) choosers x.0 it each x.2 in
        subst (λ (n : ℕ). IsSimple (paths n)) x.3 (elim (stable_may law p is it mine paths stable) [
          | inl own ↦ subst IsSimple (sym own.1) (alone it.router)
          | inr other ↦ elim other.1 [
            | inl none ↦ subst IsSimple (sym none) empty
            | inr may ↦ elim ((mine.speaks.permits (paths it.router)).0 may.0) [
              | inl own ↦ subst IsSimple (sym own.1) (alone mine.table.router)
              | inr route ↦ route.1.simple
            ]
          ]
        ])

    -- a router that is offered a path which it permits has one, and that one or a better
    module _ (it : Chooser) (x : IsChooser p it) (not : IsTrue it.is_origin → ⊥) (v : ℕ) (linked : Linked p.net.links it.router v) (may : chosen_permits it.policy (it.router ∷ paths v)) where
      abbrev pub offered : List ℕ
      offered = it.router ∷ paths v

      permitted : IsPermitted x.table p.prefix offered
      permitted = (x.speaks.permits offered).0 may

      choice : IsChoice (HasPathOver p.net.links paths x.table.router) x.table p.prefix offered
      choice = record {
        peer = v;
        rest = paths v;
        heard = (subst (λ (n : ℕ). Linked p.net.links n v) (sym x.of.0) linked, refl);
        some = no_path_alone x.table p.prefix (paths v) (λ o. not (x.origin.1 o)) (subst (λ (n : ℕ). IsPermitted x.table p.prefix (n ∷ paths v)) (sym x.of.0) permitted);
        goes_on = ap (λ (n : ℕ). n ∷ paths v) (sym x.of.0);
        permitted = permitted;
      }

      pub has_one : chosen_permits it.policy (paths it.router) × ((paths it.router ≡ offered → ⊥) → chosen_prefers it.policy (paths it.router) offered)
      has_one =
          let b = stable it.router (router_of p.net it.router x.table x.of) in
          let best : IsBestOf p paths x.table (paths it.router) = subst (λ (t : Table). IsBestOf p paths t (paths it.router)) (one_table p.net it.router b.0 x.table is.problem.network b.1 x.of) b.2 in
          elim best [
            | inl own ↦ absurd (not (x.origin.1 own.0))
            | inr other ↦ elim other.1 [
              | inl first ↦ (
                (x.speaks.permits (paths it.router)).1 first.choice.permitted,
                λ apart. (x.speaks.prefers (paths it.router) offered).1 (first.before offered choice apart),
              )
              | inr none ↦ absurd (none.1 offered choice)
            ]
          ]

  -- ---- reaches

  module _ (origin : ℕ) where
    -- a router without a rule beside a peer that surely has a path
    over_one : (it : Chooser) → IsChooser p it → (IsTrue it.is_origin → ⊥) → (v n : ℕ) → Linked p.net.links it.router v → IsShortestTo it.policy it.router origin → Reaches p origin v n → n + 1 ≤ LONGEST_PATH
        → Reaches p origin it.router (n + 1)
    over_one it x not v n linked shortest reach low paths stable =
        let theirs = reach paths stable in
        let less = theirs.0 in
        let router = linked_is p.net is.problem.network it.router v linked in
        elim (in_or_out (paths v) it.router) [
          | inl inside ↦
              let mine = within paths stable (length (paths v)) v router (omega arith) it.router inside in
              let fewer = mine.0 in
              (omega (arith, fewer, less), mine.1 origin theirs.1)
          | inr out ↦
              let may = shortest_permits it.policy it.router origin (paths v) shortest (simple paths stable v router) out (omega (arith, less, low)) theirs.1 in
              let one = has_one paths stable it x not v linked may in
              let mine = shortest_length it.policy it.router origin (paths it.router) (paths v) shortest one.0 one.1 in
              let fewer = mine.0 in
              (omega (arith, fewer, less), mine.1)
        ]

    module _ (fixed : List (Option (List ℕ))) (are : AreFixed p choosers fixed) where
      ruled : (it : Chooser) → IsChooser p it → (most : ℕ) → IsRuled p.net.links choosers fixed origin it most → Reaches p origin it.router most
      ruled it x most r paths stable =
          let offer = r.offer in
          let theirs = (are.each r.place offer.peer offer.theirs offer.at offer.has).always paths stable in
          let may = subst (λ (q : List ℕ). chosen_permits it.policy (it.router ∷ q)) (sym theirs) offer.permitted in
          let one = has_one paths stable it x r.other offer.peer.router offer.linked may in
          ranked_within it.policy origin most (paths it.router) r.ranked one.0

      first_known : (i : ℕ) (it : Chooser) → StandsAt choosers i it → (reach : ℕ) → IsFirstReach p.net.links choosers fixed origin i it reach → reach ≤ LONGEST_PATH → Reaches p origin it.router reach
      first_known i it st reach (inl unknown) low = absurd (omega (arith, unknown, low))
      first_known i it st reach (inr (inl f)) low = λ paths stable.
          (let e = (are.each i it f.0 st f.1).always paths stable in
          let size = ap length e in
          let long = f.3 in
          (omega (arith, size, long), subst (λ (q : List ℕ). EndsWith q origin) (sym e) f.2))
      first_known i it st reach (inr (inr r)) low = ruled it (here (IsChooser p) choosers i it each st) reach r

      -- one router's reach more
      pub first_more : (reaches new : List ℕ) (n reach : ℕ) → length reaches ≡ n → new ≡ reaches ++ reach ∷ [] → ((it : Chooser) → StandsAt choosers n it → IsFirstReach p.net.links choosers fixed origin n it reach)
          → ((i : ℕ) (it : Chooser) → i < n → StandsAt choosers i it → IsFirstReach p.net.links choosers fixed origin i it (get_or reaches i 0))
          → (i : ℕ) (it : Chooser) → i < n + 1 → StandsAt choosers i it → IsFirstReach p.net.links choosers fixed origin i it (get_or new i 0)
      first_more reaches new n reach size e first before i it lt st = elim (cases_order i n) [
        | inl same ↦
            let now : get_or new i 0 ≡ reach = ap (λ (ns : List ℕ). get_or ns i 0) e ∙ ap (λ (k : ℕ). get_or (reaches ++ reach ∷ []) k 0) same ∙ get_or_at reaches reach [] 0 n size in
            subst (IsFirstReach p.net.links choosers fixed origin i it) (sym now)
            (subst (λ (k : ℕ). IsFirstReach p.net.links choosers fixed origin k it reach) (sym same) (first it (subst (λ (k : ℕ). StandsAt choosers k it) same st)))
        | inr differ ↦
            let under : i < n = elim differ [ inl l ↦ l | inr m ↦ absurd (omega (arith, lt, m)) ] in
            let now : get_or new i 0 ≡ get_or reaches i 0 = ap (λ (ns : List ℕ). get_or ns i 0) e ∙ get_or_append_left reaches (reach ∷ []) 0 i (omega (arith, under, size)) in
            subst (IsFirstReach p.net.links choosers fixed origin i it) (sym now) (before i it under st)
      ]

      pub first_reaches : (reaches : List ℕ) → length reaches ≡ length choosers → ((i : ℕ) (it : Chooser) → StandsAt choosers i it → IsFirstReach p.net.links choosers fixed origin i it (get_or reaches i 0)) → AreReaches p choosers origin reaches
      first_reaches reaches size first = record { size = size; each = λ i it st. first_known i it st (get_or reaches i 0) (first i it st) }

    module _ (reaches : List ℕ) (are : AreReaches p choosers origin reaches) where
      next_known : (i : ℕ) (it : Chooser) → StandsAt choosers i it → (next : ℕ) → IsNextReach p.net.links choosers origin reaches it (get_or reaches i 0) next → next ≤ LONGEST_PATH → Reaches p origin it.router next
      next_known i it st next (inl same) low = subst (Reaches p origin it.router) (sym same) (are.each i it st (subst (λ (n : ℕ). n ≤ LONGEST_PATH) same low))
      next_known i it st next (inr (inl unknown)) low = absurd (omega (arith, unknown, low))
      next_known i it st next (inr (inr on)) low =
          let e = on.one_more in
          subst (Reaches p origin it.router) (sym e)
          (over_one it (here (IsChooser p) choosers i it each st) on.other on.peer.router (get_or reaches on.place 0) on.linked on.shortest (are.each on.place on.peer on.at (omega (arith, low, e))) (omega (arith, low, e)))

      -- one router's reach is known anew
      pub one_known : (i next : ℕ) → i < length choosers → ((it : Chooser) → StandsAt choosers i it → IsNextReach p.net.links choosers origin reaches it (get_or reaches i 0) next) → AreReaches p choosers origin (set reaches i next)
      one_known i next lt is_next = record {
        size = length-set reaches i next ∙ are.size;
        each = λ j it st low. elim (cases_order j i) [
          | inl same ↦
              let inside : i < length reaches = (let size = are.size in omega (arith, lt, size)) in
              let now : get_or (set reaches i next) j 0 ≡ next = ap (λ (n : ℕ). get_or (set reaches i next) n 0) same ∙ get_or-set_same reaches i next 0 inside in
              let at_i : StandsAt choosers i it = subst (λ (n : ℕ). StandsAt choosers n it) same st in
              subst (Reaches p origin it.router) (sym now) (next_known i it at_i next (is_next it at_i) (subst (λ (n : ℕ). n ≤ LONGEST_PATH) now low))
          | inr differ ↦
              let other : get_or (set reaches i next) j 0 ≡ get_or reaches j 0 = get_or-set_other reaches i j next 0 (λ s. elim differ [ inl l ↦ omega (arith, l, s) | inr m ↦ omega (arith, m, s) ]) in
              subst (Reaches p origin it.router) (sym other) (are.each j it st (subst (λ (n : ℕ). n ≤ LONGEST_PATH) other low))
        ];
      }

      pub bounds : AreBounds p reaches
      bounds = record {
        size = (let size = are.size in let all = ap length at in let many = length-map choosers (λ (it : Chooser). it.router) in omega (arith, size, all, many));
        each = λ i lt low paths stable.
            (let all = ap length at in
            let many = length-map choosers (λ (it : Chooser). it.router) in
            let inside : i < length choosers = omega (arith, lt, all, many) in
            let s = stands choosers i inside in
            let same : s.0.router ≡ get_or (numbers p.net.routers) i 0 =
            ap (λ (it : Chooser). it.router) (sym s.1.1) ∙ sym (get_or-map (λ (it : Chooser). it.router) choosers i s.0 0 inside) ∙ ap (λ (ns : List ℕ). get_or ns i 0) at in
            subst (λ (n : ℕ). length (paths n) ≤ get_or reaches i 0) same ((are.each i s.0 s.1 low paths stable).0));
      }

-- ---- the router at a place has no longer path

pub short_at : (p : Problem) (bounds : List ℕ) → AreBounds p bounds → (seats : List Seat) → map (λ (s : Seat). s.router) seats ≡ numbers p.net.routers → (i : ℕ) (seat : Seat) → StandsAt seats i seat → (count : ℕ)
    → get_or bounds i 0 ≤ count → count < LONGEST_PATH → (paths : ℕ → List ℕ) → IsStable p paths → length (paths seat.router) ≤ count
short_at p bounds are seats at i seat st count low below paths stable =
    let all = ap length at in
    let many = length-map seats (λ (s : Seat). s.router) in
    let inside = st.0 in
    let same : get_or (numbers p.net.routers) i 0 ≡ seat.router = ap (λ (ns : List ℕ). get_or ns i 0) (sym at) ∙ get_or-map (λ (s : Seat). s.router) seats i seat 0 inside ∙ ap (λ (s : Seat). s.router) st.1 in
    let short = subst (λ (n : ℕ). length (paths n) ≤ get_or bounds i 0) same (are.each i (omega (arith, all, many, inside)) (omega (arith, low, below)) paths stable) in
    omega (arith, short, low)
