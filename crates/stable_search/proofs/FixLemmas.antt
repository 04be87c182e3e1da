-- Routers that have one path in every stable assignment.
use Rattle.std.proofs.Common.{◌≡◌, ◌≢◌, ℕ, ◌<◌, ◌≤◌, ◌+◌, List, [], ◌∷◌, length, get_or, map, set, refl, sym, ap, subst, ◌∙◌, arith, inl, inr, ◌⊎◌}
use Rattle.std.proofs.Common.{Option, Some, None}
use Rattle.std.specs.Prelude.{IsTrue, IfSome}
use Rattle.std.specs.List.{All, Contains}
use Rattle.std.proofs.lemmas.Bool.{cases_order, cases_lt}
use Rattle.std.proofs.lemmas.List.{length-map, get_or-map, length-set, get_or-set_same, get_or-set_other}
use Rattle.ranked_policy.specs.declared.limits.TheConstants.{LONGEST_PATH}
use Rattle.ranked_policy.specs.declared.network.NetRouter.{NetRouter}
use Rattle.ranked_policy.specs.Choosing.{chosen_permits, chosen_prefers}
use Rattle.ranked_policy.specs.Paths.{BeginsWith}
use Rattle.ranked_policy.specs.Plans.{Plan, IsRouter, Linked, numbers}
use Rattle.ranked_policy.specs.Policies.{Table, IsTableOf, Originates, IsPermitted, IsPreferred}
use Rattle.ranked_policy.specs.Promises.{EachPolicyIsAnOrder}
use Rattle.ranked_policy.specs.Choices.{HasPathOver, IsChoice, IsFirstOrNone}
use Rattle.stable_paths.specs.Stable.{Problem, IsInstance, IsStable, IsBest, IsBestOf}
use Rattle.ranked_policy.proofs.OneTable.{one_table}
use Rattle.stable_paths.proofs.TableLemmas.{linked_is, own_is, one_best}
use Rattle.stable_search.specs.declared.chooser.Chooser.{Chooser}
use Rattle.stable_search.specs.Choosers.{IsChooser, MayChoose}
use Rattle.stable_search.specs.Fits.{GoesOver}
use Rattle.stable_search.specs.Fixing.{IsFar, AreFar, IsBeyond, IsNear, AreDistances, IsFixed, AreFixed, IsBetterThanAny, HoldsOver, HoldsOverAll, IsOfferAt, IsOffered}
use Rattle.stable_search.specs.Seats.{StandsAt, FitsBy}
use Rattle.stable_search.proofs.FitLemmas.{not_nil, no_path_alone, begins_at}
use Rattle.stable_search.proofs.PlaceLemmas.{stands, here}

-- ---- a router by itself

pub router_of : (net : Plan) (u : ℕ) (t : Table) → IsTableOf net u t → IsRouter net.routers u
router_of net u t of =
    let x = of.2 in
    let size = length-map net.routers (λ (r : NetRouter). r.asn) in
    (x.0, omega (arith, size, x.2), get_or-map (λ (r : NetRouter). r.asn) net.routers x.0 x.1 u x.2 ∙ ap (λ (r : NetRouter). r.asn) x.3 ∙ x.4.0)

option_cases : {X : Type 0} (o : Option X) → (o ≡ None) ⊎ ((x : X) × (o ≡ Some x))
option_cases None = inl refl
option_cases (Some x) = inr (x, refl)

module _ (law : EachPolicyIsAnOrder) (p : Problem) (is : IsInstance p) (it : Chooser) (x : IsChooser p it) where
  permits_by : (path : List ℕ) → IsPermitted x.table p.prefix path → chosen_permits it.policy path
  permits_by path may = (x.speaks.permits path).1 may

  by_permits : (path : List ℕ) → chosen_permits it.policy path → IsPermitted x.table p.prefix path
  by_permits path may = (x.speaks.permits path).0 may

  not_here : (IsTrue it.is_origin → ⊥) → Originates x.table p.prefix x.table.router → ⊥
  not_here not o = not (x.origin.1 o)

  is_router : IsRouter p.net.routers it.router
  is_router = router_of p.net it.router x.table x.of

  -- an origin has its own path
  pub own_fixed : IsTrue it.is_origin → IsFixed p it (it.router ∷ [])
  own_fixed own = record {
    always = λ paths stable.
        (let mine : IsBest p paths it.router (it.router ∷ []) = (x.table, x.of, inl (x.origin.0 own, ap (λ (n : ℕ). n ∷ []) (sym x.of.0) ∙ own_is p x.table.router is.originated)) in
        one_best law p is.problem paths it.router (paths it.router) (it.router ∷ []) (stable it.router is_router) mine);
    may = inl (own, refl);
  }

  -- what a stable assignment gives a router it may have
  pub stable_may : (paths : ℕ → List ℕ) → IsStable p paths → MayChoose p.net.links it (paths it.router)
  stable_may paths stable =
      let b = stable it.router is_router in
      let best : IsBestOf p paths x.table (paths it.router) = subst (λ (t : Table). IsBestOf p paths t (paths it.router)) (one_table p.net it.router b.0 x.table is.problem.network b.1 x.of) b.2 in
      elim best [
        | inl own ↦ inl (x.origin.1 own.0, own.1 ∙ sym (own_is p x.table.router is.originated) ∙ ap (λ (n : ℕ). n ∷ []) x.of.0)
        | inr other ↦ inr (
          λ o. other.0 (x.origin.0 o),
          elim other.1 [
            | inl first ↦ inr (permits_by (paths it.router) first.choice.permitted, over paths stable first.choice)
            | inr none ↦ inl none.0
          ],
        )
      ]
    where
      over : (paths : ℕ → List ℕ) → IsStable p paths → IsChoice (HasPathOver p.net.links paths x.table.router) x.table p.prefix (paths it.router) → GoesOver p.net.links it.router (paths it.router)
      over paths stable c = elim (begins_at p paths is.originated stable c.peer (linked_is p.net is.problem.network x.table.router c.peer c.heard.0)) [
        | inl none ↦ absurd (c.some (c.heard.1 ∙ none))
        | inr on ↦ record {
          peer = c.peer;
          rest = on.0;
          linked = subst (λ (n : ℕ). Linked p.net.links n c.peer) x.of.0 c.heard.0;
          whole = c.goes_on ∙ ap (λ (n : ℕ). n ∷ c.rest) x.of.0 ∙ ap (λ (q : List ℕ). it.router ∷ q) (c.heard.1 ∙ on.1);
        }
      ]

  -- another router has no path, or one over that of a peer
  pub over_peer : (paths : ℕ → List ℕ) → IsStable p paths → (IsTrue it.is_origin → ⊥)
      → (paths it.router ≡ []) ⊎ ((v : ℕ) × Linked p.net.links it.router v × (paths it.router ≡ it.router ∷ paths v) × (paths v ≢ []))
  over_peer paths stable not =
      let b = stable it.router is_router in
      let best : IsBestOf p paths x.table (paths it.router) = subst (λ (t : Table). IsBestOf p paths t (paths it.router)) (one_table p.net it.router b.0 x.table is.problem.network b.1 x.of) b.2 in
      elim best [
        | inl own ↦ absurd (not (x.origin.1 own.0))
        | inr other ↦ elim other.1 [
          | inr none ↦ inl none.0
          | inl first ↦ inr (
            first.choice.peer,
            subst (λ (n : ℕ). Linked p.net.links n first.choice.peer) x.of.0 first.choice.heard.0,
            first.choice.goes_on ∙ ap (λ (n : ℕ). n ∷ first.choice.rest) x.of.0 ∙ ap (λ (q : List ℕ). it.router ∷ q) first.choice.heard.1,
            (λ none. first.choice.some (first.choice.heard.1 ∙ none)),
          )
        ]
      ]

  -- a path that is offered and that each other falls behind is what the router has
  pub always_best : (IsTrue it.is_origin → ⊥) → (path : List ℕ) (paths : ℕ → List ℕ) → IsStable p paths
      → (path ≡ []) ⊎ ((v : ℕ) × Linked p.net.links it.router v × (path ≡ it.router ∷ paths v) × chosen_permits it.policy path)
      → ((v : ℕ) → Linked p.net.links it.router v → chosen_permits it.policy (it.router ∷ paths v) → path ≢ it.router ∷ paths v → BeginsWith path it.router × chosen_prefers it.policy path (it.router ∷ paths v))
      → paths it.router ≡ path
  always_best not path paths stable offered best =
      one_best law p is.problem paths it.router (paths it.router) path (stable it.router is_router) (x.table, x.of, inr (not_here not, first))
    where
      r : ℕ
      r = x.table.router

      same : it.router ≡ r
      same = sym x.of.0

      Hears : ℕ → List ℕ → Type 0
      Hears = HasPathOver p.net.links paths x.table.router

      better : (other : List ℕ) → IsChoice Hears x.table p.prefix other → path ≢ other → (path ≢ []) × IsPreferred x.table p.prefix path other
      better other c apart =
          let goes : other ≡ it.router ∷ paths c.peer = c.goes_on ∙ ap (λ (n : ℕ). n ∷ c.rest) x.of.0 ∙ ap (λ (q : List ℕ). it.router ∷ q) c.heard.1 in
          let b = best c.peer (subst (λ (n : ℕ). Linked p.net.links n c.peer) x.of.0 c.heard.0) (subst (chosen_permits it.policy) goes (permits_by other c.permitted)) (λ e. apart (e ∙ sym goes)) in
          ((λ none. not_nil it.router b.0.0 (sym b.0.1 ∙ none)), (x.speaks.prefers path other).0 (subst (chosen_prefers it.policy path) (sym goes) b.1))

      first : IsFirstOrNone Hears x.table p.prefix path
      first = elim offered [
        | inl none ↦ inr (none, λ other c. (better other c (λ e. not_nil x.table.router c.rest (sym c.goes_on ∙ sym e ∙ none))).0 none)
        | inr o ↦
            let goes : path ≡ r ∷ paths o.0 = o.2 ∙ ap (λ (n : ℕ). n ∷ paths o.0) same in
            let may : IsPermitted x.table p.prefix path = by_permits path o.3 in
            inl (record {
              choice = record {
                peer = o.0;
                rest = paths o.0;
                heard = (subst (λ (n : ℕ). Linked p.net.links n o.0) same o.1, refl);
                some = no_path_alone x.table p.prefix (paths o.0) (not_here not) (subst (IsPermitted x.table p.prefix) goes may);
                goes_on = goes;
                permitted = may;
              };
              before = λ other c apart. (better other c apart).1;
            })
      ]

-- ---- lists of distances and of fixed paths

module _ (p : Problem) (choosers : List Chooser) where
  pub far_start : (distances : List ℕ) → length distances ≡ length choosers → ((i : ℕ) → i < length choosers → get_or distances i 0 ≡ LONGEST_PATH + 1) → AreFar p choosers 0 distances
  far_start distances size all = record {
    size = size;
    low = λ i lt. (let e = all i lt in omega (arith, e));
    each = λ i it st paths stable. some (paths it.router);
  }
    where
      some : {n : ℕ} (path : List ℕ) → (path ≡ []) ⊎ ((n ≤ length path) ⊎ (0 < length path))
      some [] = inl refl
      some (u ∷ us) = inr (inr (omega arith))

  pub far_done : (distances : List ℕ) → AreFar p choosers LONGEST_PATH distances → AreDistances p choosers distances
  far_done distances far = record {
    size = far.size;
    each = λ i it st paths stable. elim (far.each i it st paths stable) [
      | inl none ↦ inl none
      | inr some ↦ inr (elim some [ inl least ↦ least | inr beyond ↦ (let low = far.low i st.0 in omega (arith, low, beyond)) ])
    ];
  }

  pub none_fixed : (fixed : List (Option (List ℕ))) → length fixed ≡ length choosers → ((i : ℕ) → get_or fixed i None ≡ None) → AreFixed p choosers fixed
  none_fixed fixed size none = record { size = size; each = λ i it path st e. absurd (never_some path (sym (none i) ∙ e)) }
    where
      never_some : (path : List ℕ) → None ≡ Some path → ⊥
      never_some path e = absurd cc

  pub one_fixed : (fixed : List (Option (List ℕ))) (i : ℕ) (found : Option (List ℕ)) → AreFixed p choosers fixed → ((it : Chooser) → StandsAt choosers i it → IfSome found (IsFixed p it)) → AreFixed p choosers (set fixed i found)
  one_fixed fixed i found are is_fixed = record {
    size = length-set fixed i found ∙ are.size;
    each = λ j it path st e. elim (cases_order j i) [
      | inl same ↦
          let inside : i < length fixed = omega (arith, same, st.0, are.size) in
          let is_found : found ≡ Some path = sym (get_or-set_same fixed i found None inside) ∙ ap (λ (n : ℕ). get_or (set fixed i found) n None) (sym same) ∙ e in
          if_some is_found (is_fixed it (subst (λ (n : ℕ). StandsAt choosers n it) same st))
      | inr differ ↦
          are.each j it path st (sym (get_or-set_other fixed i j found None (λ s. elim differ [ inl l ↦ omega (arith, l, s) | inr m ↦ omega (arith, m, s) ])) ∙ e)
    ];
  }
    where
      if_some : {it : Chooser} {o : Option (List ℕ)} {path : List ℕ} → o ≡ Some path → IfSome o (IsFixed p it) → IsFixed p it path
      if_some {it} {o} {path} e x = subst (λ (q : Option (List ℕ)). IfSome q (IsFixed p it)) e x

-- ---- routers at their places

module _ (law : EachPolicyIsAnOrder) (p : Problem) (is : IsInstance p) (choosers : List Chooser) (at : map (λ (it : Chooser). it.router) choosers ≡ numbers p.net.routers) (each : All (IsChooser p) choosers) where
  pub chooser_at : (u : ℕ) → IsRouter p.net.routers u → (i : ℕ) × (it : Chooser) × StandsAt choosers i it × (it.router ≡ u)
  chooser_at u router =
      let c : Contains (map (λ (s : Chooser). s.router) choosers) u = subst (λ (xs : List ℕ). Contains xs u) (sym at) router in
      let lt : c.0 < length choosers = (let size = length-map choosers (λ (s : Chooser). s.router) in omega (arith, size, c.1)) in
      let s = stands choosers c.0 lt in
      (c.0, s.0, s.1, ap (λ (r : Chooser). r.router) (sym s.1.1) ∙ sym (get_or-map (λ (r : Chooser). r.router) choosers c.0 s.0 u lt) ∙ c.2)

  chosen : (i : ℕ) (it : Chooser) → StandsAt choosers i it → IsChooser p it
  chosen i it st = here (IsChooser p) choosers i it each st

  -- a peer's place
  peer_at : (u v : ℕ) → Linked p.net.links u v → (i : ℕ) × (it : Chooser) × StandsAt choosers i it × (it.router ≡ v)
  peer_at u v linked = chooser_at v (linked_is p.net is.problem.network u v linked)

  module _ (d : ℕ) (distances next : List ℕ) (below : d < LONGEST_PATH) (far : AreFar p choosers d distances) where
    next_far : (i : ℕ) (it : Chooser) → StandsAt choosers i it → IsNear p.net.links choosers distances it d (get_or distances i 0) (get_or next i 0) → IsFar p it.router (d + 1) (get_or next i 0)
    next_far i it st near paths stable =
        elim (far.each i it st paths stable) [
          | inl none ↦ inl none
          | inr some ↦ inr (elim near [
            | inl more ↦ inl (elim some [ inl least ↦ omega (arith, more.0, more.1, least) | inr beyond ↦ omega (arith, more.1, beyond) ])
            | inr kept ↦ elim (cases_lt d (get_or distances i 0)) [
              | inr known ↦ elim some [ inl least ↦ inl (omega (arith, kept.0, least)) | inr beyond ↦ inl (omega (arith, kept.0, known, beyond)) ]
              | inl unknown ↦
                  let longer : d < length (paths it.router) = elim some [ inl least ↦ omega (arith, least, unknown) | inr beyond ↦ beyond ] in
                  elim (cases_lt (d + 1) (length (paths it.router))) [
                    | inl far_off ↦ inr far_off
                    | inr close ↦ absurd (not_close (kept.1 unknown) longer (omega (arith, close)))
                  ]
            ]
          ])
        ]
      where
        not_close : IsBeyond p.net.links choosers distances it d → d < length (paths it.router) → length (paths it.router) ≤ d + 1 → ⊥
        not_close alone longer size = elim (over_peer law p is it (chosen i it st) paths stable alone.other) [
          | inl none ↦ (let e = ap length none in omega (arith, e, longer))
          | inr over ↦
              let v = peer_at it.router over.0 over.1 in
              let e = ap length over.2 in
              let same = ap (λ (n : ℕ). length (paths n)) v.3 in
              let up = alone.peers v.0 v.1 v.2 (subst (Linked p.net.links it.router) (sym v.3) over.1) in
              elim (far.each v.0 v.1 v.2 paths stable) [
                | inl none ↦ absurd (over.3 (ap paths (sym v.3) ∙ none))
                | inr some ↦ elim some [
                  | inl least ↦ omega (arith, least, up, e, same, size)
                  | inr beyond ↦ omega (arith, beyond, e, same, size)
                ]
              ]
        ]

    pub far_next : length next ≡ length choosers → ((i : ℕ) (it : Chooser) → StandsAt choosers i it → IsNear p.net.links choosers distances it d (get_or distances i 0) (get_or next i 0)) → AreFar p choosers (d + 1) next
    far_next size near = record {
      size = size;
      low = λ i lt.
          (let s = stands choosers i lt in
          let low = far.low i lt in
          elim (near i s.0 s.1) [ inl more ↦ omega (arith, more.1, below) | inr kept ↦ omega (arith, kept.0, low) ]);
      each = λ i it st. next_far i it st (near i it st);
    }

  module _ (distances : List ℕ) (far : AreDistances p choosers distances) (fixed : List (Option (List ℕ))) (are : AreFixed p choosers fixed) (it : Chooser) (x : IsChooser p it) (not : IsTrue it.is_origin → ⊥) where
    -- a permitted path goes on over some path
    some_rest : (rest : List ℕ) → chosen_permits it.policy (it.router ∷ rest) → rest ≢ []
    some_rest rest may =
        no_path_alone x.table p.prefix rest (λ o. not (x.origin.1 o)) (subst (λ (n : ℕ). IsPermitted x.table p.prefix (n ∷ rest)) (sym x.of.0) ((x.speaks.permits (it.router ∷ rest)).0 may))

    falls_behind : (path : List ℕ) → HoldsOverAll p.net.links choosers distances fixed it path → (paths : ℕ → List ℕ) → IsStable p paths → (v : ℕ) → Linked p.net.links it.router v
        → chosen_permits it.policy (it.router ∷ paths v) → path ≢ it.router ∷ paths v → BeginsWith path it.router × chosen_prefers it.policy path (it.router ∷ paths v)
    falls_behind path holds paths stable v linked may apart =
        let w = peer_at it.router v linked in
        let over = holds w.0 w.1 w.2 (subst (Linked p.net.links it.router) (sym w.3) linked) in
        elim (option_cases (get_or fixed w.0 None)) [
          | inr some ↦
              let by : FitsBy it.policy it.router w.1.router path some.0 = subst (λ (o : Option (List ℕ)). HoldsOver it.policy it.router w.1.router path o (get_or distances w.0 0)) some.1 over in
              let theirs : some.0 ≡ paths v = sym ((are.each w.0 w.1 some.0 w.2 some.1).always paths stable) ∙ ap paths w.3 in
              subst (λ (q : List ℕ). BeginsWith path it.router × chosen_prefers it.policy path (it.router ∷ q)) theirs
              (by.best (subst (λ (q : List ℕ). chosen_permits it.policy (it.router ∷ q)) (sym theirs) may) (λ e. apart (e ∙ ap (λ (q : List ℕ). it.router ∷ q) theirs)))
          | inl none ↦
              let any : IsBetterThanAny it.policy it.router w.1.router path (get_or distances w.0 0) = subst (λ (o : Option (List ℕ)). HoldsOver it.policy it.router w.1.router path o (get_or distances w.0 0)) none over in
              let begins : BeginsWith (paths v) w.1.router = subst (BeginsWith (paths v)) (sym w.3) (elim (begins_at p paths is.originated stable v (linked_is p.net is.problem.network it.router v linked)) [
                | inl empty ↦ absurd (some_rest (paths v) may empty)
                | inr on ↦ on
              ]) in
              let least : get_or distances w.0 0 ≤ length (paths v) = elim (far.each w.0 w.1 w.2 paths stable) [
                | inl empty ↦ absurd (some_rest (paths v) may (ap paths (sym w.3) ∙ empty))
                | inr long ↦ (let e = ap (λ (n : ℕ). length (paths n)) w.3 in omega (arith, long, e))
              ] in
              any (paths v) begins least may
        ]

    goes_over : (place : ℕ) (offer : IsOfferAt p.net.links choosers fixed it place) → GoesOver p.net.links it.router (it.router ∷ offer.theirs)
    goes_over place offer = elim (are.each place offer.peer offer.theirs offer.at offer.has).may [
      | inl own ↦ record { peer = offer.peer.router; rest = []; linked = offer.linked; whole = ap (λ (q : List ℕ). it.router ∷ q) own.1 }
      | inr other ↦ elim other.1 [
        | inl empty ↦ absurd (some_rest offer.theirs offer.permitted empty)
        | inr on ↦ record { peer = offer.peer.router; rest = on.1.peer ∷ on.1.rest; linked = offer.linked; whole = ap (λ (q : List ℕ). it.router ∷ q) on.1.whole }
      ]
    ]

    pub best_fixed : (path : List ℕ) → IsOffered p.net.links choosers fixed it path → HoldsOverAll p.net.links choosers distances fixed it path → IsFixed p it path
    best_fixed path offered holds = record {
      always = λ paths stable. always_best law p is it x not path paths stable (offer_in paths stable) (falls_behind path holds paths stable);
      may = inr (
        not,
        elim offered [
          | inl none ↦ inl none
          | inr o ↦ inr (subst (chosen_permits it.policy) (sym o.2) o.1.permitted, subst (GoesOver p.net.links it.router) (sym o.2) (goes_over o.0 o.1))
        ],
      );
    }
      where
        offer_in : (paths : ℕ → List ℕ) → IsStable p paths → (path ≡ []) ⊎ ((v : ℕ) × Linked p.net.links it.router v × (path ≡ it.router ∷ paths v) × chosen_permits it.policy path)
        offer_in paths stable = elim offered [
          | inl none ↦ inl none
          | inr o ↦
              let theirs = (are.each o.0 o.1.peer o.1.theirs o.1.at o.1.has).always paths stable in
              inr (o.1.peer.router, o.1.linked, o.2 ∙ ap (λ (q : List ℕ). it.router ∷ q) (sym theirs), subst (chosen_permits it.policy) (sym o.2) o.1.permitted)
        ]
