-- What routers may have whose paths no rule lists, round by round.
use Rattle.std.proofs.Common.{◌≡◌, ◌≢◌, ℕ, ◌<◌, ◌≤◌, ◌+◌, List, [], ◌∷◌, length, get_or, take, map, set, sym, ap, subst, ◌∙◌, arith, inl, inr, ◌⊎◌}
use Rattle.std.specs.Prelude.{◌↔◌, Bool, IsTrue}
use Rattle.std.specs.List.{All, AllPairs, Contains}
use Rattle.std.proofs.lemmas.Bool.{cases_order, cases_lt}
use Rattle.std.proofs.lemmas.List.{length-map, get_or-map, get_or_default, length-set, get_or-set_same, get_or-set_other, same_lists}
use Rattle.std.proofs.lemmas.List.Elements.{All-contains, Contains-get_or}
use Rattle.ranked_policy.specs.declared.limits.TheConstants.{LONGEST_PATH}
use Rattle.ranked_policy.specs.declared.network.Link.{Link}
use Rattle.ranked_policy.specs.declared.policy.Chosen.{Chosen}
use Rattle.ranked_policy.specs.Choosing.{chosen_permits, chosen_prefers}
use Rattle.ranked_policy.specs.Paths.{BeginsWith}
use Rattle.ranked_policy.specs.Plans.{IsRouter, Linked, numbers}
use Rattle.ranked_policy.specs.Policies.{Table, IsTableOf, Originates, IsPermitted, IsPreferred}
use Rattle.ranked_policy.specs.Promises.{EachPolicyIsAnOrder, OneRule}
use Rattle.ranked_policy.specs.Choices.{HasPathOver, IsChoice, IsFirst, Speaks}
use Rattle.stable_paths.specs.Stable.{Problem, IsInstance, IsStable, IsBestOf}
use Rattle.ranked_policy.proofs.OneTable.{one_table, table_stands}
use Rattle.stable_paths.proofs.TableLemmas.{linked_is}
use Rattle.stable_search.specs.declared.chooser.Chooser.{Chooser}
use Rattle.stable_search.specs.declared.seat.Seat.{Seat}
use Rattle.stable_search.specs.Choosers.{IsChooser}
use Rattle.stable_search.specs.Fits.{GoesOver, MayStand}
use Rattle.stable_search.specs.Listing.{IsBound, IsKept, LeadsOn, GoesOn, GoesOnOver, AreOnward, AddsOnce, HasMany, IsExtended, IsListing, AreListed}
use Rattle.stable_search.specs.Refusals.{MayHaveTooManyPaths}
use Rattle.stable_search.specs.Seats.{IsSeat, StandsAt}
use Rattle.stable_search.proofs.FixLemmas.{router_of, stable_may, over_peer}
use Rattle.stable_search.proofs.PlaceLemmas.{stands, here}
use Rattle.stable_search.proofs.RuleLemmas.{no_rule}
use Rattle.stable_search.proofs.SeatLemmas.{one_path, passed_more, passed_before, passed_last}

-- ---- paths along those of a list, and over the peers of a list

module _ (it : Seat) (bound : List ℕ) (count : ℕ) where
  abbrev pub Along : List (List ℕ) → List (List ℕ) → List (List ℕ) → Type 0
  Along old theirs new = (path : List ℕ) → (Contains new path ↔ Contains old path ⊎ GoesOn it bound theirs count path)

  pub none_along : (old new : List (List ℕ)) → new ≡ old → Along old [] new
  none_along old new e path = (
    λ c. inl (subst (λ (xs : List (List ℕ)). Contains xs path) e c),
    λ x. elim x [ inl before ↦ subst (λ (xs : List (List ℕ)). Contains xs path) (sym e) before | inr on ↦ absurd (let c = on.has in omega (arith, c.1)) ],
  )

  module _ (theirs : List (List ℕ)) (i : ℕ) (rest : List ℕ) (lt : i < length theirs) (is : rest ≡ get_or theirs i rest) (old found new : List (List ℕ)) (was : Along old (take i theirs) found) where
    abbrev pub Leads : Type 0
    Leads = LeadsOn it bound count rest

    later : (path : List ℕ) → GoesOn it bound (take i theirs) count path → GoesOn it bound (take (i + 1) theirs) count path
    later path on = record { rest = on.rest; has = passed_before theirs i rest lt is on.rest on.has; leads = on.leads; whole = on.whole }

    earlier : (path : List ℕ) → GoesOn it bound (take (i + 1) theirs) count path → GoesOn it bound (take i theirs) count path ⊎ (Leads × (it.router ∷ rest ≡ path))
    earlier path on = elim (passed_more theirs i rest lt is on.rest on.has) [
      | inl before ↦ inl (record { rest = on.rest; has = before; leads = on.leads; whole = on.whole })
      | inr same ↦ inr (
        subst (LeadsOn it bound count) (sym same) on.leads,
        ap (λ (r : List ℕ). it.router ∷ r) same ∙ sym on.whole,
      )
    ]

    pub skip_along : new ≡ found → (Leads → ⊥) → Along old (take (i + 1) theirs) new
    skip_along e not path = (
      λ c. elim ((was path).0 (subst (λ (xs : List (List ℕ)). Contains xs path) e c)) [ inl before ↦ inl before | inr on ↦ inr (later path on) ],
      λ x. subst (λ (xs : List (List ℕ)). Contains xs path) (sym e) ((was path).1 (elim x [
        | inl before ↦ inl before
        | inr on ↦ elim (earlier path on) [ inl before ↦ inr before | inr now ↦ absurd (not now.0) ]
      ])),
    )

    pub put_along : ((path : List ℕ) → (Contains new path ↔ Contains found path ⊎ (it.router ∷ rest ≡ path))) → Leads → Along old (take (i + 1) theirs) new
    put_along adds leads path = (
      λ c. elim ((adds path).0 c) [
        | inl before ↦ elim ((was path).0 before) [ inl first ↦ inl first | inr on ↦ inr (later path on) ]
        | inr same ↦ inr (record {
          rest = rest;
          has = passed_last theirs i rest lt is;
          leads = leads;
          whole = sym same;
        })
      ],
      λ x. (adds path).1 (elim x [
        | inl before ↦ inl ((was path).1 (inl before))
        | inr on ↦ elim (earlier path on) [ inl before ↦ inl ((was path).1 (inr before)) | inr now ↦ inr now.1 ]
      ]),
    )

  module _ (links : List Link) where
    abbrev pub Over : List Seat → List (List ℕ) → Type 0
    Over seats new = (path : List ℕ) → (Contains new path ↔ GoesOnOver links seats it bound count path)

    pub none_over : (new : List (List ℕ)) → new ≡ [] → Over [] new
    none_over new e path = (
      λ c. absurd (let d = subst (λ (xs : List (List ℕ)). Contains xs path) e c in omega (arith, d.1)),
      λ x. absurd (let c = x.seated in omega (arith, c.1)),
    )

    module _ (seats : List Seat) (i : ℕ) (peer : Seat) (lt : i < length seats) (is : peer ≡ get_or seats i peer) (found new : List (List ℕ)) (was : Over (take i seats) found) where
      over_later : (path : List ℕ) → GoesOnOver links (take i seats) it bound count path → GoesOnOver links (take (i + 1) seats) it bound count path
      over_later path x = record { peer = x.peer; seated = passed_before seats i peer lt is x.peer x.seated; linked = x.linked; on = x.on }

      over_earlier : (path : List ℕ) → GoesOnOver links (take (i + 1) seats) it bound count path
          → GoesOnOver links (take i seats) it bound count path ⊎ (Linked links it.router peer.router × GoesOn it bound peer.values.items count path)
      over_earlier path x = elim (passed_more seats i peer lt is x.peer x.seated) [
        | inl before ↦ inl (record { peer = x.peer; seated = before; linked = x.linked; on = x.on })
        | inr same ↦ inr (
          subst (λ (s : Seat). Linked links it.router s.router) (sym same) x.linked,
          subst (λ (s : Seat). GoesOn it bound s.values.items count path) (sym same) x.on,
        )
      ]

      pub skip_over : new ≡ found → (Linked links it.router peer.router → ⊥) → Over (take (i + 1) seats) new
      skip_over e not path = (
        λ c. over_later path ((was path).0 (subst (λ (xs : List (List ℕ)). Contains xs path) e c)),
        λ x. subst (λ (xs : List (List ℕ)). Contains xs path) (sym e) ((was path).1 (elim (over_earlier path x) [ inl before ↦ before | inr now ↦ absurd (not now.0) ])),
      )

      pub put_over : Along found peer.values.items new → Linked links it.router peer.router → Over (take (i + 1) seats) new
      put_over adds linked path = (
        λ c. elim ((adds path).0 c) [
          | inl before ↦ over_later path ((was path).0 before)
          | inr on ↦ record { peer = peer; seated = passed_last seats i peer lt is; linked = linked; on = on }
        ],
        λ x. (adds path).1 (elim (over_earlier path x) [ inl before ↦ inl ((was path).1 before) | inr now ↦ inr now.1 ]),
      )

-- ---- paths that are added

pub adds_none : (old new : List (List ℕ)) → new ≡ old → AddsOnce old [] new
adds_none old new e = record {
  exact = λ path. (
    λ c. inl (subst (λ (xs : List (List ℕ)). Contains xs path) e c),
    λ x. elim x [ inl before ↦ subst (λ (xs : List (List ℕ)). Contains xs path) (sym e) before | inr none ↦ absurd (omega (arith, none.1)) ],
  );
  distinct = λ all. subst (AllPairs (λ a b. a ≢ b)) (sym e) all;
}

pub adds_more : (paths : List (List ℕ)) (i : ℕ) (path : List ℕ) → i < length paths → path ≡ get_or paths i path → (old found new : List (List ℕ)) → AddsOnce old (take i paths) found
    → ((other : List ℕ) → (Contains new other ↔ Contains found other ⊎ (path ≡ other))) → (AllPairs (λ a b. a ≢ b) found → AllPairs (λ a b. a ≢ b) new) → AddsOnce old (take (i + 1) paths) new
adds_more paths i path lt is old found new was adds keeps = record {
  exact = λ other. (
    λ c. elim ((adds other).0 c) [
      | inl before ↦ elim ((was.exact other).0 before) [ inl first ↦ inl first | inr passed ↦ inr (passed_before paths i path lt is other passed) ]
      | inr same ↦ inr (subst (Contains (take (i + 1) paths)) same (passed_last paths i path lt is))
    ],
    λ x. (adds other).1 (elim x [
      | inl before ↦ inl ((was.exact other).1 (inl before))
      | inr passed ↦ elim (passed_more paths i path lt is other passed) [ inl before ↦ inl ((was.exact other).1 (inr before)) | inr same ↦ inr same ]
    ]),
  );
  distinct = λ all. keeps (was.distinct all);
}

-- ---- a router so far

-- a router's policy
abbrev chooser_in : Seat → Chooser
chooser_in seat = record { router = seat.router; is_origin = seat.is_origin; policy = seat.policy }

chooser_is : (p : Problem) (most : ℕ) (seat : Seat) (x : IsListing p most seat) → IsChooser p (chooser_in seat)
chooser_is p most seat x = record { table = x.table; of = x.of; origin = x.origin; speaks = x.speaks }

-- with all of fewer routers
fewer : (p : Problem) (most : ℕ) (seat : Seat) → IsListing p (most + 1) seat → IsListing p most seat
fewer p most seat x = record {
  table = x.table;
  of = x.of;
  origin = x.origin;
  speaks = x.speaks;
  other = x.other;
  may = x.may;
  has = λ paths stable low. x.has paths stable (λ more. (let le = low more in omega (arith, le)));
  distinct = x.distinct;
  some = x.some;
  few = x.few;
}

-- where nothing is to be found, all is there
closed : (p : Problem) (most more : ℕ) (seat : Seat) → (IsTrue seat.is_open → ⊥) → IsListing p most seat → IsListing p more seat
closed p most more seat not x = record {
  table = x.table;
  of = x.of;
  origin = x.origin;
  speaks = x.speaks;
  other = x.other;
  may = x.may;
  has = λ paths stable low. x.has paths stable (λ is_open. absurd (not is_open));
  distinct = x.distinct;
  some = x.some;
  few = x.few;
}

-- nor is anything where it has no path of more routers
bounded : (p : Problem) (most more : ℕ) (seat : Seat) → ((paths : ℕ → List ℕ) → IsStable p paths → length (paths seat.router) ≤ most) → IsListing p most seat → IsListing p more seat
bounded p most more seat short x = record {
  table = x.table;
  of = x.of;
  origin = x.origin;
  speaks = x.speaks;
  other = x.other;
  may = x.may;
  has = λ paths stable low. x.has paths stable (λ is_open. short paths stable);
  distinct = x.distinct;
  some = x.some;
  few = x.few;
}

-- what it may have begins with it
begins : (p : Problem) (most : ℕ) (seat : Seat) (x : IsListing p most seat) (path : List ℕ) → Contains seat.values.items path → 0 < length path → BeginsWith path seat.router
begins p most seat x path c some = elim (x.may path c) [
  | inl own ↦ ([], own.1 ∙ ap (λ (n : ℕ). n ∷ []) x.of.0)
  | inr other ↦ elim other.1 [
    | inl none ↦ (let e = ap length none in absurd (omega (arith, e, some)))
    | inr on ↦ (on.1.peer ∷ on.1.rest, on.1.whole ∙ ap (λ (n : ℕ). n ∷ on.1.peer ∷ on.1.rest) x.of.0)
  ]
]

-- ---- a round

module _ (law : EachPolicyIsAnOrder) (p : Problem) (is : IsInstance p) where
  module _ (most : ℕ) (seats : List Seat) (at : map (λ (s : Seat). s.router) seats ≡ numbers p.net.routers) (each : All (IsListing p most) seats) (some : 0 < most) where
    seat_of : (u : ℕ) → IsRouter p.net.routers u → (i : ℕ) × (s : Seat) × StandsAt seats i s × (s.router ≡ u)
    seat_of u router =
        let c : Contains (map (λ (s : Seat). s.router) seats) u = subst (λ (xs : List ℕ). Contains xs u) (sym at) router in
        let lt : c.0 < length seats = (let size = length-map seats (λ (s : Seat). s.router) in omega (arith, size, c.1)) in
        let s = stands seats c.0 lt in
        (c.0, s.0, s.1, ap (λ (r : Seat). r.router) (sym s.1.1) ∙ sym (get_or-map (λ (r : Seat). r.router) seats c.0 s.0 u lt) ∙ c.2)

    module _ (it : Seat) (x : IsListing p most it) (not : IsTrue it.is_origin → ⊥) where
      permitted : (paths : ℕ → List ℕ) → IsStable p paths → 0 < length (paths it.router) → chosen_permits it.policy (paths it.router)
      permitted paths stable long = elim (stable_may law p is (chooser_in it) (chooser_is p most it x) paths stable) [
        | inl own ↦ absurd (not own.0)
        | inr other ↦ elim other.1 [ inl none ↦ (let e = ap length none in absurd (omega (arith, e, long))) | inr may ↦ may.0 ]
      ]

      -- what it has in a stable assignment is preferred to each other choice
      first_of_all : (paths : ℕ → List ℕ) → IsStable p paths → 0 < length (paths it.router) → IsFirst (HasPathOver p.net.links paths x.table.router) x.table p.prefix (paths it.router)
      first_of_all paths stable long =
          let b = stable it.router (router_of p.net it.router x.table x.of) in
          let best : IsBestOf p paths x.table (paths it.router) = subst (λ (t : Table). IsBestOf p paths t (paths it.router)) (one_table p.net it.router b.0 x.table is.problem.network b.1 x.of) b.2 in
          elim best [
            | inl own ↦ absurd (not (x.origin.1 own.0))
            | inr other ↦ elim other.1 [ inl first ↦ first | inr none ↦ (let e = ap length none.0 in absurd (omega (arith, e, long))) ]
          ]

      -- so none is preferred to it along what a peer has in every stable assignment
      not_behind : (bound : List ℕ) → IsBound p.net.links seats it bound → (paths : ℕ → List ℕ) → IsStable p paths → 0 < length (paths it.router) → IsKept it bound (paths it.router)
      not_behind bound (inl none) paths stable long = inl (ap length none)
      not_behind bound (inr certain) paths stable long = elim (cases_lt 0 (length bound)) [
        | inl some ↦ inr (λ prefers. not_preferred some prefers)
        | inr none ↦ inl (omega (arith, none))
      ]
        where
          not_preferred : 0 < length bound → chosen_prefers it.policy (it.router ∷ bound) (paths it.router) → ⊥
          not_preferred some prefers =
              let mine : List ℕ = paths it.router in
              let path : List ℕ = it.router ∷ bound in
              let peer : IsListing p most certain.peer = All-contains (IsListing p most) seats certain.peer each certain.seated in
              let theirs : paths certain.peer.router ≡ bound =
              (one_path bound (paths certain.peer.router)).0
              (subst (λ (xs : List (List ℕ)). Contains xs (paths certain.peer.router)) certain.only (peer.has paths stable (λ more. absurd (certain.settled more)))) in
              let first = first_of_all paths stable long in
              let order = law x.table (table_stands p.net it.router x.table is.problem.network x.of) p.prefix in
              let path_may : IsPermitted x.table p.prefix path = (x.speaks.permits path).0 certain.may in
              let mine_may : IsPermitted x.table p.prefix mine = (x.speaks.permits mine).0 (permitted paths stable long) in
              let better : IsPreferred x.table p.prefix path mine = (x.speaks.prefers path mine).0 prefers in
              let choice : IsChoice (HasPathOver p.net.links paths x.table.router) x.table p.prefix path = record {
                peer = certain.peer.router;
                rest = bound;
                heard = (subst (λ (n : ℕ). Linked p.net.links n certain.peer.router) (sym x.of.0) certain.linked, sym theirs);
                some = λ none. (let e = ap length none in omega (arith, e, some));
                goes_on = ap (λ (n : ℕ). n ∷ bound) (sym x.of.0);
                permitted = path_may;
              } in
              let worse : IsPreferred x.table p.prefix mine path =
              first.before path choice (λ e. order.irreflexive path path_may (subst (IsPreferred x.table p.prefix path) e better)) in
              order.irreflexive mine mine_may (order.transitive mine path mine mine_may path_may mine_may worse better)

      module _ (found : List (List ℕ)) (on : AreOnward p.net.links seats it most found) where
        -- a path along that of a peer may be had
        along_stands : (path : List ℕ) → GoesOnOver p.net.links seats it on.bound most path → MayStand p.net.links p.prefix x.table path
        along_stands path over =
            let peer : IsListing p most over.peer = All-contains (IsListing p most) seats over.peer each over.seated in
            let b = begins p most over.peer peer over.on.rest over.on.has (let e = over.on.leads.0 in omega (arith, e, some)) in
            let may : chosen_permits it.policy path = subst (chosen_permits it.policy) (sym over.on.whole) over.on.leads.1 in
            inr (
              (λ o. not (x.origin.1 o)),
              inr (
                (x.speaks.permits path).0 may,
                subst (λ (n : ℕ). GoesOver p.net.links n path) (sym x.of.0) (record {
                  peer = over.peer.router;
                  rest = b.0;
                  linked = over.linked;
                  whole = over.on.whole ∙ ap (λ (q : List ℕ). it.router ∷ q) b.1;
                }),
              ),
            )

        -- what the router has in a stable assignment goes on along what a peer may have
        stable_along : (paths : ℕ → List ℕ) → IsStable p paths → length (paths it.router) ≡ most + 1 → GoesOnOver p.net.links seats it on.bound most (paths it.router)
        stable_along paths stable long = elim (over_peer law p is (chooser_in it) (chooser_is p most it x) paths stable not) [
          | inl none ↦ (let e = ap length none in absurd (omega (arith, e, long)))
          | inr over ↦
              let w = seat_of over.0 (linked_is p.net is.problem.network it.router over.0 over.1) in
              let theirs : paths over.0 ≡ paths w.1.router = ap paths (sym w.3) in
              let whole : paths it.router ≡ it.router ∷ paths w.1.router = over.2 ∙ ap (λ (q : List ℕ). it.router ∷ q) theirs in
              let size : length (paths w.1.router) ≡ most = (let e = ap length whole in omega (arith, e, long)) in
              let positive : 0 < length (paths it.router) = omega (arith, long) in
              record {
                peer = w.1;
                seated = (w.0, w.2.0, w.2.1);
                linked = subst (Linked p.net.links it.router) (sym w.3) over.1;
                on = record {
                  rest = paths w.1.router;
                  has = (here (IsListing p most) seats w.0 w.1 each w.2).has paths stable (λ more. omega (arith, size));
                  leads = (
                    size,
                    subst (chosen_permits it.policy) whole (permitted paths stable positive),
                    subst (IsKept it on.bound) whole (not_behind on.bound on.is paths stable positive),
                  );
                  whole = whole;
                };
              }
        ]

        adds_stand : (values : List (List ℕ)) → AddsOnce it.values.items found values → (path : List ℕ) → Contains values path → MayStand p.net.links p.prefix x.table path
        adds_stand values adds path c = elim ((adds.exact path).0 c) [ inl before ↦ x.may path before | inr along ↦ along_stands path ((on.exact path).0 along) ]

        -- with these paths the router has all of one router more
        extended : (new : Seat) → IsTrue it.is_open → IsExtended it found new → IsListing p (most + 1) new
        extended new is_open e = record {
          table = x.table;
          of = subst (λ (n : ℕ). IsTableOf p.net n x.table) (sym e.router) x.of;
          origin = subst (λ (b : Bool). IsTrue b ↔ Originates x.table p.prefix x.table.router) (sym e.is_origin) x.origin;
          speaks = subst (λ (policy : Chosen). Speaks policy x.table p.prefix) (sym e.policy) x.speaks;
          other = λ more own. not (subst IsTrue e.is_origin own);
          may = adds_stand new.values.items e.adds;
          has = λ paths stable low.
              subst (λ (n : ℕ). Contains new.values.items (paths n)) (sym e.router)
              ((e.adds.exact (paths it.router)).1
              (has_one paths stable (subst (λ (n : ℕ). length (paths n) ≤ most + 1) e.router (low (subst IsTrue (sym e.is_open) is_open)))));
          distinct = e.adds.distinct x.distinct;
          some = (let c = (e.adds.exact (get_or it.values.items 0 [])).1 (inl (Contains-get_or it.values.items 0 [] x.some)) in omega (arith, c.1));
          few = e.few;
        }
          where
            has_one : (paths : ℕ → List ℕ) → IsStable p paths → length (paths it.router) ≤ most + 1 → Contains it.values.items (paths it.router) ⊎ Contains found (paths it.router)
            has_one paths stable low = elim (cases_lt most (length (paths it.router))) [
              | inl long ↦ inr ((on.exact (paths it.router)).1 (stable_along paths stable (omega (arith, long, low))))
              | inr short ↦ inl (x.has paths stable (λ more. short))
            ]

        -- or too many
        too_many : OneRule → HasMany it.values.items found → MayHaveTooManyPaths p it.router
        too_many one many = record {
          table = x.table;
          of = x.of;
          other = λ o. not (x.origin.1 (subst (Originates x.table p.prefix) (sym x.of.0) o));
          none = no_rule one p is it.router x.table x.of (λ o. not (x.origin.1 o)) many.values many.many may once;
          paths = many.values;
          many = many.many;
          may = may;
          once = once;
        }
          where
            may : All (MayStand p.net.links p.prefix x.table) many.values
            may k d lt = adds_stand many.values many.adds (get_or many.values k d) (Contains-get_or many.values k d lt)

            once : AllPairs (λ a b. a ≢ b) many.values
            once = many.adds.distinct x.distinct

  -- what is found up to the longest path is all
  pub seat_done : (seat : Seat) → IsListing p LONGEST_PATH seat → IsSeat p seat
  seat_done seat x = record {
    table = x.table;
    of = x.of;
    origin = x.origin;
    speaks = x.speaks;
    may = x.may;
    has = λ paths stable. x.has paths stable (λ more. short paths stable (x.other more));
    distinct = x.distinct;
    some = x.some;
    few = x.few;
  }
    where
      short_route : (path : List ℕ) → (Originates x.table p.prefix x.table.router → ⊥) → IsPermitted x.table p.prefix path → length path ≤ LONGEST_PATH
      short_route path not (inl own) = absurd (not own.0)
      short_route path not (inr on) = on.1.short

      short : (paths : ℕ → List ℕ) → IsStable p paths → (IsTrue seat.is_origin → ⊥) → length (paths seat.router) ≤ LONGEST_PATH
      short paths stable not = elim (stable_may law p is (chooser_in seat) (chooser_is p LONGEST_PATH seat x) paths stable) [
        | inl own ↦ absurd (not own.0)
        | inr other ↦ elim other.1 [
          | inl none ↦ (let e = ap length none in omega (arith, e))
          | inr may ↦ short_route (paths seat.router) (λ o. not (x.origin.1 o)) ((x.speaks.permits (paths seat.router)).0 may.0)
        ]
      ]

-- ---- the routers in their order

abbrev number : Seat → ℕ
number s = s.router

module _ (p : Problem) where
  pub none_listed : (seats : List Seat) → map (λ (s : Seat). s.router) seats ≡ numbers p.net.routers → All (IsListing p 1) seats → AreListed p 1 0 seats
  none_listed seats at each = record { routers = at; each = each; first = λ i s lt st. absurd (omega (arith, lt)) }

  -- as many as there are routers
  pub same_size : (a b c d : ℕ) (xs ys : List Seat) → AreListed p a b xs → AreListed p c d ys → length xs ≡ length ys
  same_size a b c d xs ys one other =
      let first = ap length one.routers in
      let second = ap length other.routers in
      omega (arith, first, second, length-map xs (λ (s : Seat). s.router), length-map ys (λ (s : Seat). s.router))

  module _ (most done : ℕ) (seats : List Seat) (are : AreListed p most done seats) where
    -- the next place has all
    listed_as : (seat : Seat) → StandsAt seats done seat → IsListing p (most + 1) seat → AreListed p most (done + 1) seats
    listed_as seat at listing = record {
      routers = are.routers;
      each = are.each;
      first = λ i s lt st. elim (cases_order i done) [
        | inl same ↦
            let now : StandsAt seats done s = subst (λ (n : ℕ). StandsAt seats n s) same st in
            let one : seat ≡ s = sym at.1 ∙ get_or_default seats done seat s at.0 ∙ now.1 in
            subst (IsListing p (most + 1)) one listing
        | inr differ ↦ are.first i s (elim differ [ inl l ↦ l | inr m ↦ absurd (omega (arith, lt, m)) ]) st
      ];
    }

    -- it has all already, since its paths are not found by rounds, or since it has none that is longer
    pub listed_whole : (seat : Seat) → StandsAt seats done seat → (IsTrue seat.is_open → ⊥) → AreListed p most (done + 1) seats
    listed_whole seat at not = listed_as seat at (closed p most (most + 1) seat not (here (IsListing p most) seats done seat are.each at))

    pub listed_short : (seat : Seat) → StandsAt seats done seat → ((paths : ℕ → List ℕ) → IsStable p paths → length (paths seat.router) ≤ most) → AreListed p most (done + 1) seats
    listed_short seat at short = listed_as seat at (bounded p most (most + 1) seat short (here (IsListing p most) seats done seat are.each at))

    -- or it has all now
    listed_more : (old new : Seat) → StandsAt seats done old → new.router ≡ old.router → IsListing p (most + 1) new → AreListed p most (done + 1) (set seats done new)
    listed_more old new at same_router x = record {
      routers = same_routers ∙ are.routers;
      each = λ k d lt.
          (let inside : k < length seats = (let size = length-set seats done new in omega (arith, size, lt)) in
          elim (cases_order k done) [
            | inl same ↦
                subst (IsListing p most) (sym (ap (λ (n : ℕ). get_or (set seats done new) n d) same ∙ get_or-set_same seats done new d at.0)) (fewer p most new x)
            | inr differ ↦
                subst (IsListing p most) (sym (get_or-set_other seats done k new d (apart k differ))) (are.each k d inside)
          ]);
      first = λ i s lt st. elim (cases_order i done) [
        | inl same ↦
            let now : get_or (set seats done new) done s ≡ s = ap (λ (n : ℕ). get_or (set seats done new) n s) (sym same) ∙ st.1 in
            subst (IsListing p (most + 1)) (sym (get_or-set_same seats done new s at.0) ∙ now) x
        | inr differ ↦
            let size = length-set seats done new in
            are.first i s (elim differ [ inl l ↦ l | inr m ↦ absurd (omega (arith, lt, m)) ])
            (omega (arith, size, st.0), sym (get_or-set_other seats done i new s (apart i differ)) ∙ st.1)
      ];
    }
      where
        apart : (k : ℕ) → (k < done) ⊎ (done < k) → k ≢ done
        apart k differ e = elim differ [ inl l ↦ omega (arith, l, e) | inr m ↦ omega (arith, m, e) ]

        same_at : (k : ℕ) → number (get_or (set seats done new) k old) ≡ number (get_or seats k old)
        same_at k = elim (cases_order k done) [
          | inl same ↦
              ap number (ap (λ (n : ℕ). get_or (set seats done new) n old) same ∙ get_or-set_same seats done new old at.0) ∙ same_router
              ∙ ap number (sym (ap (λ (n : ℕ). get_or seats n old) same ∙ at.1))
          | inr differ ↦ ap number (get_or-set_other seats done k new old (apart k differ))
        ]

        same_routers : map (λ (s : Seat). s.router) (set seats done new) ≡ map (λ (s : Seat). s.router) seats
        same_routers =
            let size = length-map seats (λ (s : Seat). s.router) in
            let sized = length-set seats done new in
            let new_size = length-map (set seats done new) (λ (s : Seat). s.router) in
            same_lists (map (λ (s : Seat). s.router) (set seats done new)) (map (λ (s : Seat). s.router) seats) (omega (arith, size, sized, new_size)) (λ k d lt.
            (let inside : k < length seats = omega (arith, lt, sized, new_size) in
            get_or-map (λ (s : Seat). s.router) (set seats done new) k old d (omega (arith, inside, sized)) ∙ same_at k ∙ sym (get_or-map (λ (s : Seat). s.router) seats k old d inside)))

  -- the next place has all, where what it may have is found by rounds; or it has too many
  module _ (law : EachPolicyIsAnOrder) (is : IsInstance p) (most done : ℕ) (some : 0 < most) (seats : List Seat) (are : AreListed p most done seats) (old : Seat) (at : StandsAt seats done old)
      (is_open : IsTrue old.is_open) (found : List (List ℕ)) (on : AreOnward p.net.links seats old most found) where
    listing : IsListing p most old
    listing = here (IsListing p most) seats done old are.each at

    pub place_listed : (new : Seat) → IsExtended old found new → AreListed p most (done + 1) (set seats done new)
    place_listed new e =
        listed_more most done seats are old new at e.router (extended law p is most seats are.routers are.each some old listing (listing.other is_open) found on new is_open e)

    pub place_full : OneRule → HasMany old.values.items found → MayHaveTooManyPaths p old.router
    place_full one many = too_many law p is most seats are.routers are.each some old listing (listing.other is_open) found on one many

  -- a round more
  pub next_round : (most done : ℕ) (seats : List Seat) → AreListed p most done seats → length seats ≤ done → AreListed p (most + 1) 0 seats
  next_round most done seats are all = record {
    routers = are.routers;
    each = λ k d lt.
        (let s = stands seats k lt in
        subst (IsListing p (most + 1)) (sym (get_or_default seats k d s.0 lt ∙ s.1.1)) (are.first k s.0 (omega (arith, lt, all)) s.1));
    first = λ i s lt st. absurd (omega (arith, lt));
  }
