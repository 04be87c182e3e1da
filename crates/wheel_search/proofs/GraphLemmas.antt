-- The feasible paths of a network as places of rows.
use Rattle.std.proofs.Common.{◌≡◌, ◌≢◌, ℕ, zero, suc, ◌<◌, ◌≤◌, ◌+◌, ◌^◌, List, [], ◌∷◌, length, get_or, map, refl, sym, ap, subst, ◌∙◌, arith, inl, inr}
use Rattle.std.specs.List.{Contains, HoldsAt}
use Rattle.std.proofs.lemmas.Bool.{cases_lt}
use Rattle.std.proofs.lemmas.List.{length-map, get_or-map, get_or_default, get_or_past}
use mathlib.Core.Logic.{◌⊎◌}
use Rattle.ranked_policy.specs.declared.limits.TheConstants.{LONGEST_PATH}
use Rattle.ranked_policy.specs.Paths.{BeginsWith, EndsWith}
use Rattle.ranked_policy.specs.declared.network.NetRouter.{NetRouter}
use Rattle.ranked_policy.specs.Plans.{IsRouter, Linked, IsOrigin, numbers}
use Rattle.ranked_policy.specs.Policies.{Table, IsTableOf, IsPermitted, IsPreferred}
use Rattle.ranked_policy.specs.Promises.{EachPolicyIsAnOrder, OneRule}
use Rattle.ranked_policy.specs.Tests.{PrefersIsATest}
use Rattle.stable_paths.specs.Stable.{Problem, IsProblem}
use Rattle.dispute_wheels.specs.Wheels.{HangsOn, HangRound, HasCycle}
use Rattle.dispute_wheels.specs.Feasible.{IsFeasible, Likes, game_of}
use Rattle.dispute_wheels.proofs.FeasibleLemmas.{permitted_at, known, heads, tails, alone_originates, apart}
use Rattle.wheel_search.specs.declared.row.Row.{Row}
use Rattle.wheel_search.specs.declared.wait.Wait.{Wait}
use Rattle.wheel_search.specs.declared.wait.Wait.TheVariants.{Never, Nothing, Rest}
use Rattle.wheel_search.specs.Waits.{wait_of, count_of, ComesIn, Comes, AreWithin, IsFree, AllFree}
use Rattle.wheel_search.specs.Found.{HasNoRule}
use Rattle.wheel_search.specs.Rows.{IsRow, IsWhole, IsWithin, AreRows, RestStands, IsWait, AreWaits, GoesOn, paths_of, paths_at, path_at, router_at}
use Rattle.wheel_search.proofs.RowLemmas.{free_or_not, free_none, not_free, free_no_longer}
use Rattle.wheel_search.proofs.WaitLemmas.{comes_by, never_in, comes_on, nothing_comes, free_more}

module _ (law : EachPolicyIsAnOrder) (p : Problem) (is : IsProblem p) (rows : List Row) (are : AreRows p rows) where
  -- the row at a place
  pub paths_here : (r : ℕ) (d : Row) → r < length rows → paths_at rows r ≡ paths_of (get_or rows r d)
  paths_here r d l = get_or-map paths_of rows r d [] l

  router_here : (r : ℕ) (d : Row) → r < length rows → router_at rows r ≡ (get_or rows r d).seat.router
  router_here r d l = get_or-map (λ (x : Row). x.seat.router) rows r d 0 l

  first_row : List Row → (0 < length rows) → Row
  first_row xs l = head_row rows l
    where
      head_row : (ys : List Row) → 0 < length ys → Row
      head_row [] l = absurd (omega (arith, l))
      head_row (y ∷ ys) l = y

  some_row : (r : ℕ) → r < length rows → Row
  some_row r l = first_row rows (omega (arith, l))

  row_here : (r : ℕ) (l : r < length rows) → IsRow p (get_or rows r (some_row r l))
  row_here r l = are.each r (some_row r l) l

  table_of : (r : ℕ) → r < length rows → Table
  table_of r l = (row_here r l).seat.table

  table_is : (r : ℕ) (l : r < length rows) → IsTableOf p.net (router_at rows r) (row_here r l).seat.table
  table_is r l = subst (λ (u : ℕ). IsTableOf p.net u (row_here r l).seat.table) (sym (router_here r (some_row r l) l)) (row_here r l).seat.of

  whole_here : (r : ℕ) (l : r < length rows) → IsWhole p are.longest (get_or rows r (some_row r l))
  whole_here r l = are.whole r (some_row r l) l

  pub has_at : (r : ℕ) → r < length rows → (rest : List ℕ) → IsFeasible p.net p.prefix (router_at rows r ∷ rest) → IsWithin p are.longest (router_at rows r) (router_at rows r ∷ rest)
      → Contains (paths_at rows r) (router_at rows r ∷ rest)
  has_at r l rest f within =
      let u = router_here r (some_row r l) l in
      subst (λ (x : ℕ). Contains (paths_at rows r) (x ∷ rest)) (sym u)
      (subst (λ (xs : List (List ℕ)). Contains xs ((get_or rows r (some_row r l)).seat.router ∷ rest)) (sym (paths_here r (some_row r l) l))
      ((whole_here r l).has rest (subst (λ (x : ℕ). IsFeasible p.net p.prefix (x ∷ rest)) u f) (subst (λ (x : ℕ). IsWithin p are.longest x (x ∷ rest)) u within)))

  short_at : (r : ℕ) → r < length rows → (path : List ℕ) → Contains (paths_at rows r) path → IsWithin p are.longest (router_at rows r) path
  short_at r l path c = subst (λ (x : ℕ). IsWithin p are.longest x path) (sym (router_here r (some_row r l) l))
      ((whole_here r l).short path (subst (λ (xs : List (List ℕ)). Contains xs path) (paths_here r (some_row r l) l) c))

  -- the rest of a path of a row stands in its row
  pub rest_stands : (row : Row) → IsWhole p are.longest row → IsRow p row → (path : List ℕ) → Contains (paths_of row) path → RestStands p rows path
  rest_stands row whole is_row path c u v rest e f next l at =
      let b = is_row.begins c.0 path c.1 in
      let first : BeginsWith path row.seat.router = subst (λ (x : List ℕ). BeginsWith x row.seat.router) c.2 b in
      let same : u ≡ row.seat.router = heads u row.seat.router (v ∷ rest) first.0 (sym e ∙ first.1) in
      let here : Contains (paths_of row) (row.seat.router ∷ v ∷ rest) = subst (Contains (paths_of row)) (e ∙ ap (λ (x : ℕ). x ∷ v ∷ rest) same) c in
      subst (λ (x : ℕ). Contains (paths_at rows next) (x ∷ rest)) at
      (has_at next l rest (subst (λ (x : ℕ). IsFeasible p.net p.prefix (x ∷ rest)) (sym at) f) (subst (λ (x : ℕ). IsWithin p are.longest x (x ∷ rest)) (sym at) (whole.onward v rest here)))

  permitted_here : (r : ℕ) (l : r < length rows) (path : List ℕ) (v : ℕ) → Contains (paths_at rows r) path → IsOrigin p.net.origins v p.prefix → EndsWith path v
      → IsPermitted (row_here r l).seat.table p.prefix path
  permitted_here r l path v c o ends = (row_here r l).permitted path v (subst (λ (xs : List (List ℕ)). Contains xs path) (paths_here r (some_row r l) l) c)
      (subst (λ os. IsOrigin os v p.prefix) (sym (row_here r l).seat.of.1) o) ends

  pub begins_here : (r : ℕ) → r < length rows → (i : ℕ) → i < length (paths_at rows r) → BeginsWith (path_at rows r i) (router_at rows r)
  begins_here r l i below =
      let e = paths_here r (some_row r l) l in
      subst (λ (x : ℕ). BeginsWith (path_at rows r i) x) (sym (router_here r (some_row r l) l))
      (subst (λ (xs : List (List ℕ)). BeginsWith (get_or xs i []) (get_or rows r (some_row r l)).seat.router) (sym e) ((row_here r l).begins i [] (subst (λ (xs : List (List ℕ)). i < length xs) e below)))

  order_here : (r : ℕ) (l : r < length rows) (i j : ℕ) → i < j → j < length (paths_at rows r) → IsPreferred (row_here r l).seat.table p.prefix (path_at rows r i) (path_at rows r j)
  order_here r l i j less below =
      subst (λ (xs : List (List ℕ)). j < length xs → IsPreferred (row_here r l).seat.table p.prefix (get_or xs i []) (get_or xs j [])) (sym (paths_here r (some_row r l) l)) ((row_here r l).order i j less) below

  -- of two paths of a row the first is liked better
  pub likes_here : (r : ℕ) → r < length rows → (i j : ℕ) → i < j → j < length (paths_at rows r) → Likes p.net p.prefix (path_at rows r i) (path_at rows r j)
  likes_here r l i j less below = record {
    router = router_at rows r;
    table = (row_here r l).seat.table;
    of = table_is r l;
    first = begins_here r l i (omega (arith, less, below));
    second = begins_here r l j below;
    preferred = order_here r l i j less below;
  }

  -- the row of a router
  pub row_of : (u : ℕ) → IsRouter p.net.routers u → (r : ℕ) × (r < length rows) × (router_at rows r ≡ u)
  row_of u k =
      let c = subst (λ (xs : List ℕ). Contains xs u) (sym are.routers) k in
      let l : c.0 < length rows = omega (arith, c.1, length-map rows (λ (x : Row). x.seat.router)) in
      (c.0, l, get_or_default (map (λ (x : Row). x.seat.router) rows) c.0 0 u c.1 ∙ c.2)

  -- where a path stands
  abbrev Stands : List ℕ → Type 0
  Stands path = (r : ℕ) × (i : ℕ) × (r < length rows) × (i < length (paths_at rows r)) × (path_at rows r i ≡ path)

  -- where a feasible path of a router with a rule stands
  stands : (u : ℕ) (rest : List ℕ) → IsFeasible p.net p.prefix (u ∷ rest) → (HasNoRule p u → ⊥) → Stands (u ∷ rest)
  stands u rest f ranked =
      let at = row_of u (known law p is u rest f) in
      let c = has_at at.0 at.1 rest (subst (λ (x : ℕ). IsFeasible p.net p.prefix (x ∷ rest)) (sym at.2) f) (λ none. absurd (ranked (subst (HasNoRule p) at.2 none))) in
      (at.0, c.0, at.1, c.1, get_or_default (paths_at rows at.0) c.0 [] (router_at rows at.0 ∷ rest) c.1 ∙ c.2 ∙ ap (λ (x : ℕ). x ∷ rest) at.2)

  -- a router has a rule, or none
  rule_or_not : PrefersIsATest → OneRule → (u : ℕ) → IsRouter p.net.routers u → HasNoRule p u ⊎ (HasNoRule p u → ⊥)
  rule_or_not tests one u k =
      let at = row_of u k in
      let row = get_or rows at.0 (some_row at.0 at.1) in
      let e : row.seat.router ≡ u = sym (router_here at.0 (some_row at.0 at.1) at.1) ∙ at.2 in
      elim (free_or_not row.seat.kind) [
        | inl free ↦ inl (subst (HasNoRule p) e (free_none tests one p is row.seat (row_here at.0 at.1).seat free))
        | inr other ↦ inr (λ none. not_free tests one p is row.seat (row_here at.0 at.1).seat other (subst (HasNoRule p) (sym e) none))
      ]

  -- a feasible path ends at an origin
  ends : (path : List ℕ) → IsFeasible p.net p.prefix path → (v : ℕ) × IsOrigin p.net.origins v p.prefix × EndsWith path v
  ends [] f = absurd f
  ends (u ∷ []) f =
      let o = alone_originates law p is u f.table f.of.0 f.permitted in
      (u, subst (λ (x : ℕ). IsOrigin p.net.origins x p.prefix) f.of.0 (subst (λ os. IsOrigin os f.table.router p.prefix) f.of.1 o), ([], refl))
  ends (u ∷ v ∷ rest) f = let e = ends (v ∷ rest) f.2 in (e.0, e.1, (u ∷ e.2.0, ap (λ (x : List ℕ). u ∷ x) e.2.1))

  -- a path of a row that goes on by a feasible one over a link is feasible
  onward : (r i v k : ℕ) → r < length rows → i < length (paths_at rows r) → GoesOn p rows (router_at rows r) (path_at rows r i) v k → IsFeasible p.net p.prefix (path_at rows v k) → IsFeasible p.net p.prefix (path_at rows r i)
  onward r i v k l below g f =
      let b = begins_here v g.known k g.below in
      let w = router_at rows v in
      let u = router_at rows r in
      let whole : path_at rows r i ≡ u ∷ w ∷ b.0 = g.whole ∙ ap (λ (x : List ℕ). u ∷ x) b.1 in
      let e = ends (path_at rows v k) f in
      let ends_here : EndsWith (path_at rows r i) e.0 = (u ∷ e.2.0, g.whole ∙ ap (λ (x : List ℕ). u ∷ x) e.2.1) in
      let c : Contains (paths_at rows r) (path_at rows r i) = (i, below, get_or_default (paths_at rows r) i (path_at rows r i) [] below) in
      let perm = permitted_here r l (path_at rows r i) e.0 c e.1 ends_here in
      subst (IsFeasible p.net p.prefix) (sym whole) (
        record { table = (row_here r l).seat.table; of = table_is r l; permitted = subst (IsPermitted (row_here r l).seat.table p.prefix) whole perm },
        g.linked,
        subst (IsFeasible p.net p.prefix) b.1 f,
      )

  -- ---- what a path waits for

  -- the row at a router's place is that of the router
  pub router_found : (next peer : ℕ) → next < length p.net.routers → HoldsAt (λ r. r.asn ≡ peer) p.net.routers next → (next < length rows) × (router_at rows next ≡ peer)
  router_found next peer l holds =
      let size : length rows ≡ length p.net.routers = sym (length-map rows (λ (x : Row). x.seat.router)) ∙ ap length are.routers ∙ length-map p.net.routers (λ (x : NetRouter). x.asn) in
      (omega (arith, l, size), ap (λ (xs : List ℕ). get_or xs next 0) are.routers ∙ at p.net.routers next l holds)
    where
      at : (rs : List NetRouter) (i : ℕ) → i < length rs → HoldsAt (λ r. r.asn ≡ peer) rs i → get_or (numbers rs) i 0 ≡ peer
      at [] i l holds = absurd (omega (arith, l))
      at (r ∷ rs) zero l holds = holds r
      at (r ∷ rs) (suc i) l holds = at rs i (omega (arith, l)) (λ d. holds d)

  pub not_known : (u peer : ℕ) (rest path : List ℕ) → path ≡ u ∷ peer ∷ rest → (IsRouter p.net.routers peer → ⊥) → IsFeasible p.net p.prefix path → ⊥
  not_known u peer rest path e not f = let g : IsFeasible p.net p.prefix (u ∷ peer ∷ rest) = subst (IsFeasible p.net p.prefix) e f in not (known law p is peer rest g.2)

  pub not_listed : (u peer next : ℕ) (rest path : List ℕ) → path ≡ u ∷ peer ∷ rest → next < length rows → router_at rows next ≡ peer → (paths : List (List ℕ)) → paths ≡ paths_at rows next
      → RestStands p rows path → ((more : List ℕ) → Contains paths more → path ≡ u ∷ more → ⊥) → IsFeasible p.net p.prefix path → ⊥
  not_listed u peer next rest path e l at paths same stand not f =
      let g : IsFeasible p.net p.prefix (u ∷ peer ∷ rest) = subst (IsFeasible p.net p.prefix) e f in
      not (peer ∷ rest) (subst (λ (xs : List (List ℕ)). Contains xs (peer ∷ rest)) (sym same) (stand u peer rest e g.2 next l at)) e

  pub not_linked : (u peer : ℕ) (rest path : List ℕ) → path ≡ u ∷ peer ∷ rest → (Linked p.net.links u peer → ⊥) → IsFeasible p.net p.prefix path → ⊥
  not_linked u peer rest path e not f = let g : IsFeasible p.net p.prefix (u ∷ peer ∷ rest) = subst (IsFeasible p.net p.prefix) e f in not g.1

  pub goes_on : (u peer next at : ℕ) (path : List ℕ) → next < length rows → router_at rows next ≡ peer → (paths : List (List ℕ)) → paths ≡ paths_at rows next → at < length paths → at + 1 < 2 ^ 64 → path ≡ u ∷ get_or paths at []
      → Linked p.net.links u peer → GoesOn p rows u path next at
  goes_on u peer next at path l router paths same below fits whole linked = record {
    known = l;
    below = subst (λ (xs : List (List ℕ)). at < length xs) same below;
    fits = fits;
    whole = subst (λ (xs : List (List ℕ)). path ≡ u ∷ get_or xs at []) same whole;
    linked = subst (Linked p.net.links u) (sym router) linked;
  }

  module _ (waits : List (List Wait)) (aw : AreWaits p rows waits) where
    pub counts : (r : ℕ) → r < length rows → count_of waits r ≡ length (paths_at rows r)
    counts r l = (aw.each r (some_row r l) l).size ∙ ap length (sym (paths_here r (some_row r l) l))

    out_of_rows : (r : ℕ) → length rows ≤ r → count_of waits r ≡ 0
    out_of_rows r l = ap length (get_or_past waits r [] (omega (arith, aw.size, l)))

    -- a wait that is there
    pub inside : (r i v k : ℕ) → wait_of waits r i ≡ Rest v k → (r < length rows) × (i < length (paths_at rows r))
    inside r i v k e = elim (cases_lt r (length rows)) [
      | inl l ↦ elim (cases_lt i (count_of waits r)) [
        | inl m ↦ (l, omega (arith, m, counts r l))
        | inr m ↦ absurd (cc (get_or_past (get_or waits r []) i Never m, e))
      ]
      | inr l ↦ absurd (cc (get_or_past (get_or waits r []) i Never (omega (arith, out_of_rows r l)), e))
    ]

    wait_here : (r i : ℕ) (l : r < length rows) → i < length (paths_at rows r) → IsWait p rows (get_or rows r (some_row r l)) (path_at rows r i) (wait_of waits r i)
    wait_here r i l m =
        let h = (aw.each r (some_row r l) l).each i (omega (arith, m, counts r l)) in
        subst (λ (xs : List (List ℕ)). IsWait p rows (get_or rows r (some_row r l)) (get_or xs i []) (wait_of waits r i)) (sym (paths_here r (some_row r l) l)) h

    pub goes : (r i v k : ℕ) → wait_of waits r i ≡ Rest v k → GoesOn p rows (router_at rows r) (path_at rows r i) v k
    goes r i v k e =
        let at = inside r i v k e in
        let g : GoesOn p rows (get_or rows r (some_row r at.0)).seat.router (path_at rows r i) v k = subst (IsWait p rows (get_or rows r (some_row r at.0)) (path_at rows r i)) e (wait_here r i at.0 at.1) in
        subst (λ (u : ℕ). GoesOn p rows u (path_at rows r i) v k) (sym (router_here r (some_row r at.0) at.0)) g

    pub within : AreWithin waits
    within r i v k e = let g = goes r i v k e in record { known = omega (arith, g.known, aw.size); below = omega (arith, g.below, counts v g.known); fits = g.fits }

    -- what comes is feasible
    pub comes_feasible : (n r i : ℕ) → r < length rows → i < length (paths_at rows r) → ComesIn waits n r i → IsFeasible p.net p.prefix (path_at rows r i)
    comes_feasible zero r i l m c = absurd (never_in waits r i c)
    comes_feasible (suc n) r i l m c = elim (comes_by waits n r i c) [
      | inl e ↦
          let w : (path_at rows r i ≡ (get_or rows r (some_row r l)).seat.router ∷ []) × IsFeasible p.net p.prefix (path_at rows r i) = subst (IsWait p rows (get_or rows r (some_row r l)) (path_at rows r i)) e (wait_here r i l m) in
          w.1
      | inr x ↦
          let g = goes r i x.0 x.1 x.2 in
          onward r i x.0 x.1 l m g (comes_feasible n x.0 x.1 g.known g.below x.3)
    ]

    rest_feasible : (u : ℕ) (rest : List ℕ) → rest ≢ [] → IsFeasible p.net p.prefix (u ∷ rest) → IsFeasible p.net p.prefix rest
    rest_feasible u [] some f = absurd (some refl)
    rest_feasible u (v ∷ more) some f = f.2

    comes_at : (u : ℕ) (rest : List ℕ) (n r i : ℕ) → r < length rows → i < length (paths_at rows r) → path_at rows r i ≡ u ∷ rest → IsFeasible p.net p.prefix (u ∷ rest) → (w : Wait) → wait_of waits r i ≡ w
        → ((v k : ℕ) → v < length rows → k < length (paths_at rows v) → path_at rows v k ≡ rest → IsFeasible p.net p.prefix rest → ComesIn waits n v k) → ComesIn waits (suc n) r i
    comes_at u rest n r i l m e f Never is on =
        absurd (let no : IsFeasible p.net p.prefix (path_at rows r i) → ⊥ = subst (IsWait p rows (get_or rows r (some_row r l)) (path_at rows r i)) is (wait_here r i l m) in no (subst (IsFeasible p.net p.prefix) (sym e) f))
    comes_at u rest n r i l m e f Nothing is on = nothing_comes waits (suc n) n r i refl is
    comes_at u rest n r i l m e f (Rest v k) is on =
        let g = goes r i v k is in
        let b = begins_here v g.known k g.below in
        let same : rest ≡ path_at rows v k = tails u (router_at rows r) rest (path_at rows v k) (sym e ∙ g.whole) in
        let some : rest ≢ [] = λ none. absurd (omega (arith, ap length (sym b.1 ∙ sym same ∙ none))) in
        (comes_on waits (suc n) n r i v k refl is).1 (on v k g.known g.below (sym same) (rest_feasible u rest some f))

    -- what is feasible comes
    feasible_comes : (path : List ℕ) (n r i : ℕ) → length path ≤ n → r < length rows → i < length (paths_at rows r) → path_at rows r i ≡ path → IsFeasible p.net p.prefix path → ComesIn waits n r i
    feasible_comes [] n r i short l m e f = absurd f
    feasible_comes (u ∷ rest) zero r i short l m e f = absurd (omega (arith, short))
    feasible_comes (u ∷ rest) (suc n) r i short l m e f =
        comes_at u rest n r i l m e f (wait_of waits r i) refl
        (λ v k known below same more. feasible_comes rest n v k (omega (arith, short)) known below same more)

    short : (path : List ℕ) → IsFeasible p.net p.prefix path → length path ≤ LONGEST_PATH
    short [] f = absurd f
    short (u ∷ rest) f = let x = permitted_at p.net p.prefix u rest f in by x.table x.permitted
      where
        by : (t : Table) → IsPermitted t p.prefix (u ∷ rest) → length (u ∷ rest) ≤ LONGEST_PATH
        by t (inl own) = omega (arith, ap length own.1)
        by t (inr x) = x.1.short

    -- the path of a router without a rule by which another hangs on something is not longer
    as_short : (path rest : List ℕ) → (h : HangsOn (game_of p) path rest) → HasNoRule p h.router → length (h.router ∷ rest) ≤ length path
    as_short path rest h none = elim h.as_good [
      | inl same ↦ omega (arith, ap length same)
      | inr better ↦ free_no_longer p is (h.router ∷ rest) path better (subst (HasNoRule p) (heads h.router better.router rest better.first.0 better.first.1) none)
    ]

    -- what a path hangs on stands where a path of its row, not behind it, goes on
    pub hang : (r i : ℕ) → r < length rows → i < length (paths_at rows r) → (rest : List ℕ) → HangsOn (game_of p) (path_at rows r i) rest
        → (j : ℕ) × (v : ℕ) × (k : ℕ) × (j ≤ i) × Comes waits r j × (wait_of waits r j ≡ Rest v k) × (path_at rows v k ≡ rest)
    hang r i l m rest h =
        let b = begins_here r l i m in
        let mine : h.router ≡ router_at rows r = elim h.as_good [
          | inl same ↦ heads h.router (router_at rows r) rest b.0 (sym same ∙ b.1)
          | inr better ↦ heads h.router (router_at rows r) rest (better.first.0) (better.first.1 ∙ ap (λ (x : ℕ). x ∷ better.first.0) (sym (heads (router_at rows r) better.router b.0 better.second.0 (sym b.1 ∙ better.second.1))))
        ] in
        let f : IsFeasible p.net p.prefix (router_at rows r ∷ rest) = subst (λ (x : ℕ). IsFeasible p.net p.prefix (x ∷ rest)) mine h.feasible in
        let low : IsWithin p are.longest (router_at rows r) (router_at rows r ∷ rest) =
        λ none. omega (arith, short_at r l (path_at rows r i) (i, m, get_or_default (paths_at rows r) i (path_at rows r i) [] m) none, as_short (path_at rows r i) rest h (subst (HasNoRule p) (sym mine) none)) in
        let c = has_at r l rest f low in
        let whole : path_at rows r c.0 ≡ router_at rows r ∷ rest = get_or_default (paths_at rows r) c.0 [] (router_at rows r ∷ rest) c.1 ∙ c.2 in
        let least = nearest r i l m rest h mine c.0 c.1 whole in
        let comes = feasible_comes (router_at rows r ∷ rest) LONGEST_PATH r least.0 (short (router_at rows r ∷ rest) f) l least.1 least.3 f in
        turn r least.0 rest h.some least.2 l least.1 least.3 comes
      where
        nearest : (r i : ℕ) → r < length rows → i < length (paths_at rows r) → (rest : List ℕ) → (h : HangsOn (game_of p) (path_at rows r i) rest) → h.router ≡ router_at rows r
            → (j : ℕ) → j < length (paths_at rows r) → path_at rows r j ≡ router_at rows r ∷ rest
            → (j : ℕ) × (j < length (paths_at rows r)) × (j ≤ i) × (path_at rows r j ≡ router_at rows r ∷ rest)
        nearest r i l m rest h mine j below whole = elim h.as_good [
          | inl same ↦ (i, m, omega arith, same ∙ ap (λ (x : ℕ). x ∷ rest) mine)
          | inr better ↦ elim (cases_lt i j) [
            | inl behind ↦
                let likes : Likes p.net p.prefix (path_at rows r i) (h.router ∷ rest) = subst (Likes p.net p.prefix (path_at rows r i)) (whole ∙ ap (λ (x : ℕ). x ∷ rest) (sym mine)) (likes_here r l i j behind below) in
                absurd (apart law p is (path_at rows r i) (h.router ∷ rest) h.mine h.feasible likes better)
            | inr front ↦ (j, below, front, whole)
          ]
        ]

        turn : (r j : ℕ) (rest : List ℕ) → rest ≢ [] → {i : ℕ} → j ≤ i → r < length rows → j < length (paths_at rows r) → path_at rows r j ≡ router_at rows r ∷ rest → Comes waits r j
            → (j : ℕ) × (v : ℕ) × (k : ℕ) × (j ≤ i) × Comes waits r j × (wait_of waits r j ≡ Rest v k) × (path_at rows v k ≡ rest)
        turn r j rest some le l m whole comes = elim (comes_by waits 15 r j comes) [
          | inl e ↦
              let w : (path_at rows r j ≡ (get_or rows r (some_row r l)).seat.router ∷ []) × IsFeasible p.net p.prefix (path_at rows r j) = subst (IsWait p rows (get_or rows r (some_row r l)) (path_at rows r j)) e (wait_here r j l m) in
              absurd (some (tails (router_at rows r) (get_or rows r (some_row r l)).seat.router rest [] (sym whole ∙ w.0)))
          | inr x ↦
              let g = goes r j x.0 x.1 x.2 in
              (j, x.0, x.1, le, comes, x.2, tails (router_at rows r) (router_at rows r) (path_at rows x.0 x.1) rest (sym g.whole ∙ whole))
        ]

    -- ---- where all can be let go, no paths hang on one another in a circle

    descend : (n r i : ℕ) → r < length rows → i < length (paths_at rows r) → IsFree waits (suc n) r i → (rest : List ℕ) → HangsOn (game_of p) (path_at rows r i) rest
        → (v : ℕ) × (k : ℕ) × (v < length rows) × (k < length (paths_at rows v)) × (path_at rows v k ≡ rest) × IsFree waits n v k
    descend n r i l m free rest h =
        let x = hang r i l m rest h in
        let g = goes r x.0 x.1 x.2 x.5 in
        (x.1, x.2, g.known, g.below, x.6, free x.0 x.3 x.4 x.1 x.2 x.5)

    -- from a place down a round, to a place with fewer turns
    down : (n : ℕ) (paths : List (List ℕ)) (r i : ℕ) → r < length rows → i < length (paths_at rows r) → IsFree waits (suc n) r i → (path last : List ℕ) → path_at rows r i ≡ path → HangRound (game_of p) path paths last
        → (v : ℕ) × (k : ℕ) × (v < length rows) × (k < length (paths_at rows v)) × (path_at rows v k ≡ last) × IsFree waits n v k
    down n [] r i l m free path last e h = descend n r i l m free last (subst (λ (x : List ℕ). HangsOn (game_of p) x last) (sym e) h)
    down n (next ∷ paths) r i l m free path last e h =
        let x = descend n r i l m free next (subst (λ (x : List ℕ). HangsOn (game_of p) x next) (sym e) h.0) in
        down n paths x.0 x.1 x.2 x.3 (free_more waits n x.0 x.1 x.5) next last x.4 h.1

    no_round : (n : ℕ) (path : List ℕ) (paths : List (List ℕ)) → HangRound (game_of p) path paths path → (r i : ℕ) → r < length rows → i < length (paths_at rows r) → path_at rows r i ≡ path → IsFree waits n r i → ⊥
    no_round zero path paths h r i l m e free = free
    no_round (suc n) path paths h r i l m e free =
        let x = down n paths r i l m free path path e h in
        no_round n path paths h x.0 x.1 x.2 x.3 x.4 x.5

    -- what a path that stands hangs on stands
    step : (path rest : List ℕ) → Stands path → HangsOn (game_of p) path rest → Stands rest
    step path rest s h =
        let x = hang s.0 s.1 s.2 s.3 rest (subst (λ (y : List ℕ). HangsOn (game_of p) y rest) (sym s.4) h) in
        let g = goes s.0 x.0 x.1 x.2 x.5 in
        (x.1, x.2, g.known, g.below, x.6)

    begins_by : (path rest : List ℕ) → (h : HangsOn (game_of p) path rest) → BeginsWith path h.router
    begins_by path rest h = elim h.as_good [
      | inl same ↦ (rest, same)
      | inr better ↦ (better.second.0, better.second.1 ∙ ap (λ (x : ℕ). x ∷ better.second.0) (sym (heads h.router better.router rest better.first.0 better.first.1)))
    ]

    -- what any path hangs on stands, or is shorter
    step_or_fall : PrefersIsATest → OneRule → (path rest : List ℕ) → HangsOn (game_of p) path rest → Stands rest ⊎ (length rest < length path)
    step_or_fall tests one path rest h = elim (rule_or_not tests one h.router (known law p is h.router rest h.feasible)) [
      | inl none ↦ inr (omega (arith, as_short path rest h none))
      | inr rule ↦
          let b = begins_by path rest h in
          let s = stands h.router b.0 (subst (IsFeasible p.net p.prefix) b.1 h.mine) rule in
          inl (step path rest (subst Stands (sym b.1) s) h)
    ]

    round_on : (paths : List (List ℕ)) (path last : List ℕ) → HangRound (game_of p) path paths last → Stands path → Stands last
    round_on [] path last h s = step path last s h
    round_on (next ∷ paths) path last h s = round_on paths next last h.1 (step path next s h.0)

    round_or_fall : PrefersIsATest → OneRule → (paths : List (List ℕ)) (path last : List ℕ) → HangRound (game_of p) path paths last → Stands last ⊎ (length last < length path)
    round_or_fall tests one [] path last h = step_or_fall tests one path last h
    round_or_fall tests one (next ∷ paths) path last h = elim (step_or_fall tests one path next h.0) [
      | inl s ↦ inl (round_on paths next last h.1 s)
      | inr less ↦ elim (round_or_fall tests one paths next last h.1) [ inl s ↦ inl s | inr more ↦ inr (omega (arith, less, more)) ]
    ]

    pub no_cycle : PrefersIsATest → OneRule → AllFree waits → HasCycle (game_of p) → ⊥
    no_cycle tests one all c = elim (round_or_fall tests one c.1 c.0 c.0 c.2) [
      | inl s ↦ no_round all.0 c.0 c.1 c.2 s.0 s.1 s.2 s.3 s.4 (all.1 s.0 s.1 (omega (arith, s.2, aw.size)) (omega (arith, s.3, counts s.0 s.2)))
      | inr less ↦ omega (arith, less)
    ]
