-- The paths of a router, and what they wait for.
use Rattle.std.proofs.Common.{◌≡◌, ℕ, zero, suc, ◌<◌, ◌≤◌, ◌+◌, map, take, List, [], ◌∷◌, ◌++◌, length, get_or, refl, sym, ap, subst, ◌∙◌, arith, inl, inr}
use Rattle.std.specs.List.{All, Any, Contains, HoldsAt}
use Rattle.std.proofs.lemmas.List.{take_more, map-append, length-map, get_or-map, get_or_default}
use Rattle.std.proofs.lemmas.Bool.{cases_lt}
use Rattle.std.proofs.lemmas.List.Elements.{All-append}
use mathlib.Core.Logic.{◌⊎◌}
use Rattle.ranked_policy.specs.declared.network.NetRouter.{NetRouter}
use Rattle.ranked_policy.specs.Plans.{numbers}
use Rattle.ranked_policy.specs.Paths.{BeginsWith}
use Rattle.ranked_policy.specs.Policies.{Table, IsTable, IsTableOf, Originates, NoRuleFor, IsPermitted, IsPreferred}
use Rattle.ranked_policy.specs.Promises.{OneRule, EachPolicyIsAnOrder}
use Rattle.ranked_policy.specs.Tests.{PermitsIsATest, PrefersIsATest}
use Rattle.ranked_policy.proofs.OneTable.{one_table, table_stands}
use Rattle.ranked_policy.proofs.TableLemmas.{rule_or_none}
use Rattle.stable_paths.specs.Stable.{Problem, IsProblem}
use Rattle.dispute_wheels.specs.Wheels.{HangsOn, HangRound, HasCycle}
use Rattle.dispute_wheels.specs.Feasible.{IsFeasible, Likes, game_of}
use Rattle.dispute_wheels.proofs.FeasibleLemmas.{permitted_at, permitted_by, permitted_path, alone_originates, router_of}
use Rattle.wheel_search.specs.declared.row.Kind.TheVariants.{Origin, Ranked, Free}
use Rattle.wheel_search.specs.declared.row.Row.{Row}
use Rattle.wheel_search.specs.declared.row.Seat.{Seat}
use Rattle.wheel_search.specs.declared.row.Kind.{Kind}
use Rattle.wheel_search.specs.declared.refusal.WheelError.{WheelError}
use Rattle.wheel_search.specs.declared.refusal.WheelError.TheVariants.{UnlistedPaths, Memory}
use Rattle.wheel_search.specs.Found.{HasNoRule, HasRule, IsOverfull, IsRefusal}
use Rattle.wheel_search.specs.Lists.{walks_to}
use Rattle.wheel_search.specs.Rows.{IsSeat, AreSeats, IsKind, IsRow, IsWhole, IsWithin, GoesWithin, IsRanked, IsFreeKind, listed, paths_of, own_paths}
use Rattle.wheel_search.proofs.ListLemmas.{IsWalkTo, list_each, list_has, list_order}
use Rattle.wheel_search.proofs.RuleLemmas.{no_rule, rule_there, permitted_listed, listed_begins, listed_permitted, listed_order}

pub free_or_not : (kind : Kind) → IsFreeKind kind ⊎ (IsFreeKind kind → ⊥)
free_or_not Origin = inr (λ free. free)
free_or_not (Ranked paths) = inr (λ free. free)
free_or_not Free = inl tt

-- at the place of a router stands its number
pub placed : (rs : List NetRouter) (i u : ℕ) → i < length rs → HoldsAt (λ r. r.asn ≡ u) rs i → get_or (numbers rs) i 0 ≡ u
placed [] i u l holds = absurd (omega (arith, l))
placed (r ∷ rs) zero u l holds = holds r
placed (r ∷ rs) (suc i) u l holds = placed rs i u (omega (arith, l)) (λ d. holds d)

-- ---- routers with and without a rule

module _ (tests : PrefersIsATest) (one : OneRule) (p : Problem) (is : IsProblem p) where
  pub free_none : (seat : Seat) → IsSeat p seat → IsFreeKind seat.kind → HasNoRule p seat.router
  free_none seat s free = at seat.kind s.kind free
    where
      stands : IsTable s.table
      stands = table_stands p.net seat.router s.table is.network s.of

      at : (kind : Kind) → IsKind p.prefix s.table kind → IsFreeKind kind → HasNoRule p seat.router
      at Origin k free = absurd free
      at (Ranked ps) k free = absurd free
      at Free k free = record {
        table = s.table;
        of = s.of;
        other = λ o. k.0 (subst (Originates s.table p.prefix) (sym s.of.0) o);
        none = no_rule tests one s.table stands p.prefix k.0 k.1;
      }

  pub ranked_some : (seat : Seat) → IsSeat p seat → IsRanked seat.kind → HasRule p seat.router
  ranked_some seat s ranked = at seat.kind s.kind ranked
    where
      stands : IsTable s.table
      stands = table_stands p.net seat.router s.table is.network s.of

      at : (kind : Kind) → IsKind p.prefix s.table kind → IsRanked kind → HasRule p seat.router
      at Origin k ranked = absurd ranked
      at Free k ranked = absurd ranked
      at (Ranked ps) k ranked = record {
        table = s.table;
        of = s.of;
        other = λ o. k.0 (subst (Originates s.table p.prefix) (sym s.of.0) o);
        some = rule_there tests one s.table stands p.prefix k.0 k.1.0 k.1.1;
      }

  -- a router with a rule, or the origin, is none without one
  pub not_free : (seat : Seat) → IsSeat p seat → (IsFreeKind seat.kind → ⊥) → HasNoRule p seat.router → ⊥
  not_free seat s other none = at seat.kind s.kind other
    where
      stands : IsTable s.table
      stands = table_stands p.net seat.router s.table is.network s.of

      same : none.table ≡ s.table
      same = one_table p.net seat.router none.table s.table is.network none.of s.of

      at : (kind : Kind) → IsKind p.prefix s.table kind → (IsFreeKind kind → ⊥) → ⊥
      at Origin k other = none.other (subst (λ (t : Table). Originates t p.prefix seat.router) (sym same) (subst (Originates s.table p.prefix) s.of.0 k))
      at (Ranked ps) k other = rule_there tests one s.table stands p.prefix k.0 k.1.0 k.1.1 (subst (λ (t : Table). NoRuleFor t.rules p.prefix) same none.none)
      at Free k other = other tt

-- ---- the row of a router

module _ (permits : PermitsIsATest) (tests : PrefersIsATest) (law : EachPolicyIsAnOrder) (one : OneRule) (p : Problem) (is : IsProblem p) where
  -- a feasible path is permitted by the table of its router
  permitted : (u : ℕ) (t : Table) → IsTableOf p.net u t → (rest : List ℕ) → IsFeasible p.net p.prefix (u ∷ rest) → IsPermitted t p.prefix (u ∷ rest)
  permitted u t of rest f = permitted_by law p is u t of (u ∷ rest) (permitted_at p.net p.prefix u rest f)

  own_only : (t : Table) (path : List ℕ) → Originates t p.prefix t.router → IsPermitted t p.prefix path → path ≡ t.router ∷ []
  own_only t path o (inl own) = own.1
  own_only t path o (inr x) = absurd (x.0 o)

  one_in : (x : List ℕ) → Contains (x ∷ []) x
  one_in x = (0, omega arith, refl)

  in_one : (x y : List ℕ) → Contains (x ∷ []) y → y ≡ x
  in_one x y (zero, l, e) = sym e
  in_one x y (suc k, l, e) = absurd (omega (arith, l))

  none_of : (u : ℕ) (t : Table) → IsTableOf p.net u t → IsKind p.prefix t Free → HasNoRule p u
  none_of u t of k = free_none tests one p is (record { router = u; kind = Free }) (record { table = t; of = of; kind = k }) tt

  row_at : (longest u : ℕ) (kind : Kind) (row : Row) → row.seat ≡ record { router = u; kind = kind } → row.own.items ≡ own_paths p longest u kind → (t : Table) → IsTableOf p.net u t → IsKind p.prefix t kind
      → GoesWithin p longest u (listed kind []) → IsRow p row × IsWhole p longest row
  row_at longest u Free row e own t of k goes =
      let paths : paths_of row ≡ walks_to p.net p.prefix longest u = ap (λ (s : Seat). listed s.kind row.own.items) e ∙ own in
      let ru : u ≡ row.seat.router = sym (ap (λ (s : Seat). s.router) e) in
      let of_row : IsTableOf p.net row.seat.router t = subst (λ (v : ℕ). IsTableOf p.net v t) ru of in
      let none = none_of u t of k in
      let walk : (path : List ℕ) → Contains (paths_of row) path → IsWalkTo permits tests law p is longest u path =
      λ path c. (let d = subst (λ (xs : List (List ℕ)). Contains xs path) paths c in
      subst (IsWalkTo permits tests law p is longest u) d.2 (list_each permits tests law p is longest u d.0 path d.1)) in
      let short : (path : List ℕ) → Contains (paths_of row) path → IsWithin p longest row.seat.router path = λ path c h. (walk path c).short in (
        record {
          seat = record { table = t; of = of_row; kind = subst (λ (s : Seat). IsKind p.prefix t s.kind) (sym e) k };
          permitted = λ path v c o ends. (let w = walk path c in permitted_path law p is u t of path w.feasible w.begins);
          begins = subst (λ (xs : List (List ℕ)). All (λ path. BeginsWith path row.seat.router) xs) (sym paths)
              (subst (λ (v : ℕ). All (λ path. BeginsWith path v) (walks_to p.net p.prefix longest u)) ru (λ i d l. (list_each permits tests law p is longest u i d l).begins));
          order = subst (λ (xs : List (List ℕ)). (i j : ℕ) → i < j → j < length xs → IsPreferred t p.prefix (get_or xs i []) (get_or xs j [])) (sym paths)
              (λ i j less below. (k.0, inr (no_rule tests one t (table_stands p.net u t is.network of) p.prefix k.0 k.1, list_order permits tests law p is longest u i j [] less below)));
        },
        record {
          has = λ rest f within.
              (let g : IsFeasible p.net p.prefix (u ∷ rest) = subst (λ (v : ℕ). IsFeasible p.net p.prefix (v ∷ rest)) (sym ru) f in
              let low : length (u ∷ rest) ≤ longest = within (subst (HasNoRule p) ru none) in
              subst (λ (v : ℕ). Contains (paths_of row) (v ∷ rest)) ru (subst (λ (xs : List (List ℕ)). Contains xs (u ∷ rest)) (sym paths) (list_has permits tests law p is longest u rest low g)));
          short = short;
          onward = λ v rest c h. omega (arith, short (row.seat.router ∷ v ∷ rest) c (subst (HasNoRule p) ru none));
        },
      )
  row_at longest u Origin row e own t of k goes =
      let paths : paths_of row ≡ (u ∷ []) ∷ [] = ap (λ (s : Seat). listed s.kind row.own.items) e ∙ own in
      let ru : row.seat.router ≡ u = ap (λ (s : Seat). s.router) e in
      let of_row : IsTableOf p.net row.seat.router t = subst (λ (v : ℕ). IsTableOf p.net v t) (sym ru) of in
      let seat : IsSeat p row.seat = record { table = t; of = of_row; kind = subst (λ (s : Seat). IsKind p.prefix t s.kind) (sym e) k } in (
        record {
          seat = seat;
          permitted = λ path v c o ends.
              (let same : path ≡ u ∷ [] = in_one (u ∷ []) path (subst (λ (xs : List (List ℕ)). Contains xs path) paths c) in
              inl (k, same ∙ ap (λ (w : ℕ). w ∷ []) (sym of.0)));
          begins = subst (λ (xs : List (List ℕ)). All (λ path. BeginsWith path row.seat.router) xs) (sym paths)
              (λ i d l. ([], only i d l ∙ ap (λ (w : ℕ). w ∷ []) (sym ru)));
          order = λ i j less below. absurd (omega (arith, less, below, ap length paths));
        },
        record {
          has = λ rest f within.
              (let path : row.seat.router ∷ rest ≡ t.router ∷ [] = own_only t (row.seat.router ∷ rest) k (permitted row.seat.router t of_row rest f) in
              let same : row.seat.router ∷ rest ≡ u ∷ [] = path ∙ ap (λ (v : ℕ). v ∷ []) of.0 in
              subst (λ (x : List ℕ). Contains (paths_of row) x) (sym same) (subst (λ (xs : List (List ℕ)). Contains xs (u ∷ [])) (sym paths) (one_in (u ∷ []))));
          short = λ path c h. absurd (not_free tests one p is row.seat seat (λ free. subst IsFreeKind (ap (λ (s : Seat). s.kind) e) free) h);
          onward = λ v rest c h. absurd (omega (arith, ap length (in_one (u ∷ []) (row.seat.router ∷ v ∷ rest) (subst (λ (xs : List (List ℕ)). Contains xs (row.seat.router ∷ v ∷ rest)) paths c))));
        },
      )
    where
      only : (i : ℕ) (d : List ℕ) → i < length ((u ∷ []) ∷ []) → get_or ((u ∷ []) ∷ []) i d ≡ u ∷ []
      only zero d l = refl
      only (suc i) d l = absurd (omega (arith, l))
  row_at longest u (Ranked ps) row e own t of k goes =
      let rule = k.1.0 in
      let found = k.1.1 in
      let here : paths_of row ≡ ps.now = ap (λ (s : Seat). listed s.kind row.own.items) e in
      let paths : paths_of row ≡ rule.paths = here ∙ sym k.1.2 in
      let ru : row.seat.router ≡ u = ap (λ (s : Seat). s.router) e in
      let of_row : IsTableOf p.net row.seat.router t = subst (λ (v : ℕ). IsTableOf p.net v t) (sym ru) of in
      let stands : IsTable t = table_stands p.net u t is.network of in
      let seat : IsSeat p row.seat = record { table = t; of = of_row; kind = subst (λ (s : Seat). IsKind p.prefix t s.kind) (sym e) k } in (
        record {
          seat = seat;
          permitted = λ path v c o ends.
              listed_permitted tests one t stands p.prefix k.0 rule found path v (subst (λ (xs : List (List ℕ)). Contains xs path) paths c) o ends;
          begins = subst (λ (xs : List (List ℕ)). All (λ path. BeginsWith path row.seat.router) xs) (sym paths)
              (subst (λ (v : ℕ). All (λ path. BeginsWith path v) rule.paths) (of.0 ∙ sym ru) (listed_begins tests one t stands p.prefix k.0 rule found));
          order = subst (λ (xs : List (List ℕ)). (i j : ℕ) → i < j → j < length xs → IsPreferred t p.prefix (get_or xs i []) (get_or xs j [])) (sym paths)
              (listed_order tests one t stands p.prefix k.0 rule found);
        },
        record {
          has = λ rest f within.
              subst (λ (xs : List (List ℕ)). Contains xs (row.seat.router ∷ rest)) (sym paths)
              (permitted_listed tests one t stands p.prefix k.0 rule found (row.seat.router ∷ rest) (permitted row.seat.router t of_row rest f));
          short = λ path c h. absurd (not_free tests one p is row.seat seat (λ free. subst IsFreeKind (ap (λ (s : Seat). s.kind) e) free) h);
          onward = λ v rest c h.
              goes v rest (subst (λ (w : ℕ). Contains ps.now (w ∷ v ∷ rest)) ru (subst (λ (xs : List (List ℕ)). Contains xs (row.seat.router ∷ v ∷ rest)) here c)) h;
        },
      )

  pub is_row : (longest : ℕ) (row : Row) → IsSeat p row.seat → GoesWithin p longest row.seat.router (listed row.seat.kind []) → row.own.items ≡ own_paths p longest row.seat.router row.seat.kind → IsRow p row × IsWhole p longest row
  is_row longest row seat goes own = row_at longest row.seat.router row.seat.kind row refl own seat.table seat.of seat.kind goes

-- ---- rows, one after the other

pub rows_more : (xs : List Row) (seats : List Seat) (i : ℕ) (seat : Seat) (row : Row) → i < length seats → seat ≡ get_or seats i seat → map (λ (r : Row). r.seat.router) xs ≡ map (λ (s : Seat). s.router) (take i seats) → row.seat ≡ seat
    → map (λ (r : Row). r.seat.router) (xs ++ row ∷ []) ≡ map (λ (s : Seat). s.router) (take (i + 1) seats)
rows_more xs seats i seat row l is before same =
    map-append (λ (r : Row). r.seat.router) xs (row ∷ [])
    ∙ ap (λ (us : List ℕ). us ++ row.seat.router ∷ []) before
    ∙ ap (λ (s : Seat). map (λ (s : Seat). s.router) (take i seats) ++ s.router ∷ []) same
    ∙ sym (map-append (λ (s : Seat). s.router) (take i seats) (seat ∷ []))
    ∙ ap (map (λ (s : Seat). s.router)) (ap (λ (s : Seat). take i seats ++ s ∷ []) is ∙ sym (take_more seats i seat l))

pub rows_each : (P : Row → Type 0) (xs : List Row) (row : Row) → All P xs → P row → All P (xs ++ row ∷ [])
rows_each P xs row all one = All-append P xs (row ∷ []) all at
  where
    at : All P (row ∷ [])
    at zero d l = one
    at (suc k) d l = absurd (omega (arith, l))

-- ---- a path of one router

module _ (law : EachPolicyIsAnOrder) (p : Problem) (is : IsProblem p) where
  no_origin : (t : Table) (kind : Kind) → (kind ≡ Origin → ⊥) → IsKind p.prefix t kind → Originates t p.prefix t.router → ⊥
  no_origin t Origin other k o = other refl
  no_origin t (Ranked ps) other k o = k.0 o
  no_origin t Free other k o = k.0 o

  -- is feasible at an origin alone
  pub not_alone : (seat : Seat) → IsSeat p seat → (path : List ℕ) → BeginsWith path seat.router → length path < 2 → (seat.kind ≡ Origin → ⊥) → IsFeasible p.net p.prefix path → ⊥
  not_alone seat s path (rest, e) short other f = at rest e
    where
      at : (rest : List ℕ) → path ≡ seat.router ∷ rest → ⊥
      at (v ∷ rest) e = omega (arith, ap length e, short)
      at [] e =
          let g : IsFeasible p.net p.prefix (seat.router ∷ []) = subst (IsFeasible p.net p.prefix) e f in
          let perm : IsPermitted s.table p.prefix (seat.router ∷ []) = permitted_by law p is seat.router s.table s.of (seat.router ∷ []) g in
          no_origin s.table seat.kind other s.kind (alone_originates law p is seat.router s.table s.of.0 perm)

-- ---- without rules

module _ (tests : PrefersIsATest) (one : OneRule) (p : Problem) (is : IsProblem p) where
  -- a router without a rule has a seat that says so
  pub free_seat : (seats : List Seat) → AreSeats p seats → (v : ℕ) → HasNoRule p v → Any (λ seat. IsFreeKind seat.kind) seats
  free_seat seats are v none =
      let c = subst (λ (us : List ℕ). Contains us v) (sym are.routers) (router_of p.net v none.table none.of) in
      let l : c.0 < length seats = omega (arith, c.1, length-map seats (λ (s : Seat). s.router)) in
      at c.0 l (first seats l) (get_or_default (map (λ (s : Seat). s.router) seats) c.0 0 v c.1 ∙ c.2)
    where
      first : (xs : List Seat) {i : ℕ} → i < length xs → Seat
      first [] l = absurd (omega (arith, l))
      first (x ∷ xs) l = x

      at : (i : ℕ) → i < length seats → (d : Seat) → get_or (map (λ (s : Seat). s.router) seats) i 0 ≡ v → Any (λ seat. IsFreeKind seat.kind) seats
      at i l d e =
          let seat = get_or seats i d in
          let here : seat.router ≡ v = sym (get_or-map (λ (s : Seat). s.router) seats i d 0 l) ∙ e in
          elim (free_or_not seat.kind) [
            | inl free ↦ (i, seat, l, get_or_default seats i seat d l, free)
            | inr other ↦ absurd (not_free tests one p is seat (are.each i d l) other (subst (HasNoRule p) (sym here) none))
          ]

  -- where no rule lists paths, each path hangs on shorter ones
  module _ (seats : List Seat) (are : AreSeats p seats) (none : Any (λ seat. IsRanked seat.kind) seats → ⊥) where
    some_seat : (xs : List Seat) {i : ℕ} → i < length xs → Seat
    some_seat [] l = absurd (omega (arith, l))
    some_seat (x ∷ xs) l = x

    no_rule_at : (u : ℕ) (t : Table) → IsTableOf p.net u t → (Originates t p.prefix t.router → ⊥) → NoRuleFor t.rules p.prefix
    no_rule_at u t of other =
        let c = subst (λ (us : List ℕ). Contains us u) (sym are.routers) (router_of p.net u t of) in
        let l : c.0 < length seats = omega (arith, c.1, length-map seats (λ (s : Seat). s.router)) in
        at c.0 l (get_or_default (map (λ (s : Seat). s.router) seats) c.0 0 u c.1 ∙ c.2)
      where
        kind_at : (kind : Kind) → IsKind p.prefix t kind → (IsRanked kind → ⊥) → NoRuleFor t.rules p.prefix
        kind_at Origin k not = absurd (other k)
        kind_at (Ranked ps) k not = absurd (not tt)
        kind_at Free k not = no_rule tests one t (table_stands p.net u t is.network of) p.prefix k.0 k.1

        at : (i : ℕ) → i < length seats → get_or (map (λ (s : Seat). s.router) seats) i 0 ≡ u → NoRuleFor t.rules p.prefix
        at i l e =
            let seat = get_or seats i (some_seat seats l) in
            let s = are.each i (some_seat seats l) l in
            let here : seat.router ≡ u = sym (get_or-map (λ (s : Seat). s.router) seats i (some_seat seats l) 0 l) ∙ e in
            let of_u : IsTableOf p.net u s.table = subst (λ (v : ℕ). IsTableOf p.net v s.table) here s.of in
            let same : s.table ≡ t = one_table p.net u s.table t is.network of_u of in
            kind_at seat.kind (subst (λ (x : Table). IsKind p.prefix x seat.kind) same s.kind) (λ r. none (i, seat, l, get_or_default seats i seat (some_seat seats l) l, r))

    no_longer : (a b : List ℕ) → Likes p.net p.prefix a b → length a ≤ length b
    no_longer a b x = elim x.preferred.1 [
      | inl r ↦ rule_or_none x.table.rules p.prefix r.0 r.1 (no_rule_at x.router x.table x.of (λ o. x.preferred.0 o))
      | inr s ↦ elim s.1 [ inl less ↦ omega (arith, less) | inr same ↦ omega (arith, same.0) ]
    ]

    hang_shorter : (path rest : List ℕ) → HangsOn (game_of p) path rest → length rest < length path
    hang_shorter path rest h = elim h.as_good [
      | inl same ↦ omega (arith, ap length same)
      | inr better ↦ omega (arith, no_longer (h.router ∷ rest) path better)
    ]

    round_shorter : (path : List ℕ) (paths : List (List ℕ)) (last : List ℕ) → HangRound (game_of p) path paths last → length last < length path
    round_shorter path [] last h = hang_shorter path last h
    round_shorter path (next ∷ paths) last h = omega (arith, hang_shorter path next h.0, round_shorter next paths last h.1)

    pub no_rules_no_cycle : HasCycle (game_of p) → ⊥
    no_rules_no_cycle c = omega (arith, round_shorter c.0 c.1 c.0 c.2)

-- a router without a rule likes no longer path better
pub free_no_longer : (p : Problem) → IsProblem p → (a b : List ℕ) → (x : Likes p.net p.prefix a b) → HasNoRule p x.router → length a ≤ length b
free_no_longer p is a b x none =
    let same : none.table ≡ x.table = one_table p.net x.router none.table x.table is.network none.of x.of in
    elim x.preferred.1 [
      | inl r ↦ rule_or_none x.table.rules p.prefix r.0 r.1 (subst (λ (t : Table). NoRuleFor t.rules p.prefix) same none.none)
      | inr s ↦ elim s.1 [ inl less ↦ omega (arith, less) | inr same ↦ omega (arith, same.0) ]
    ]

-- ---- how far the paths of rules go

-- the paths in front of a place go so far at most
abbrev pub AreReached : Problem → ℕ → ℕ → List (List ℕ) → ℕ → Type 0
AreReached p longest u paths count = (k : ℕ) → k < count → (v : ℕ) (rest : List ℕ) → get_or paths k [] ≡ u ∷ v ∷ rest → IsWithin p longest v (v ∷ rest)

pub reached_more : (p : Problem) (a b u : ℕ) (paths : List (List ℕ)) (count : ℕ) → a ≤ b → AreReached p a u paths count
    → ((v : ℕ) (rest : List ℕ) → get_or paths count [] ≡ u ∷ v ∷ rest → IsWithin p b v (v ∷ rest)) → AreReached p b u paths (count + 1)
reached_more p a b u paths count le before here k l v rest e none = elim (cases_lt k count) [
  | inl less ↦ omega (arith, le, before k less v rest e none)
  | inr more ↦ here v rest (ap (λ (i : ℕ). get_or paths i []) (let same : count ≡ k = omega (arith, l, more) in same) ∙ e) none
]

pub reached_all : (p : Problem) (longest u : ℕ) (paths : List (List ℕ)) → AreReached p longest u paths (length paths) → GoesWithin p longest u paths
reached_all p longest u paths h v rest c = h c.0 c.1 v rest (get_or_default paths c.0 [] (u ∷ v ∷ rest) c.1 ∙ c.2)

-- of so many seats the paths of the rules go so far at most
abbrev pub AreWithinTo : Problem → ℕ → List Seat → ℕ → Type 0
AreWithinTo p longest seats count = (k : ℕ) (d : Seat) → k < count → GoesWithin p longest (get_or seats k d).router (listed (get_or seats k d).kind [])

pub within_more : (p : Problem) (a b : ℕ) (seats : List Seat) (i : ℕ) (seat : Seat) → i < length seats → a ≤ b → seat ≡ get_or seats i seat → AreWithinTo p a seats i → GoesWithin p b seat.router (listed seat.kind [])
    → AreWithinTo p b seats (i + 1)
within_more p a b seats i seat below le is before goes k d l = elim (cases_lt k i) [
  | inl less ↦ λ v rest c none. omega (arith, le, before k d less v rest c none)
  | inr more ↦
      let same : i ≡ k = omega (arith, l, more) in
      let here : seat ≡ get_or seats k d = is ∙ get_or_default seats i seat d below ∙ ap (λ (j : ℕ). get_or seats j d) same in
      subst (λ (s : Seat). GoesWithin p b s.router (listed s.kind [])) here goes
]

pub goes_more : (p : Problem) (a b u : ℕ) (paths : List (List ℕ)) → a ≤ b → GoesWithin p a u paths → GoesWithin p b u paths
goes_more p a b u paths le h v rest c none = omega (arith, le, h v rest c none)

-- ---- refusals

pub refusal_is : (p : Problem) (most : ℕ) (error : WheelError) → IsOverfull p most error → (v : ℕ) × HasRule p v → IsRefusal p most error
refusal_is p most (UnlistedPaths u) over rule = (over.0, over.1, rule)
refusal_is p most Memory over rule = tt

pub memory_with_rules : (p : Problem) (most : ℕ) (error : WheelError) → IsOverfull p most error → ((v : ℕ) → HasNoRule p v → ⊥) → error ≡ Memory
memory_with_rules p most (UnlistedPaths u) over all = absurd (all u over.0)
memory_with_rules p most Memory over all = refl
