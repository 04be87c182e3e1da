-- The lists of feasible paths: each path of a list is feasible, each feasible one is in a list, and the shorter come first.
use Rattle.std.proofs.Common.{◌≡◌, ◌≢◌, ℕ, zero, suc, ◌<◌, ◌≤◌, ◌+◌, ◌↔◌, Bool, true, false, cond, List, [], ◌∷◌, ◌++◌, length, get_or, refl, sym, ap, subst, ◌∙◌, arith, inl, inr}
use Rattle.std.specs.Prelude.{IsTrue}
use Rattle.std.specs.Bool.{Decides}
use Rattle.std.specs.List.{All, AllPairs, Contains, flat_map}
use Rattle.std.proofs.lemmas.List.{append-nil, get_or-map, get_or_append_left, get_or_push, get_or_default, length-append, length-map}
use Rattle.std.proofs.lemmas.Bool.{cases_lt, false≢true}
use Rattle.ranked_policy.specs.Paths.{BeginsWith}
use Rattle.ranked_policy.specs.Orders.{ComesEarlier, IsShorter}
use Rattle.ranked_policy.specs.Plans.{IsRouter, Linked, numbers}
use Rattle.ranked_policy.specs.Policies.{IsPermitted}
use Rattle.ranked_policy.specs.Choosing.{chosen_permits}
use Rattle.ranked_policy.specs.declared.network.NetRouter.{NetRouter}
use Rattle.ranked_policy.specs.declared.policy.Chosen.{Chosen}
use Rattle.ranked_policy.specs.Promises.{EachPolicyIsAnOrder}
use Rattle.ranked_policy.specs.Tests.{PermitsIsATest, PrefersIsATest}
use Rattle.stable_paths.specs.Stable.{Problem, IsProblem}
use Rattle.dispute_wheels.specs.Counting.{IsIn}
use Rattle.dispute_wheels.specs.Feasible.{PermitsAt, IsFeasible}
use Rattle.dispute_wheels.specs.Tests.{is_feasible}
use Rattle.dispute_wheels.proofs.FeasibleLemmas.{known, permitted_by}
use Rattle.dispute_wheels.proofs.TestLemmas.{feasible_test}
use Rattle.wheel_search.specs.Found.{HasMorePaths}
use Rattle.wheel_search.specs.Lists.{kept, onward, walks, walks_to, level, number_at, AreLevels, IsChosen, IsRest}
use Rattle.wheel_search.specs.Rows.{IsSeat, AreSeats}
use Rattle.wheel_search.specs.declared.row.Seat.{Seat}

-- ---- of all, and of each and all behind it

abbrev Each : {X : Type 0} → (X → Type 0) → List X → Type 0
Each P [] = Unit {0}
Each P (x ∷ xs) = P x × Each P xs

abbrev Sorted : {X : Type 0} → (X → X → Type 0) → List X → Type 0
Sorted R [] = Unit {0}
Sorted R (x ∷ xs) = Each (R x) xs × Sorted R xs

each_more : {X : Type 0} (P Q : X → Type 0) (xs : List X) → ((x : X) → P x → Q x) → Each P xs → Each Q xs
each_more P Q [] f h = tt
each_more P Q (x ∷ xs) f h = (f x h.0, each_more P Q xs f h.1)

each_append : {X : Type 0} (P : X → Type 0) (xs ys : List X) → Each P xs → Each P ys → Each P (xs ++ ys)
each_append P [] ys a b = b
each_append P (x ∷ xs) ys a b = (a.0, each_append P xs ys a.1 b)

each_at : {X : Type 0} (P : X → Type 0) (xs : List X) → Each P xs → All P xs
each_at P [] h i d l = absurd (omega (arith, l))
each_at P (x ∷ xs) h zero d l = h.0
each_at P (x ∷ xs) h (suc i) d l = each_at P xs h.1 i d (omega (arith, l))

each_of : {X : Type 0} (P : X → Type 0) (xs : List X) → ((i : ℕ) (d : X) → i < length xs → P (get_or xs i d)) → Each P xs
each_of P [] h = tt
each_of P (x ∷ xs) h = (h 0 x (omega arith), each_of P xs (λ i d l. h (suc i) d (omega (arith, l))))

sorted_append : {X : Type 0} (R : X → X → Type 0) (xs ys : List X) → Sorted R xs → Sorted R ys → Each (λ x. Each (R x) ys) xs → Sorted R (xs ++ ys)
sorted_append R [] ys a b c = b
sorted_append R (x ∷ xs) ys a b c = (each_append (R x) xs ys a.0 c.0, sorted_append R xs ys a.1 b c.1)

sorted_at : {X : Type 0} (R : X → X → Type 0) (xs : List X) → Sorted R xs → AllPairs R xs
sorted_at R [] h i j d less below = absurd (omega (arith, below))
sorted_at R (x ∷ xs) h zero zero d less below = absurd (omega (arith, less))
sorted_at R (x ∷ xs) h zero (suc j) d less below = each_at (R x) xs h.0 j d (omega (arith, below))
sorted_at R (x ∷ xs) h (suc i) zero d less below = absurd (omega (arith, less))
sorted_at R (x ∷ xs) h (suc i) (suc j) d less below = sorted_at R xs h.1 i j d (omega (arith, less)) (omega (arith, below))

sorted_of : {X : Type 0} (R : X → X → Type 0) (xs : List X) → AllPairs R xs → Sorted R xs
sorted_of R [] h = tt
sorted_of R (x ∷ xs) h = (
  each_of (R x) xs (λ i d l. h 0 (suc i) d (omega arith) (omega (arith, l))),
  sorted_of R xs (λ i j d less below. h (suc i) (suc j) d (omega (arith, less)) (omega (arith, below))),
)

-- ---- members

in_left : (x : List ℕ) (xs ys : List (List ℕ)) → IsIn x xs → IsIn x (xs ++ ys)
in_left x [] ys i = absurd i
in_left x (y ∷ xs) ys (inl same) = inl same
in_left x (y ∷ xs) ys (inr i) = inr (in_left x xs ys i)

in_right : (x : List ℕ) (xs ys : List (List ℕ)) → IsIn x ys → IsIn x (xs ++ ys)
in_right x [] ys i = i
in_right x (y ∷ xs) ys i = inr (in_right x xs ys i)

in_flat : (f : ℕ → List (List ℕ)) (us : List ℕ) (u : ℕ) (x : List ℕ) → Contains us u → IsIn x (f u) → IsIn x (flat_map f us)
in_flat f [] u x c i = absurd (let l = c.1 in omega (arith, l))
in_flat f (w ∷ us) u x (zero, l, e) i = in_left x (f w) (flat_map f us) (subst (λ (v : ℕ). IsIn x (f v)) (sym e) i)
in_flat f (w ∷ us) u x (suc k, l, e) i = in_right x (f w) (flat_map f us) (in_flat f us u x (k, omega (arith, l), e) i)

in_flat_paths : (f : List ℕ → List (List ℕ)) (ys : List (List ℕ)) (y x : List ℕ) → IsIn y ys → IsIn x (f y) → IsIn x (flat_map f ys)
in_flat_paths f [] y x c i = absurd c
in_flat_paths f (z ∷ ys) y x (inl e) i = in_left x (f z) (flat_map f ys) (subst (λ (v : List ℕ). IsIn x (f v)) (sym e) i)
in_flat_paths f (z ∷ ys) y x (inr c) i = in_right x (f z) (flat_map f ys) (in_flat_paths f ys y x c i)

contains_in : (x : List ℕ) (xs : List (List ℕ)) → IsIn x xs → Contains xs x
contains_in x [] i = absurd i
contains_in x (y ∷ xs) (inl e) = (0, omega arith, e)
contains_in x (y ∷ xs) (inr i) = let c = contains_in x xs i in (suc c.0, omega (arith, c.1), c.2)

-- ---- orders

on_earlier : (u : ℕ) (a b : List ℕ) → ComesEarlier a b → ComesEarlier (u ∷ a) (u ∷ b)
on_earlier u a b x = record {
  common = u ∷ x.common;
  mine = x.mine;
  theirs = x.theirs;
  my_rest = x.my_rest;
  their_rest = x.their_rest;
  first = ap (λ (z : List ℕ). u ∷ z) x.first;
  second = ap (λ (z : List ℕ). u ∷ z) x.second;
  smaller = x.smaller;
}

over_earlier : (u v w : ℕ) (a b : List ℕ) → v < w → ComesEarlier (u ∷ v ∷ a) (u ∷ w ∷ b)
over_earlier u v w a b less = record { common = u ∷ []; mine = v; theirs = w; my_rest = a; their_rest = b; first = refl; second = refl; smaller = less }

heads_differ : (common : List ℕ) (m t : ℕ) (a b : List ℕ) → m < t → common ++ m ∷ a ≡ common ++ t ∷ b → ⊥
heads_differ [] m t a b less e = omega (arith, less, ap first e)
  where
    first : List ℕ → ℕ
    first [] = 0
    first (x ∷ xs) = x
heads_differ (u ∷ common) m t a b less e = heads_differ common m t a b less (ap behind e)
  where
    behind : List ℕ → List ℕ
    behind [] = []
    behind (x ∷ xs) = xs

pub shorter_differ : (a b : List ℕ) → IsShorter a b → a ≢ b
shorter_differ a b (inl less) e = omega (arith, less, ap length e)
shorter_differ a b (inr x) e = let y = x.1 in heads_differ y.common y.mine y.theirs y.my_rest y.their_rest y.smaller (sym y.first ∙ e ∙ y.second)

-- ---- lists, as the calls make them

module _ (p : Problem) where
  pub walks_alone : (u : ℕ) → walks p.net p.prefix 0 u ≡ onward p.net p.prefix u ([] ∷ [])
  unfolding walks
  walks_alone u = sym (append-nil (kept p.net p.prefix u []))

  pub walks_next : (m n u : ℕ) → m ≡ suc n → walks p.net p.prefix m u ≡ flat_map (λ v. onward p.net p.prefix u (walks p.net p.prefix n v)) (numbers p.net.routers)
  unfolding walks
  walks_next m n u e = ap (λ (k : ℕ). walks p.net p.prefix k u) e

  pub to_next : (n u : ℕ) → walks_to p.net p.prefix (n + 1) u ≡ walks_to p.net p.prefix n u ++ walks p.net p.prefix n u
  unfolding walks_to
  to_next n u = let e : n + 1 ≡ suc n = omega arith in ap (λ (k : ℕ). walks_to p.net p.prefix k u) e

  to_step : (n u : ℕ) → walks_to p.net p.prefix (suc n) u ≡ walks_to p.net p.prefix n u ++ walks p.net p.prefix n u
  unfolding walks_to
  to_step n u = refl

  pub to_none : (u : ℕ) → walks_to p.net p.prefix 0 u ≡ []
  unfolding walks_to
  to_none u = refl

  pub to_size : (n u : ℕ) → length (walks_to p.net p.prefix (n + 1) u) ≡ length (walks_to p.net p.prefix n u) + length (walks p.net p.prefix n u)
  to_size n u = ap length (to_next n u) ∙ length-append (walks_to p.net p.prefix n u) (walks p.net p.prefix n u)

  pub to_grows : (m n u : ℕ) → m ≤ n → length (walks_to p.net p.prefix m u) ≤ length (walks_to p.net p.prefix n u)
  to_grows m zero u l = subst (λ (k : ℕ). length (walks_to p.net p.prefix k u) ≤ length (walks_to p.net p.prefix 0 u)) (let e : 0 ≡ m = omega (arith, l) in e) (omega arith)
  to_grows m (suc n) u l = elim (cases_lt n m) [
    | inl more ↦ subst (λ (k : ℕ). length (walks_to p.net p.prefix k u) ≤ length (walks_to p.net p.prefix (suc n) u)) (let e : suc n ≡ m = omega (arith, l, more) in e) (omega arith)
    | inr less ↦ omega (arith, to_grows m n u less, ap length (to_step n u), length-append (walks_to p.net p.prefix n u) (walks p.net p.prefix n u))
  ]

  -- the list at a router's place
  pub level_at : (levels : List (List (List ℕ))) (n place : ℕ) (d : List (List ℕ)) → levels ≡ level p.net p.prefix n → place < length p.net.routers → get_or levels place d ≡ walks p.net p.prefix n (number_at p place)
  level_at levels n place d e l =
      ap (λ (xs : List (List (List ℕ))). get_or xs place d) e
      ∙ get_or-map (walks p.net p.prefix n) (numbers p.net.routers) place 0 d (omega (arith, l, length-map p.net.routers (λ (r : NetRouter). r.asn)))

  pub level_size : (levels : List (List (List ℕ))) (n : ℕ) → levels ≡ level p.net p.prefix n → length levels ≡ length p.net.routers
  level_size levels n e = ap length e ∙ length-map (numbers p.net.routers) (walks p.net p.prefix n) ∙ length-map p.net.routers (λ (r : NetRouter). r.asn)

  module _ (levels : List (List (List (List ℕ)))) (are : AreLevels p levels) where
    pub level_is : (n : ℕ) → n < length levels → (item slice : List (List (List ℕ))) → item ≡ get_or levels n item → slice ≡ item → slice ≡ level p.net p.prefix n
    level_is n l item slice is same = same ∙ is ∙ get_or_default levels n item [] l ∙ are n l

    pub levels_more : (new : List (List (List (List ℕ)))) (item : List (List (List ℕ))) → new ≡ levels ++ item ∷ [] → item ≡ level p.net p.prefix (length levels) → AreLevels p new
    levels_more new item e is n l = ap (λ (xs : List (List (List (List ℕ)))). get_or xs n []) e ∙ elim (cases_lt n (length levels)) [
      | inl less ↦ get_or_append_left levels (item ∷ []) [] n less ∙ are n less
      | inr more ↦
          let same : n ≡ length levels = omega (arith, l, more, ap length e, length-append levels (item ∷ [])) in
          get_or_push levels item [] n (sym same) ∙ is ∙ ap (level p.net p.prefix) (sym same)
    ]

  module _ (seats : List Seat) (are : AreSeats p seats) where
    pub seats_size : length seats ≡ length p.net.routers
    seats_size = sym (length-map seats (λ (s : Seat). s.router)) ∙ ap length are.routers ∙ length-map p.net.routers (λ (r : NetRouter). r.asn)

    pub seat_number : (place : ℕ) (item : Seat) → item ≡ get_or seats place item → place < length seats → item.router ≡ number_at p place
    seat_number place item is l =
        ap (λ (s : Seat). s.router) is ∙ sym (get_or-map (λ (s : Seat). s.router) seats place item 0 l) ∙ ap (λ (xs : List ℕ). get_or xs place 0) are.routers

    pub seat_is : (place : ℕ) (item : Seat) → item ≡ get_or seats place item → place < length seats → IsSeat p item
    seat_is place item is l = subst (IsSeat p) (sym is) (are.each place item l)

    pub seat_known : (place : ℕ) (item : Seat) → item ≡ get_or seats place item → place < length seats → IsRouter p.net.routers item.router
    seat_known place item is l = subst (λ (xs : List ℕ). Contains xs item.router) are.routers
        (place, omega (arith, l, length-map seats (λ (s : Seat). s.router)), get_or-map (λ (s : Seat). s.router) seats place item item.router l ∙ ap (λ (s : Seat). s.router) (sym is))

-- ---- lists of feasible paths

module _ (permit : PermitsIsATest) (prefer : PrefersIsATest) (law : EachPolicyIsAnOrder) (p : Problem) (is : IsProblem p) where
  abbrev Feasible : List ℕ → Type 0
  Feasible path = IsFeasible p.net p.prefix path

  test : (path : List ℕ) → Decides (is_feasible p.net p.prefix path) (Feasible path)
  test path = feasible_test permit prefer law p is path

  -- what is kept is the path, if it is feasible
  kept_each : (P : List ℕ → Type 0) (u : ℕ) (rest : List ℕ) → (Feasible (u ∷ rest) → P (u ∷ rest)) → Each P (kept p.net p.prefix u rest)
  kept_each P u rest f = at (is_feasible p.net p.prefix (u ∷ rest)) (test (u ∷ rest))
    where
      at : (b : Bool) → Decides b (Feasible (u ∷ rest)) → Each P (cond b ((u ∷ rest) ∷ []) [])
      at true d = (f (d.0 refl), tt)
      at false d = tt

  kept_sorted : (R : List ℕ → List ℕ → Type 0) (u : ℕ) (rest : List ℕ) → Sorted R (kept p.net p.prefix u rest)
  kept_sorted R u rest = at (is_feasible p.net p.prefix (u ∷ rest))
    where
      at : (b : Bool) → Sorted R (cond b ((u ∷ rest) ∷ []) [])
      at true = (tt, tt)
      at false = tt

  kept_in : (u : ℕ) (rest : List ℕ) → Feasible (u ∷ rest) → IsIn (u ∷ rest) (kept p.net p.prefix u rest)
  kept_in u rest f = at (is_feasible p.net p.prefix (u ∷ rest)) (test (u ∷ rest))
    where
      at : (b : Bool) → Decides b (Feasible (u ∷ rest)) → IsIn (u ∷ rest) (cond b ((u ∷ rest) ∷ []) [])
      at true d = inl refl
      at false d = absurd (false≢true (d.1 f))

  kept_none : (u : ℕ) (rest : List ℕ) → (Feasible (u ∷ rest) → ⊥) → kept p.net p.prefix u rest ≡ []
  kept_none u rest not = at (is_feasible p.net p.prefix (u ∷ rest)) (test (u ∷ rest))
    where
      at : (b : Bool) → Decides b (Feasible (u ∷ rest)) → cond b ((u ∷ rest) ∷ []) [] ≡ []
      at true d = absurd (not (d.0 refl))
      at false d = refl

  onward_each : (P Q : List ℕ → Type 0) (u : ℕ) (rests : List (List ℕ)) → Each P rests → ((rest : List ℕ) → P rest → Feasible (u ∷ rest) → Q (u ∷ rest)) → Each Q (onward p.net p.prefix u rests)
  onward_each P Q u [] h f = tt
  onward_each P Q u (rest ∷ rests) h f =
      each_append Q (kept p.net p.prefix u rest) (onward p.net p.prefix u rests) (kept_each Q u rest (f rest h.0)) (onward_each P Q u rests h.1 f)

  onward_sorted : (u : ℕ) (rests : List (List ℕ)) → Sorted ComesEarlier rests → Sorted ComesEarlier (onward p.net p.prefix u rests)
  onward_sorted u [] h = tt
  onward_sorted u (rest ∷ rests) h =
      sorted_append ComesEarlier (kept p.net p.prefix u rest) (onward p.net p.prefix u rests) (kept_sorted ComesEarlier u rest) (onward_sorted u rests h.1)
      (kept_each (λ x. Each (ComesEarlier x) (onward p.net p.prefix u rests)) u rest
      (λ f. onward_each (ComesEarlier rest) (ComesEarlier (u ∷ rest)) u rests h.0 (λ other before g. on_earlier u rest other before)))

  onward_none : (u : ℕ) (rests : List (List ℕ)) → Each (λ rest. Feasible (u ∷ rest) → ⊥) rests → onward p.net p.prefix u rests ≡ []
  onward_none u [] h = refl
  onward_none u (rest ∷ rests) h = ap (λ (xs : List (List ℕ)). xs ++ onward p.net p.prefix u rests) (kept_none u rest h.0) ∙ onward_none u rests h.1

  -- a path of a list
  pub record IsWalk (n u : ℕ) (path : List ℕ) : Type 0 where
    pub size : length path ≡ suc n
    pub begins : BeginsWith path u
    pub feasible : Feasible path

  abbrev over : ℕ → ℕ → ℕ → List (List ℕ)
  over n u v = onward p.net p.prefix u (walks p.net p.prefix n v)

  -- a path over this peer
  record IsOver (n u v : ℕ) (path : List ℕ) : Type 0 where
    rest : List ℕ
    whole : path ≡ u ∷ v ∷ rest
    walk : IsWalk (suc n) u path

  over_each : (n u v : ℕ) → Each (IsWalk n v) (walks p.net p.prefix n v) → Each (IsOver n u v) (over n u v)
  over_each n u v h = onward_each (IsWalk n v) (IsOver n u v) u (walks p.net p.prefix n v) h (λ rest w f. record {
    rest = w.begins.0;
    whole = ap (λ (x : List ℕ). u ∷ x) w.begins.1;
    walk = record { size = omega (arith, w.size); begins = (rest, refl); feasible = f };
  })

  flat_each : (n u : ℕ) (vs : List ℕ) → ((v : ℕ) → Each (IsWalk n v) (walks p.net p.prefix n v)) → Each (IsWalk (suc n) u) (flat_map (over n u) vs)
  flat_each n u [] h = tt
  flat_each n u (v ∷ vs) h =
      each_append (IsWalk (suc n) u) (over n u v) (flat_map (over n u) vs)
      (each_more (IsOver n u v) (IsWalk (suc n) u) (over n u v) (λ x o. o.walk) (over_each n u v (h v))) (flat_each n u vs h)

  pub walks_each : (n u : ℕ) → Each (IsWalk n u) (walks p.net p.prefix n u)
  unfolding walks
  walks_each zero u = kept_each (IsWalk zero u) u [] (λ f. record { size = refl; begins = ([], refl); feasible = f })
  walks_each (suc n) u = flat_each n u (numbers p.net.routers) (λ v. walks_each n v)

  flat_behind : (n u v : ℕ) (rest : List ℕ) (vs : List ℕ) → Each (λ w. v < w) vs → Each (ComesEarlier (u ∷ v ∷ rest)) (flat_map (over n u) vs)
  flat_behind n u v rest [] h = tt
  flat_behind n u v rest (w ∷ vs) h =
      each_append (ComesEarlier (u ∷ v ∷ rest)) (over n u w) (flat_map (over n u) vs)
      (each_more (IsOver n u w) (ComesEarlier (u ∷ v ∷ rest)) (over n u w)
      (λ x o. subst (ComesEarlier (u ∷ v ∷ rest)) (sym o.whole) (over_earlier u v w rest o.rest h.0)) (over_each n u w (walks_each n w)))
      (flat_behind n u v rest vs h.1)

  flat_sorted : (n u : ℕ) (vs : List ℕ) → Sorted (λ v w. v < w) vs → ((v : ℕ) → Sorted ComesEarlier (walks p.net p.prefix n v)) → Sorted ComesEarlier (flat_map (over n u) vs)
  flat_sorted n u [] rising h = tt
  flat_sorted n u (v ∷ vs) rising h =
      sorted_append ComesEarlier (over n u v) (flat_map (over n u) vs) (onward_sorted u (walks p.net p.prefix n v) (h v)) (flat_sorted n u vs rising.1 h)
      (each_more (IsOver n u v) (λ x. Each (ComesEarlier x) (flat_map (over n u) vs)) (over n u v)
      (λ x o. subst (λ (y : List ℕ). Each (ComesEarlier y) (flat_map (over n u) vs)) (sym o.whole) (flat_behind n u v o.rest vs rising.0))
      (over_each n u v (walks_each n v)))

  walks_sorted : (n u : ℕ) → Sorted ComesEarlier (walks p.net p.prefix n u)
  unfolding walks
  walks_sorted zero u = kept_sorted ComesEarlier u []
  walks_sorted (suc n) u = flat_sorted n u (numbers p.net.routers) (sorted_of (λ v w. v < w) (numbers p.net.routers) is.network.plan.rising) (λ v. walks_sorted n v)

  walks_have : (n u : ℕ) (rest : List ℕ) → length (u ∷ rest) ≡ suc n → Feasible (u ∷ rest) → IsIn (u ∷ rest) (walks p.net p.prefix n u)
  unfolding walks
  walks_have zero u [] e f = kept_in u [] f
  walks_have zero u (v ∷ rest) e f = absurd (omega (arith, e))
  walks_have (suc n) u [] e f = absurd (omega (arith, e))
  walks_have (suc n) u (v ∷ rest) e f =
      in_flat (over n u) (numbers p.net.routers) v (u ∷ v ∷ rest) (known law p is v rest f.2)
      (in_flat_paths (kept p.net p.prefix u) (walks p.net p.prefix n v) (v ∷ rest) (u ∷ v ∷ rest) (walks_have n v rest (omega (arith, e)) f.2) (kept_in u (v ∷ rest) f))

  -- a path of the lists up to a length
  pub record IsWalkTo (n u : ℕ) (path : List ℕ) : Type 0 where
    pub short : length path ≤ n
    pub begins : BeginsWith path u
    pub feasible : Feasible path

  pub to_each : (n u : ℕ) → Each (IsWalkTo n u) (walks_to p.net p.prefix n u)
  unfolding walks_to
  to_each zero u = tt
  to_each (suc n) u =
      each_append (IsWalkTo (suc n) u) (walks_to p.net p.prefix n u) (walks p.net p.prefix n u)
      (each_more (IsWalkTo n u) (IsWalkTo (suc n) u) (walks_to p.net p.prefix n u) (λ x w. record { short = omega (arith, w.short); begins = w.begins; feasible = w.feasible }) (to_each n u))
      (each_more (IsWalk n u) (IsWalkTo (suc n) u) (walks p.net p.prefix n u) (λ x w. record { short = omega (arith, w.size); begins = w.begins; feasible = w.feasible }) (walks_each n u))

  same_length : (n u : ℕ) (xs : List (List ℕ)) → Each (IsWalk n u) xs → Sorted ComesEarlier xs → Sorted IsShorter xs
  same_length n u [] h s = tt
  same_length n u (x ∷ xs) h s = (first x xs (h.0).size h.1 s.0, same_length n u xs h.1 s.1)
    where
      first : (x : List ℕ) (xs : List (List ℕ)) → length x ≡ suc n → Each (IsWalk n u) xs → Each (ComesEarlier x) xs → Each (IsShorter x) xs
      first x [] e h s = tt
      first x (y ∷ xs) e h s = (inr (e ∙ sym (h.0).size, s.0), first x xs e h.1 s.1)

  to_sorted : (n u : ℕ) → Sorted IsShorter (walks_to p.net p.prefix n u)
  unfolding walks_to
  to_sorted zero u = tt
  to_sorted (suc n) u =
      sorted_append IsShorter (walks_to p.net p.prefix n u) (walks p.net p.prefix n u) (to_sorted n u)
      (same_length n u (walks p.net p.prefix n u) (walks_each n u) (walks_sorted n u))
      (each_more (IsWalkTo n u) (λ x. Each (IsShorter x) (walks p.net p.prefix n u)) (walks_to p.net p.prefix n u)
      (λ x w. each_more (IsWalk n u) (IsShorter x) (walks p.net p.prefix n u) (λ y o. inl (omega (arith, w.short, o.size))) (walks_each n u)) (to_each n u))

  to_has : (n u : ℕ) (rest : List ℕ) → length (u ∷ rest) ≤ n → Feasible (u ∷ rest) → IsIn (u ∷ rest) (walks_to p.net p.prefix n u)
  unfolding walks_to
  to_has zero u rest l f = absurd (omega (arith, l))
  to_has (suc n) u rest l f = elim (cases_lt (length rest) n) [
    | inl less ↦ in_left (u ∷ rest) (walks_to p.net p.prefix n u) (walks p.net p.prefix n u) (to_has n u rest (omega (arith, less)) f)
    | inr more ↦ in_right (u ∷ rest) (walks_to p.net p.prefix n u) (walks p.net p.prefix n u) (walks_have n u rest (omega (arith, l, more)) f)
  ]

  pub list_has : (n u : ℕ) (rest : List ℕ) → length (u ∷ rest) ≤ n → Feasible (u ∷ rest) → Contains (walks_to p.net p.prefix n u) (u ∷ rest)
  list_has n u rest l f = contains_in (u ∷ rest) (walks_to p.net p.prefix n u) (to_has n u rest l f)

  pub list_each : (n u : ℕ) → All (IsWalkTo n u) (walks_to p.net p.prefix n u)
  list_each n u = each_at (IsWalkTo n u) (walks_to p.net p.prefix n u) (to_each n u)

  pub list_order : (n u : ℕ) → AllPairs IsShorter (walks_to p.net p.prefix n u)
  list_order n u = sorted_at IsShorter (walks_to p.net p.prefix n u) (to_sorted n u)

  -- a router with a longer list has more paths
  pub more_paths : (n u most : ℕ) → most < length (walks_to p.net p.prefix n u) + length (walks p.net p.prefix n u) → HasMorePaths p u most
  unfolding walks_to
  more_paths n u most many = record {
    paths = walks_to p.net p.prefix (suc n) u;
    each = λ i d l. (let w = list_each (suc n) u i d l in (w.begins, w.feasible));
    distinct = λ i j d less below. shorter_differ (get_or (walks_to p.net p.prefix (suc n) u) i d) (get_or (walks_to p.net p.prefix (suc n) u) j d) (list_order (suc n) u i j d less below);
    many = omega (arith, many, length-append (walks_to p.net p.prefix n u) (walks p.net p.prefix n u));
  }

  -- ---- what the calls need

  pub over_none : (n u v : ℕ) → (Linked p.net.links u v → ⊥) → over n u v ≡ []
  over_none n u v not = onward_none u (walks p.net p.prefix n v) (each_more (IsWalk n v) (λ rest. Feasible (u ∷ rest) → ⊥) (walks p.net p.prefix n v)
      (λ rest w f. not (subst (λ (x : List ℕ). Feasible (u ∷ x)) w.begins.1 f).1) (walks_each n v))

  pub rests : (n u v : ℕ) → Linked p.net.links u v → All (IsRest p u) (walks p.net p.prefix n v)
  rests n u v linked = each_at (IsRest p u) (walks p.net p.prefix n v) (each_more (IsWalk n v) (IsRest p u) (walks p.net p.prefix n v)
      (λ rest w. inr (v, w.begins.0, w.begins.1, linked, subst Feasible w.begins.1 w.feasible)) (walks_each n v))

  -- a policy that permits the path tells whether it is feasible
  pub same_test : (u : ℕ) (chosen : Chosen) (rest : List ℕ) (b : Bool) → IsChosen p u chosen → IsRest p u rest → (IsTrue b ↔ chosen_permits chosen (u ∷ rest)) → b ≡ is_feasible p.net p.prefix (u ∷ rest)
  same_test u chosen rest b c r t = same b (is_feasible p.net p.prefix (u ∷ rest)) (λ h. (test (u ∷ rest)).1 (to rest r (c.2 (u ∷ rest)).0 (t.0 h))) (λ h. t.1 ((c.2 (u ∷ rest)).1 (back rest ((test (u ∷ rest)).0 h))))
    where
      same : (a b : Bool) → (a ≡ true → b ≡ true) → (b ≡ true → a ≡ true) → a ≡ b
      same true b f g = sym (f refl)
      same false true f g = g refl
      same false false f g = refl

      at : (rest : List ℕ) → IsPermitted c.0 p.prefix (u ∷ rest) → PermitsAt p.net p.prefix u (u ∷ rest)
      at rest x = record { table = c.0; of = c.1; permitted = x }

      to : (rest : List ℕ) → IsRest p u rest → (chosen_permits chosen (u ∷ rest) → IsPermitted c.0 p.prefix (u ∷ rest)) → chosen_permits chosen (u ∷ rest) → Feasible (u ∷ rest)
      to rest (inl none) f h = subst (λ (x : List ℕ). Feasible (u ∷ x)) (sym none) (at [] (subst (λ (x : List ℕ). IsPermitted c.0 p.prefix (u ∷ x)) none (f h)))
      to rest (inr x) f h =
          subst (λ (y : List ℕ). Feasible (u ∷ y)) (sym x.2) (at (x.0 ∷ x.1) (subst (λ (y : List ℕ). IsPermitted c.0 p.prefix (u ∷ y)) x.2 (f h)), x.3, x.4)

      back : (rest : List ℕ) → Feasible (u ∷ rest) → IsPermitted c.0 p.prefix (u ∷ rest)
      back [] f = permitted_by law p is u c.0 c.1 (u ∷ []) f
      back (v ∷ more) f = permitted_by law p is u c.0 c.1 (u ∷ v ∷ more) f.0
