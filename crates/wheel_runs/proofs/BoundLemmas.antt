-- Numbers for feasible paths: they fall where a path hangs on another, and are there where ranks fall.
use Rattle.std.proofs.Common.{◌≡◌, ℕ, zero, suc, ◌+◌, ◌*◌, ◌≤◌, ◌<◌, ◌&&◌, List, [], ◌∷◌, refl, ap, subst, arith, inl, inr}
use Rattle.ranked_policy.specs.declared.limits.TheConstants.{LONGEST_PATH}
use Rattle.ranked_policy.specs.Plans.{numbers}
use Rattle.ranked_policy.specs.Promises.{EachPolicyIsAnOrder}
use Rattle.ranked_policy.specs.Tests.{PermitsIsATest, PrefersIsATest, starts_at}
use Rattle.stable_paths.specs.Stable.{Problem, IsProblem}
use Rattle.dispute_wheels.specs.Wheels.{HangsOn, HangRound}
use Rattle.dispute_wheels.specs.Feasible.{IsFeasible, Likes, game_of}
use Rattle.dispute_wheels.specs.Tests.{is_feasible, likes, lists_of, better_than, paths_of}
use Rattle.dispute_wheels.specs.Counting.{IsIn, sum_over}
use Rattle.dispute_wheels.specs.RunChanges.{head_of}
use Rattle.dispute_wheels.specs.Promises.{IsSafe, WheelsAreCycles}
use Rattle.dispute_wheels.proofs.CountLemmas.{sum_below}
use Rattle.dispute_wheels.proofs.TestLemmas.{feasible_test, likes_test}
use Rattle.dispute_wheels.proofs.ListedLemmas.{listed}
use Rattle.dispute_wheels.proofs.RankingLemmas.{in_those, to_those, both}
use Rattle.wheel_runs.specs.Bounds.{heard_at_most, IsBound, SafeHaveBounds, WheelsHaveNoBound}

pub sum_has : (f : List ℕ → ℕ) (ps : List (List ℕ)) (p : List ℕ) → IsIn p ps → f p ≤ sum_over f ps
sum_has f [] p i = absurd i
sum_has f (o ∷ ps) p (inl same) = omega (arith, ap f same)
sum_has f (o ∷ ps) p (inr i) = omega (arith, sum_has f ps p i)

pub sum_none : (f : List ℕ → ℕ) (ps : List (List ℕ)) → ((p : List ℕ) → IsIn p ps → ⊥) → sum_over f ps ≡ 0
sum_none f [] none = refl
sum_none f (p ∷ ps) none = absurd (none p (inl refl))

module _ (permit_law : PermitsIsATest) (prefer_law : PrefersIsATest) (law : EachPolicyIsAnOrder) (p : Problem) (is : IsProblem p) where
  pub is_better : (path other : List ℕ) → IsIn other (better_than p.net p.prefix path) → IsFeasible p.net p.prefix other × Likes p.net p.prefix other path
  is_better path other i =
      let x = in_those (λ o. is_feasible p.net p.prefix o && likes p.net p.prefix o path) (lists_of (numbers p.net.routers) LONGEST_PATH) other i in
      let y = both (is_feasible p.net p.prefix other) (likes p.net p.prefix other path) x.1 in
      ((feasible_test permit_law prefer_law law p is other).0 y.0, (likes_test permit_law prefer_law law p is other path).0 y.1)

  to_better : (path other : List ℕ) → IsFeasible p.net p.prefix other → Likes p.net p.prefix other path → IsIn other (better_than p.net p.prefix path)
  to_better path other f l =
      let a = (feasible_test permit_law prefer_law law p is other).1 f in
      let b = (likes_test permit_law prefer_law law p is other path).1 l in
      to_those (λ o. is_feasible p.net p.prefix o && likes p.net p.prefix o path) (lists_of (numbers p.net.routers) LONGEST_PATH) other (listed p.net p.prefix other f) (rw (a, b) refl)

  -- the path, or a better one, is feasible
  pub feasible_in : (path other : List ℕ) → IsFeasible p.net p.prefix path → IsIn other (path ∷ better_than p.net p.prefix path) → IsFeasible p.net p.prefix other
  feasible_in path other f (inl same) = subst (λ (x : List ℕ). IsFeasible p.net p.prefix x) same f
  feasible_in path other f (inr i) = (is_better path other i).0

  pub path_feasible : (u : ℕ) (path : List ℕ) → IsIn path (paths_of p.net p.prefix u) → IsFeasible p.net p.prefix path
  path_feasible u path i =
      let x = in_those (λ o. is_feasible p.net p.prefix o && starts_at u o) (lists_of (numbers p.net.routers) LONGEST_PATH) path i in
      (feasible_test permit_law prefer_law law p is path).0 (both (is_feasible p.net p.prefix path) (starts_at u path) x.1).0

  module _ (commands : ℕ → ℕ) (dialled : ℕ → ℕ → ℕ) where
    -- ---- they fall

    hang_falls : (B : List ℕ → ℕ) → IsBound commands dialled p.net p.prefix B → (path rest : List ℕ) → HangsOn (game_of p) path rest → B rest < B path
    hang_falls B bound path [] h = absurd (h.some refl)
    hang_falls B bound path (v ∷ rest) h =
        let at : IsIn (h.router ∷ v ∷ rest) (path ∷ better_than p.net p.prefix path) = elim h.as_good [
          | inl same ↦ inl same
          | inr better ↦ inr (to_better path (h.router ∷ v ∷ rest) h.feasible better)
        ] in
        omega (arith, bound path h.mine, sum_has (heard_at_most commands dialled B) (path ∷ better_than p.net p.prefix path) (h.router ∷ v ∷ rest) at)

    round_falls : (B : List ℕ → ℕ) → IsBound commands dialled p.net p.prefix B → (path : List ℕ) (paths : List (List ℕ)) (last : List ℕ) → HangRound (game_of p) path paths last → B last < B path
    round_falls B bound path [] last h = hang_falls B bound path last h
    round_falls B bound path (next ∷ paths) last h = omega (arith, hang_falls B bound path next h.0, round_falls B bound next paths last h.1)

    -- ---- they are there

    abbrev most : ℕ → List ℕ → ℕ
    most zero path = 0
    most (suc n) path = 2 * commands (head_of path) + sum_over (heard_at_most commands dialled (most n)) (path ∷ better_than p.net p.prefix path)

    heard_grows : (B C : List ℕ → ℕ) (path : List ℕ) → ((v : ℕ) (rest : List ℕ) → B (v ∷ rest) ≤ C (v ∷ rest)) → heard_at_most commands dialled B path ≤ heard_at_most commands dialled C path
    heard_grows B C [] below = omega arith
    heard_grows B C (u ∷ []) below = omega arith
    heard_grows B C (u ∷ v ∷ rest) below = omega (arith, below v rest)

    most_at : (n m : ℕ) (path : List ℕ) → n ≤ m → most n path ≤ most m path
    most_at zero m path below = omega arith
    most_at (suc n) zero path below = absurd (omega (arith, below))
    most_at (suc n) (suc m) path below =
        omega (
          arith,
          sum_below (heard_at_most commands dialled (most n)) (heard_at_most commands dialled (most m)) (path ∷ better_than p.net p.prefix path)
              (λ other i. heard_grows (most n) (most m) other (λ v rest. most_at n m (v ∷ rest) (omega (arith, below)))),
        )

    module _ (safe : IsSafe p) where
      falls : (path : List ℕ) (u v : ℕ) (rest : List ℕ) → IsFeasible p.net p.prefix path → IsIn (u ∷ v ∷ rest) (path ∷ better_than p.net p.prefix path) → safe.rank (v ∷ rest) < safe.rank path
      falls path u v rest f (inl same) =
          let g : IsFeasible p.net p.prefix (u ∷ v ∷ rest) = subst (λ (x : List ℕ). IsFeasible p.net p.prefix x) same f in
          omega (arith, safe.ranked.falls u v rest g, ap safe.rank same)
      falls path u v rest f (inr i) =
          let x = is_better path (u ∷ v ∷ rest) i in
          omega (arith, safe.ranked.falls u v rest x.0, safe.ranked.keeps (u ∷ v ∷ rest) path x.0 f x.1)

      abbrev bound_of : List ℕ → ℕ
      bound_of path = most (suc (safe.rank path)) path

      heard_below : (path other : List ℕ) → IsFeasible p.net p.prefix path → IsIn other (path ∷ better_than p.net p.prefix path)
          → heard_at_most commands dialled bound_of other ≤ heard_at_most commands dialled (most (safe.rank path)) other
      heard_below path [] f i = omega arith
      heard_below path (u ∷ []) f i = omega arith
      heard_below path (u ∷ v ∷ rest) f i = omega (arith, most_at (suc (safe.rank (v ∷ rest))) (safe.rank path) (v ∷ rest) (falls path u v rest f i))

      has_bound : IsBound commands dialled p.net p.prefix bound_of
      has_bound path f =
          omega (
            arith,
            sum_below (heard_at_most commands dialled bound_of) (heard_at_most commands dialled (most (safe.rank path))) (path ∷ better_than p.net p.prefix path)
                (λ other i. heard_below path other f i),
          )

pub safe_have_bounds : PermitsIsATest → PrefersIsATest → EachPolicyIsAnOrder → SafeHaveBounds
safe_have_bounds permit_law prefer_law law p is safe commands dialled =
    (bound_of permit_law prefer_law law p is commands dialled safe, has_bound permit_law prefer_law law p is commands dialled safe)

pub wheels_have_no_bound : PermitsIsATest → PrefersIsATest → EachPolicyIsAnOrder → WheelsAreCycles → WheelsHaveNoBound
wheels_have_no_bound permit_law prefer_law law cycles p is wheel commands dialled B bound =
    let c = (cycles p is).0 wheel in
    absurd (omega (arith, round_falls permit_law prefer_law law p is commands dialled B bound c.0 c.1 c.0 c.2))
