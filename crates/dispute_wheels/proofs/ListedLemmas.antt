-- Each feasible path is one of a list, so a network has a dispute wheel, or its paths have numbers that show that it has none.
use Rattle.std.proofs.Common.{◌≡◌, ℕ, zero, suc, ◌≤◌, List, [], ◌∷◌, ◌++◌, length, refl, sym, ap, subst, ◌∙◌, arith, inl, inr}
use Rattle.std.specs.List.{Contains}
use mathlib.Core.Logic.{◌⊎◌}
use Rattle.prefix_lanes.specs.Bits.{PrefixView}
use Rattle.ranked_policy.specs.declared.limits.TheConstants.{LONGEST_PATH}
use Rattle.ranked_policy.specs.Plans.{Plan, numbers}
use Rattle.ranked_policy.specs.Policies.{Table, IsTableOf, IsPreferred}
use Rattle.ranked_policy.specs.Promises.{EachPolicyIsAnOrder}
use Rattle.ranked_policy.specs.Tests.{PermitsIsATest, PrefersIsATest}
use Rattle.ranked_policy.proofs.OneTable.{one_table, table_stands}
use Rattle.stable_paths.specs.Stable.{Problem, IsProblem}
use Rattle.stable_paths.specs.ByRank.{BestByRankIsBest}
use Rattle.dispute_wheels.specs.Wheels.{HasWheel}
use Rattle.dispute_wheels.specs.Counting.{IsIn}
use Rattle.dispute_wheels.specs.Feasible.{PermitsAt, IsFeasible, Likes, game_of}
use Rattle.dispute_wheels.specs.Tests.{hangs, with_one, with_each, lists_of}
use Rattle.dispute_wheels.specs.Promises.{IsSafe, SafeOrWheel, NoWheelOneStable}
use Rattle.dispute_wheels.proofs.FeasibleLemmas.{is_game, router_of, heads, permitted_at, permitted_path, safe_have_one_stable}
use Rattle.dispute_wheels.proofs.TestLemmas.{hangs_test}
use Rattle.dispute_wheels.proofs.CompleteLemmas.{number, number_few, numbered, safe_or_wheel}

in_left : (x : List ℕ) (xs ys : List (List ℕ)) → IsIn x xs → IsIn x (xs ++ ys)
in_left x [] ys i = absurd i
in_left x (y ∷ xs) ys (inl same) = inl same
in_left x (y ∷ xs) ys (inr i) = inr (in_left x xs ys i)

in_right : (x : List ℕ) (xs ys : List (List ℕ)) → IsIn x ys → IsIn x (xs ++ ys)
in_right x [] ys i = i
in_right x (y ∷ xs) ys i = inr (in_right x xs ys i)

in_with_one : (u : ℕ) (x : List ℕ) (xs : List (List ℕ)) → IsIn x xs → IsIn (u ∷ x) (with_one u xs)
unfolding with_one
in_with_one u x [] i = absurd i
in_with_one u x (y ∷ xs) (inl same) = inl (ap (λ (z : List ℕ). u ∷ z) same)
in_with_one u x (y ∷ xs) (inr i) = inr (in_with_one u x xs i)

in_with_each : (us : List ℕ) (u : ℕ) (x : List ℕ) (xs : List (List ℕ)) → Contains us u → IsIn x xs → IsIn (u ∷ x) (with_each us xs)
unfolding with_each
in_with_each [] u x xs c i = absurd (let l = c.1 in omega (arith, l))
in_with_each (w ∷ us) u x xs (zero, l, e) i =
    in_left (u ∷ x) (with_one w xs) (with_each us xs) (subst (λ (v : ℕ). IsIn (u ∷ x) (with_one v xs)) (sym e) (in_with_one u x xs i))
in_with_each (w ∷ us) u x xs (suc k, l, e) i =
    in_right (u ∷ x) (with_one w xs) (with_each us xs) (in_with_each us u x xs (k, omega (arith, l), e) i)

-- all routers of a path are of a list
abbrev AreKnown : List ℕ → List ℕ → Type 0
AreKnown us [] = Unit {0}
AreKnown us (u ∷ rest) = Contains us u × AreKnown us rest

in_lists : (us : List ℕ) (n : ℕ) (path : List ℕ) → AreKnown us path → length path ≤ n → IsIn path (lists_of us n)
unfolding lists_of
in_lists us zero [] known l = inl refl
in_lists us zero (u ∷ rest) known l = absurd (omega (arith, l))
in_lists us (suc n) [] known l = inl refl
in_lists us (suc n) (u ∷ rest) known l = inr (in_with_each us u rest (lists_of us n) known.0 (in_lists us n rest known.1 (omega (arith, l))))

module _ (net : Plan) (q : PrefixView) where
  known_all : (path : List ℕ) → IsFeasible net q path → AreKnown (numbers net.routers) path
  known_all [] f = absurd f
  known_all (u ∷ []) f = (router_of net u f.table f.of, tt)
  known_all (u ∷ v ∷ rest) f = (router_of net u f.0.table f.0.of, known_all (v ∷ rest) f.2)

  short_at : (u : ℕ) (path : List ℕ) → PermitsAt net q u path → length path ≤ LONGEST_PATH
  short_at u path x = elim x.permitted [
    | inl own ↦ omega (arith, ap length own.1)
    | inr other ↦ other.1.short
  ]

  short : (path : List ℕ) → IsFeasible net q path → length path ≤ LONGEST_PATH
  short [] f = absurd f
  short (u ∷ rest) f = short_at u (u ∷ rest) (permitted_at net q u rest f)

  pub listed : (path : List ℕ) → IsFeasible net q path → IsIn path (lists_of (numbers net.routers) LONGEST_PATH)
  listed path f = in_lists (numbers net.routers) LONGEST_PATH path (known_all path f) (short path f)

module _ (permit_law : PermitsIsATest) (prefer_law : PrefersIsATest) (law : EachPolicyIsAnOrder) (p : Problem) (is : IsProblem p) where
  pub onto : (a b c : List ℕ) → IsFeasible p.net p.prefix a → IsFeasible p.net p.prefix b → IsFeasible p.net p.prefix c → Likes p.net p.prefix a b → Likes p.net p.prefix b c → Likes p.net p.prefix a c
  onto a b c fa fb fc x y =
      let same : y.router ≡ x.router = heads y.router x.router y.first.0 x.second.0 (sym y.first.1 ∙ x.second.1) in
      let of : IsTableOf p.net x.router y.table = subst (λ (u : ℕ). IsTableOf p.net u y.table) same y.of in
      let next : IsPreferred x.table p.prefix b c = subst (λ (t : Table). IsPreferred t p.prefix b c) (one_table p.net x.router y.table x.table is.network of x.of) y.preferred in
      let third = subst (λ (u : ℕ). (rest : List ℕ) × (c ≡ u ∷ rest)) same y.second in
      let order = law x.table (table_stands p.net x.router x.table is.network x.of) p.prefix in
      record {
        router = x.router;
        table = x.table;
        of = x.of;
        first = x.first;
        second = third;
        preferred = order.transitive a b c (permitted_path law p is x.router x.table x.of a fa x.first) (permitted_path law p is x.router x.table x.of b fb x.second)
            (permitted_path law p is x.router x.table x.of c fc third) x.preferred next;
      }

  abbrev all : List (List ℕ)
  all = lists_of (numbers p.net.routers) LONGEST_PATH

  pub safe_of : (HasWheel (game_of p) → ⊥) → IsSafe p
  safe_of none = record {
    rank = number (game_of p) (is_game p) (hangs p.net p.prefix) (hangs_test permit_law prefer_law law p is) all (listed p.net p.prefix) onto;
    ranked = numbered (game_of p) (is_game p) (hangs p.net p.prefix) (hangs_test permit_law prefer_law law p is) all (listed p.net p.prefix) onto none;
    most = suc (length all);
    low = λ path f. (let few = number_few (game_of p) (is_game p) (hangs p.net p.prefix) (hangs_test permit_law prefer_law law p is) all (listed p.net p.prefix) onto path in omega (arith, few));
  }

  pub either : IsSafe p ⊎ HasWheel (game_of p)
  either = elim (safe_or_wheel (game_of p) (is_game p) (hangs p.net p.prefix) (hangs_test permit_law prefer_law law p is) all (listed p.net p.prefix) onto) [
    | inl none ↦ inl (safe_of none)
    | inr w ↦ inr w
  ]

pub is_safe_or_wheel : PermitsIsATest → PrefersIsATest → EachPolicyIsAnOrder → SafeOrWheel
is_safe_or_wheel permit_law prefer_law law p is = either permit_law prefer_law law p is

pub no_wheel_one_stable : PermitsIsATest → PrefersIsATest → EachPolicyIsAnOrder → BestByRankIsBest → NoWheelOneStable
no_wheel_one_stable permit_law prefer_law law ranks p is none = safe_have_one_stable law ranks p is (safe_of permit_law prefer_law law p is.problem none)
