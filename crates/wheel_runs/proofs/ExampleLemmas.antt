-- The feasible paths of small networks.
use Rattle.std.proofs.Common.{◌≡◌, ◌≢◌, ℕ, zero, suc, ◌+◌, ◌*◌, ◌≤◌, ◌<◌, ◌==◌, true, ◌&&◌, List, [], ◌∷◌, refl, ap, sym, ◌∙◌, subst, arith, inl, inr}
use Rattle.std.proofs.lemmas.List.{append-nil}
use Rattle.std.proofs.lemmas.Bool.{false≢true, eqb-true}
use Rattle.std.specs.Prelude.{get_or as slice_index_or}
use Rattle.std.specs.List.{All, Contains}
use mathlib.Core.Logic.{◌⊎◌}
use Rattle.prefix_lanes.specs.Bits.{Covers, address_bits, bits}
use Rattle.ranked_policy.specs.declared.limits.TheConstants.{LONGEST_PATH}
use Rattle.ranked_policy.specs.declared.network.RankRule.{RankRule}
use Rattle.ranked_policy.specs.declared.network.Origin.{Origin}
use Rattle.ranked_policy.specs.declared.network.NetRouter.{NetRouter}
use Rattle.ranked_policy.specs.Paths.{IsSimple, IsRoute}
use Rattle.ranked_policy.specs.Plans.{IsOrigin, numbers}
use Rattle.ranked_policy.specs.Policies.{Table, Originates, IsRuleFor, NoRuleFor, IsPermitted}
use Rattle.ranked_policy.specs.Tests.{prefers}
use Rattle.stable_paths.specs.ByRank.{table_of}
use Rattle.stable_paths.specs.Examples.{ten, ranks, disagree}
use Rattle.dispute_wheels.specs.Counting.{IsIn, sum_over}
use Rattle.dispute_wheels.specs.Feasible.{PermitsAt, IsFeasible}
use Rattle.dispute_wheels.specs.Tests.{is_known, is_feasible, likes, lists_of, better_than}
use Rattle.dispute_wheels.specs.RunChanges.{head_of}
use Rattle.dispute_wheels.proofs.FeasibleLemmas.{permitted_at}
use Rattle.dispute_wheels.proofs.ListedLemmas.{listed}
use Rattle.dispute_wheels.proofs.RankingLemmas.{in_those, to_those, both}
use Rattle.wheel_runs.specs.Bounds.{heard_at_most, IsBound}
use Rattle.wheel_runs.specs.Examples.{DisagreeHasNoBound, pair, pair_bound, PairHasABound}
use Rattle.wheel_runs.proofs.BoundLemmas.{sum_has, sum_none}

simple_two : (a b : ℕ) → a ≢ b → IsSimple (a ∷ b ∷ [])
simple_two a b ab zero zero d l m = absurd (omega (arith, l))
simple_two a b ab zero (suc zero) d l m = ab
simple_two a b ab zero (suc (suc j)) d l m = absurd (omega (arith, m))
simple_two a b ab (suc i) zero d l m = absurd (omega (arith, l))
simple_two a b ab (suc i) (suc zero) d l m = absurd (omega (arith, l))
simple_two a b ab (suc i) (suc (suc j)) d l m = absurd (omega (arith, m))

simple_three : (a b c : ℕ) → a ≢ b → a ≢ c → b ≢ c → IsSimple (a ∷ b ∷ c ∷ [])
simple_three a b c ab ac bc i zero d l m = absurd (omega (arith, l))
simple_three a b c ab ac bc zero (suc zero) d l m = ab
simple_three a b c ab ac bc zero (suc (suc zero)) d l m = ac
simple_three a b c ab ac bc (suc zero) (suc zero) d l m = absurd (omega (arith, l))
simple_three a b c ab ac bc (suc zero) (suc (suc zero)) d l m = bc
simple_three a b c ab ac bc (suc (suc i)) (suc zero) d l m = absurd (omega (arith, l))
simple_three a b c ab ac bc (suc (suc i)) (suc (suc zero)) d l m = absurd (omega (arith, l))
simple_three a b c ab ac bc i (suc (suc (suc j))) d l m = absurd (omega (arith, m))

-- ---- one origin, and one rule

abbrev by_one : List Origin
by_one = record { prefix = ten; router = 1 } ∷ []

one_originates : IsOrigin by_one 1 ten
one_originates = (0, record { prefix = ten; router = 1 }, omega arith, refl, (refl, refl))

none_else : (u : ℕ) → IsOrigin by_one u ten → u ≡ 1
none_else u (zero, x, l, at, is) = sym is.1 ∙ sym (ap (λ (o : Origin). o.router) at)
none_else u (suc k, x, l, at, is) = absurd (omega (arith, l))

abbrev rule_of : List (List ℕ) → RankRule
rule_of paths = record { prefix = ten; paths = paths }

longest_is : (paths : List (List ℕ)) → All (λ (other : RankRule). Covers other.prefix ten → other.prefix.len ≤ ten.len) (ranks paths)
longest_is paths zero d l = λ c. omega arith
longest_is paths (suc k) d l = absurd (omega (arith, l))

covers_itself : Covers ten ten
covers_itself = ([], append-nil (bits ten))

rule_is : (paths : List (List ℕ)) → IsRuleFor (ranks paths) ten (rule_of paths)
rule_is paths = record { listed = (0, omega arith, refl); covers = covers_itself; longest = longest_is paths }

-- a router with one rule, which is no origin, permits what the rule lists
abbrev table_by : ℕ → List (List ℕ) → Table
table_by u paths = record { router = u; rules = ranks paths; origins = by_one }

permitted_by : (u : ℕ) (paths : List (List ℕ)) (path : List ℕ) → u ≢ 1 → IsRoute u (Originates (table_by u paths) ten) path → Contains paths path → IsPermitted (table_by u paths) ten path
permitted_by u paths path other route c = inr ((λ o. other (none_else u o)), route, inl (rule_of paths, rule_is paths, c))

-- ---- DISAGREE

abbrev paths_2 : List (List ℕ)
paths_2 = (2 ∷ 3 ∷ 1 ∷ []) ∷ (2 ∷ 1 ∷ []) ∷ []

abbrev paths_3 : List (List ℕ)
paths_3 = (3 ∷ 2 ∷ 1 ∷ []) ∷ (3 ∷ 1 ∷ []) ∷ []

at_1 : IsFeasible disagree ten (1 ∷ [])
at_1 = record {
  table = record { router = 1; rules = []; origins = by_one };
  of = (refl, refl, (0, record { asn = 1; id = 16843009; rules = [] }, omega arith, refl, (refl, refl)));
  permitted = inl (one_originates, refl);
}

at_2 : (path : List ℕ) → IsRoute 2 (Originates (table_by 2 paths_2) ten) path → Contains paths_2 path → PermitsAt disagree ten 2 path
at_2 path route c = record {
  table = table_by 2 paths_2;
  of = (refl, refl, (1, record { asn = 2; id = 33686018; rules = ranks paths_2 }, omega arith, refl, (refl, refl)));
  permitted = permitted_by 2 paths_2 path (λ e. absurd (omega (arith, e))) route c;
}

at_3 : (path : List ℕ) → IsRoute 3 (Originates (table_by 3 paths_3) ten) path → Contains paths_3 path → PermitsAt disagree ten 3 path
at_3 path route c = record {
  table = table_by 3 paths_3;
  of = (refl, refl, (2, record { asn = 3; id = 50529027; rules = ranks paths_3 }, omega arith, refl, (refl, refl)));
  permitted = permitted_by 3 paths_3 path (λ e. absurd (omega (arith, e))) route c;
}

-- two or three different routers, the last one the origin
route_two : (u : ℕ) (paths : List (List ℕ)) → u ≢ 1 → IsRoute u (Originates (table_by u paths) ten) (u ∷ 1 ∷ [])
route_two u paths other = record { begins = (1 ∷ [], refl); simple = simple_two u 1 other; short = omega arith; ends = (1, one_originates, (u ∷ [], refl)) }

route_three : (u v : ℕ) (paths : List (List ℕ)) → u ≢ v → u ≢ 1 → v ≢ 1 → IsRoute u (Originates (table_by u paths) ten) (u ∷ v ∷ 1 ∷ [])
route_three u v paths apart other others = record {
  begins = (v ∷ 1 ∷ [], refl);
  simple = simple_three u v 1 apart other others;
  short = omega arith;
  ends = (1, one_originates, (u ∷ v ∷ [], refl));
}

at_21 : IsFeasible disagree ten (2 ∷ 1 ∷ [])
at_21 = (at_2 (2 ∷ 1 ∷ []) (route_two 2 paths_2 (λ e. absurd (omega (arith, e)))) (1, omega arith, refl), (0, record { one = 1; other = 2 }, omega arith, refl, inr (refl, refl)), at_1)

at_31 : IsFeasible disagree ten (3 ∷ 1 ∷ [])
at_31 = (at_3 (3 ∷ 1 ∷ []) (route_two 3 paths_3 (λ e. absurd (omega (arith, e)))) (1, omega arith, refl), (1, record { one = 1; other = 3 }, omega arith, refl, inr (refl, refl)), at_1)

at_231 : IsFeasible disagree ten (2 ∷ 3 ∷ 1 ∷ [])
at_231 = (
  at_2 (2 ∷ 3 ∷ 1 ∷ []) (route_three 2 3 paths_2 (λ e. absurd (omega (arith, e))) (λ e. absurd (omega (arith, e))) (λ e. absurd (omega (arith, e)))) (0, omega arith, refl),
  (2, record { one = 2; other = 3 }, omega arith, refl, inl (refl, refl)),
  at_31,
)

at_321 : IsFeasible disagree ten (3 ∷ 2 ∷ 1 ∷ [])
at_321 = (
  at_3 (3 ∷ 2 ∷ 1 ∷ []) (route_three 3 2 paths_3 (λ e. absurd (omega (arith, e))) (λ e. absurd (omega (arith, e))) (λ e. absurd (omega (arith, e)))) (0, omega arith, refl),
  (2, record { one = 2; other = 3 }, omega arith, refl, inr (refl, refl)),
  at_21,
)

-- each likes the way through the other better
better_2 : IsIn (2 ∷ 3 ∷ 1 ∷ []) (better_than disagree ten (2 ∷ 1 ∷ []))
unfolding address_bits
better_2 =
    to_those (λ o. is_feasible disagree ten o && likes disagree ten o (2 ∷ 1 ∷ [])) (lists_of (numbers disagree.routers) LONGEST_PATH) (2 ∷ 3 ∷ 1 ∷ [])
    (listed disagree ten (2 ∷ 3 ∷ 1 ∷ []) at_231) refl

better_3 : IsIn (3 ∷ 2 ∷ 1 ∷ []) (better_than disagree ten (3 ∷ 1 ∷ []))
unfolding address_bits
better_3 =
    to_those (λ o. is_feasible disagree ten o && likes disagree ten o (3 ∷ 1 ∷ [])) (lists_of (numbers disagree.routers) LONGEST_PATH) (3 ∷ 2 ∷ 1 ∷ [])
    (listed disagree ten (3 ∷ 2 ∷ 1 ∷ []) at_321) refl

pub disagree_has_no_bound : DisagreeHasNoBound
disagree_has_no_bound commands dialled B bound =
    let heard = heard_at_most commands dialled B in
    absurd (omega (
      arith,
      bound (2 ∷ 1 ∷ []) at_21,
      sum_has heard ((2 ∷ 1 ∷ []) ∷ better_than disagree ten (2 ∷ 1 ∷ [])) (2 ∷ 3 ∷ 1 ∷ []) (inr better_2),
      bound (3 ∷ 1 ∷ []) at_31,
      sum_has heard ((3 ∷ 1 ∷ []) ∷ better_than disagree ten (3 ∷ 1 ∷ [])) (3 ∷ 2 ∷ 1 ∷ []) (inr better_3),
    ))

-- ---- the pair

abbrev paths_21 : List (List ℕ)
paths_21 = (2 ∷ 1 ∷ []) ∷ []

in_one : {X : Type 0} (a x : X) → Contains (a ∷ []) x → x ≡ a
in_one a x (zero, l, e) = sym e
in_one a x (suc k, l, e) = absurd (omega (arith, l))

module _ (u : ℕ) (rest : List ℕ) (x : PermitsAt pair ten u (u ∷ rest)) where
  one : u ≡ 1 → u ∷ rest ≡ 1 ∷ []
  one same = elim x.permitted [
    | inl own ↦ own.1 ∙ ap (λ (n : ℕ). n ∷ []) (x.of.0 ∙ same)
    | inr other ↦ absurd (other.0 (subst (λ (os : List Origin). IsOrigin os x.table.router ten) (sym x.of.1) (subst (λ (n : ℕ). IsOrigin by_one n ten) (sym (x.of.0 ∙ same)) one_originates)))
  ]

  two : u ≡ 2 → x.table.rules ≡ ranks paths_21 → u ∷ rest ≡ 2 ∷ 1 ∷ []
  two same rules = elim x.permitted [
    | inl own ↦ absurd (let at = none_else x.table.router (subst (λ (os : List Origin). IsOrigin os x.table.router ten) x.of.1 own.0) in let mine = x.of.0 in omega (arith, at, mine, same))
    | inr other ↦ elim other.2 [
      | inl rule ↦
          let is : rule.0 ≡ rule_of paths_21 = in_one (rule_of paths_21) rule.0 (subst (λ (rs : List RankRule). Contains rs rule.0) rules rule.1.listed) in
          in_one (2 ∷ 1 ∷ []) (u ∷ rest) (subst (λ (r : RankRule). Contains r.paths (u ∷ rest)) is rule.2)
      | inr none ↦ absurd (subst (λ (rs : List RankRule). NoRuleFor rs ten) rules none 0 (rule_of paths_21) (omega arith) covers_itself)
    ]
  ]

  by_router : (k : ℕ) (r : NetRouter) → k < 2 → slice_index_or pair.routers k r ≡ r → r.asn ≡ u → r.rules ≡ x.table.rules → (u ∷ rest ≡ 1 ∷ []) ⊎ (u ∷ rest ≡ 2 ∷ 1 ∷ [])
  by_router zero r l at asn rules = inl (one (sym asn ∙ sym (ap (λ (n : NetRouter). n.asn) at)))
  by_router (suc zero) r l at asn rules = inr (two (sym asn ∙ sym (ap (λ (n : NetRouter). n.asn) at)) (sym rules ∙ sym (ap (λ (n : NetRouter). n.rules) at)))
  by_router (suc (suc k)) r l at asn rules = absurd (omega (arith, l))

  which : (u ∷ rest ≡ 1 ∷ []) ⊎ (u ∷ rest ≡ 2 ∷ 1 ∷ [])
  which = (let a = x.of.2 in by_router a.0 a.1 a.2 a.3 a.4.0 a.4.1)

pair_paths : (path : List ℕ) → IsFeasible pair ten path → (path ≡ 1 ∷ []) ⊎ (path ≡ 2 ∷ 1 ∷ [])
pair_paths [] f = absurd f
pair_paths (u ∷ rest) f = which u rest (permitted_at pair ten u rest f)

-- no path is better than the only one
none_better_1 : (other : List ℕ) → likes pair ten other (1 ∷ []) ≡ true → ⊥
none_better_1 [] h = absurd (false≢true h)
none_better_1 (u ∷ us) h =
    let a = both (u == 1) (is_known pair u && prefers (table_of pair u) ten (u ∷ us) (1 ∷ [])) h in
    let b = both (is_known pair u) (prefers (table_of pair u) ten (u ∷ us) (1 ∷ [])) a.1 in
    let c : prefers (table_of pair 1) ten (1 ∷ us) (1 ∷ []) ≡ true = subst (λ (n : ℕ). prefers (table_of pair n) ten (n ∷ us) (1 ∷ []) ≡ true) (eqb-true u 1 a.0) b.1 in
    false≢true c

none_better_2 : (other : List ℕ) → likes pair ten other (2 ∷ 1 ∷ []) ≡ true → ⊥
unfolding address_bits
none_better_2 [] h = absurd (false≢true h)
none_better_2 (u ∷ us) h =
    let a = both (u == 2) (is_known pair u && prefers (table_of pair u) ten (u ∷ us) (2 ∷ 1 ∷ [])) h in
    let b = both (is_known pair u) (prefers (table_of pair u) ten (u ∷ us) (2 ∷ 1 ∷ [])) a.1 in
    let c : prefers (table_of pair 2) ten (2 ∷ us) (2 ∷ 1 ∷ []) ≡ true = subst (λ (n : ℕ). prefers (table_of pair n) ten (n ∷ us) (2 ∷ 1 ∷ []) ≡ true) (eqb-true u 2 a.0) b.1 in
    false≢true c

module _ (commands : ℕ → ℕ) (dialled : ℕ → ℕ → ℕ) where
  abbrev heard : List ℕ → ℕ
  heard = heard_at_most commands dialled (pair_bound commands dialled)

  alone : (path : List ℕ) → ((other : List ℕ) → likes pair ten other path ≡ true → ⊥) → sum_over heard (better_than pair ten path) ≡ 0
  alone path none = sum_none heard (better_than pair ten path) (λ other i.
      (let x = in_those (λ o. is_feasible pair ten o && likes pair ten o path) (lists_of (numbers pair.routers) LONGEST_PATH) other i in
      none other (both (is_feasible pair ten other) (likes pair ten other path) x.1).1))

  abbrev IsEnough : List ℕ → Type 0
  IsEnough path = 2 * commands (head_of path) + sum_over heard (path ∷ better_than pair ten path) ≤ pair_bound commands dialled path

  enough_1 : IsEnough (1 ∷ [])
  enough_1 = omega (arith, alone (1 ∷ []) none_better_1)

  enough_2 : IsEnough (2 ∷ 1 ∷ [])
  enough_2 = omega (arith, alone (2 ∷ 1 ∷ []) none_better_2)

  pair_is_bounded : IsBound commands dialled pair ten (pair_bound commands dialled)
  pair_is_bounded path f = elim (pair_paths path f) [
    | inl is ↦ subst IsEnough (sym is) enough_1
    | inr is ↦ subst IsEnough (sym is) enough_2
  ]

pub pair_has_a_bound : PairHasABound
pair_has_a_bound = (pair_is_bounded, refl, refl)
