use Rattle.std.proofs.Common.{◌∙◌, List, ℕ, length, sym, subst, ap, inl, inr}
use Rattle.std.specs.List.{Any}
use Rattle.wheel_search.specs.declared.row.Seat.{Seat}
use Rattle.wheel_search.specs.Rows.{IsSeat, IsRanked, AreWithin}
use Rattle.wheel_search.proofs.RowLemmas.{ranked_some, no_rules_no_cycle, refusal_is, memory_with_rules}
use Rattle.wheel_search.proofs.search.dispute_wheel.Goals as goal

pub returns-then-not-some_ranked-clause-found : goal.returns-then-not-some_ranked-clause-found
returns-then-not-some_ranked-clause-found c =
    let p = c.args.instance.now in
    let is = c.network-network.ensures.problem.problem in
    let none : Any (λ seat. IsRanked seat.kind) c.in_ok-seats.seats.items → ⊥ = λ some.
    absurd (cc (c.if-not-some_ranked.true, c.some_ranked.ensures.1 (subst (λ (xs : List Seat). Any (λ seat. IsRanked seat.kind) xs) (sym c.as_slice.ensures.value) some))) in
    elim (c.safe_or_wheel.ensures p is) [
      | inl safe ↦ safe
      | inr wheel ↦ absurd (no_rules_no_cycle c.policies_are_tests.ensures.prefers c.the_longest_rule_is_one.ensures p is c.in_ok-seats.seats.items c.in_ok-seats.ensures none ((c.wheels_are_cycles.ensures p is).0 wheel))
    ]

pub returns-in-Err-clause-refused : goal.returns-in-Err-clause-refused
returns-in-Err-clause-refused c =
    let p = c.args.instance.now in
    let is = c.network-network.ensures.problem.problem in
    let ranked = subst (λ (xs : List Seat). Any (λ seat. IsRanked seat.kind) xs) c.as_slice.ensures.value (c.some_ranked.ensures.0 c.if-not-some_ranked.false) in
    let seat : IsSeat p ranked.1 = subst (IsSeat p) ranked.3 (c.in_ok-seats.ensures.each ranked.0 ranked.1 ranked.2) in
    refusal_is p c.args.most c.in-Err.why c.in-Err.ensures.refused (ranked.1.router, ranked_some c.policies_are_tests.ensures.prefers c.the_longest_rule_is_one.ensures p is ranked.1 seat ranked.4)

pub returns-in-Err-clause-no_rule : goal.returns-in-Err-clause-no_rule
returns-in-Err-clause-no_rule c = λ none.
    (let p = c.args.instance.now in
    let is = c.network-network.ensures.problem.problem in
    let ranked = subst (λ (xs : List Seat). Any (λ seat. IsRanked seat.kind) xs) c.as_slice.ensures.value (c.some_ranked.ensures.0 c.if-not-some_ranked.false) in
    let seat : IsSeat p ranked.1 = subst (IsSeat p) ranked.3 (c.in_ok-seats.ensures.each ranked.0 ranked.1 ranked.2) in
    absurd (none ranked.1.router (ranked_some c.policies_are_tests.ensures.prefers c.the_longest_rule_is_one.ensures p is ranked.1 seat ranked.4)))

pub returns-in-Err-clause-each_rule : goal.returns-in-Err-clause-each_rule
returns-in-Err-clause-each_rule c = λ all. memory_with_rules c.args.instance.now c.args.most c.in-Err.why c.in-Err.ensures.refused all

pub rows-requires-clause-within : goal.rows-requires-clause-within
rows-requires-clause-within c =
    subst (λ (n : ℕ). AreWithin c.args.instance.now n c.as_slice-4.result.now) (sym (ap length c.as_slice-5.ensures.value ∙ c.in-Ok.ensures.size))
    (subst (λ (xs : List Seat). AreWithin c.args.instance.now c.longest_rest-longest.result xs) (c.as_slice-2.ensures.value ∙ sym c.as_slice-4.ensures.value) c.longest_rest-longest.ensures)
