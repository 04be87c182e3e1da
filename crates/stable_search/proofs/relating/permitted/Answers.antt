use Rattle.std.proofs.Common.{◌≡◌, ◌<◌, ◌+◌, ◌∙◌, ℕ, List, [], ◌∷◌, length, get_or, ap, sym, subst, refl, arith}
use Rattle.std.proofs.lemmas.List.{get_or_default}
use Rattle.ranked_policy.specs.Choosing.{chosen_permits}
use Rattle.stable_paths.proofs.ListLemmas.{never}
use Rattle.stable_search.proofs.RelateLemmas.{Says, says_yes, says_no}
use Rattle.stable_search.proofs.relating.permitted.Goals as goal
use Rattle.stable_search.proofs.relating.permitted.Goals.{then-permits_on, else-permits_on}

pub loop-value-preserved : goal.loop-value-preserved
loop-value-preserved c =
    let one = c.args.one.now in
    let other = c.args.other.now in
    let n = c.loop-value.value in
    let Q : ℕ → Type 0 = λ b. chosen_permits one.policy (one.router ∷ get_or other.values.items b []) in
    let items = c.as_slice-theirs-items.result.now in
    let same : items ≡ other.values.items = c.as_slice-theirs-items.ensures.value in
    let lt : n < length items = c.loop-value-test.true in
    let here : c.theirs-item.result ≡ get_or other.values.items n [] = c.theirs-item.is ∙ get_or_default items n c.theirs-item.result [] lt ∙ ap (λ (xs : List (List ℕ)). get_or xs n []) same in
    let low : n < 64 = (let size = ap length same in omega (arith, lt, size, c.requires)) in
    let was : Says Q n c.loop-value.marks = record { exact = c.loop-value.invariant.0; above = c.loop-value.invariant.1 } in
    let is : Says Q (n + 1) c.if-permits_on.marks =
    elim c.if-permits_on.branch [
      | then-permits_on w ↦ says_yes Q n c.loop-value.marks c.if-permits_on.marks low w.marks-is (subst (λ (xs : List ℕ). chosen_permits one.policy (one.router ∷ xs)) here (w.if-permits_on.ensures.0 refl)) was
      | else-permits_on w ↦ says_no Q n c.loop-value.marks c.if-permits_on.marks w.marks-is (λ q. never (w.if-permits_on.ensures.1 (subst (λ (xs : List ℕ). chosen_permits one.policy (one.router ∷ xs)) (sym here) q))) was
    ] in
    (is.exact, is.above)
