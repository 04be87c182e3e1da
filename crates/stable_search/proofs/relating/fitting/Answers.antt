use Rattle.std.proofs.Common.{◌≡◌, ◌<◌, ◌+◌, ◌∙◌, ℕ, List, [], length, get_or, ap, sym, subst, refl, arith}
use Rattle.std.proofs.lemmas.List.{get_or_default}
use Rattle.stable_paths.proofs.ListLemmas.{never}
use Rattle.stable_search.specs.Seats.{FitsBoth}
use Rattle.stable_search.proofs.RelateLemmas.{Says, says_yes, says_no}
use Rattle.stable_search.proofs.relating.fitting.Goals as goal
use Rattle.stable_search.proofs.relating.fitting.Goals.{then-fits_both, else-fits_both}

pub loop-value-preserved : goal.loop-value-preserved
loop-value-preserved c =
    let one = c.args.one.now in
    let other = c.args.other.now in
    let n = c.loop-value.value in
    let Q : ℕ → Type 0 = λ b. FitsBoth one other c.args.path.now (get_or other.values.items b []) in
    let items = c.as_slice-theirs-items.result.now in
    let same : items ≡ other.values.items = c.as_slice-theirs-items.ensures.value in
    let lt : n < length items = c.loop-value-test.true in
    let here : c.theirs-item.result ≡ get_or other.values.items n [] = c.theirs-item.is ∙ get_or_default items n c.theirs-item.result [] lt ∙ ap (λ (xs : List (List ℕ)). get_or xs n []) same in
    let low : n < 64 = (let size = ap length same in omega (arith, lt, size, c.requires)) in
    let was : Says Q n c.loop-value.fits = record { exact = c.loop-value.invariant.0; above = c.loop-value.invariant.1 } in
    let is : Says Q (n + 1) c.if-fits_both.fits =
    elim c.if-fits_both.branch [
      | then-fits_both w ↦ says_yes Q n c.loop-value.fits c.if-fits_both.fits low w.fits-is (subst (FitsBoth one other c.args.path.now) here (w.if-fits_both.ensures.0 refl)) was
      | else-fits_both w ↦ says_no Q n c.loop-value.fits c.if-fits_both.fits w.fits-is (λ q. never (w.if-fits_both.ensures.1 (subst (FitsBoth one other c.args.path.now) (sym here) q))) was
    ] in
    (is.exact, is.above)
