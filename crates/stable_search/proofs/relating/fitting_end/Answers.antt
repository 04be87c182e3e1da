use Rattle.std.proofs.Common.{◌≡◌, ◌<◌, ◌+◌, ◌∙◌, ℕ, List, [], length, get_or, ap, sym, subst, refl, arith}
use Rattle.std.proofs.lemmas.List.{get_or_default}
use Rattle.stable_paths.proofs.ListLemmas.{never}
use Rattle.stable_search.specs.Seats.{FitsEnd}
use Rattle.stable_search.proofs.RelateLemmas.{Says, says_yes, says_no}
use Rattle.stable_search.proofs.relating.fitting_end.Goals as goal
use Rattle.stable_search.proofs.relating.fitting_end.Goals.{then-fits_end, else-fits_end}

pub loop-value-preserved : goal.loop-value-preserved
loop-value-preserved c =
    let one = c.args.one.now in
    let other = c.args.other.now in
    let n = c.loop-value.value in
    let path = c.args.path.now in
    let Q : ℕ → Type 0 = λ b. FitsEnd other one.router (get_or other.values.items b []) path in
    let items = c.as_slice-own-items.result.now in
    let same : items ≡ other.values.items = c.as_slice-own-items.ensures.value in
    let lt : n < length items = c.loop-value-test.true in
    let here : c.own-item.result ≡ get_or other.values.items n [] = c.own-item.is ∙ get_or_default items n c.own-item.result [] lt ∙ ap (λ (xs : List (List ℕ)). get_or xs n []) same in
    let low : n < 64 = (let size = ap length same in omega (arith, lt, size, c.requires)) in
    let was : Says Q n c.loop-value.fits = record { exact = c.loop-value.invariant.0; above = c.loop-value.invariant.1 } in
    let is : Says Q (n + 1) c.if-fits_end.fits =
    elim c.if-fits_end.branch [
      | then-fits_end w ↦ says_yes Q n c.loop-value.fits c.if-fits_end.fits low w.fits-is (subst (λ (q : List ℕ). FitsEnd other one.router q path) here (w.if-fits_end.ensures.0 refl)) was
      | else-fits_end w ↦ says_no Q n c.loop-value.fits c.if-fits_end.fits w.fits-is (λ q. never (w.if-fits_end.ensures.1 (subst (λ (xs : List ℕ). FitsEnd other one.router xs path) (sym here) q))) was
    ] in
    (is.exact, is.above)
