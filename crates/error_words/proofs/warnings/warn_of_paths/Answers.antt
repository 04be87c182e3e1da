use Rattle.std.proofs.Common.{◌≡◌, ◌<◌, ◌∙◌, ℕ, List, length, get_or, ap, subst}
use Rattle.error_words.specs.Warnings.{path_warnings, all_more}
use Rattle.error_words.proofs.WarningLemmas.{more_on}
use Rattle.error_words.proofs.warnings.warn_of_paths.Goals as goal

pub loop-path-preserved : goal.loop-path-preserved
loop-path-preserved c =
    let rule = c.args.rule.now in
    let f : List ℕ → List (List ℕ) = path_warnings c.args.network.now c.args.asn rule.prefix in
    let i = c.loop-path.path-index in
    let x = c.path-item.result in
    let same = c.as_slice-path-items.ensures in
    let lt = subst (λ (xs : List (List ℕ)). i < length xs) same c.loop-path-test.true in
    let at = subst (λ (xs : List (List ℕ)). x ≡ get_or xs i x) same c.path-item.is in
    more_on f rule.paths i x c.loop-path.out c.warn_of_path.new.out _ lt at
    (c.in_ok-warn_of_path.ensures ∙ ap (λ (p : List ℕ). all_more (f p) c.loop-path.out) c.as_slice.ensures) c.loop-path.invariant
