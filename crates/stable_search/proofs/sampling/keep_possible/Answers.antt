use Rattle.std.proofs.Common.{◌≡◌, ◌<◌, ◌∙◌, ℕ, List, length, get_or, sym, subst}
use Rattle.std.specs.Prelude.{◌↔◌}
use Rattle.std.specs.List.{Contains}
use Rattle.std.proofs.lemmas.Result.{err_from_is_err_and}
use Rattle.stable_search.proofs.PartLemmas.{refused_before}
use Rattle.stable_search.specs.Picks.{AllSome, Narrows}
use Rattle.stable_search.proofs.NarrowLemmas.{narrows_then}
use Rattle.stable_search.proofs.sampling.keep_possible.Goals as goal
use Rattle.stable_search.proofs.sampling.keep_possible.Goals.{then-len-gt1+in_ok-keep_seen_values, else-len-gt1}

pub loop-label-preserved : goal.loop-label-preserved
loop-label-preserved c =
    let ways = c.args.ways.now in
    let old = c.args.sets.now in
    let inv = c.loop-label.invariant in
    elim c.if-len-gt1.branch [
      | then-len-gt1+in_ok-keep_seen_values w ↦
          let new = w.keep_seen_values.new.sets in
          subst (λ (sets : List ℕ). (length sets ≡ length old) × Narrows ways old sets × (AllSome old → AllSome sets)) (sym w.sets-is)
          (w.keep_seen_values.auto.sets ∙ inv.0, narrows_then ways old c.loop-label.sets new inv.1 w.in_ok-keep_seen_values.ensures.narrows, (λ all. w.in_ok-keep_seen_values.ensures.some (inv.2 all)))
      | else-len-gt1 w ↦
          subst (λ (sets : List ℕ). (length sets ≡ length old) × Narrows ways old sets × (AllSome old → AllSome sets)) (sym w.sets-is) inv
    ]

pub keep_seen_values-requires-clause-places : goal.keep_seen_values-requires-clause-places
keep_seen_values-requires-clause-places c =
    let labels = c.as_slice-labels.result.now in
    subst (λ (ps : List ℕ). (place : ℕ) → (Contains ps place ↔ (place < length labels) × (get_or labels place 0 ≡ c.loop-label.label))) (sym c.as_slice.ensures.value) c.in_ok-places.ensures.exact

pub returns-in_err-keep_seen_values-clause-refused : goal.returns-in_err-keep_seen_values-clause-refused
returns-in_err-keep_seen_values-clause-refused c =
    let p = err_from_is_err_and c.from_residual-in_err-keep_seen_values.result c.from_residual-in_err-keep_seen_values.ensures.1 in
    rw (p.1, p.2)
    (refused_before c.args.seats.now c.args.ways.now c.args.sets.now c.loop-label.sets c.args.limits.now.most c.in_err-keep_seen_values.field-0.0 c.loop-label.invariant.1 c.in_err-keep_seen_values.ensures.refused)
