use Rattle.std.proofs.Common.{◌≡◌, ◌*◌, ◌%◌, ◌^◌, ◌∙◌, List, ℕ, length, get_or, set, sym, subst}
use Rattle.std.specs.Int.RustNames.{bit_or}
use Rattle.std.proofs.lemmas.List.{length-set}
use Rattle.stable_search.specs.Picks.{MarksMore}
use Rattle.stable_search.proofs.SampleLemmas.{marks_on, marks_then}
use Rattle.stable_search.proofs.sampling.mark_pick.Goals as goal
use Rattle.stable_search.proofs.sampling.mark_pick.Goals.{then-place-seen+then-value-lt64, else-place-seen}

pub loop-place-preserved : goal.loop-place-preserved
loop-place-preserved c =
    let old = c.args.seen.now in
    let now = c.loop-place.seen in
    let place = c.loop-place.place in
    elim c.if-place-seen.branch [
      | then-place-seen+then-value-lt64 w ↦
          let bits : ℕ = 1 * 2 ^ (get_or c.args.pick.now place 0) % 18446744073709551616 in
          let mark : ℕ = bit_or (get_or now place 0) bits in
          subst (λ (xs : List ℕ). (length xs ≡ length old) × MarksMore old xs) (sym w.seen-is)
          (length-set now place mark ∙ c.loop-place.invariant.0, marks_then old now (set now place mark) c.loop-place.invariant.1 (marks_on now place bits w.if-place-seen.true))
      | else-place-seen w ↦ subst (λ (xs : List ℕ). (length xs ≡ length old) × MarksMore old xs) (sym w.seen-is) c.loop-place.invariant
    ]
