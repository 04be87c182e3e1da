use Rattle.std.proofs.Common.{◌+◌, ℕ, List, length, get_or, refl, sym, ap, subst}
use Rattle.std.specs.List.{All}
use Rattle.stable_paths.proofs.ListLemmas.{never}
use Rattle.stable_search.specs.Following.{AreMet}
use Rattle.stable_search.specs.Picks.{IsOnly, IsWithin}
use Rattle.stable_search.proofs.FollowLemmas.{Left, left_on, left_skip, left_single}
use Rattle.stable_search.proofs.following.answers.Goals as goal
use Rattle.stable_search.proofs.following.answers.Goals.{then-is_heard+in_ok-met+in-Some, else-is_heard}

pub loop-end-preserved : goal.loop-end-preserved
loop-end-preserved c =
    let ends = c.args.ends.now in
    let sets = c.args.sets.now in
    let place = c.args.place in
    let i = c.loop-end.end-index in
    let end = c.end-item.result in
    let old = c.loop-end.left.items in
    let within : IsWithin (length sets) end = subst (IsWithin (length sets)) (sym c.end-item.is) (c.requires.within i end c.loop-end-test.true) in
    elim c.if-is_heard.branch [
      | then-is_heard+in_ok-met+in-Some w ↦
          let met = w.in-Some.met.items in
          let are : AreMet end (get_or sets end.from 0) old met = subst (λ (xs : List ℕ). AreMet end (get_or sets end.from 0) xs met) w.as_slice.ensures.value (rw w.in-Some.is at w.in_ok-met.ensures) in
          subst (Left ends sets place (i + 1)) (ap (λ v. v.items) (sym w.left-is))
          (left_on ends sets place i end c.loop-end-test.true c.end-item.is old met within.from (w.if-is_heard.ensures.0 refl) are c.loop-end.invariant)
      | else-is_heard w ↦
          subst (Left ends sets place (i + 1)) (ap (λ v. v.items) (sym w.left-is))
          (left_skip ends sets place i end c.loop-end-test.true c.end-item.is old (λ heard. never (w.if-is_heard.ensures.1 heard)) c.loop-end.invariant)
    ]

pub returns : goal.returns
returns c = λ yes.
    let single : All (λ set. (value : ℕ) × IsOnly set value) c.loop-end.left.items =
    subst (All (λ set. (value : ℕ) × IsOnly set value)) c.as_slice-2.ensures.value (c.are_single.ensures yes) in
    left_single c.args.ends.now c.args.sets.now c.args.place c.loop-end.end-index c.loop-end.left.items c.loop-end-test.false single c.loop-end.invariant
