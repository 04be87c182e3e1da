use Rattle.std.proofs.Common.{◌<◌, ◌-◌, ◌∙◌, ℕ, List, length, get_or, subst, arith}
use Rattle.stable_search.specs.Following.{FollowTogether, AreUnmoved, IsRaised}
use Rattle.stable_search.proofs.FollowLemmas.{above_on, levels_on}
use Rattle.stable_search.proofs.following.levels_of.Goals as goal

pub loop-step-preserved : goal.loop-step-preserved
loop-step-preserved c =
    let ends = c.args.ends.now in
    let sets = c.args.sets.now in
    let levels = c.loop-step.levels.items in
    let step = c.loop-step.step in
    let next = c.in-Some.next.items in
    let level : ℕ = length sets - step in
    let inv = c.loop-step.invariant in
    let found : IsRaised levels level next × AreUnmoved ends sets next × FollowTogether ends sets next level =
    subst (λ (xs : List ℕ). IsRaised xs level next × AreUnmoved ends sets next × FollowTogether ends sets next level) c.as_slice-in-loop-step.ensures.value (rw c.in-Some.is at c.in_ok-next.ensures.next) in
    let above : (i : ℕ) → i < length levels → 0 < get_or levels i 0 → level < get_or levels i 0 = λ i ilt iup. (let x = inv.1 i ilt iup in omega (arith, x)) in (
      levels_on ends sets levels next level found.0 (omega arith) above inv.0 found.1 found.2,
      above_on ends sets levels next level found.0 (length sets) step (omega (arith, c.loop-step-test.true)) inv.1,
      c.next_levels.ensures.stuck ∙ inv.2,
    )
