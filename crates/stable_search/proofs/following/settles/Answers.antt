use Rattle.std.proofs.Common.{◌≡◌, ◌<◌, ℕ, List, length, get_or, subst, sym, ap}
use Rattle.stable_search.specs.Following.{Settles}
use Rattle.stable_search.specs.Picks.{Has}
use Rattle.stable_search.proofs.SettleLemmas.{all_settled}
use Rattle.stable_search.proofs.following.settles.Goals as goal
use Rattle.stable_search.proofs.following.settles.Goals.{else-loop-round-test, then-loop-round-test+then-not-settle_each}

pub returns : goal.returns
returns c = λ yes.
    let ends = c.args.ends.now in
    let sets = c.args.sets.now in
    let levels = c.args.levels.now in
    let level = c.args.level in
    let settled = c.loop-round-test.settled.items in
    let is : Settles ends sets levels level settled = elim c.loop-round-test.branch [
      | else-loop-round-test w ↦ subst (Settles ends sets levels level) (ap (λ v. v.items) (sym w.settled-is)) c.loop-round.invariant
      | then-loop-round-test+then-not-settle_each w ↦ subst (Settles ends sets levels level) (ap (λ v. v.items) (sym w.settled-is)) w.settle_each.ensures
    ] in
    let all : (place value : ℕ) → place < length sets → get_or levels place 0 ≡ level → Has (get_or sets place 0) value → Has (get_or settled place 0) value =
    subst (λ (xs : List ℕ). (place value : ℕ) → place < length sets → get_or levels place 0 ≡ level → Has (get_or sets place 0) value → Has (get_or xs place 0) value) c.as_slice.ensures.value (c.are_settled.ensures yes) in
    all_settled ends sets levels c.requires.size level settled is all
