use Rattle.std.proofs.Common.{◌≡◌, ℕ, subst, arith}
use Rattle.ranked_policy.specs.declared.limits.TheConstants.{LONGEST_PATH}
use Rattle.stable_search.specs.Fixing.{AreFar}
use Rattle.stable_search.proofs.FixLemmas.{far_start, far_done}
use Rattle.stable_search.proofs.distance.distances.Goals as goal

pub loop-distance-init : goal.loop-distance-init
loop-distance-init c = far_start c.args.instance.now c.args.choosers.now c.in_ok-distances.distances.items c.in_ok-distances.ensures.0 c.in_ok-distances.ensures.1

pub returns : goal.returns
returns c =
    let all : c.loop-distance.distance ≡ LONGEST_PATH = omega (arith, c.loop-distance-test.false, c.loop-distance.auto.distance-end) in
    far_done c.args.instance.now c.args.choosers.now c.loop-distance.distances.items
    (subst (λ (n : ℕ). AreFar c.args.instance.now c.args.choosers.now n c.loop-distance.distances.items) all c.loop-distance.invariant)
