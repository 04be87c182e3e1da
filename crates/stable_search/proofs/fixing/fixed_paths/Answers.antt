use Rattle.stable_search.proofs.FixLemmas.{none_fixed}
use Rattle.stable_search.proofs.fixing.fixed_paths.Goals as goal

pub loop-round-init : goal.loop-round-init
loop-round-init c = none_fixed c.args.instance.now c.args.choosers.now c.in_ok-fixed.fixed.items c.in_ok-fixed.ensures.0 c.in_ok-fixed.ensures.1
