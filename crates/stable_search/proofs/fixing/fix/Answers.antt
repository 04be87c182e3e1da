use Rattle.stable_search.proofs.FixLemmas.{one_fixed}
use Rattle.stable_search.proofs.fixing.fix.Goals as goal

pub returns : goal.returns
returns c = one_fixed c.args.instance.now c.args.choosers.now c.args.fixed.now.items c.args.place c.in_ok-path.path c.requires.fixed c.in_ok-path.ensures
