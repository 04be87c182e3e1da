use Rattle.stable_search.proofs.SettleLemmas.{rivals_left}
use Rattle.stable_search.proofs.following.rivals_of.Goals as goal

pub returns : goal.returns
returns c = rivals_left c.args.set c.args.settled c.args.value c.requires
