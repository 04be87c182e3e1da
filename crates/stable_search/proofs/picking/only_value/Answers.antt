use Rattle.std.proofs.Common.{rules}
use Rattle.stable_search.proofs.PickLemmas.{only_first}
use Rattle.stable_search.proofs.picking.only_value.Goals as goal

pub returns-then-set-value-eq0 : goal.returns-then-set-value-eq0
returns-then-set-value-eq0 c = only_first c.args.set (search rules) (search rules) c.if-set-value-eq0.true
