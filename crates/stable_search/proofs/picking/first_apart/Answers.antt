use Rattle.std.proofs.Common.{◌+◌, ◌%◌}
use Rattle.stable_search.proofs.PickLemmas.{falls}
use Rattle.stable_search.proofs.picking.first_apart.Goals as goal

pub returns : goal.returns
returns c = falls c.args.set ((c.args.set + 18446744073709551615) % 18446744073709551616)
