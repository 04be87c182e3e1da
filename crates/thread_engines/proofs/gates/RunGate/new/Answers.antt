use Rattle.std.proofs.Common.{ap}
use Rattle.thread_engines.proofs.GateLemmas.{are_chores}
use Rattle.thread_engines.proofs.LeftOutLemmas.{taken_at_first}
use Rattle.thread_engines.proofs.gates.RunGate.new.Goals as goal

pub returns-clause-script : goal.returns-clause-script
returns-clause-script c = ap (λ n. record { opening = c.args.opening.items; spacing = c.args.spacing; snapshots = n }) (taken_at_first c.args.until c.args.snapshots)

pub returns-clause-chores : goal.returns-clause-chores
returns-clause-chores c = are_chores _ c.requires
