use Rattle.std.proofs.Common.{◌+◌, ap}
use Rattle.world_core.proofs.Counting.{added}
use Rattle.world_core.proofs.counts.Counts.add.Goals as goal

pub returns : goal.returns
returns c =
    added c.args.self.now (record { counts = c.insert.new.self }) c.args.from c.args.to (c.at-count.result + 1) (ap (λ n. n + 1) c.at-count.ensures) c.in_ok-insert.ensures.updates.0
