use Rattle.router_core.proofs.Places.{named_here}
use Rattle.router_core.proofs.router.record.originated.Goals as goal

pub is_own-requires : goal.is_own-requires
is_own-requires c = named_here c.args.tables.now.net c.loop-prefix_at.prefix_at c.index-origins-prefix_at.result c.args.origins.now c.requires c.loop-prefix_at-test.true c.index-origins-prefix_at.is
