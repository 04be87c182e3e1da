use Rattle.router_core.proofs.Places.{named_here}
use Rattle.router_core.proofs.router.record.kept_paths.Goals as goal

pub path_at-requires : goal.path_at-requires
path_at-requires c = record { stands = named_here c.args.tables.now.net c.loop-prefix_at.prefix_at c.index-origins-prefix_at.result c.args.origins.now c.requires c.loop-prefix_at-test.true c.index-origins-prefix_at.is }
