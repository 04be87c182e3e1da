use Rattle.world_core.proofs.Worlds.{opened}
use Rattle.world_core.proofs.opening.opening.Goals as goal

pub returns-clause-opens : goal.returns-clause-opens
returns-clause-opens c =
    opened c.args.network.now c.in_ok-new_routers.field-0.items c.in_ok-new_inboxes.field-0.items c.in_ok-new.field-0 c.new-2.result.items c.new-2.ensures.items c.in_ok-new_routers.ensures.new c.in_ok-new_inboxes.ensures.empty c.in_ok-new.ensures.nothing
