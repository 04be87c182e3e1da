use Rattle.std.proofs.Common.{arith}
use Rattle.world_core.proofs.Backs.{linked_at}
use Rattle.world_core.proofs.opening.new_pipes.Goals as goal

pub new_pipe-requires : goal.new_pipe-requires
new_pipe-requires c =
    let inside = c.loop-link-test.true in
    linked_at c.args.network.now c.args.number c.links_of-link-items.result.now c.loop-link.link-index _ c.links_of-link-items.ensures.peers (omega (arith, inside))
