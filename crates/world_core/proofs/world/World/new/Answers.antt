use Rattle.world_core.specs.Steps.{view_of}
use Rattle.world_core.proofs.Worlds.{comes_new, promises}
use Rattle.world_core.proofs.world.World.new.Goals as goal

pub invariant_of-result : goal.invariant_of-result
invariant_of-result c = (c.in_ok-state.ensures.whole, comes_new c.args.network.now (view_of c.in_ok-state.state) c.in_ok-state.ensures.opens)

pub returns-clause-promises : goal.returns-clause-promises
returns-clause-promises c =
    promises c.played_worlds_keep_their_promises.ensures (view_of c.in_ok-state.state) (comes_new c.args.network.now (view_of c.in_ok-state.state) c.in_ok-state.ensures.opens)
