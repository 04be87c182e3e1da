use Rattle.std.proofs.Common.{subst}
use Rattle.world_core.specs.Views.{WorldView, KeepsPromises}
use Rattle.world_core.specs.Steps.{view_of}
use Rattle.world_core.proofs.Worlds.{promises}
use Rattle.world_core.proofs.world.World.obey_watched.Goals as goal

pub returns-clause-promises : goal.returns-clause-promises
returns-clause-promises g c =
    subst (λ (x : WorldView). KeepsPromises x) c.self.view_is (promises c.played_worlds_keep_their_promises.ensures (view_of c.self.inside.state) c.self.invariant.1)
