use Rattle.world_core.specs.Views.{Reaches}
use Rattle.world_core.proofs.player.play.Given as goal

abbrev pub invariant-loop-at : goal.invariant-loop-at
invariant-loop-at l = Reaches l.fn.network l.events l.at l.world
