-- the events before this one were played, and each that was done has its flag
use Rattle.world_core.proofs.Flagging.{Reached}
use Rattle.world_core.proofs.flags.play_on.Given as goal

abbrev pub invariant-loop-at : goal.invariant-loop-at
invariant-loop-at l = Reached l.events l.number l.fn.world l.fn.inside.items l.at l.world l.inside.items
