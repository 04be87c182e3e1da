-- of the paths passed, those that may stand are there
use Rattle.std.proofs.Common.{take}
use Rattle.stable_search.proofs.SeatLemmas.{Lists}
use Rattle.stable_search.proofs.seat.listed.Given as goal

abbrev pub invariant-loop-path : goal.invariant-loop-path
invariant-loop-path l = Lists l.network.links l.policy l.router (take l.path-index l.paths) l.values.items
