-- the ways passed fit
use Rattle.std.proofs.Common.{take}
use Rattle.std.specs.List.{All}
use Rattle.stable_search.specs.Picks.{FitsWay}
use Rattle.stable_search.proofs.picking.fits_all.Given as goal

abbrev pub invariant-loop-way : goal.invariant-loop-way
invariant-loop-way l = All (FitsWay l.pick) (take l.way-index l.ways)
