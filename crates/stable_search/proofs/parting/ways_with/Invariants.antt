-- the ways passed between the label's places
use Rattle.std.proofs.Common.{take, length}
use Rattle.std.specs.List.{All}
use Rattle.stable_search.specs.Picks.{AreWithin}
use Rattle.stable_search.specs.Parting.{InPart, AreCopies}
use Rattle.stable_search.proofs.parting.ways_with.Given as goal

abbrev pub invariant-loop-way : goal.invariant-loop-way
invariant-loop-way l =
    AreWithin (length l.labels) l.part.items × AreCopies l.labels l.label (take l.way-index l.ways) l.part.items
    × All (InPart l.labels l.label) l.part.items
