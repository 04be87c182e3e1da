-- the number of the parts passed
use Rattle.std.proofs.Common.{take}
use Rattle.stable_search.specs.Every.{number_of, IsCount}
use Rattle.stable_search.proofs.every.Every.count.Given as goal

abbrev pub invariant-loop-part : goal.invariant-loop-part
invariant-loop-part l = IsCount (number_of (take l.part-index l.self.parts)) l.count
