-- the rims of the rows passed are added
use Rattle.std.proofs.Common.{◌++◌, ℕ, List, take}
use Rattle.wheel_search.specs.Rims.{AreRimsOf}
use Rattle.wheel_search.proofs.rims.add_rims.Given as goal

abbrev pub invariant-loop-row : goal.invariant-loop-row
invariant-loop-row l =
    (before : List ℕ) → AreRimsOf l.rows l.waits l.gone before l.fn.rims.items → AreRimsOf l.rows l.waits l.gone (before ++ take l.row-index l.circle) l.rims.items
