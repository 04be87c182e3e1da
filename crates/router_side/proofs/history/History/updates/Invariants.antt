-- what was read, and what is left to read, is what the full blocks tell
use Rattle.std.proofs.Common.{◌≡◌, ◌++◌, drop}
use Rattle.router_side.specs.Histories.{told_by_blocks, AreAllStored}
use Rattle.router_side.proofs.history.History.updates.Given as goal

abbrev pub invariant-loop-block : goal.invariant-loop-block
invariant-loop-block l = record {
  kept : AreAllStored (drop l.block-index l.block-items);
  all : l.all.items ++ told_by_blocks l.fn.width (drop l.block-index l.block-items) ≡ told_by_blocks l.fn.width l.block-items;
}
