-- what was read, and what is left to read, is all; what is left is kept
use Rattle.std.proofs.Common.{◌≡◌, ◌++◌, drop}
use Rattle.router_side.specs.Histories.{told_stored, AreStored}
use Rattle.router_side.proofs.block.Block.put_updates.Given as goal

abbrev pub invariant-loop-place : goal.invariant-loop-place
invariant-loop-place l = record {
  kept : AreStored (drop l.place-index l.place-items) l.rest;
  all : l.all.items ++ told_stored l.fn.width (drop l.place-index l.place-items) l.rest ≡ l.fn.all.items ++ told_stored l.fn.width l.fn.self.places.items l.fn.self.octets.items;
}
