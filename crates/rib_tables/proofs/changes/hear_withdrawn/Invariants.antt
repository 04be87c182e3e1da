-- the prefixes passed are withdrawn
use Rattle.std.proofs.Common.{◌≡◌, take, map}
use Rattle.rib_tables.specs.Words.{nothing}
use Rattle.rib_tables.specs.Rows.{StaysDecided, hearing_all}
use Rattle.rib_tables.proofs.changes.hear_withdrawn.Given as goal

abbrev pub invariant-loop-prefix : goal.invariant-loop-prefix
invariant-loop-prefix l = record {
  rows : l.rows.items ≡ map (hearing_all (take l.prefix-index l.prefix-items) l.by.peer nothing) l.fn.rows.items;
  dirty : StaysDecided l.by.router l.fn.rows.items l.rows.items l.fn.dirty l.dirty;
}
