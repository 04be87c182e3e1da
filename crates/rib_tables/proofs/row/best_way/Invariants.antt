-- the best over the peers passed
use Rattle.std.proofs.Common.{◌≡◌}
use Rattle.prefix_lanes.specs.Bits.{PrefixView}
use Rattle.ranked_policy.specs.Policies.{Table, IsTable}
use Rattle.ranked_policy.specs.Choices.{IsFirstOrNone, Speaks, path_by}
use Rattle.rib_tables.specs.Rows.{RowHears}
use Rattle.rib_tables.proofs.row.best_way.Given as goal

abbrev pub invariant-loop-peer_at : goal.invariant-loop-peer_at
invariant-loop-peer_at l = (table : Table) (q : PrefixView) → IsTable table → table.router ≡ l.router → Speaks l.row.policy table q → IsFirstOrNone (RowHears l.peers l.heard l.peer_at) table q (path_by l.router l.best)
