-- the routers passed have their paths
use Rattle.std.proofs.Common.{◌≡◌, take, map, length}
use Rattle.std.specs.List.{All}
use Rattle.wheel_search.specs.Rows.{IsRow, IsWhole}
use Rattle.wheel_search.proofs.row.rows.Given as goal

abbrev pub invariant-loop-place : goal.invariant-loop-place
invariant-loop-place l =
    (map (λ r. r.seat.router) l.rows.items ≡ map (λ s. s.router) (take l.place l.seats)) × All (IsRow l.instance) l.rows.items
    × All (IsWhole l.instance (length l.levels)) l.rows.items
