-- the routers passed
use Rattle.std.proofs.Common.{◌≡◌, take, map}
use Rattle.std.specs.List.{All}
use Rattle.ranked_policy.specs.Plans.{numbers}
use Rattle.wheel_search.specs.Rows.{IsSeat}
use Rattle.wheel_search.proofs.row.seats.Given as goal

abbrev pub invariant-loop-router : goal.invariant-loop-router
invariant-loop-router l =
    (map (λ s. s.router) l.seats.items ≡ numbers (take l.router-index l.router-items)) × All (IsSeat l.instance) l.seats.items
