-- the routers passed have policies
use Rattle.std.proofs.Common.{◌≡◌, take, map}
use Rattle.std.specs.List.{All}
use Rattle.ranked_policy.specs.Plans.{numbers}
use Rattle.stable_search.specs.Choosers.{IsChooser}
use Rattle.stable_search.proofs.chooser.choosers.Given as goal

abbrev pub invariant-loop-router : goal.invariant-loop-router
invariant-loop-router l = (map (λ it. it.router) l.choosers.items ≡ numbers (take l.router-index l.router-items)) × All (IsChooser l.instance) l.choosers.items
