-- what is out, before what the routers that are left give, is what all give
use Rattle.std.proofs.Common.{◌≡◌, ◌++◌, ◌-◌, drop, length}
use Rattle.std.specs.List.{flat_map}
use Rattle.ranked_policy.specs.Plans.{numbers}
use Rattle.wheel_search.specs.Lists.{onward, walks}
use Rattle.wheel_search.proofs.listing.longer.Given as goal

abbrev pub invariant-loop-place : goal.invariant-loop-place
invariant-loop-place l =
    l.out.items ++ flat_map (λ v. onward l.instance.net l.instance.prefix l.router (walks l.instance.net l.instance.prefix (length l.levels - 1) v)) (drop l.place (numbers l.instance.net.routers))
    ≡ flat_map (λ v. onward l.instance.net l.instance.prefix l.router (walks l.instance.net l.instance.prefix (length l.levels - 1) v)) (numbers l.instance.net.routers)
