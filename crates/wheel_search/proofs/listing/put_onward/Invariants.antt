-- what is out, before what the paths that are left give, is what all give
use Rattle.std.proofs.Common.{◌≡◌, ◌++◌, drop}
use Rattle.wheel_search.specs.Lists.{onward}
use Rattle.wheel_search.proofs.listing.put_onward.Given as goal

abbrev pub invariant-loop-rest : goal.invariant-loop-rest
invariant-loop-rest l =
    l.out.items ++ onward l.instance.net l.instance.prefix l.router (drop l.rest-index l.rests)
    ≡ l.fn.out.items ++ onward l.instance.net l.instance.prefix l.router l.rests
