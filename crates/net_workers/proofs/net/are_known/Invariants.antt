-- those that were read are by routers of the network
use Rattle.std.proofs.Common.{take}
use Rattle.std.specs.List.{AllByRecursion}
use Rattle.ranked_policy.specs.Plans.{IsRouter}
use Rattle.snap_marker.specs.Parts.{router_of}
use Rattle.net_workers.proofs.net.are_known.Given as goal

abbrev pub invariant-loop-made : goal.invariant-loop-made
invariant-loop-made l = AllByRecursion (λ o. IsRouter l.network.routers (router_of o.offer)) (take l.made-index l.offers)
