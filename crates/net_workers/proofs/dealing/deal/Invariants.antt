-- each worker has pairs, over which nothing passed, for the links behind those that are left
use Rattle.std.proofs.Common.{◌≡◌, ◌≤◌, length, drop}
use Rattle.std.specs.List.{AllByRecursion}
use Rattle.net_workers.specs.Lanes.{AreNew}
use Rattle.net_workers.specs.Dealt.{AreDealt}
use Rattle.net_workers.proofs.dealing.deal.Given as goal

abbrev pub decreases-links : goal.decreases-links
decreases-links l = l.left

abbrev pub invariant-links : goal.invariant-links
invariant-links l = record {
  left : l.left ≤ length l.network.links;
  many : length l.ends.items ≡ length l.network.routers;
  new : AllByRecursion AreNew l.ends.items;
  dealt : AreDealt l.network (drop l.left l.network.links) l.ends.items;
}
