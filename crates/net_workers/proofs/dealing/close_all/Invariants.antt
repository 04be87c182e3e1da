-- the links that are left are dealt; what the pairs had is what the ways have, or the pairs that are left
use Rattle.std.proofs.Common.{◌≡◌, ◌++◌, length, map, drop}
use Rattle.std.specs.List.{AllByRecursion, flat_map}
use Rattle.ranked_policy.specs.Plans.{numbers}
use Rattle.net_workers.specs.Dealt.{AreDealt, lanes_by, lanes_in}
use Rattle.net_workers.specs.Ways.{IsWay, both_ways}
use Rattle.net_workers.proofs.Dealt.{HaveSoFar}
use Rattle.net_workers.proofs.dealing.close_all.Given as goal

abbrev pub invariant-loop-link : goal.invariant-loop-link
invariant-loop-link g l = record {
  many : length l.ends.items ≡ length l.fn.network.routers;
  dealt : AreDealt l.fn.network (drop l.link-index l.link-items) l.ends.items;
  passed : HaveSoFar (lanes_by (numbers l.fn.network.routers) (lanes_in l.fn.ends.items)) (lanes_by (numbers l.fn.network.routers) (lanes_in l.ends.items)) l.ways.items;
  between : map (λ w. (w.from, w.to)) l.ways.items ++ flat_map both_ways (drop l.link-index l.link-items) ≡ flat_map both_ways l.link-items;
  each : AllByRecursion (IsWay l.fn.network) l.ways.items;
}
