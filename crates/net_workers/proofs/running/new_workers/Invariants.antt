-- the workers that were made, and the routers that are left, are all; and there are pairs and gates for those
use Rattle.std.proofs.Common.{◌≡◌, ◌+◌, ◌++◌, [], map, length, drop}
use Rattle.std.specs.List.{AllByRecursion}
use Rattle.ranked_policy.specs.Plans.{numbers}
use Rattle.net_workers.specs.Lanes.{AreNew}
use Rattle.net_workers.specs.Dealt.{AreDealt}
use Rattle.net_workers.specs.Ran.{IsFresh, lines_of}
use Rattle.net_workers.proofs.running.new_workers.Given as goal

abbrev pub invariant-loop-router : goal.invariant-loop-router
invariant-loop-router g l = record {
  pairs : length l.ends.rest.items + l.router-index ≡ length l.router-items;
  gates : length l.gates.rest.items + l.router-index ≡ length l.router-items;
  new : AllByRecursion AreNew l.ends.rest.items;
  given : AllByRecursion (λ gate. g.G.Gate.given gate ≡ []) l.gates.rest.items;
  numbers : map (λ e. e.worker.router.number) l.workers.items ++ map (λ r. r.asn) (drop l.router-index l.router-items) ≡ numbers l.router-items;
  handed : map (λ e. e.worker.gate) l.workers.items ++ l.gates.rest.items ≡ l.fn.gates.items;
  dealt : AreDealt l.fn.network l.fn.network.links (map lines_of l.workers.items ++ l.ends.rest.items);
  fresh : AllByRecursion (λ e. IsFresh g.G.Gate.given l.fn.network e.worker) l.workers.items;
}
