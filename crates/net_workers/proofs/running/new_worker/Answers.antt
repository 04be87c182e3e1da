use Rattle.std.proofs.Common.{◌∙◌, ◌≡◌, ℕ, List, ap, sym, subst, map, Option, Some}
use Rattle.std.specs.Prelude.{slice_get}
use Rattle.router_model.specs.Settings.{peers}
use Rattle.ranked_policy.specs.declared.network.Link.{Link}
use Rattle.net_workers.specs.declared.worker_pipes.PipePair.{PipePair}
use Rattle.net_workers.specs.Lanes.{is_to, place_among}
use Rattle.net_workers.proofs.Lanes.{order_stands}
use Rattle.net_workers.proofs.running.new_worker.Goals as goal

pub returns-clause-fresh : goal.returns-clause-fresh
returns-clause-fresh g c =
    let net = c.in_ok-router.ensures.new.0 in
    let same = ap (λ n. peers n c.in_ok-router.router.number) net ∙ ap (peers c.args.network.now) c.in_ok-router.ensures.number in
    record {
      net = net;
      router = c.in_ok-router.ensures.new.1;
      pairs = c.requires.pairs;
      pipes = λ place v at.
          order_stands c.args.pairs.items c.in_ok-order.order.items (peers c.args.network.now c.args.number)
          (c.in_ok-order.ensures ∙ ap (λ (ls : List PipePair). map (λ v. place_among (is_to v) ls) (map (λ (link : Link). link.other) c.links_of.result.now)) c.as_slice.ensures.value
          ∙ ap (map (λ v. place_among (is_to v) c.args.pairs.items)) c.links_of.ensures.peers)
          place v
          (subst (λ ns. slice_get ns place ≡ Some v) same at);
      made = c.new.ensures.items;
      chores = c.new-2.ensures.chores;
      events = c.new-2.ensures.events;
      gate = c.requires.gate;
    }
