use Rattle.std.proofs.Common.{◌≡◌, ◌+◌, ◌<◌, arith, length, List, take, drop, ap, sym, subst, ◌∙◌, refl, Ok, Err, Some}
use Rattle.std.specs.List.{flat_map}
use Rattle.std.specs.Prelude.{slice_get}
use Rattle.std.proofs.lemmas.Result.{err_from_is_err_and}
use Rattle.std.proofs.lemmas.List.Folds.{flat_map-map}
use Rattle.ranked_policy.specs.declared.network.NetRouter.{NetRouter}
use Rattle.ranked_policy.specs.Plans.{Plan, numbers}
use Rattle.world_core.specs.declared.schedule.Event.{Event}
use Rattle.world_core.specs.Orders.{turn, round}
use Rattle.world_core.proofs.Awake.{read_here}
use Rattle.world_core.proofs.Orders.{all_done, one_done, one_among}
use Rattle.world_core.specs.Watching.{WatchesEvents}
use Rattle.world_core.proofs.Watched.{none_watched, watched_next, watched_until}
use Rattle.world_core.proofs.world.World.round.Goals as goal

pub loop-router_at-init : goal.loop-router_at-init
loop-router_at-init g c = record { net = refl; done = none_watched g.W.Watch.says g.W.Watch.may_want c.args.self.now (g.W.Watch.said c.args.watcher.now); resting = c.requires }

pub visit-requires-clause-router : goal.visit-requires-clause-router
visit-requires-clause-router g c =
    let l = c.loop-router_at in
    let items = c.routers-router-items.result.now in
    let inside : l.router_at < length items = omega (arith, c.loop-router_at-test.true) in
    let all = c.routers-router-items.ensures.value ∙ ap (λ (n : Plan). n.routers) (c.network.ensures ∙ sym l.invariant.net) in
    subst (λ (rs : List NetRouter). slice_get (numbers rs) l.router_at ≡ Some c.router-item.result.asn) all (read_here (λ r. r.asn) items l.router_at c.router-item.result inside c.router-item.is)

pub returns-in_err-visit-clause-watches : goal.returns-in_err-visit-clause-watches
returns-in_err-visit-clause-watches g c =
    let p = err_from_is_err_and c.from_residual.result c.from_residual.ensures.1 in
    let x = c.args.self.now in
    let l = c.loop-router_at in
    let z = c.visit.new.self in
    let a = c.router-item.result in
    let items = c.routers-router-items.result.now in
    let f : NetRouter → List Event = (λ r. turn x.net r.asn) in
    let inside : l.router_at < length items = omega (arith, c.loop-router_at-test.true) in
    let all = c.routers-router-items.ensures.value ∙ ap (λ (n : Plan). n.routers) c.network.ensures in
    let whole : flat_map f items ≡ round x.net = sym (flat_map-map (turn x.net) (λ r. r.asn) items) ∙ ap (λ (rs : List NetRouter). flat_map (turn x.net) (numbers rs)) all in
    let why = c.in_err-visit.field-0.0 in
    let new = (g.W.Watch.said c.visit.new.watcher) in
    rw (p.1, p.2)
    (watched_until g.W.Watch.says g.W.Watch.may_want x l.self z (flat_map f (take l.router_at items)) (turn x.net a.asn) (flat_map f (drop (l.router_at + 1) items)) (round x.net) (g.W.Watch.said c.args.watcher.now) (g.W.Watch.said l.watcher) new why (one_among f items l.router_at a inside c.router-item.is ∙ whole)
    l.invariant.net l.invariant.done (subst (λ n. WatchesEvents g.W.Watch.says g.W.Watch.may_want (Err why) l.self (turn n a.asn) (g.W.Watch.said l.watcher) z new) l.invariant.net c.in_err-visit.ensures.watches))

pub loop-router_at-preserved : goal.loop-router_at-preserved
loop-router_at-preserved g c =
    let x = c.args.self.now in
    let l = c.loop-router_at in
    let z = c.visit.new.self in
    let a = c.router-item.result in
    let items = c.routers-router-items.result.now in
    let f : NetRouter → List Event = (λ r. turn x.net r.asn) in
    let inside : l.router_at < length items = omega (arith, c.loop-router_at-test.true) in
    let new = (g.W.Watch.said c.visit.new.watcher) in
    record {
      net = c.visit.ensures.same ∙ l.invariant.net;
      done = watched_next g.W.Watch.says g.W.Watch.may_want x l.self z (flat_map f (take l.router_at items)) (turn x.net a.asn) (flat_map f (take (l.router_at + 1) items)) (g.W.Watch.said c.args.watcher.now) (g.W.Watch.said l.watcher) new (one_done f items l.router_at a inside c.router-item.is) l.invariant.net
          l.invariant.done (subst (λ n. WatchesEvents g.W.Watch.says g.W.Watch.may_want (Ok tt) l.self (turn n a.asn) (g.W.Watch.said l.watcher) z new) l.invariant.net c.in_ok-visit.ensures.watches);
      resting = c.in_ok-visit.ensures.resting;
    }

pub returns-clause-watches : goal.returns-clause-watches
returns-clause-watches g c =
    let x = c.args.self.now in
    let l = c.loop-router_at in
    let items = c.routers-router-items.result.now in
    let f : NetRouter → List Event = (λ r. turn x.net r.asn) in
    let all = c.routers-router-items.ensures.value ∙ ap (λ (n : Plan). n.routers) c.network.ensures in
    let whole : flat_map f items ≡ round x.net = sym (flat_map-map (turn x.net) (λ r. r.asn) items) ∙ ap (λ (rs : List NetRouter). flat_map (turn x.net) (numbers rs)) all in
    subst (λ (k : List Event). WatchesEvents g.W.Watch.says g.W.Watch.may_want (Ok tt) x k (g.W.Watch.said c.args.watcher.now) l.self (g.W.Watch.said l.watcher)) (all_done f items l.router_at c.loop-router_at-test.false ∙ whole) l.invariant.done
