use Rattle.std.proofs.Common.{◌≡◌, ◌+◌, ◌<◌, arith, length, map, List, [], ◌∷◌, take, drop, ap, sym, subst, ◌∙◌, refl, Ok}
use Rattle.std.specs.List.{flat_map}
use Rattle.std.specs.Prelude.{slice_get, Some}
use Rattle.std.proofs.lemmas.Result.{err_from_is_err_and}
use Rattle.ranked_policy.specs.declared.network.NetRouter.{NetRouter}
use Rattle.ranked_policy.specs.Plans.{Plan, numbers}
use Rattle.world_core.specs.declared.schedule.Event.{Event}
use Rattle.world_core.specs.declared.schedule.Event.TheVariants as schedule
use Rattle.world_core.specs.Orders.{second}
use Rattle.world_core.specs.Watching.{WatchesEvents}
use Rattle.world_core.proofs.Awake.{read_here}
use Rattle.world_core.proofs.Orders.{all_done, one_done, one_among, ticks_are}
use Rattle.world_core.proofs.Watched.{none_watched, watched_next, watched_until}
use Rattle.world_core.proofs.world.World.second.Goals as goal

pub loop-router_at-init : goal.loop-router_at-init
loop-router_at-init g c = record { net = refl; done = none_watched g.W.Watch.says g.W.Watch.may_want c.args.self.now (g.W.Watch.said c.args.watcher.now) }

pub watched-requires : goal.watched-requires
watched-requires g c =
    let l = c.loop-router_at in
    let items = c.routers-router-items.result.now in
    let inside : l.router_at < length items = omega (arith, c.loop-router_at-test.true) in
    let all = c.routers-router-items.ensures.value ∙ ap (λ (n : Plan). n.routers) (c.network.ensures ∙ sym l.invariant.net) in
    (subst (λ (rs : List NetRouter). slice_get (numbers rs) l.router_at ≡ Some c.router-item.result.asn) all (read_here (λ r. r.asn) items l.router_at c.router-item.result inside c.router-item.is), tt)

pub returns-in_err-watched-clause-watches : goal.returns-in_err-watched-clause-watches
returns-in_err-watched-clause-watches g c =
    let p = err_from_is_err_and c.from_residual.result c.from_residual.ensures.1 in
    let x = c.args.self.now in
    let l = c.loop-router_at in
    let a = c.router-item.result in
    let items = c.routers-router-items.result.now in
    let f : NetRouter → List Event = (λ r. schedule.Tick r.asn ∷ []) in
    let inside : l.router_at < length items = omega (arith, c.loop-router_at-test.true) in
    let all = c.routers-router-items.ensures.value ∙ ap (λ (n : Plan). n.routers) c.network.ensures in
    let whole : flat_map f items ≡ second x.net = ticks_are items ∙ ap (λ (rs : List NetRouter). map (λ u. schedule.Tick u) (numbers rs)) all in
    rw (p.1, p.2)
    (watched_until g.W.Watch.says g.W.Watch.may_want x l.self c.watched.new.self (flat_map f (take l.router_at items)) (schedule.Tick a.asn ∷ []) (flat_map f (drop (l.router_at + 1) items)) (second x.net) (g.W.Watch.said c.args.watcher.now)
    (g.W.Watch.said l.watcher) (g.W.Watch.said c.watched.new.watcher) c.in_err-watched.field-0.0 (one_among f items l.router_at a inside c.router-item.is ∙ whole) l.invariant.net l.invariant.done c.in_err-watched.ensures.watches)

pub loop-router_at-preserved : goal.loop-router_at-preserved
loop-router_at-preserved g c =
    let x = c.args.self.now in
    let l = c.loop-router_at in
    let a = c.router-item.result in
    let items = c.routers-router-items.result.now in
    let f : NetRouter → List Event = (λ r. schedule.Tick r.asn ∷ []) in
    let inside : l.router_at < length items = omega (arith, c.loop-router_at-test.true) in
    record {
      net = c.watched.ensures.same ∙ l.invariant.net;
      done = watched_next g.W.Watch.says g.W.Watch.may_want x l.self c.watched.new.self (flat_map f (take l.router_at items)) (schedule.Tick a.asn ∷ []) (flat_map f (take (l.router_at + 1) items)) (g.W.Watch.said c.args.watcher.now)
          (g.W.Watch.said l.watcher) (g.W.Watch.said c.watched.new.watcher) (one_done f items l.router_at a inside c.router-item.is) l.invariant.net l.invariant.done c.in_ok-watched.ensures.watches;
    }

pub returns-clause-watches : goal.returns-clause-watches
returns-clause-watches g c =
    let x = c.args.self.now in
    let l = c.loop-router_at in
    let items = c.routers-router-items.result.now in
    let f : NetRouter → List Event = (λ r. schedule.Tick r.asn ∷ []) in
    let all = c.routers-router-items.ensures.value ∙ ap (λ (n : Plan). n.routers) c.network.ensures in
    let whole : flat_map f items ≡ second x.net = ticks_are items ∙ ap (λ (rs : List NetRouter). map (λ u. schedule.Tick u) (numbers rs)) all in
    subst (λ (k : List Event). WatchesEvents g.W.Watch.says g.W.Watch.may_want (Ok tt) x k (g.W.Watch.said c.args.watcher.now) l.self (g.W.Watch.said l.watcher)) (all_done f items l.router_at c.loop-router_at-test.false ∙ whole) l.invariant.done
