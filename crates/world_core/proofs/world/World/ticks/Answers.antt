use Rattle.std.proofs.Common.{◌≡◌, ◌+◌, ◌-◌, arith, refl, subst, ◌∙◌}
use Rattle.std.specs.Prelude.{Ok, Err}
use Rattle.std.proofs.lemmas.Result.{err_from_is_err_and}
use Rattle.ranked_policy.specs.Plans.{Plan}
use Rattle.world_core.specs.Orders.{second, repeated}
use Rattle.world_core.specs.Watching.{WatchesEvents}
use Rattle.world_core.proofs.Orders.{repeated_one, repeated_among}
use Rattle.world_core.proofs.Watched.{none_watched, watched_next, watched_until}
use Rattle.world_core.proofs.world.World.ticks.Goals as goal

pub loop-init : goal.loop-init
loop-init g c = record { net = refl; done = none_watched g.W.Watch.says g.W.Watch.may_want c.args.self.now (g.W.Watch.said c.args.watcher.now) }

pub returns-in_err-second-clause-watches : goal.returns-in_err-second-clause-watches
returns-in_err-second-clause-watches g c =
    let p = err_from_is_err_and c.from_residual.result c.from_residual.ensures.1 in
    let x = c.args.self.now in
    let l = c.loop in
    let once = second x.net in
    let left = c.args.times - (l.counter + 1) in
    let all : (l.counter + 1) + left ≡ c.args.times = omega (arith, c.loop-test.true) in
    let says = g.W.Watch.says in
    let may = g.W.Watch.may_want in
    let mid = g.W.Watch.said l.watcher in
    let new = g.W.Watch.said c.second.new.watcher in
    let why = c.in_err-second.field-0.0 in
    rw (p.1, p.2)
    (watched_until says may x l.self c.second.new.self (repeated l.counter once) once (repeated left once) (repeated c.args.times once) (g.W.Watch.said c.args.watcher.now) mid new why
    (repeated_among l.counter left c.args.times once all) l.invariant.net l.invariant.done
    (subst (λ (n : Plan). WatchesEvents says may (Err why) l.self (second n) mid c.second.new.self new) l.invariant.net c.in_err-second.ensures.watches))

pub loop-preserved : goal.loop-preserved
loop-preserved g c =
    let x = c.args.self.now in
    let l = c.loop in
    let once = second x.net in
    let says = g.W.Watch.says in
    let may = g.W.Watch.may_want in
    let mid = g.W.Watch.said l.watcher in
    let new = g.W.Watch.said c.second.new.watcher in
    record {
      net = c.second.ensures.same ∙ l.invariant.net;
      done = watched_next says may x l.self c.second.new.self (repeated l.counter once) once (repeated (l.counter + 1) once) (g.W.Watch.said c.args.watcher.now) mid new (repeated_one l.counter once) l.invariant.net l.invariant.done
          (subst (λ (n : Plan). WatchesEvents says may (Ok tt) l.self (second n) mid c.second.new.self new) l.invariant.net c.in_ok-second.ensures.watches);
    }

pub returns-clause-watches : goal.returns-clause-watches
returns-clause-watches g c =
    let l = c.loop in
    let end : l.counter ≡ c.args.times = omega (arith, c.loop-test.false) in
    subst (λ k. WatchesEvents g.W.Watch.says g.W.Watch.may_want (Ok tt) c.args.self.now (repeated k (second c.args.self.now.net)) (g.W.Watch.said c.args.watcher.now) l.self (g.W.Watch.said l.watcher)) end l.invariant.done
