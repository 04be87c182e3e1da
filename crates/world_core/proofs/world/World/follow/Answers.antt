use Rattle.std.proofs.lemmas.Result.{err_from_is_err_and}
use Rattle.world_core.proofs.WatchedRounds.{one_halts, one_done, ticks_halt, ticks_done}
use Rattle.world_core.proofs.world.World.follow.Goals as goal

pub returns-in_err-one-in-One-clause-watches : goal.returns-in_err-one-in-One-clause-watches
returns-in_err-one-in-One-clause-watches g c =
    let p = err_from_is_err_and c.from_residual.result c.from_residual.ensures.1 in
    rw (p.1, p.2, c.in-One.is)
    (one_halts g.W.Watch.says g.W.Watch.says_of_round g.W.Watch.may_want c.args.self.now c.one.new.self c.in-One.event (g.W.Watch.said c.args.watcher.now) (g.W.Watch.said c.one.new.watcher) c.in_err-one-in-One.field-0.0
    c.in_err-one-in-One.ensures.watches)

pub returns-in_ok-one-in-One-clause-watches : goal.returns-in_ok-one-in-One-clause-watches
returns-in_ok-one-in-One-clause-watches g c =
    rw c.in-One.is
    (one_done g.W.Watch.says g.W.Watch.says_of_round g.W.Watch.may_want c.args.self.now c.one.new.self c.in-One.event (g.W.Watch.said c.args.watcher.now) (g.W.Watch.said c.one.new.watcher) c.in_ok-one-in-One.ensures.watches)

pub returns-in-Rounds-clause-watches : goal.returns-in-Rounds-clause-watches
returns-in-Rounds-clause-watches g c = rw c.in-Rounds.is c.rounds.ensures.watches

pub returns-in_err-ticks-in-Ticks-clause-watches : goal.returns-in_err-ticks-in-Ticks-clause-watches
returns-in_err-ticks-in-Ticks-clause-watches g c =
    let p = err_from_is_err_and c.from_residual-in_err-ticks-in-Ticks.result c.from_residual-in_err-ticks-in-Ticks.ensures.1 in
    rw (p.1, p.2, c.in-Ticks.is)
    (ticks_halt g.W.Watch.says g.W.Watch.says_of_round g.W.Watch.may_want c.args.self.now c.ticks.new.self c.in-Ticks.times (g.W.Watch.said c.args.watcher.now) (g.W.Watch.said c.ticks.new.watcher) c.in_err-ticks-in-Ticks.field-0.0
    c.in_err-ticks-in-Ticks.ensures.watches)

pub returns-in_ok-ticks-in-Ticks-clause-watches : goal.returns-in_ok-ticks-in-Ticks-clause-watches
returns-in_ok-ticks-in-Ticks-clause-watches g c =
    rw c.in-Ticks.is
    (ticks_done g.W.Watch.says g.W.Watch.says_of_round g.W.Watch.may_want c.args.self.now c.ticks.new.self c.in-Ticks.times (g.W.Watch.said c.args.watcher.now) (g.W.Watch.said c.ticks.new.watcher) c.in_ok-ticks-in-Ticks.ensures.watches)
