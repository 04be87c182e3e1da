use Rattle.std.proofs.Common.{subst, Err}
use Rattle.std.proofs.lemmas.Result.{err_from_is_err_and}
use Rattle.world_core.specs.Steps.{IsPlaced, FindsPlaces}
use Rattle.world_core.specs.Views.{WorldView}
use Rattle.world_core.proofs.Watched.{one_stops}
use Rattle.world_core.proofs.world.World.one.Goals as goal

pub returns-in_err-router_at-clause-watches : goal.returns-in_err-router_at-clause-watches
returns-in_err-router_at-clause-watches g c =
    let p = err_from_is_err_and c.from_residual.result c.from_residual.ensures.1 in
    let why = c.in_err-router_at.field-0.0 in
    rw (p.1, p.2)
    (one_stops g.W.Watch.says g.W.Watch.may_want c.args.self.now c.args.event.now (g.W.Watch.said c.args.watcher.now) why
    (subst (λ (x : WorldView). FindsPlaces (Err why) x c.args.event.now) c.self.view_is c.in_err-router_at.ensures))

pub watched-requires : goal.watched-requires
watched-requires g c = subst (λ (x : WorldView). IsPlaced x.net c.args.event.now c.in_ok-router_at.router_at c.in_ok-router_at.peer_at) c.self.view_is c.in_ok-router_at.ensures
