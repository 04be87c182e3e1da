use Rattle.std.proofs.Common.{refl}
use Rattle.std.proofs.lemmas.Result.{err_from_is_err_and}
use Rattle.world_core.specs.Views.{plain_world}
use Rattle.world_core.specs.Steps.{view_of}
use Rattle.world_core.proofs.Stepping.{stays_stopped}
use Rattle.world_core.proofs.state.State.step.Goals as goal

pub returns-in_err-router_at : goal.returns-in_err-router_at
returns-in_err-router_at c =
    let p = err_from_is_err_and c.from_residual.result c.from_residual.ensures.1 in
    rw (p.1, p.2)
    (record { answers = λ g e ranks. stays_stopped g (plain_world (view_of c.args.self.now)) c.args.event.now c.in_err-router_at.field-0.0 (c.in_err-router_at.ensures g e); whole = c.requires; same = refl })
