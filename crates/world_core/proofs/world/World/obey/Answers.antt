use Rattle.std.proofs.Common.{◌≡◌, ℕ, List, [], false, refl}
use Rattle.std.proofs.lemmas.Result.{err_from_is_err_and}
use Rattle.world_core.specs.declared.schedule.Event.{Event}
use Rattle.world_core.specs.World.{World}
use Rattle.world_core.proofs.WatchedRounds.{obeyed_order, stopped_order}
use Rattle.world_core.proofs.world.World.obey.Goals as goal

pub returns-in_err-obey_watched-clause-obeys : goal.returns-in_err-obey_watched-clause-obeys
returns-in_err-obey_watched-clause-obeys c =
    let p = err_from_is_err_and c.from_residual.result c.from_residual.ensures.1 in
    rw (p.1, p.2) (stopped_order (λ (w : World) (e : Event) (y : World) (t : List ℕ). t ≡ []) (λ (n k : ℕ). []) false c.args.self.now c.obey_watched.new.self c.args.order.now [] [] c.in_err-obey_watched.field-0.0 refl c.in_err-obey_watched.ensures.watches)

pub returns-clause-obeys : goal.returns-clause-obeys
returns-clause-obeys c = obeyed_order (λ (w : World) (e : Event) (y : World) (t : List ℕ). t ≡ []) (λ (n k : ℕ). []) false c.args.self.now c.obey_watched.new.self c.args.order.now [] [] c.in_ok-obey_watched.field-0 c.in_ok-obey_watched.ensures.watches
