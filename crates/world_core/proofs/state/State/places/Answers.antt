use Rattle.std.proofs.Common.{ℕ, subst, sym, ◌∙◌, Err}
use Rattle.std.proofs.lemmas.Result.{err_from_is_err_and}
use Rattle.world_core.specs.Steps.{view_of, FindsLink, StandsAt, IsPlaceOf}
use Rattle.world_core.proofs.Staying.{finds_linked, placed_alone, stops_alone}
use Rattle.world_core.proofs.state.State.places.Goals as goal

pub returns-in-Some : goal.returns-in-Some
returns-in-Some c =
    let x = view_of c.args.self.now in
    finds_linked c.link.result x c.args.event.now c.in-Some.peer (sym c.in-Some.is ∙ c.peer.ensures) (subst (λ (u : ℕ). FindsLink c.link.result x u c.in-Some.peer) c.router.ensures c.link.ensures)

pub returns-in_ok-place-in-None : goal.returns-in_ok-place-in-None
returns-in_ok-place-in-None c =
    let x = view_of c.args.self.now in
    placed_alone x c.args.event.now c.in_ok-place-in-None.field-0 (sym c.in-None.is ∙ c.peer.ensures) (subst (λ (u : ℕ). StandsAt x u c.in_ok-place-in-None.field-0) c.router-in-None.ensures c.in_ok-place-in-None.ensures)

pub returns-in_err-place-in-None : goal.returns-in_err-place-in-None
returns-in_err-place-in-None c =
    let x = view_of c.args.self.now in
    let p = err_from_is_err_and c.from_residual.result c.from_residual.ensures.1 in
    let why = c.in_err-place-in-None.field-0.0 in
    rw (p.1, p.2) (stops_alone x c.args.event.now why (sym c.in-None.is ∙ c.peer.ensures) (subst (λ (u : ℕ). IsPlaceOf (Err why) x u) c.router-in-None.ensures c.in_err-place-in-None.ensures))
