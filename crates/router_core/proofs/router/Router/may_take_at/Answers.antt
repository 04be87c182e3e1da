use Rattle.std.proofs.Common.{◌∙◌, ap, refl}
use Rattle.bgp_framing.specs.Held.{is_waiting}
use Rattle.router_model.specs.Sides.{Side}
use Rattle.router_core.proofs.router.Router.may_take_at.Goals as goal

pub returns : goal.returns
returns c =
    let waits = c.is_waiting.ensures ∙ ap (λ (s : Side). is_waiting s.held) c.side_to.ensures.side in
    rw (c.side_to.ensures.linked, waits) refl
