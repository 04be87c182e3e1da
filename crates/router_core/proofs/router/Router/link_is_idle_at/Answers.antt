use Rattle.std.proofs.Common.{◌∙◌, not, sym, ap, refl}
use Rattle.std.specs.Prelude.{is_some}
use Rattle.bgp_framing.specs.Held.{is_waiting}
use Rattle.outbox.specs.Items.{next_item}
use Rattle.router_model.specs.Sides.{Side}
use Rattle.router_core.proofs.router.Router.link_is_idle_at.Goals as goal

pub returns-then-not-has_item : goal.returns-then-not-has_item
returns-then-not-has_item c = λ cut.
    let puts = ap (λ (s : Side). is_some (next_item cut s.outbox)) (sym c.side_to-side.ensures.side) ∙ sym (c.has_item.ensures cut) ∙ c.if-not-has_item.true in
    let waits = c.is_waiting.ensures ∙ ap (λ (s : Side). is_waiting s.held) c.side_to-side.ensures.side in
    rw (c.side_to-side.ensures.linked, puts, waits) refl

pub returns-else-not-has_item : goal.returns-else-not-has_item
returns-else-not-has_item c = λ cut.
    let puts = ap (λ (s : Side). is_some (next_item cut s.outbox)) (sym c.side_to-side.ensures.side) ∙ sym (c.has_item.ensures cut) ∙ c.if-not-has_item.false in
    rw (c.side_to-side.ensures.linked, puts) (ap not c.if-not-has_item.false)
