use Rattle.std.proofs.Common.{◌∙◌, sym, ap, refl}
use Rattle.std.specs.Prelude.{is_some}
use Rattle.outbox.specs.Items.{next_item}
use Rattle.router_model.specs.Sides.{Side}
use Rattle.router_core.proofs.router.Router.puts_nothing_at.Goals as goal

pub returns : goal.returns
returns c = λ cut.
    let puts = ap (λ (s : Side). is_some (next_item cut s.outbox)) (sym c.side_to.ensures.side) ∙ sym (c.has_item.ensures cut) in
    rw (c.side_to.ensures.linked, puts) refl
