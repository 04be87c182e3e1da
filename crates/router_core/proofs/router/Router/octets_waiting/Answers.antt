use Rattle.std.proofs.Common.{◌∙◌, Some, ap}
use Rattle.outbox.specs.Items.{octets_waiting}
use Rattle.router_core.specs.Views.{view_of}
use Rattle.router_core.proofs.Showing.{shown}
use Rattle.router_core.proofs.router.Router.octets_waiting.Goals as goal

pub returns : goal.returns
returns c =
    let r = view_of c.self.inside in
    ap Some c.octets_waiting.ensures ∙ shown r c.args.self.now c.args.peer c.in_ok-peer_at.peer_at c.index.result.now (λ side. octets_waiting side.outbox) c.self.view_is c.in_ok-peer_at.ensures.place c.in_ok-peer_at.ensures.none c.index.ensures
