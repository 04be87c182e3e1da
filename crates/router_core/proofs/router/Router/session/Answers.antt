use Rattle.std.proofs.Common.{◌∙◌, Some, ap}
use Rattle.router_core.specs.Views.{view_of}
use Rattle.router_core.proofs.Showing.{shown}
use Rattle.router_core.proofs.router.Router.session.Goals as goal

pub returns : goal.returns
returns c =
    let r = view_of c.self.inside in
    ap Some c.session.ensures ∙ shown r c.args.self.now c.args.peer c.in_ok-peer_at.peer_at c.index.result.now (λ side. side.session) c.self.view_is c.in_ok-peer_at.ensures.place c.in_ok-peer_at.ensures.none c.index.ensures
