use Rattle.std.proofs.Common.{◌∙◌, ap, sym, subst}
use Rattle.router_core.specs.Views.{view_of, RouterView, listed, HasNext}
use Rattle.router_core.proofs.PeerLemmas.{found_some}
use Rattle.router_core.proofs.Serving.{has_next}
use Rattle.router_core.proofs.router.Router.item_put.Goals as goal

pub unwrap-peer_at-requires : goal.unwrap-peer_at-requires
unwrap-peer_at-requires c =
    let r = view_of c.self.inside in
    let has = has_next r c.args.peer c.self.invariant (subst (λ (x : RouterView). HasNext x c.args.peer) (sym c.self.view_is) c.requires) in
    found_some c.args.self.now.peers c.args.peer c.find.result c.find.ensures.place (ap (λ (x : RouterView). listed c.args.peer x.peers) (sym c.self.view_is) ∙ has.0)

pub item_put_at-requires-clause-stands : goal.item_put_at-requires-clause-stands
item_put_at-requires-clause-stands c = rw c.unwrap-peer_at.ensures at c.find.ensures.stands
