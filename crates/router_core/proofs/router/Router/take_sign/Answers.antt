use Rattle.std.proofs.Common.{◌≡◌, ◌∙◌, ap, sym, subst}
use Rattle.router_model.specs.Sides.{Side, Draft, NoMessage, draft_sign}
use Rattle.router_side.specs.Drafts.{draft}
use Rattle.router_side.specs.Freshness.{KeepsFresh}
use Rattle.router_side.specs.SideOf.{side}
use Rattle.router_core.specs.Views.{view_of, RouterView, IsFound, Carries, TakesSign, sides_of}
use Rattle.router_core.proofs.Carrying.{keeps_here}
use Rattle.router_core.proofs.Taking.{stands_at}
use Rattle.router_core.proofs.router.Router.take_sign.Goals as goal

pub carry_out-requires-clause-fresh : goal.carry_out-requires-clause-fresh
carry_out-requires-clause-fresh c = λ o.
    let r = view_of c.self.inside in
    let found = subst (λ (x : RouterView). IsFound x.peers c.args.peer c.args.peer_at) (sym c.self.view_is) c.requires in
    let p = c.index.result.now in
    subst (λ (x : RouterView). KeepsFresh (sides_of x c.args.peer) NoMessage (draft x.own_open NoMessage c.draft_sign-made.result)) c.self.view_is
    (keeps_here r c.args.peer c.args.peer_at p found.2 c.index.ensures c.self.invariant (draft r.own_open NoMessage c.draft_sign-made.result) (draft_sign r.own_open (side p.side) c.args.sign) c.draft_sign-made.ensures
    (λ f. c.what_comes_keeps_fresh.ensures.signs r.own_open (side p.side) c.args.sign f (ap (λ (a : Draft). a.overflows) (sym c.draft_sign-made.ensures) ∙ o)))

pub returns-clause-takes : goal.returns-clause-takes
returns-clause-takes c =
    let r = view_of c.self.inside in
    let v = c.args.peer in
    let found = subst (λ (x : RouterView). IsFound x.peers v c.args.peer_at) (sym c.self.view_is) c.requires in
    let p = c.index.result.now in
    let made : draft r.own_open NoMessage c.draft_sign-made.result ≡ draft_sign r.own_open (sides_of r v) c.args.sign =
    c.draft_sign-made.ensures ∙ ap (λ (s : Side). draft_sign r.own_open s c.args.sign) (sym (stands_at r v c.args.peer_at p found.2 c.index.ensures)) in
    let carries = subst (λ (x : RouterView). Carries c.carry_out.result x v NoMessage (draft x.own_open NoMessage c.draft_sign-made.result) c.draft_sign-made.result.overflows c.args.stamp c.carry_out.new.self) (sym c.self.view_is)
    c.carry_out.ensures.carries in
    subst (λ (x : RouterView). TakesSign c.carry_out.result x v c.args.sign c.args.stamp c.carry_out.new.self) c.self.view_is
    (subst (λ (a : Draft). Carries c.carry_out.result r v NoMessage a a.overflows c.args.stamp c.carry_out.new.self) made carries)
