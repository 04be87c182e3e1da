use Rattle.std.proofs.Common.{rules, subst, sym}
use Rattle.world_core.specs.declared.inbox.Inbox.{Inbox}
use Rattle.world_core.specs.Views.{IsAt}
use Rattle.world_core.specs.Steps.{view_of}
use Rattle.world_core.proofs.Places.{is_below}
use Rattle.world_core.proofs.Quiet.{items_at}
use Rattle.world_core.proofs.Coming.{coming}
use Rattle.world_core.proofs.state.State.next_to_take.Goals as goal

pub index-requires : goal.index-requires
index-requires c =
    let inside = is_below (λ b. b.router) c.args.self.now.inboxes.items c.args.number c.in-Ok.router_at c.in-Ok.ensures.here.inbox in
    search rules

pub index-requires-2 : goal.index-requires-2
index-requires-2 c =
    let at = subst (λ (i : Inbox). IsAt (λ p. p.peer) i.pipes.items c.args.peer c.in-Ok.pipe) (sym c.index.ensures) (c.in-Ok.ensures.pipe c.index.result.now) in
    let inside = is_below (λ p. p.peer) c.index.result.now.pipes.items c.args.peer c.in-Ok.pipe at in
    search rules

pub returns : goal.returns
returns c =
    let x = view_of c.args.self.now in
    let items = c.index-2.result.now.items.items in
    coming x c.args.number c.args.peer items c.front.result _ (items_at x c.args.number c.args.peer c.in-Ok.router_at c.in-Ok.pipe c.index.result.now c.index-2.result.now c.in-Ok.ensures c.index.ensures c.index-2.ensures) c.front.ensures.item.1
    c.front.ensures.item.3
