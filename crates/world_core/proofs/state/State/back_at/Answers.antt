use Rattle.std.proofs.Common.{rules, subst, sym}
use Rattle.world_core.specs.declared.inbox.Inbox.{Inbox}
use Rattle.world_core.specs.Views.{IsAt}
use Rattle.world_core.specs.Steps.{view_of}
use Rattle.world_core.proofs.Places.{is_below}
use Rattle.world_core.proofs.Staying.{back_placed, link_placed}
use Rattle.world_core.proofs.state.State.back_at.Goals as goal

pub index-requires : goal.index-requires
index-requires c =
    let inside = is_below (λ b. b.router) c.args.self.now.inboxes.items c.args.number c.args.router_at c.requires.here.inbox in
    search rules

pub index-pipe-requires : goal.index-pipe-requires
index-pipe-requires c =
    let at = subst (λ (i : Inbox). IsAt (λ p. p.peer) i.pipes.items c.args.peer c.args.pipe) (sym c.index.ensures) (c.requires.pipe c.index.result.now) in
    let inside = is_below (λ p. p.peer) c.index.result.now.pipes.items c.args.peer c.args.pipe at in
    search rules

pub returns : goal.returns
returns c =
    let x = view_of c.args.self.now in
    let p = c.index-pipe.result.now in
    link_placed c.linked_routers_are_peers.ensures x c.args.peer c.args.number p.router p.back c.requires.here.whole
    (back_placed x c.args.number c.args.peer c.args.router_at c.args.pipe c.index.result.now p c.requires c.index.ensures c.index-pipe.ensures)
