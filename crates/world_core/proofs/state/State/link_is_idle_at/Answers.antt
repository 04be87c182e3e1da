use Rattle.std.proofs.Common.{◌∙◌, rules, subst, sym}
use Rattle.world_core.specs.declared.inbox.Inbox.{Inbox}
use Rattle.world_core.specs.Views.{IsAt}
use Rattle.world_core.specs.Steps.{view_of}
use Rattle.world_core.proofs.Places.{is_below}
use Rattle.world_core.proofs.Quiet.{quiet, empty_is}
use Rattle.world_core.proofs.Staying.{peer_placed}
use Rattle.world_core.proofs.state.State.link_is_idle_at.Goals as goal

pub index-requires : goal.index-requires
index-requires c =
    let inside = is_below (λ b. b.router) c.args.self.now.inboxes.items c.args.number c.args.router_at c.requires.here.inbox in
    search rules

pub index-requires-2 : goal.index-requires-2
index-requires-2 c =
    let at = subst (λ (i : Inbox). IsAt (λ p. p.peer) i.pipes.items c.args.peer c.args.pipe) (sym c.index.ensures) (c.requires.pipe c.index.result.now) in
    let inside = is_below (λ p. p.peer) c.index.result.now.pipes.items c.args.peer c.args.pipe at in
    search rules

pub index-requires-in-None : goal.index-requires-in-None
index-requires-in-None c =
    let inside = is_below (λ r. r.number) c.args.self.now.routers.items c.args.number c.args.router_at c.requires.here.router in
    search rules

pub returns-in-None : goal.returns-in-None
returns-in-None c = λ yes.
    quiet (view_of c.args.self.now) c.args.number c.args.peer c.args.router_at c.args.pipe c.index-in-None.result.now c.index.result.now c.index-2.result.now c.requires
    c.index-in-None.ensures c.index.ensures c.index-2.ensures (empty_is c.index-2.result.now.items.items c.in-None.ensures.item.3) (λ cut. sym (c.link_is_idle_at.ensures cut) ∙ yes)

pub link_is_idle_at-requires : goal.link_is_idle_at-requires
link_is_idle_at-requires c = record {
  stands = peer_placed (view_of c.args.self.now) c.args.number c.args.peer c.args.router_at c.args.pipe c.index-in-None.result.now c.requires c.index-in-None.ensures;
}
