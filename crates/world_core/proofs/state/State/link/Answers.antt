use Rattle.std.proofs.Common.{◌∙◌, ap, rules, subst, map}
use Rattle.std.specs.List.{position}
use Rattle.world_core.specs.declared.inbox.Inbox.{Inbox}
use Rattle.world_core.specs.Steps.{view_of}
use Rattle.world_core.specs.Views.{is_from, IsAt}
use Rattle.world_core.proofs.Places.{is_below, here_same}
use Rattle.world_core.proofs.Staying.{peers_here}
use Rattle.world_core.proofs.Linking.{seek, is_linked, unlinked, passes_link, no_link}
use Rattle.world_core.proofs.state.State.link.Goals as goal

pub index-requires : goal.index-requires
index-requires c =
    let inside = is_below (λ b. b.router) c.args.self.now.inboxes.items c.args.number c.in_ok-router_at.router_at c.in_ok-router_at.ensures.inbox in
    search rules

pub returns-in-Some : goal.returns-in-Some
returns-in-Some c =
    let boxes = c.args.self.now.inboxes.items in
    let box = c.index.result.now in
    let net = c.args.self.now.network.now in
    let at = c.in_ok-router_at.ensures.inbox in
    let found = seek box.pipes.items c.args.peer c.place_of.result (c.place_of.ensures ∙ ap (position (is_from c.args.peer)) c.as_slice.ensures.value) in
    let pipe = rw c.in-Some.is at found in
    let all = ap (λ (b : Inbox). map (λ p. p.peer) b.pipes.items) c.index.ensures ∙ peers_here (view_of c.args.self.now) c.args.number c.in_ok-router_at.router_at box c.in_ok-router_at.ensures in
    record {
      here = c.in_ok-router_at.ensures;
      pipe = λ d. subst (λ (b : Inbox). IsAt (λ p. p.peer) b.pipes.items c.args.peer c.in-Some.pipe) (c.index.ensures ∙ here_same (λ b. b.router) boxes c.args.number c.in_ok-router_at.router_at box d at) pipe;
      linked = λ g e a. passes_link g net c.args.number c.args.peer a e (c.in_ok-router_at.ensures.known g e) (c.in_ok-place.ensures.known g e) (is_linked net c.args.number c.args.peer c.in-Some.pipe box.pipes.items all pipe);
    }

pub returns-in-None : goal.returns-in-None
returns-in-None c =
    let boxes = c.args.self.now.inboxes.items in
    let box = c.index.result.now in
    let net = c.args.self.now.network.now in
    let at = c.in_ok-router_at.ensures.inbox in
    let found = seek box.pipes.items c.args.peer c.place_of.result (c.place_of.ensures ∙ ap (position (is_from c.args.peer)) c.as_slice.ensures.value) in
    let none = rw c.in-None.is at found in
    let all = ap (λ (b : Inbox). map (λ p. p.peer) b.pipes.items) c.index.ensures ∙ peers_here (view_of c.args.self.now) c.args.number c.in_ok-router_at.router_at box c.in_ok-router_at.ensures in
    λ g e a. no_link g net c.args.number c.args.peer a e (c.in_ok-router_at.ensures.known g e) (c.in_ok-place.ensures.known g e)
    (unlinked c.linked_routers_are_peers.ensures net c.requires.network c.args.number c.args.peer box.pipes.items all none)
