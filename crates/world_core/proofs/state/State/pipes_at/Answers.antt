use Rattle.std.proofs.Common.{◌∙◌, ap, rules, subst, sym, ◌≡◌, map}
use Rattle.router_model.specs.Settings.{peers}
use Rattle.world_core.specs.declared.inbox.Inbox.{Inbox}
use Rattle.world_core.proofs.Places.{is_below, number_here, all_here}
use Rattle.world_core.proofs.state.State.pipes_at.Goals as goal

pub index-requires : goal.index-requires
index-requires c =
    let inside = is_below (λ b. b.router) c.args.self.now.inboxes.items c.args.number c.args.router_at c.requires.inbox in
    search rules

pub returns : goal.returns
returns c =
    let boxes = c.args.self.now.inboxes.items in
    let box = c.index.result.now in
    let net = c.args.self.now.network.now in
    let at = c.requires.inbox in
    let is_number = ap (λ (b : Inbox). b.router) c.index.ensures ∙ number_here (λ b. b.router) boxes c.args.number c.args.router_at box at in
    let all = all_here (λ b. b.router) (λ i. map (λ p. p.peer) i.pipes.items ≡ peers net i.router) boxes c.args.number c.args.router_at box at c.requires.whole.pipes in
    ap (map (λ p. p.peer)) c.as_slice.ensures.value
    ∙ subst (λ (b : Inbox). map (λ p. p.peer) b.pipes.items ≡ peers net b.router) (sym c.index.ensures) all
    ∙ ap (peers net) is_number
