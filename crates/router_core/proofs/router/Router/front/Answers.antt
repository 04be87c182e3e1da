use Rattle.std.proofs.Common.{◌≡◌, ◌∙◌, true, false, refl, sym, ap, subst}
use Rattle.std.specs.Prelude.{Result, IfOk}
use Rattle.std.proofs.lemmas.Result.{IfOk-weaker}
use Rattle.bgp_codec.specs.declared.fault.Fault.{Fault}
use Rattle.bgp_codec.specs.declared.message.Message.{Message}
use Rattle.bgp_framing.specs.Held.{is_waiting}
use Rattle.ranked_policy.specs.declared.network.Settings.{Settings}
use Rattle.router_model.specs.Sides.{Side, front}
use Rattle.router_side.specs.SideOf.{side, naming}
use Rattle.router_side.specs.Sayings.{IsReadAs}
use Rattle.router_core.specs.Views.{view_of, RouterView, sides_of}
use Rattle.router_core.specs.Shown.{front_of}
use Rattle.router_core.proofs.Showing.{stands}
use Rattle.router_core.proofs.router.Router.front.Goals as goal

pub returns-then-not-is_waiting : goal.returns-then-not-is_waiting
returns-then-not-is_waiting c =
    let r = view_of c.self.inside in
    let here : sides_of c.args.self.now c.args.peer ≡ side c.index.result.now.side = stands r c.args.self.now c.args.peer c.in_ok-peer_at.peer_at c.index.result.now c.self.view_is c.in_ok-peer_at.ensures.place c.index.ensures in
    let waits : is_waiting (sides_of c.args.self.now c.args.peer).held ≡ false = ap (λ (s : Side). is_waiting s.held) here ∙ sym c.is_waiting.ensures ∙ c.if-not-is_waiting.true in
    rw (c.in_ok-peer_at.ensures.none, waits) refl

pub returns : goal.returns
returns c =
    let r = view_of c.self.inside in
    let x = c.args.self.now in
    let v = c.args.peer in
    let found = c.index.result.now.side in
    let here : sides_of x v ≡ side found = stands r x v c.in_ok-peer_at.peer_at c.index.result.now c.self.view_is c.in_ok-peer_at.ensures.place c.index.ensures in
    let waits : is_waiting (sides_of x v).held ≡ true = ap (λ (s : Side). is_waiting s.held) here ∙ sym c.is_waiting.ensures ∙ c.if-not-is_waiting.false in
    let read : front (naming c.settings.result.width c.self.inside.number v) (side found).held ≡ front_of x v =
    ap (λ (s : Settings). front (naming s.width r.number v) (side found).held) c.settings.ensures.value
    ∙ ap (λ (y : RouterView). front (naming y.net.settings.width y.number v) (side found).held) c.self.view_is
    ∙ ap (λ (s : Side). front (naming x.net.settings.width x.number v) s.held) (sym here) in
    let rule = naming c.settings.result.width c.self.inside.number v in
    let is_read = IfOk-weaker c.front_to_show.result (IsReadAs rule (front rule (side found).held)) (λ f. f ≡ front rule (side found).held) (λ f h. h.read) c.front_to_show.ensures.reads in
    (rw (c.in_ok-peer_at.ensures.none, waits) refl, subst (λ (t : Result Message Fault). IfOk c.front_to_show.result (λ f. f ≡ t)) read is_read)
