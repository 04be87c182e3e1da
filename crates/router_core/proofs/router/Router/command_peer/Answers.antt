use Rattle.std.proofs.Common.{◌≡◌, ◌∙◌, ◌+◌, ℕ, Bool, true, false, ap, sym, refl, subst, get_or}
use Rattle.std.specs.Prelude.{Result, Err}
use Rattle.ranked_policy.specs.Plans.{Plan}
use Rattle.session_fsm.specs.declared.event.FsmEvent.TheVariants.{ManualStart, ManualStop}
use Rattle.router_model.specs.declared.command.Command.{Command}
use Rattle.router_model.specs.declared.command.Command.TheVariants.{Start, Stop, Reset}
use Rattle.router_model.specs.declared.refusal.RouterError.{RouterError}
use Rattle.router_model.specs.declared.refusal.RouterError.TheVariants as error
use Rattle.router_model.specs.declared.refusal.Stepped.{Stepped}
use Rattle.router_model.specs.Settings.{Setting, linked}
use Rattle.router_model.specs.Sides.{Draft, NoMessage, draft_event, draft_reset}
use Rattle.router_model.specs.Calls.{Stamped, Obey, Gives, answer}
use Rattle.router_side.specs.Drafts.{draft}
use Rattle.router_side.specs.Freshness.{KeepsFresh}
use Rattle.router_side.specs.SideOf.{side}
use Rattle.router_core.specs.declared.peers.Peer.{Peer}
use Rattle.router_core.specs.declared.router.carry.SessionEvent.{SessionEvent}
use Rattle.router_core.specs.declared.router.carry.SessionEvent.TheVariants as event
use Rattle.router_core.specs.ToAll.{draft_by, IsCommanded}
use Rattle.router_core.specs.Views.{view_of, RouterView, IsSound, IsFound, IsAt, Carries, listed, sides_of, plain_of}
use Rattle.router_core.proofs.Carrying.{IsOf, Ended, keeps_here, of_sound, commanded}
use Rattle.router_core.proofs.Moving.{event_keeps}
use Rattle.router_core.proofs.Ticking.{stop_fits}
use Rattle.router_core.proofs.router.Router.command_peer.Goals as goal

obeys : (g : Setting) (r : RouterView) (y : Stamped) (v i : ℕ) (p : Peer) (a : Draft) (res : Result Stepped RouterError) (of : IsOf g r) (at : IsAt r.peers v i) (here : p ≡ get_or r.peers i p) (l : listed v r.peers ≡ true)
    (e : SessionEvent) (c : Command) → IsCommanded e v c → a ≡ draft_by e r.own_open (side p.side) → Ended g r y v i p a res of at here l a.overflows (r.stamp + 1)
    → Gives g r.number res (answer g r.number (plain_of r) (Obey c)) (plain_of r) (Obey c) y
obeys g r y v i p a res of at here l event.Start c is made ends =
    rw is (commanded g r y v i p a res of at here l (Start v) (λ o s. draft_event o s ManualStart) (λ d. d.overflows) refl refl made ends)
obeys g r y v i p a res of at here l event.Stop c is made ends =
    let fits : a.overflows ≡ false = ap (λ (d : Draft). d.overflows) made ∙ stop_fits r.own_open (side p.side) in
    rw is
    (commanded g r y v i p a res of at here l (Stop v) (λ o s. draft_event o s ManualStop) (λ d. false) refl refl made (subst (λ (o : Bool). Ended g r y v i p a res of at here l o (r.stamp + 1)) fits ends))
obeys g r y v i p a res of at here l event.Reset c is made ends =
    rw is (commanded g r y v i p a res of at here l (Reset v) draft_reset (λ d. d.overflows) refl refl made ends)
obeys g r y v i p a res of at here l event.Second c is made ends = absurd is

pub returns-clause-answers : goal.returns-clause-answers
returns-clause-answers c = λ command is g e ranks.
    let x = c.args.self.now in
    let v = c.args.peer in
    let p = c.index.result.now in
    let sketch = c.drafted-made.result in
    let found = c.in-Some.ensures.place in
    let here = c.index.ensures ∙ ap (λ (w : RouterView). get_or w.peers c.in-Some.peer_at p) c.self.view_is in
    let made = subst (λ (w : RouterView). draft w.own_open NoMessage sketch ≡ draft_by c.args.event w.own_open (side p.side)) c.self.view_is c.drafted-made.ensures in
    obeys g x (plain_of c.carry_out.new.self) v c.in-Some.peer_at p (draft x.own_open NoMessage sketch) c.carry_out.result (of_sound g x (subst IsSound c.self.view_is c.self.invariant) e) found.2 here found.1 c.args.event command is made
    (subst (λ (w : RouterView). Carries c.carry_out.result x v NoMessage (draft x.own_open NoMessage sketch) sketch.overflows (w.stamp + 1) c.carry_out.new.self) c.self.view_is c.carry_out.ensures.carries)

refuses : (g : Setting) (u v : ℕ) (x : Stamped) → linked g.net u v ≡ false → (e : SessionEvent) (c : Command) → IsCommanded e v c → Gives g u (Err error.NoSuchPeer) (answer g u x (Obey c)) x (Obey c) x
refuses g u v x none event.Start c is = rw (is, none) (refl, refl)
refuses g u v x none event.Stop c is = rw (is, none) (refl, refl)
refuses g u v x none event.Reset c is = rw (is, none) (refl, refl)
refuses g u v x none event.Second c is = absurd is

pub returns-in_default-clause-answers : goal.returns-in_default-clause-answers
returns-in_default-clause-answers c = λ command is g e ranks.
    let x = c.args.self.now in
    refuses g x.number c.args.peer (plain_of x) (ap (λ (n : Plan). linked n x.number c.args.peer) e ∙ c.in_default.ensures.none) c.args.event command is

pub carry_out-requires-clause-fresh : goal.carry_out-requires-clause-fresh
carry_out-requires-clause-fresh c = λ o.
    let r = view_of c.self.inside in
    let p = c.index.result.now in
    let made = c.drafted-made.result in
    let found = subst (λ (x : RouterView). IsFound x.peers c.args.peer c.in-Some.peer_at) (sym c.self.view_is) c.in-Some.ensures.place in
    subst (λ (x : RouterView). KeepsFresh (sides_of x c.args.peer) NoMessage (draft x.own_open NoMessage made)) c.self.view_is
    (keeps_here r c.args.peer c.in-Some.peer_at p found.2 c.index.ensures c.self.invariant (draft r.own_open NoMessage made) (draft_by c.args.event r.own_open (side p.side)) c.drafted-made.ensures
    (λ f. event_keeps c.sessions_keep_fresh.ensures c.args.event r.own_open (side p.side) f (ap (λ (a : Draft). a.overflows) (sym c.drafted-made.ensures) ∙ o)))
