-- Two routers between which nothing is to be done, and a router that has nothing to do alone.
use Rattle.std.proofs.Common.{◌≡◌, ℕ, Bool, true, false, ◌&&◌, not, List, [], ◌∷◌, refl, ap, sym, ◌∙◌, subst, arith, length, ◌≤◌, get_or, Option, None, Some}
use Rattle.std.specs.Prelude.{Ok, ◌+◌, max, slice_get, is_some}
use Rattle.bgp_framing.specs.Held.{is_waiting}
use Rattle.outbox.specs.Items.{next_item}
use Rattle.outbox.specs.declared.item.Item.{Item}
use Rattle.outbox.specs.declared.item.What.{What}
use Rattle.ranked_policy.specs.Plans.{Plan}
use Rattle.router_model.specs.declared.refusal.Stepped.TheVariants as stepped
use Rattle.router_model.specs.Settings.{Setting, linked}
use Rattle.router_model.specs.Calls as calls
use Rattle.router_model.specs.Calls.{Stamped, Call, Put, Handle, Decide, Advertise, Answer, Steps, Idle, Refuses, answer, stamp_of}
use Rattle.router_model.specs.Step.{next_offer}
use Rattle.router_core.specs.Views as core
use Rattle.router_core.specs.Views.{RouterView, plain_of, sides_of}
use Rattle.world_core.specs.declared.inbox.Pipe.{Pipe}
use Rattle.world_core.specs.declared.inbox.Inbox.{Inbox}
use Rattle.world_core.specs.declared.schedule.Event.{Event}
use Rattle.world_core.specs.declared.schedule.Event.TheVariants as schedule
use Rattle.world_core.specs.World.{World, WorldAnswer, Nothing, Gives, of_answer, of_offer, called, taking_of, world_answer}
use Rattle.world_core.specs.Views.{WorldView, plain_world, routers_of, pipes_of, items_from, IsAt}
use Rattle.world_core.specs.Steps.{LinkAt, StandsAt, LinkIsIdle, IsIdle}
use Rattle.world_core.proofs.Places.{here}
use Rattle.world_core.proofs.Stepping.{stands, by_router}

-- ---- what a router answers that waits for nothing

pub put_idle : (g : Setting) (u v : ℕ) (t : Stamped) → linked g.net u v ≡ true → next_item g.net.settings.cut (t.router.sides v).outbox ≡ None → answer g u t (Put v) ≡ Idle
put_idle g u v t l n = rw (l, n) refl

pub handle_idle : (g : Setting) (u v : ℕ) (t : Stamped) → linked g.net u v ≡ true → is_waiting (t.router.sides v).held ≡ false → answer g u t (Handle v) ≡ Idle
handle_idle g u v t l n = rw (l, n) refl

pub parts : (a b c : Bool) → (a && (not b && not c)) ≡ true → (a ≡ true) × (b ≡ false) × (c ≡ false)
parts true false false h = (refl, refl, refl)
parts true false true h = absurd cc
parts true true c h = absurd cc
parts false b c h = absurd cc

pub none_is : (o : Option What) → is_some o ≡ false → o ≡ None
none_is None h = refl
none_is (Some w) h = absurd cc

-- ---- what the world answers then

idle_is : (g : Setting) (u stamp : ℕ) (a : Answer) → a ≡ Idle → of_answer u stamp a ≡ Nothing
idle_is g u stamp a h = ap (of_answer u stamp) h

rests : (g : Setting) (w : World) (event : Event) → world_answer g w event ≡ Nothing → Gives g (Ok stepped.Nothing) (world_answer g w event) w event w
rests g w event h = subst (λ (a : WorldAnswer). Gives g (Ok stepped.Nothing) a w event w) (sym h) (refl, refl)

pub empty_is : (items : List Item) → length items ≤ 0 → items ≡ []
empty_is [] l = refl
empty_is (i ∷ items) l = absurd (omega arith)

none_here : (items : List Item) → items ≡ [] → slice_get items 0 ≡ None
none_here items h = ap (λ (all : List Item). slice_get all 0) h

-- the pipe that a link's place names is the one from the peer
pub items_at : (x : WorldView) (u v i k : ℕ) (box : Inbox) (p : Pipe) → LinkAt x u v i k → box ≡ get_or x.inboxes i box → p ≡ get_or box.pipes.items k p → pipes_of x.inboxes v u ≡ p.items.items
items_at x u v i k box p at is_box is_pipe =
    let from_here : IsAt (λ p. p.peer) box.pipes.items v k = subst (λ (b : Inbox). IsAt (λ p. p.peer) b.pipes.items v k) (sym is_box) (at.pipe box) in
    ap (λ (ps : List Pipe). items_from ps v) (here (λ b. b.router) (λ b. b.pipes.items) [] x.inboxes u i box at.here.inbox ∙ ap (λ (b : Inbox). b.pipes.items) (sym is_box))
    ∙ here (λ p. p.peer) (λ p. p.items.items) [] box.pipes.items v k p from_here ∙ ap (λ (q : Pipe). q.items.items) (sym is_pipe)

pub quiet : (x : WorldView) (u v i k : ℕ) (xr : RouterView) (box : Inbox) (p : Pipe) → LinkAt x u v i k → xr ≡ get_or x.routers i xr → box ≡ get_or x.inboxes i box → p ≡ get_or box.pipes.items k p
    → p.items.items ≡ [] → ((cut : ℕ) → (linked xr.net xr.number v && (not (is_some (next_item cut (sides_of xr v).outbox)) && not (is_waiting (sides_of xr v).held))) ≡ true)
    → LinkIsIdle x u v
quiet x u v i k xr box p at is_router is_box is_pipe none rest =
    let s = stands x u i xr at.here is_router in
    let w = plain_world x in
    let items : pipes_of x.inboxes v u ≡ [] = items_at x u v i k box p at is_box is_pipe ∙ none in
    let joined : (g : Setting) → g.net ≡ x.net → linked xr.net xr.number v ≡ true → linked g.net u v ≡ true =
    λ g e l. ap (λ (n : ℕ). linked g.net n v) (sym s.0) ∙ ap (λ (n : Plan). linked n xr.number v) (e ∙ sym s.1) ∙ l in
    record {
      put = λ g e ranks.
          let t = parts (linked xr.net xr.number v) (is_some (next_item g.net.settings.cut (sides_of xr v).outbox)) (is_waiting (sides_of xr v).held) (rest g.net.settings.cut) in
          let l = joined g e t.0 in
          let a : answer g u (routers_of x u) (Put v) ≡ Idle = ap (λ (r : Stamped). answer g u r (Put v)) s.2 ∙ put_idle g u v (plain_of xr) l (none_is (next_item g.net.settings.cut (sides_of xr v).outbox) t.1) in
          rests g w (schedule.Put u v) (at.linked g e (called g w u (Put v)) ∙ idle_is g u (stamp_of g u (routers_of x u) (Put v)) (answer g u (routers_of x u) (Put v)) a);
      take = λ g e ranks. rests g w (schedule.Take u v) (at.linked g e (taking_of g w u v (slice_get (pipes_of x.inboxes v u) 0)) ∙ ap (taking_of g w u v) (none_here (pipes_of x.inboxes v u) items));
      handle = λ g e ranks.
          let t = parts (linked xr.net xr.number v) (is_some (next_item g.net.settings.cut (sides_of xr v).outbox)) (is_waiting (sides_of xr v).held) (rest g.net.settings.cut) in
          let l = joined g e t.0 in
          let a : answer g u (routers_of x u) (Handle v) ≡ Idle = ap (λ (r : Stamped). answer g u r (Handle v)) s.2 ∙ handle_idle g u v (plain_of xr) l t.2 in
          rests g w (schedule.Handle u v) (at.linked g e (called g w u (Handle v)) ∙ idle_is g u (stamp_of g u (routers_of x u) (Handle v)) (answer g u (routers_of x u) (Handle v)) a);
    }

-- ---- a router alone

-- a router that gives nothing where it stays as it is has nothing to do
gives_idle : (g : Setting) (u : ℕ) (a : Answer) (t : Stamped) (call : Call) → calls.Gives g u (Ok stepped.Nothing) a t call t → a ≡ Idle
gives_idle g u (Steps e) t call h = (let k = h.0 in absurd cc)
gives_idle g u Idle t call h = refl
gives_idle g u (Refuses why) t call h = (let k = h.0 in absurd cc)

-- so it has in the world
alone_idle : (g : Setting) (n u : ℕ) (t w : Stamped) (call : Call) → n ≡ u → w ≡ t → calls.Gives g n (Ok stepped.Nothing) (answer g n t call) t call t
    → of_answer u (stamp_of g u w call) (answer g u w call) ≡ Nothing
alone_idle g n u t w call en ew h =
    rw (sym en, ew) (idle_is g n (stamp_of g n t call) (answer g n t call) (gives_idle g n (answer g n t call) t call h))

pub idle : (x : WorldView) (u i : ℕ) (xr : RouterView) → StandsAt x u i → xr ≡ get_or x.routers i xr → core.Answers (Ok stepped.Nothing) xr Decide xr
    → core.Answers (Ok stepped.Nothing) xr Advertise xr → next_offer (plain_of xr).router ≡ None → IsIdle x u
idle x u i xr at is_router decides tells offers =
    let s = stands x u i xr at is_router in
    let w = plain_world x in
    record {
      decide = λ g e ranks. rests g w (schedule.Decide u) (by_router g u (called g w u Decide) (at.known g e) ∙ alone_idle g xr.number u (plain_of xr) (routers_of x u) Decide s.0 s.2 (decides g (e ∙ sym s.1) ranks));
      advertise = λ g e ranks. rests g w (schedule.Advertise u) (by_router g u (called g w u Advertise) (at.known g e) ∙ alone_idle g xr.number u (plain_of xr) (routers_of x u) Advertise s.0 s.2 (tells g (e ∙ sym s.1) ranks));
      offer = λ g e ranks.
          let stamp = max (routers_of x u).stamp x.board + 1 in
          let none : next_offer (routers_of x u).router ≡ None = ap (λ (t : Stamped). next_offer t.router) s.2 ∙ offers in
          rests g w (schedule.Offer u) (by_router g u (of_offer u stamp (next_offer (routers_of x u).router)) (at.known g e) ∙ ap (of_offer u stamp) none);
    }
