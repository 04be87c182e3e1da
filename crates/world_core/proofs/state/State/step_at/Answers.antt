use Rattle.std.proofs.Common.{◌∙◌, ◌+◌, ◌≤◌, arith, vec_len, vec_capacity, rules, refl, sym, subst, set}
use Rattle.std.specs.Vec.{with_item}
use Rattle.router_model.specs.Calls.{Handle}
use Rattle.world_core.specs.declared.inbox.Inbox.{Inbox}
use Rattle.world_core.specs.declared.inbox.Pipe.{Pipe}
use Rattle.world_core.specs.declared.schedule.Event.TheVariants as schedule
use Rattle.world_core.specs.World.{Gives, called}
use Rattle.world_core.specs.Views.{IsAt, plain_world}
use Rattle.world_core.specs.Steps.{LinkAt, view_of}
use Rattle.world_core.proofs.Places.{is_below}
use Rattle.world_core.proofs.RouterAnswers.{has_room, enters}
use Rattle.world_core.proofs.Staying.{stands_here, link_placed, peer_placed}
use Rattle.world_core.proofs.Stepping.{by_router, stands, whole_router, own_asks}
use Rattle.world_core.proofs.Moving.{PipeAt, put_steps, take_steps, whole_pipe}
use Rattle.world_core.proofs.state.State.step_at.Goals.{In-Put, In-Take, In-Handle}
use Rattle.world_core.proofs.state.State.step_at.Goals as goal

pub ask_at-requires : goal.ask_at-requires
ask_at-requires c =
    let at = rw c.in-Command.is at c.requires.placed in
    stands_here (view_of c.args.self.now) c.in-Command.number c.args.router_at c.requires.whole at.0

pub returns-in-Command : goal.returns-in-Command
returns-in-Command c =
    let left = rw c.in-Command.is at c.ask_at.ensures in
    rw c.in-Command.is left

pub ask_at-requires-in-Tick : goal.ask_at-requires-in-Tick
ask_at-requires-in-Tick c =
    let at = rw c.in-Tick.is at c.requires.placed in
    stands_here (view_of c.args.self.now) c.in-Tick.number c.args.router_at c.requires.whole at.0

pub returns-in-Tick : goal.returns-in-Tick
returns-in-Tick c =
    let left = rw c.in-Tick.is at c.ask_at-in-Tick.ensures in
    rw c.in-Tick.is left

pub ask_at-requires-in-Decide : goal.ask_at-requires-in-Decide
ask_at-requires-in-Decide c =
    let at = rw c.in-Decide.is at c.requires.placed in
    stands_here (view_of c.args.self.now) c.in-Decide.number c.args.router_at c.requires.whole at.0

pub returns-in-Decide : goal.returns-in-Decide
returns-in-Decide c =
    let left = rw c.in-Decide.is at c.ask_at-in-Decide.ensures in
    rw c.in-Decide.is left

pub ask_at-requires-in-Advertise : goal.ask_at-requires-in-Advertise
ask_at-requires-in-Advertise c =
    let at = rw c.in-Advertise.is at c.requires.placed in
    stands_here (view_of c.args.self.now) c.in-Advertise.number c.args.router_at c.requires.whole at.0

pub returns-in-Advertise : goal.returns-in-Advertise
returns-in-Advertise c =
    let left = rw c.in-Advertise.is at c.ask_at-in-Advertise.ensures in
    rw c.in-Advertise.is left

pub offer_at-requires : goal.offer_at-requires
offer_at-requires c =
    let at = rw c.in-Offer.is at c.requires.placed in
    stands_here (view_of c.args.self.now) c.in-Offer.number c.args.router_at c.requires.whole at.0

pub returns-in-Offer : goal.returns-in-Offer
returns-in-Offer c = rw c.in-Offer.is c.offer_at.ensures

-- the pipe from the peer stands at its place
put_link : (c : In-Put) → LinkAt (view_of c.args.self.now) c.in-Put.number c.in-Put.peer c.args.router_at c.args.pipe
put_link c =
    let at = rw c.in-Put.is at c.requires.placed in
    link_placed c.linked_routers_are_peers.ensures (view_of c.args.self.now) c.in-Put.number c.in-Put.peer c.args.router_at c.args.pipe c.requires.whole at

take_link : (c : In-Take) → LinkAt (view_of c.args.self.now) c.in-Take.field-0 c.in-Take.peer c.args.router_at c.args.pipe
take_link c =
    let at = rw c.in-Take.is at c.requires.placed in
    link_placed c.linked_routers_are_peers.ensures (view_of c.args.self.now) c.in-Take.field-0 c.in-Take.peer c.args.router_at c.args.pipe c.requires.whole at

handle_link : (c : In-Handle) → LinkAt (view_of c.args.self.now) c.in-Handle.field-0 c.in-Handle.peer c.args.router_at c.args.pipe
handle_link c =
    let at = rw c.in-Handle.is at c.requires.placed in
    link_placed c.linked_routers_are_peers.ensures (view_of c.args.self.now) c.in-Handle.field-0 c.in-Handle.peer c.args.router_at c.args.pipe c.requires.whole at

pub back_at-to-requires : goal.back_at-to-requires
back_at-to-requires c = put_link (goal.at.back_at-to-requires c).In-Put

pub index_mut-requires : goal.index_mut-requires
index_mut-requires c =
    let inside = is_below (λ b. b.router) c.args.self.now.inboxes.items c.in-Put.peer c.back_at-to.result.0 c.back_at-to.ensures.here.inbox in
    search rules

pub index_mut-requires-in-Put : goal.index_mut-requires-in-Put
index_mut-requires-in-Put c =
    let at = subst (λ (i : Inbox). IsAt (λ p. p.peer) i.pipes.items c.in-Put.number c.back_at-to.result.1) (sym c.index_mut.ensures.value) (c.back_at-to.ensures.pipe c.index_mut.result.now) in
    let inside = is_below (λ p. p.peer) c.index_mut.result.now.pipes.items c.in-Put.number c.back_at-to.result.1 at in
    search rules

pub index_mut-router-requires : goal.index_mut-router-requires
index_mut-router-requires c =
    let link = put_link (goal.at.index_mut-router-requires c).In-Put in
    let inside = is_below (λ r. r.number) c.args.self.now.routers.items c.in-Put.number c.args.router_at link.here.router in
    search rules

pub enter_put-requires : goal.enter_put-requires
enter_put-requires c = peer_placed (view_of c.args.self.now) c.in-Put.number c.in-Put.peer c.args.router_at c.args.pipe c.index_mut-router.result.now (put_link (goal.at.enter_put-requires c).In-Put) c.index_mut-router.ensures.value

pub returns-in-Put : goal.returns-in-Put
returns-in-Put c =
    let x = view_of c.args.self.now in
    let u = c.in-Put.number in
    let v = c.in-Put.peer in
    let to = c.back_at-to.result.0 in
    let into = c.back_at-to.result.1 in
    let xr = c.index_mut-router.result.now in
    let y = c.enter_put.new.router in
    let run = c.enter_put.new.run.items in
    let old = c.index_mut.result.now in
    let p = c.index_mut-in-Put.result.now in
    let q : Pipe = record { peer = p.peer; router = p.router; back = p.back; items = c.enter_put.new.pipe } in
    let new : Inbox = record { router = old.router; pipes = with_item old.pipes into q } in
    let here = (put_link (goal.at.returns-in-Put c).In-Put).here in
    let pipe : PipeAt x v u to into old new p q = record { link = c.back_at-to.ensures; was = c.index_mut.ensures.value; held = c.index_mut-in-Put.ensures.value; router = refl; pipes = refl; peer = refl; back = λ net u h. h } in
    let s = stands x u c.args.router_at xr here c.index_mut-router.ensures.value in
    let entered = rw c.in-Put.is at c.enter_put.ensures.enters in
    rw c.in-Put.is (record {
      answers = put_steps c.answers_are_steps.ensures x u v c.args.router_at to into xr y old new p q run c.enter_put.result here pipe c.index_mut-router.ensures.value entered c.enter_put.ensures.same;
      whole = whole_pipe x v u u c.args.router_at to into y old new p q run here pipe (c.enter_put.ensures.same.number ∙ s.0) (c.enter_put.ensures.same.net ∙ s.1);
      same = refl;
    })

pub index_mut-requires-in-Take : goal.index_mut-requires-in-Take
index_mut-requires-in-Take c =
    let link = take_link (goal.at.index_mut-requires-in-Take c).In-Take in
    let inside = is_below (λ b. b.router) c.args.self.now.inboxes.items c.in-Take.field-0 c.args.router_at link.here.inbox in
    search rules

pub index_mut-requires-in-Take-2 : goal.index_mut-requires-in-Take-2
index_mut-requires-in-Take-2 c =
    let link = take_link (goal.at.index_mut-requires-in-Take-2 c).In-Take in
    let at = subst (λ (i : Inbox). IsAt (λ p. p.peer) i.pipes.items c.in-Take.peer c.args.pipe) (sym c.index_mut-in-Take.ensures.value) (link.pipe c.index_mut-in-Take.result.now) in
    let inside = is_below (λ p. p.peer) c.index_mut-in-Take.result.now.pipes.items c.in-Take.peer c.args.pipe at in
    search rules

pub index_mut-router-requires-in-Take : goal.index_mut-router-requires-in-Take
index_mut-router-requires-in-Take c =
    let link = take_link (goal.at.index_mut-router-requires-in-Take c).In-Take in
    let inside = is_below (λ r. r.number) c.args.self.now.routers.items c.in-Take.field-0 c.args.router_at link.here.router in
    search rules

pub enter_take-requires : goal.enter_take-requires
enter_take-requires c =
    peer_placed (view_of c.args.self.now) c.in-Take.field-0 c.in-Take.peer c.args.router_at c.args.pipe c.index_mut-router-in-Take.result.now (take_link (goal.at.enter_take-requires c).In-Take) c.index_mut-router-in-Take.ensures.value

pub returns-in-Take : goal.returns-in-Take
returns-in-Take c =
    let x = view_of c.args.self.now in
    let u = c.in-Take.field-0 in
    let v = c.in-Take.peer in
    let i = c.args.router_at in
    let k = c.args.pipe in
    let xr = c.index_mut-router-in-Take.result.now in
    let y = c.enter_take.new.router in
    let run = c.enter_take.new.run.items in
    let old = c.index_mut-in-Take.result.now in
    let p = c.index_mut-in-Take-2.result.now in
    let q : Pipe = record { peer = p.peer; router = p.router; back = p.back; items = c.enter_take.new.pipe } in
    let new : Inbox = record { router = old.router; pipes = with_item old.pipes k q } in
    let link = take_link (goal.at.returns-in-Take c).In-Take in
    let pipe : PipeAt x u v i k old new p q = record { link = link; was = c.index_mut-in-Take.ensures.value; held = c.index_mut-in-Take-2.ensures.value; router = refl; pipes = refl; peer = refl; back = λ net u h. h } in
    let s = stands x u i xr link.here c.index_mut-router-in-Take.ensures.value in
    let entered = rw c.in-Take.is at c.enter_take.ensures.enters in
    rw c.in-Take.is (record {
      answers = take_steps c.answers_are_steps.ensures x u v i k xr y old new p q run c.enter_take.result pipe c.index_mut-router-in-Take.ensures.value entered c.enter_take.ensures.same;
      whole = whole_pipe x u v u i i k y old new p q run link.here pipe (c.enter_take.ensures.same.number ∙ s.0) (c.enter_take.ensures.same.net ∙ s.1);
      same = refl;
    })

pub index_mut-requires-in-Handle : goal.index_mut-requires-in-Handle
index_mut-requires-in-Handle c =
    let link = handle_link (goal.at.index_mut-requires-in-Handle c).In-Handle in
    let inside = is_below (λ r. r.number) c.args.self.now.routers.items c.in-Handle.field-0 c.args.router_at link.here.router in
    search rules

pub handle_at-called-requires : goal.handle_at-called-requires
handle_at-called-requires c = record { stands = peer_placed (view_of c.args.self.now) c.in-Handle.field-0 c.in-Handle.peer c.args.router_at c.args.pipe c.index_mut-in-Handle.result.now (handle_link (goal.at.handle_at-called-requires c).In-Handle) c.index_mut-in-Handle.ensures.value }

pub log_answer-requires : goal.log_answer-requires
log_answer-requires c = λ did.
    let fits : vec_len c.reserve-room.new.self + 1 ≤ vec_capacity c.reserve-room.new.self = has_room c.handle_at-called.result c.reserve-room.result _ c.handle_at-called.ensures.full c.reserve-room.ensures.ok did in
    omega (arith, fits)

pub returns-in-Handle : goal.returns-in-Handle
returns-in-Handle c =
    let x = view_of c.args.self.now in
    let u = c.in-Handle.field-0 in
    let xr = c.index_mut-in-Handle.result.now in
    let y = c.handle_at-called.new.self in
    let run = c.log_answer.new.run.items in
    let r = c.log_answer.result in
    let event = schedule.Handle u c.in-Handle.peer in
    let call = Handle c.in-Handle.peer in
    let w = plain_world x in
    let z = plain_world (record x { routers = set x.routers c.args.router_at y; run = run }) in
    let link = handle_link (goal.at.returns-in-Handle c).In-Handle in
    let s = stands x u c.args.router_at xr link.here c.index_mut-in-Handle.ensures.value in
    let logged = rw c.in-Handle.is at c.log_answer.ensures.run in
    let asks = own_asks c.answers_are_steps.ensures x u c.args.router_at xr y event call run r link.here c.index_mut-in-Handle.ensures.value tt
    (enters xr y x.run run c.reserve-room.new.self.items event call c.handle_at-called.result r c.handle_at-called.ensures.answers c.log_answer.ensures.answer logged c.reserve-room.ensures.items) c.handle_at-called.ensures.same in
    rw c.in-Handle.is (record {
      answers = λ g e ranks. (let a = called g w u call in subst (λ b. Gives g r b w event z) (by_router g u a (link.here.known g e) ∙ sym (link.linked g e a)) (asks g e ranks));
      whole = whole_router x u c.args.router_at y run link.here (c.handle_at-called.ensures.same.number ∙ s.0) (c.handle_at-called.ensures.same.net ∙ s.1);
      same = refl;
    })
