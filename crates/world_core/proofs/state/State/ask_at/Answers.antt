use Rattle.std.proofs.Common.{◌∙◌, ◌+◌, ◌≤◌, arith, vec_len, vec_capacity, refl, rules}
use Rattle.router_core.specs.Calling.{call_of}
use Rattle.world_core.specs.Steps.{view_of}
use Rattle.world_core.proofs.Places.{is_below}
use Rattle.world_core.proofs.RouterAnswers.{has_room, enters}
use Rattle.world_core.proofs.Stepping.{stands, whole_router, is_own, own_asks}
use Rattle.world_core.proofs.state.State.ask_at.Goals as goal

pub index_mut-requires : goal.index_mut-requires
index_mut-requires c =
    let inside = is_below (λ r. r.number) c.args.self.now.routers.items c.args.number c.args.router_at c.requires.router in
    search rules

pub log_answer-requires : goal.log_answer-requires
log_answer-requires c = λ did.
    let fits : vec_len c.reserve-room.new.self + 1 ≤ vec_capacity c.reserve-room.new.self = has_room c.perform-called.result c.reserve-room.result _ c.perform-called.ensures.full c.reserve-room.ensures.ok did in
    omega (arith, fits)

pub returns : goal.returns
returns c =
    let x = view_of c.args.self.now in
    let xr = c.index_mut.result.now in
    let y = c.perform-called.new.self in
    let run = c.log_answer.new.run.items in
    let call = call_of c.args.call.now in
    let s = stands x c.args.number c.args.router_at xr c.requires c.index_mut.ensures.value in
    record {
      answers = own_asks c.answers_are_steps.ensures x c.args.number c.args.router_at xr y c.args.event.now call run c.log_answer.result c.requires c.index_mut.ensures.value (is_own c.args.call.now)
          (enters xr y x.run run c.reserve-room.new.self.items c.args.event.now call c.perform-called.result c.log_answer.result c.perform-called.ensures.answers c.log_answer.ensures.answer c.log_answer.ensures.run c.reserve-room.ensures.items) c.perform-called.ensures.same;
      whole = whole_router x c.args.number c.args.router_at y run c.requires (c.perform-called.ensures.same.number ∙ s.0) (c.perform-called.ensures.same.net ∙ s.1);
      same = refl;
    }
