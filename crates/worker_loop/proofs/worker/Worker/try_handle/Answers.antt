use Rattle.std.proofs.Common.{◌∙◌, ◌+◌, ◌≤◌, arith, vec_len, vec_capacity, ap, sym, refl, ◌++◌, ◌∷◌, [], ℕ}
use Rattle.router_core.specs.declared.router.call.Call.TheVariants as own
use Rattle.router_model.specs.Calls.{Handle}
use Rattle.world_core.specs.World.{name_of}
use Rattle.world_core.specs.declared.schedule.Event.TheVariants as event
use Rattle.worker_loop.specs.Whole.{entry}
use Rattle.worker_loop.proofs.Ending.{with_room, call_ends}
use Rattle.worker_loop.proofs.Trying.{call_did, call_nothing, call_refused, if_passed}
use Rattle.worker_loop.proofs.worker.Worker.try_handle.Goals as goal

pub note-requires : goal.note-requires
note-requires g c =
    let full = rw c.in-Ok-Did.field-0-is at c.in-Ok-Did.ensures.full in
    let fits : vec_len c.reserve-room.new.self + 1 ≤ vec_capacity c.reserve-room.new.self = with_room c.reserve-room.result _ full c.reserve-room.ensures.ok in
    omega (arith, fits)

pub returns-in-Ok-Did-clause-done : goal.returns-in-Ok-Did-clause-done
returns-in-Ok-Did-clause-done g c =
    let gives = rw c.in-Ok-Did.field-0-is at c.in-Ok-Did.ensures.answers in
    let u = c.args.self.now.router.number in
    let v = c.args.peer in
    λ k net set. call_did k u (own.Handle v) _ _ (event.Handle u v) c.answers_are_steps.ensures set (gives k net set.chooses)
    (record { put = refl; taken = refl; room = refl; made = refl }) (λ e is. ap (λ x. name_of u x) (sym is))
    (c.note.ensures ∙ ap (λ l. l ++ entry c.stamp.result (event.Handle c.number.result v) ∷ []) c.reserve-room.ensures.items
    ∙ ap (λ (n : ℕ). c.args.self.now.journal.events.items ++ entry n (event.Handle c.number.result v) ∷ []) c.stamp.ensures
    ∙ ap (λ (n : ℕ). c.args.self.now.journal.events.items ++ entry c.handle_at.new.self.stamp (event.Handle n v) ∷ []) (c.number.ensures ∙ c.handle_at.ensures.same.number))

pub returns-in-Ok-Nothing-clause-done : goal.returns-in-Ok-Nothing-clause-done
returns-in-Ok-Nothing-clause-done g c =
    let gives = rw c.in-Ok-Nothing.field-0-is at c.in-Ok-Nothing.ensures.answers in
    λ k net set. call_nothing k c.args.self.now.router.number (Handle c.args.peer) _ _ (gives k net set.chooses)
    (record { put = refl; taken = refl; room = refl; made = refl }) c.reserve-room.ensures.items

pub returns-in-Err-clause-done : goal.returns-in-Err-clause-done
returns-in-Err-clause-done g c =
    rw c.passed_over.ensures
    (if_passed c.in-Err.error _ (λ pass k net set. call_refused k c.args.self.now.router.number (Handle c.args.peer) _ _ c.in-Err.error
    (c.in-Err.ensures.answers k net set.chooses) pass (record { put = refl; taken = refl; room = refl; made = refl }) c.reserve-room.ensures.items))

pub returns-in-Err-clause-ended : goal.returns-in-Err-clause-ended
returns-in-Err-clause-ended g c =
    rw c.passed_over.ensures (call_ends c.args.self.now.router c.handle_at.new.self (Handle c.args.peer) c.in-Err.error c.in-Err.ensures.answers c.handle_at.ensures.same)
