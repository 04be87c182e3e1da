use Rattle.std.proofs.Common.{◌∙◌, ◌+◌, ◌≤◌, arith, vec_len, vec_capacity, ap, refl, ◌++◌, ◌∷◌, [], ℕ}
use Rattle.router_core.specs.Calling.{call_of}
use Rattle.worker_loop.specs.Whole.{entry}
use Rattle.worker_loop.proofs.Ending.{with_room, call_ends}
use Rattle.worker_loop.proofs.Trying.{call_did, call_nothing, call_refused, if_passed}
use Rattle.worker_loop.proofs.worker.Worker.try_call.Goals as goal

pub note-requires : goal.note-requires
note-requires g c =
    let full = rw c.in-Ok-Did.field-0-is at c.in-Ok-Did.ensures.full in
    let fits : vec_len c.reserve-room.new.self + 1 ≤ vec_capacity c.reserve-room.new.self = with_room c.reserve-room.result _ full c.reserve-room.ensures.ok in
    omega (arith, fits)

pub returns-in-Ok-Did-clause-done : goal.returns-in-Ok-Did-clause-done
returns-in-Ok-Did-clause-done g c =
    let gives = rw c.in-Ok-Did.field-0-is at c.in-Ok-Did.ensures.answers in
    λ k net set. call_did k c.args.self.now.router.number c.args.call.now _ _ c.args.event c.answers_are_steps.ensures set (gives k net set.chooses)
    (record { put = refl; taken = refl; room = refl; made = refl }) c.requires.named
    (c.note.ensures ∙ ap (λ l. l ++ entry c.stamp.result c.args.event ∷ []) c.reserve-room.ensures.items
    ∙ ap (λ (n : ℕ). c.args.self.now.journal.events.items ++ entry n c.args.event ∷ []) c.stamp.ensures)

pub returns-in-Ok-Nothing-clause-done : goal.returns-in-Ok-Nothing-clause-done
returns-in-Ok-Nothing-clause-done g c =
    let gives = rw c.in-Ok-Nothing.field-0-is at c.in-Ok-Nothing.ensures.answers in
    λ k net set. call_nothing k c.args.self.now.router.number (call_of c.args.call.now) _ _ (gives k net set.chooses)
    (record { put = refl; taken = refl; room = refl; made = refl }) c.reserve-room.ensures.items

pub returns-in-Err-clause-done : goal.returns-in-Err-clause-done
returns-in-Err-clause-done g c =
    rw c.passed_over.ensures
    (if_passed c.in-Err.error _ (λ pass k net set. call_refused k c.args.self.now.router.number (call_of c.args.call.now) _ _ c.in-Err.error
    (c.in-Err.ensures.answers k net set.chooses) pass (record { put = refl; taken = refl; room = refl; made = refl }) c.reserve-room.ensures.items))

pub returns-in-Err-clause-ended : goal.returns-in-Err-clause-ended
returns-in-Err-clause-ended g c =
    rw c.passed_over.ensures (call_ends c.args.self.now.router c.perform.new.self (call_of c.args.call.now) c.in-Err.error c.in-Err.ensures.answers c.perform.ensures.same)
