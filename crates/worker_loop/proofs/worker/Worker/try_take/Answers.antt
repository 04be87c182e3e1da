use Rattle.std.proofs.Common.{◌∙◌, sym, ◌+◌, ◌≤◌, arith, vec_len, vec_capacity, ap, refl, ◌++◌, ◌∷◌, [], ℕ}
use Rattle.world_core.specs.declared.schedule.Event.TheVariants.{Take}
use Rattle.worker_loop.specs.Whole.{entry}
use Rattle.worker_loop.proofs.Ending.{with_room, take_ends, taken_last}
use Rattle.worker_loop.proofs.Trying.{take_did}
use Rattle.worker_loop.proofs.worker.Worker.try_take.Goals as goal

pub note-requires : goal.note-requires
note-requires g c =
    let full = rw c.in-Ok-Did.field-0-is at c.in-Ok-Did.ensures.full in
    let fits : vec_len c.reserve-room.new.self + 1 ≤ vec_capacity c.reserve-room.new.self = with_room c.reserve-room.result _ full c.reserve-room.ensures.ok in
    omega (arith, fits)

pub returns-in-Ok-Did-clause-done : goal.returns-in-Ok-Did-clause-done
returns-in-Ok-Did-clause-done g c =
    let u = c.args.self.now.router.number in
    let gives = rw c.in-Ok-Did.field-0-is at c.in-Ok-Did.ensures.answers in
    λ k net set. take_did k u c.args.peer _ _ c.in-Some.item c.answers_are_steps.ensures set (gives k net set.chooses)
    c.in-Some.ensures.taken c.take.ensures.put c.take.ensures.room refl
    (c.note.ensures ∙ ap (λ l. l ++ entry c.stamp.result (Take c.number.result c.args.peer) ∷ []) c.reserve-room.ensures.items
    ∙ ap (λ (n : ℕ). c.args.self.now.journal.events.items ++ entry n (Take c.number.result c.args.peer) ∷ []) c.stamp.ensures
    ∙ ap (λ (n : ℕ). c.args.self.now.journal.events.items ++ entry c.take_at.new.self.stamp (Take n c.args.peer) ∷ []) (c.number.ensures ∙ c.take_at.ensures.same.number))

pub returns-clause-ended : goal.returns-clause-ended
returns-clause-ended g c =
    let x = c.args.self.now.router in
    let i = c.in-Some.item in
    record {
      item = i;
      before = g.L.Pipes.taken_from c.args.self.now.lines c.args.peer;
      taken = taken_last (g.L.Pipes.taken_from c.args.self.now.lines) (g.L.Pipes.taken_from c.take.new.self) c.args.peer i c.in-Some.ensures.taken;
      ends = rw c.lost.ensures
          (take_ends x c.take_at.new.self c.args.peer i c.in-Err.error _ (sym c.may_take_at.ensures ∙ c.if-not-may_take_at.false) (λ k. refl) c.in-Err.ensures.answers c.take_at.ensures.same);
    }
