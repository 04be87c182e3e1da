use Rattle.std.proofs.Common.{◌∙◌, ap, sym, refl, ◌++◌, ◌∷◌, [], ℕ, ◌+◌, Some}
use Rattle.router_model.specs.declared.refusal.RouterError.TheVariants as error
use Rattle.world_core.specs.declared.schedule.Event.TheVariants.{Put}
use Rattle.worker_loop.specs.Whole.{entry}
use Rattle.worker_loop.proofs.Ending.{put_ends, put_wants, err_so, ok_so}
use Rattle.worker_loop.proofs.Trying.{put_none, put_barred, put_full, put_wanting, put_did, if_passed}
use Rattle.worker_loop.proofs.worker.Worker.try_put.Goals.{in-Ok, in-Err-put}
use Rattle.worker_loop.proofs.worker.Worker.try_put.Goals as goal

pub returns-in-Ok-None-clause-done : goal.returns-in-Ok-None-clause-done
returns-in-Ok-None-clause-done g c =
    let shows = rw c.in-Ok-None.field-0-is at c.in-Ok-None.ensures in
    λ k net set. put_none k c.args.self.now.router.number c.args.peer _ _ _ (shows k net) refl (record { put = refl; taken = refl; room = refl; made = refl }) refl

pub returns-in-Err-clause-done : goal.returns-in-Err-clause-done
returns-in-Err-clause-done g c =
    rw c.passed_over.ensures
    (if_passed c.in-Err.error _ (λ pass k net set. put_barred k c.args.self.now.router.number c.args.peer (c.args.self.now.router.stamp + 1) _ _ c.in-Err.error (c.in-Err.ensures k net) pass
    refl (record { put = refl; taken = refl; room = refl; made = refl }) refl))

pub returns-clause-done : goal.returns-clause-done
returns-clause-done g c =
    let u = c.args.self.now.router.number in
    let shows = rw c.in-Ok-Some.field-0-is at c.in-Ok-Some.ensures in
    elim c.match-put.branch [
      | in-Ok w ↦ rw (w.result-is, w.self-is)
          (λ k net set. put_did k u c.args.peer _ _ c.in-Ok-Some.item c.answers_are_steps.ensures set (w.item_put_at.ensures.answers k net set.chooses) (shows k net)
          w.in-Ok.ensures.ok c.put.ensures.taken c.put.ensures.room refl
          (w.note.ensures ∙ ap (λ l. l ++ entry w.stamp.result (Put w.number.result c.args.peer) ∷ []) c.reserve.ensures.items
          ∙ ap (λ (n : ℕ). c.args.self.now.journal.events.items ++ entry n (Put w.number.result c.args.peer) ∷ []) w.stamp.ensures
          ∙ ap (λ (n : ℕ). c.args.self.now.journal.events.items ++ entry w.item_put_at.new.self.stamp (Put n c.args.peer) ∷ []) (w.number.ensures ∙ w.item_put_at.ensures.same.number)))
      | in-Err-put w ↦ rw (w.result-is, w.self-is)
          (λ k net set. put_full k u c.args.peer _ _ _ c.in-Ok-Some.item (shows k net) w.in-Err-put.ensures.full
          refl (record { put = w.in-Err-put.ensures.err; taken = c.put.ensures.taken; room = c.put.ensures.room; made = refl }) c.reserve.ensures.items)
    ]

pub returns-in-Err-clause-ended : goal.returns-in-Err-clause-ended
returns-in-Err-clause-ended g c = rw c.passed_over.ensures (put_ends c.args.self.now.router c.args.peer c.in-Err.error c.in-Err.ensures)

-- memory was wanting: nothing is put where the line is full
pub returns-in-Err-Memory-clause-done : goal.returns-in-Err-Memory-clause-done
returns-in-Err-Memory-clause-done g c =
    let shows = rw c.in-Err-Memory.field-0-is at c.in-Err-Memory.ensures in
    ok_so c.full_or_ended.result _ _
    (λ done full k net set. put_wanting k c.args.self.now.router.number c.args.peer (c.args.self.now.router.stamp + 1) _ _ (shows k net) full
    refl (record { put = c.full_or_ended.ensures.put; taken = c.full_or_ended.ensures.taken; room = c.full_or_ended.ensures.room; made = refl }) refl)
    c.full_or_ended.ensures.full

pub returns-in-Err-Memory-clause-ended : goal.returns-in-Err-Memory-clause-ended
returns-in-Err-Memory-clause-ended g c =
    let shows = rw c.in-Err-Memory.field-0-is at c.in-Err-Memory.ensures in
    err_so c.full_or_ended.result _ _ (λ why is k net set. put_ends c.args.self.now.router c.args.peer error.Memory shows k net set ∙ ap Some (sym is)) c.full_or_ended.ensures.memory

pub returns-then-is_err-clause-done : goal.returns-then-is_err-clause-done
returns-then-is_err-clause-done g c =
    let shows = rw c.in-Ok-Some.field-0-is at c.in-Ok-Some.ensures in
    ok_so c.full_or_ended-then-is_err.result _ _
    (λ done full k net set. put_full k c.args.self.now.router.number c.args.peer _ _ _ c.in-Ok-Some.item (shows k net) full
    refl (record { put = c.full_or_ended-then-is_err.ensures.put; taken = c.full_or_ended-then-is_err.ensures.taken; room = c.full_or_ended-then-is_err.ensures.room; made = refl }) c.reserve.ensures.items)
    c.full_or_ended-then-is_err.ensures.full

pub returns-then-is_err-clause-ended : goal.returns-then-is_err-clause-ended
returns-then-is_err-clause-ended g c =
    let shows = rw c.in-Ok-Some.field-0-is at c.in-Ok-Some.ensures in
    err_so c.full_or_ended-then-is_err.result _ _ (λ why is. put_wants c.args.self.now.router c.args.peer c.in-Ok-Some.item why shows is) c.full_or_ended-then-is_err.ensures.memory
