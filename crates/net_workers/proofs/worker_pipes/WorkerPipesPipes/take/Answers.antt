use Rattle.std.proofs.Common.{[], ap, refl}
use Rattle.outbox.specs.declared.item.Item.{Item}
use Rattle.ruled_pipe.specs.Ends.{End}
use Rattle.net_workers.proofs.Lanes.{Here, kept, grows, same_wiring, on_some, same_pipe_taken}
use Rattle.net_workers.proofs.worker_pipes.WorkerPipesPipes.take.Goals as goal

pub returns-clause-taken : goal.returns-clause-taken
returns-clause-taken g c =
    let old = c.index_mut.result.now in
    let ls = c.args.self.now.pairs.items in
    let here : Here ls c.args.peer c.in_ok-at.at old = record { at = c.in_ok-at.ensures.1; is = c.index_mut.ensures.value } in
    on_some c.take.result _ _ _ _
    (λ h. kept (λ l. l.into.items) [] ls c.args.peer c.in_ok-at.at _ old here refl (ap (λ (e : End Item). e.items) h))
    (λ x h. grows (λ l. l.into.items) ls c.args.peer c.in_ok-at.at _ old x here refl (ap (λ (e : End Item). e.items) h)) c.take.ensures.taken

pub returns-clause-put : goal.returns-clause-put
returns-clause-put g c =
    let old = c.index_mut.result.now in
    let here : Here c.args.self.now.pairs.items c.args.peer c.in_ok-at.at old = record { at = c.in_ok-at.ensures.1; is = c.index_mut.ensures.value } in
    kept (λ l. l.out.items) [] c.args.self.now.pairs.items c.args.peer c.in_ok-at.at _ old here refl refl

pub returns-clause-room : goal.returns-clause-room
returns-clause-room g c =
    let old = c.index_mut.result.now in
    let here : Here c.args.self.now.pairs.items c.args.peer c.in_ok-at.at old = record { at = c.in_ok-at.ensures.1; is = c.index_mut.ensures.value } in
    kept (λ l. l.out.room) 0 c.args.self.now.pairs.items c.args.peer c.in_ok-at.at _ old here refl refl

pub returns-clause-wiring : goal.returns-clause-wiring
returns-clause-wiring g c =
    let old = c.index_mut.result.now in
    let here : Here c.args.self.now.pairs.items c.args.peer c.in_ok-at.at old = record { at = c.in_ok-at.ensures.1; is = c.index_mut.ensures.value } in
    let same = same_pipe_taken c.take.result old.into c.take.new.self c.take.ensures.taken in
    same_wiring c.args.self.now.pairs.items c.args.self.now.order.items c.args.peer c.in_ok-at.at _ old here (λ i. record { peer = old.peer; out = old.out.pipe; room = old.out.room; into = same i })
