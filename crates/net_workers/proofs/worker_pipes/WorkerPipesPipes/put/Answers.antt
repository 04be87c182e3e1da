use Rattle.std.proofs.Common.{◌≡◌, ◌≤◌, [], ap, sym, refl, arith, length, subst, List}
use Rattle.outbox.specs.declared.item.Item.{Item}
use Rattle.ruled_pipe.specs.Ends.{End}
use Rattle.net_workers.specs.Lanes.{put_of, room_of}
use Rattle.net_workers.proofs.Lanes.{Here, has_here, missing, kept, grows, same_wiring, on_ok, on_err, same_pipe}
use Rattle.net_workers.proofs.worker_pipes.WorkerPipesPipes.put.Goals as goal

pub returns-in_default-clause-full : goal.returns-in_default-clause-full
returns-in_default-clause-full g c =
    let none : room_of c.args.self.now.pairs.items c.args.peer ≡ 0 = missing (λ l. l.out.room) 0 c.args.self.now.pairs.items c.args.peer c.in_default.ensures in
    omega (arith, none)

pub returns-clause-ok : goal.returns-clause-ok
returns-clause-ok g c =
    let old = c.index_mut.result.now in
    let here : Here c.args.self.now.pairs.items c.args.peer c.in-Some.at old = record { at = c.in-Some.ensures.1; is = c.index_mut.ensures.value } in
    on_ok c.put.result _ _ (λ h. grows (λ l. l.out.items) c.args.self.now.pairs.items c.args.peer c.in-Some.at _ old c.args.item here refl (ap (λ (e : End Item). e.items) h)) c.put.ensures.ok

pub returns-clause-err : goal.returns-clause-err
returns-clause-err g c =
    let old = c.index_mut.result.now in
    let here : Here c.args.self.now.pairs.items c.args.peer c.in-Some.at old = record { at = c.in-Some.ensures.1; is = c.index_mut.ensures.value } in
    on_err c.put.result _ _ (λ h. kept (λ l. l.out.items) [] c.args.self.now.pairs.items c.args.peer c.in-Some.at _ old here refl (ap (λ (e : End Item). e.items) h)) c.put.ensures.err

pub returns-clause-full : goal.returns-clause-full
returns-clause-full g c =
    let old = c.index_mut.result.now in
    let here : Here c.args.self.now.pairs.items c.args.peer c.in-Some.at old = record { at = c.in-Some.ensures.1; is = c.index_mut.ensures.value } in
    let room = has_here (λ l. l.out.room) 0 c.args.self.now.pairs.items c.args.peer c.in-Some.at old here in
    let put = has_here (λ l. l.out.items) [] c.args.self.now.pairs.items c.args.peer c.in-Some.at old here in
    on_err c.put.result _ _ (λ full. subst (λ n. n ≤ length (put_of c.args.self.now.pairs.items c.args.peer)) (sym room) (subst (λ (xs : List Item). old.out.room ≤ length xs) (sym put) full)) c.put.ensures.full

pub returns-clause-taken : goal.returns-clause-taken
returns-clause-taken g c =
    let old = c.index_mut.result.now in
    let here : Here c.args.self.now.pairs.items c.args.peer c.in-Some.at old = record { at = c.in-Some.ensures.1; is = c.index_mut.ensures.value } in
    kept (λ l. l.into.items) [] c.args.self.now.pairs.items c.args.peer c.in-Some.at _ old here refl refl

pub returns-clause-room : goal.returns-clause-room
returns-clause-room g c =
    let old = c.index_mut.result.now in
    let here : Here c.args.self.now.pairs.items c.args.peer c.in-Some.at old = record { at = c.in-Some.ensures.1; is = c.index_mut.ensures.value } in
    kept (λ l. l.out.room) 0 c.args.self.now.pairs.items c.args.peer c.in-Some.at _ old here refl (same_pipe c.put.result old.out c.put.new.self c.args.item c.put.ensures.ok c.put.ensures.err).1

pub returns-clause-wiring : goal.returns-clause-wiring
returns-clause-wiring g c =
    let old = c.index_mut.result.now in
    let here : Here c.args.self.now.pairs.items c.args.peer c.in-Some.at old = record { at = c.in-Some.ensures.1; is = c.index_mut.ensures.value } in
    let same = same_pipe c.put.result old.out c.put.new.self c.args.item c.put.ensures.ok c.put.ensures.err in
    same_wiring c.args.self.now.pairs.items c.args.self.now.order.items c.args.peer c.in-Some.at _ old here (λ i. record { peer = old.peer; out = same.0 i; room = same.1 i; into = old.into.pipe })
