use Rattle.std.proofs.Common.{◌≡◌, ◌≤◌, [], ap, sym, refl, arith, length, subst, List}
use Rattle.outbox.specs.declared.item.Item.{Item}
use Rattle.ruled_pipe.specs.Ends.{End}
use Rattle.net_workers.specs.Lanes.{put_of, room_of}
use Rattle.net_workers.proofs.Lanes.{Here, has_here, missing, kept, same_wiring}
use Rattle.net_workers.proofs.worker_pipes.WorkerPipesPipes.is_full.Goals as goal

pub returns-in_default-clause-full : goal.returns-in_default-clause-full
returns-in_default-clause-full c =
    let none : room_of c.args.self.now.pairs.items c.args.peer ≡ 0 = missing (λ l. l.out.room) 0 c.args.self.now.pairs.items c.args.peer c.in_default.ensures in
    λ full. omega (arith, none)

pub returns-clause-full : goal.returns-clause-full
returns-clause-full c =
    let old = c.index_mut.result.now in
    let here : Here c.args.self.now.pairs.items c.args.peer c.in-Some.at old = record { at = c.in-Some.ensures.1; is = c.index_mut.ensures.value } in
    let room = has_here (λ l. l.out.room) 0 c.args.self.now.pairs.items c.args.peer c.in-Some.at old here in
    let put = has_here (λ l. l.out.items) [] c.args.self.now.pairs.items c.args.peer c.in-Some.at old here in
    λ is. subst (λ n. n ≤ length (put_of c.args.self.now.pairs.items c.args.peer)) (sym room) (subst (λ (xs : List Item). old.out.room ≤ length xs) (sym put) (c.is_full.ensures.full is))

pub returns-clause-put : goal.returns-clause-put
returns-clause-put c =
    let old = c.index_mut.result.now in
    let here : Here c.args.self.now.pairs.items c.args.peer c.in-Some.at old = record { at = c.in-Some.ensures.1; is = c.index_mut.ensures.value } in
    kept (λ l. l.out.items) [] c.args.self.now.pairs.items c.args.peer c.in-Some.at _ old here refl (ap (λ (e : End Item). e.items) c.is_full.ensures.same)

pub returns-clause-taken : goal.returns-clause-taken
returns-clause-taken c =
    let old = c.index_mut.result.now in
    let here : Here c.args.self.now.pairs.items c.args.peer c.in-Some.at old = record { at = c.in-Some.ensures.1; is = c.index_mut.ensures.value } in
    kept (λ l. l.into.items) [] c.args.self.now.pairs.items c.args.peer c.in-Some.at _ old here refl refl

pub returns-clause-room : goal.returns-clause-room
returns-clause-room c =
    let old = c.index_mut.result.now in
    let here : Here c.args.self.now.pairs.items c.args.peer c.in-Some.at old = record { at = c.in-Some.ensures.1; is = c.index_mut.ensures.value } in
    kept (λ l. l.out.room) 0 c.args.self.now.pairs.items c.args.peer c.in-Some.at _ old here refl (ap (λ (e : End Item). e.room) c.is_full.ensures.same)

pub returns-clause-wiring : goal.returns-clause-wiring
returns-clause-wiring c =
    let old = c.index_mut.result.now in
    let here : Here c.args.self.now.pairs.items c.args.peer c.in-Some.at old = record { at = c.in-Some.ensures.1; is = c.index_mut.ensures.value } in
    let same = c.is_full.ensures.same in
    same_wiring c.args.self.now.pairs.items c.args.self.now.order.items c.args.peer c.in-Some.at _ old here (λ i. record { peer = old.peer; out = (same i).pipe; room = (same i).room; into = old.into.pipe })
