use Rattle.std.proofs.Common.{◌-◌, ap, refl, subst, arith, List}
use Rattle.std.specs.Vec.{vec_len, vec_capacity}
use Rattle.bgp_codec.specs.declared.update.Update.{Update}
use Rattle.snap_marker.specs.declared.part.Channel.{Channel}
use Rattle.snap_marker.specs.Parts.{Seen, IsAt}
use Rattle.snap_marker.proofs.Copies.{seen_set}
use Rattle.snap_marker.proofs.Places.{has_changed}
use Rattle.snap_marker.proofs.links.reserve_update.Goals as goal

pub returns-in_err-reserve-clause-seen : goal.returns-in_err-reserve-clause-seen
returns-in_err-reserve-clause-seen c =
    let p = c.index_mut.result.now in
    seen_set c.args.channels.now.items c.in-Some.place p (record p { updates = c.reserve.new.self }) c.index_mut.ensures.value
    (ap (λ (us : List Update). let s : Seen = record { peer = p.peer; epoch = p.epoch; is_open = p.is_open; updates = us } in s) c.reserve.ensures.items)

pub returns-in_ok-reserve-clause-seen : goal.returns-in_ok-reserve-clause-seen
returns-in_ok-reserve-clause-seen c =
    let p = c.index_mut.result.now in
    seen_set c.args.channels.now.items c.in-Some.place p (record p { updates = c.reserve.new.self }) c.index_mut.ensures.value
    (ap (λ (us : List Update). let s : Seen = record { peer = p.peer; epoch = p.epoch; is_open = p.is_open; updates = us } in s) c.reserve.ensures.items)

pub returns-in_ok-reserve-clause-room : goal.returns-in_ok-reserve-clause-room
returns-in_ok-reserve-clause-room c = λ _.
    let p = c.index_mut.result.now in
    let q : Channel = record p { updates = c.reserve.new.self } in
    let at = subst (λ cs. IsAt cs c.args.peer c.in-Some.place) c.deref.ensures.value c.in-Some.ensures.1 in
    let room = has_changed 0 (λ x. vec_capacity x.updates - vec_len x.updates) c.args.channels.now.items c.args.peer c.in-Some.place p q at c.index_mut.ensures.value refl in
    omega (arith, room, c.in_ok-reserve.ensures.ok)
