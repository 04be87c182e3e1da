use Rattle.std.proofs.Common.{◌≡◌, ◌∙◌, ◌==◌, ap, refl, sym, subst, true, false, cond, Some, None}
use Rattle.std.proofs.lemmas.Bool.{eq-eqb}
use Rattle.snap_marker.specs.declared.part.Part.{Part}
use Rattle.snap_marker.specs.Parts.{MarkView, snapshots_of, recording_in, recording_of, peers_of, waits_for_marker, IsOver}
use Rattle.snap_marker.specs.Recordings.{Recording, goes_on, ends_channel}
use Rattle.snap_marker.proofs.Recorded.{ended}
use Rattle.snap_marker.proofs.mark_state.MarkState.on_mark.Goals as goal

pub returns-then-waits_for_marker-clause-ends : goal.returns-then-waits_for_marker-clause-ends
returns-then-waits_for_marker-clause-ends c = λ peers over.
    let x = c.args.self.now in
    let v = c.args.peer in
    let p = c.in-Some.part in
    let q : Part = record p { channels = c.close_channel.new.channels } in
    let was : x.unfinished ≡ Some p = sym (ap (λ (y : MarkView). y.unfinished) c.self.view_is) ∙ sym c.in-Some.ensures.value in
    let X = snapshots_of x in
    let on : Recording = record (recording_of p) { waits = λ y. cond (y == v) false (waits_for_marker p.channels.items y) } in
    let peers_are : peers_of q.channels.items ≡ peers = c.close_channel.ensures.peers ∙ subst (IsOver peers) was over in
    let on_is : recording_of q ≡ on = ended p q v refl c.close_channel.ensures.epochs c.close_channel.ensures.channels c.close_channel.ensures.waits in
    let waits : waits_for_marker p.channels.items v ≡ true = ap (λ cs. waits_for_marker cs v) (sym c.deref.ensures.value) ∙ sym c.waits_for_marker.ensures ∙ c.if-waits_for_marker.true in
    let number : (p.number == c.args.number) ≡ true = eq-eqb p.number c.args.number c.if-part-number.true in
    let ends : ends_channel peers v c.args.number (Some (recording_of p)) X ≡ goes_on peers on X = rw (number, waits) refl in
    let S : MarkView = record { last = c.self.inside.last; unfinished = None; queue = c.self.inside.queue.items; room = 0 } in
    c.go_on.ensures.goes_on
    ∙ ap (λ ps. goes_on ps (recording_of q) (snapshots_of S)) peers_are
    ∙ ap (λ r. goes_on peers r (snapshots_of S)) on_is
    ∙ ap (λ (y : MarkView). goes_on peers on (snapshots_of y)) c.self.view_is
    ∙ sym ends
    ∙ ap (λ o. ends_channel peers v c.args.number (recording_in o) X) (sym was)
