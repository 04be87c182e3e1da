use Rattle.std.proofs.Common.{◌≡◌, ◌∙◌, ap, refl, sym, subst, false, cond, map, Option, Some, None}
use Rattle.snap_marker.specs.declared.part.Part.{Part}
use Rattle.snap_marker.specs.Parts.{MarkView, recording_in, recording_of, offer_of, IsCopy, IsOver}
use Rattle.snap_marker.specs.Recordings.{Recording}
use Rattle.snap_marker.proofs.Copies.{alike, peers_alike, copies_record_the_same}
use Rattle.snap_marker.proofs.mark_state.MarkState.copy_update.Goals as goal

-- making room closes no channel
pub returns-clause-copy : goal.returns-clause-copy
returns-clause-copy c =
    c.in_ok-copy.ensures.copy
    ∙ ap (λ f. cond (f c.args.peer) (Some c.args.update.now) None) (sym (alike false (λ x. x.is_open) c.copy_update-copy.new.channels.items c.in-Some.part.channels.items c.in_ok-copy.ensures.seen))

pub returns-clause-state : goal.returns-clause-state
returns-clause-state c =
    let x = c.args.self.now in
    let p = c.in-Some.part in
    let q : Part = record p { channels = c.copy_update-copy.new.channels } in
    let was : x.unfinished ≡ Some p = sym (ap (λ (y : MarkView). y.unfinished) c.self.view_is) ∙ sym c.in-Some.ensures.value in
    let copy : IsCopy q p = record { router = refl; number = refl; kept = refl; originated = refl; pending = refl; channels = c.copy_update-copy.ensures.seen } in
    let same : Some (recording_of q) ≡ recording_in x.unfinished = ap Some (copies_record_the_same q p copy) ∙ ap recording_in (sym was) in
    ap (λ (r : Option Recording). record { last = c.self.inside.last; unfinished = r; queue = map offer_of c.self.inside.queue.items }) same
    ∙ ap (λ (y : MarkView). record { last = y.last; unfinished = recording_in x.unfinished; queue = map offer_of y.queue }) c.self.view_is

pub returns-in_err-copy-clause-state : goal.returns-in_err-copy-clause-state
returns-in_err-copy-clause-state c =
    let x = c.args.self.now in
    let p = c.in-Some.part in
    let q : Part = record p { channels = c.copy_update-copy.new.channels } in
    let was : x.unfinished ≡ Some p = sym (ap (λ (y : MarkView). y.unfinished) c.self.view_is) ∙ sym c.in-Some.ensures.value in
    let copy : IsCopy q p = record { router = refl; number = refl; kept = refl; originated = refl; pending = refl; channels = c.copy_update-copy.ensures.seen } in
    let same : Some (recording_of q) ≡ recording_in x.unfinished = ap Some (copies_record_the_same q p copy) ∙ ap recording_in (sym was) in
    ap (λ (r : Option Recording). record { last = c.self.inside.last; unfinished = r; queue = map offer_of c.self.inside.queue.items }) same
    ∙ ap (λ (y : MarkView). record { last = y.last; unfinished = recording_in x.unfinished; queue = map offer_of y.queue }) c.self.view_is

pub returns-clause-over : goal.returns-clause-over
returns-clause-over c = λ peers over.
    let was : c.args.self.now.unfinished ≡ Some c.in-Some.part = sym (ap (λ (y : MarkView). y.unfinished) c.self.view_is) ∙ sym c.in-Some.ensures.value in
    peers_alike c.copy_update-copy.new.channels.items c.in-Some.part.channels.items c.copy_update-copy.ensures.seen ∙ subst (IsOver peers) was over

pub returns-in_err-copy-clause-over : goal.returns-in_err-copy-clause-over
returns-in_err-copy-clause-over c = λ peers over.
    let was : c.args.self.now.unfinished ≡ Some c.in-Some.part = sym (ap (λ (y : MarkView). y.unfinished) c.self.view_is) ∙ sym c.in-Some.ensures.value in
    peers_alike c.copy_update-copy.new.channels.items c.in-Some.part.channels.items c.copy_update-copy.ensures.seen ∙ subst (IsOver peers) was over
