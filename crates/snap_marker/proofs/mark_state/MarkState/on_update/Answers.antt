use Rattle.std.proofs.Common.{◌≡◌, ◌∙◌, ap, refl, sym, Option, Some, map}
use Rattle.snap_marker.specs.declared.part.Part.{Part}
use Rattle.std.proofs.lemmas.Option.{cond_some}
use Rattle.snap_marker.specs.Parts.{MarkView, snapshots_of, recording_in, recording_of, offer_of, is_heard}
use Rattle.snap_marker.specs.Recordings.{Recording, joins_channel}
use Rattle.bgp_codec.specs.declared.message.Message.TheVariants.{UpdateMsg}
use Rattle.snap_marker.proofs.Recorded.{not_heard, heard}
use Rattle.snap_marker.proofs.mark_state.MarkState.on_update.Goals as goal

pub returns-in_default-clause-acted_on : goal.returns-in_default-clause-acted_on
returns-in_default-clause-acted_on c = λ u e.
    let x = c.args.self.now in
    ap (λ (r : Option Recording). record (snapshots_of x) { unfinished = r }) (not_heard x.unfinished c.args.peer u c.requires.link (sym c.in_default.is ∙ e))

pub returns-clause-acted_on : goal.returns-clause-acted_on
returns-clause-acted_on c = λ u e.
    let x = c.args.self.now in
    let v = c.args.peer in
    let p = c.in-Some-take.part in
    let w = c.in-Some.update in
    let q : Part = record p { channels = c.push_update.new.channels } in
    let was : x.unfinished ≡ Some p = sym (ap (λ (y : MarkView). y.unfinished) c.self.view_is) ∙ sym c.in-Some-take.ensures.value in
    let copies = cond_some (is_heard x.unfinished v) u w (sym e ∙ c.in-Some.is) in
    let stands = ap (λ o. is_heard o v) (sym was) ∙ copies.0 in
    let same : w ≡ u = sym copies.1 in
    let joins : Some (recording_of q) ≡ joins_channel v (UpdateMsg u) (recording_in x.unfinished) =
    heard p q v w stands refl c.push_update.ensures.epochs c.push_update.ensures.channels c.push_update.ensures.waits
    ∙ ap (λ m. joins_channel v (UpdateMsg m) (Some (recording_of p))) same
    ∙ ap (λ o. joins_channel v (UpdateMsg u) (recording_in o)) (sym was) in
    ap (λ (r : Option Recording). record { last = c.self.inside.last; unfinished = r; queue = map offer_of c.self.inside.queue.items }) joins
    ∙ ap (λ (y : MarkView). record { last = y.last; unfinished = joins_channel v (UpdateMsg u) (recording_in x.unfinished); queue = map offer_of y.queue }) c.self.view_is
