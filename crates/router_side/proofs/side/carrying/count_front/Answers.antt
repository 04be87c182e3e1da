use Rattle.std.proofs.Common.{◌∙◌, length, take, ap, sym, subst, arith}
use Rattle.bgp_codec.specs.Header.{IsFrame}
use Rattle.bgp_codec.specs.Faults.{reading}
use Rattle.router_model.specs.Sides.{AtHand, HasUpdate, acted_with}
use Rattle.router_side.specs.Drafts.{hand}
use Rattle.router_side.specs.Histories.{history, told_with}
use Rattle.router_side.specs.Sayings.{nobody}
use Rattle.router_side.specs.SideOf.{IsInFront}
use Rattle.router_side.proofs.FrontLemmas.{front_reads, frame_fits}
use Rattle.router_side.proofs.side.carrying.count_front.Goals as goal

pub keep_frame-requires-clause-frame : goal.keep_frame-requires-clause-frame
keep_frame-requires-clause-frame c = subst IsFrame (sym (c.split_at.ensures.front ∙ ap (take c.in-Whole.end) c.bytes.ensures)) c.in-Whole.ensures.2

pub keep_frame-requires-clause-room : goal.keep_frame-requires-clause-room
keep_frame-requires-clause-room c =
    let end = c.in-Whole.end in
    let frame = ap length (c.split_at.ensures.front ∙ ap (take end) c.bytes.ensures) in
    let fits = frame_fits c.header_is_its_front.ensures (take end c.args.framer.now.octets) c.in-Whole.ensures.2 in
    omega (arith, frame, fits, c.requires.room)

-- what is at hand is that UPDATE, and the frame in front reads as it
pub returns-in-Whole : goal.returns-in-Whole
returns-in-Whole c = λ width front.
    let u = c.in-Update.field-0 in
    let end = c.in-Whole.end in
    let past = history (told_with width c.args.acted.now) in
    let frame = c.split_at.ensures.front ∙ ap (take end) c.bytes.ensures in
    let in_front = subst (IsInFront width c.args.framer.now.octets) (ap hand c.in-Update.is) front in
    let reads = front_reads c.header_is_its_front.ensures width c.args.framer.now.octets end in_front.0 in_front.1 u c.in-Whole.ensures.1 c.in-Whole.ensures.2 in_front.2 in
    c.keep_frame.ensures width u (ap (reading (nobody width)) frame ∙ reads)
    ∙ sym (ap (λ (g : AtHand). acted_with c.args.acts g c.args.epoch past) (ap hand c.in-Update.is) ∙ ap (λ b. acted_with b (HasUpdate u) c.args.epoch past) c.if-not-acts.false)
