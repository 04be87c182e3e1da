use Rattle.std.proofs.Common.{ℕ, refl, length, take, ap, sym, subst, ◌∙◌, arith}
use Rattle.bgp_codec.specs.Header.{IsFrame}
use Rattle.bgp_codec.specs.Faults.{reading}
use Rattle.bgp_framing.specs.Held.{Held}
use Rattle.router_model.specs.Sides.{with_update}
use Rattle.router_side.specs.Histories.{history, told_with}
use Rattle.router_side.specs.Sayings.{nobody}
use Rattle.router_side.specs.SideOf.{side}
use Rattle.router_side.proofs.Acting.{act_is}
use Rattle.router_side.proofs.FrontLemmas.{front_reads, front_dropped, frame_fits}
use Rattle.router_side.proofs.side.Side.act_on_front.Goals as goal

pub keep_frame-requires-clause-frame : goal.keep_frame-requires-clause-frame
keep_frame-requires-clause-frame c = subst IsFrame (sym (c.split_at.ensures.front ∙ ap (take c.in-Whole.end) c.bytes.ensures)) c.in-Whole.ensures.2

pub keep_frame-requires-clause-room : goal.keep_frame-requires-clause-room
keep_frame-requires-clause-room c =
    let end = c.in-Whole.end in
    let frame = ap length (c.split_at.ensures.front ∙ ap (take end) c.bytes.ensures) in
    let fits = frame_fits c.header_is_its_front.ensures (take end c.args.self.now.framer.octets) c.in-Whole.ensures.2 in
    omega (arith, frame, fits, c.requires.room.acted)

-- the frame in front reads as the UPDATE
pub returns : goal.returns
returns c = λ u front.
    let s = c.args.self.now in
    let end = c.in-Whole.end in
    let octets = s.framer.octets in
    let frame = c.split_at.ensures.front ∙ ap (take end) c.bytes.ensures in
    let reads = front_reads c.header_is_its_front.ensures s.width octets end front.0 front.1 u c.in-Whole.ensures.1 c.in-Whole.ensures.2 front.2 in
    let acted = c.keep_frame.ensures s.width u (ap (reading (nobody s.width)) frame ∙ reads) ∙ ap (λ (e : ℕ). with_update (history (told_with s.width s.acted)) e u) c.epoch.ensures in
    let held = ap (λ (h : Held). h.octets) c.drop_front.ensures ∙ front_dropped c.header_is_its_front.ensures octets end c.in-Whole.ensures.1 c.in-Whole.ensures.2 in
    act_is (side s) _ u c.requires.up c.on.ensures.session refl refl held acted refl refl
