use Rattle.std.proofs.Common.{◌∙◌, ap, sym, map, Option, Some, None}
use Rattle.snap_marker.specs.Recordings.{RouterPart}
use Rattle.snap_collector.specs.Collecting.{member_of}
use Rattle.snap_collector.specs.Collector.{made_for, kept_of}
use Rattle.thread_engines.specs.Running.{says}
use Rattle.schedule_text.proofs.PartLemmas.{part_is_recorded}
use Rattle.thread_engines.proofs.RunLemmas.{origin_fails, origin_passes}
use Rattle.thread_engines.proofs.run.settled.all_originate.Goals as goal

pub returns-then-not-originates : goal.returns-then-not-originates
returns-then-not-originates c =
    let x = c.args.collector.now in
    let o = c.origin-item.result in
    let word = part_is_recorded x c.args.number o.router (Some c.in-Some.part.now) c.in-Some.ensures in
    origin_fails (kept_of (map member_of x.members) (made_for x c.args.number)) c.origins-origin-items.result.now c.loop-origin.origin-index o c.loop-origin-test.true c.origin-item.is _
    (ap (λ (p : Option RouterPart). says p o.prefix) (sym word) ∙ sym c.if-not-originates.ensures) c.loop-origin.invariant

pub returns-in-None : goal.returns-in-None
returns-in-None c =
    let x = c.args.collector.now in
    let o = c.origin-item.result in
    let word = part_is_recorded x c.args.number o.router None c.in-None.ensures in
    origin_fails (kept_of (map member_of x.members) (made_for x c.args.number)) c.origins-origin-items.result.now c.loop-origin.origin-index o c.loop-origin-test.true c.origin-item.is _
    (ap (λ (p : Option RouterPart). says p o.prefix) (sym word)) c.loop-origin.invariant

pub loop-origin-preserved : goal.loop-origin-preserved
loop-origin-preserved c =
    let x = c.args.collector.now in
    let o = c.origin-item.result in
    let word = part_is_recorded x c.args.number o.router (Some c.in-Some.part.now) c.in-Some.ensures in
    origin_passes (kept_of (map member_of x.members) (made_for x c.args.number)) c.origins-origin-items.result.now c.loop-origin.origin-index o c.loop-origin-test.true c.origin-item.is _
    (ap (λ (p : Option RouterPart). says p o.prefix) (sym word) ∙ sym c.if-not-originates.ensures) c.loop-origin.invariant
