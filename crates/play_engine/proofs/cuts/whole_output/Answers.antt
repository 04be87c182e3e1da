use Rattle.std.proofs.Common.{◌≡◌, ℕ, arith, List, ◌++◌, map, ap, sym, subst, ◌∙◌, length}
use Rattle.std.specs.Prelude.{Ok, Some}
use Rattle.ranked_policy.specs.Plans.{Plan}
use Rattle.snap_collector.specs.Collecting.{member_of}
use Rattle.snap_collector.specs.Collector.{CollectorView}
use Rattle.world_core.specs.declared.schedule.Event.{Event}
use Rattle.world_core.specs.Answering.{CountsInside}
use Rattle.text_engines.specs.Decoding.{output}
use Rattle.play_engine.proofs.CutLemmas.{shows_cut, cut_text_is}
use Rattle.play_engine.proofs.cuts.whole_output.Goals as goal

pub returns : goal.returns
returns c =
    let x = c.args.world in
    let s = c.args.number in
    let inside = c.in-Ok-Some.inside in
    let run = c.into_run-run.ensures in
    let collector = c.collector.ensures in
    let counts = subst (λ (n : Plan). CountsInside (Ok (Some inside)) n c.into_run-run.result.items s) (sym c.requires.same) (rw c.in-Ok-Some.field-0-is at c.in-Ok-Some.ensures.counts) in
    let long : c.len-all.result ≡ length c.into_run-run.result.items = omega (arith, c.len-all.ensures) in
    shows_cut c.runs_pass_through_snapshots.ensures.through x s inside (output c.extend_from_slice.new.self.items 0) c.requires.whole
    (ap (λ (j : CollectorView). map member_of j.members) (sym collector.value) ∙ collector.peers) run.comes
    (subst (λ (es : List Event). CountsInside (Ok (Some inside)) x.net es s) run.value counts)
    (cut_text_is x c.args.network.now c.collector.result.now s inside c.len-all.result c.new-out.result.items c.cut_line.new.out.items c.extend_from_slice.new.self.items c.in_ok-recorded.recorded.items
    c.new-out.ensures.items c.in_ok-cut_line.ensures.ok (c.in_ok-extend_from_slice.ensures.items ∙ ap (λ (t : List ℕ). c.cut_line.new.out.items ++ t) c.as_slice.ensures.value)
    (long ∙ ap (λ (es : List Event). length es) run.value) c.in_ok-recorded.ensures c.requires.same collector.value)
