use Rattle.std.proofs.Common.{arith}
use Rattle.std.proofs.lemmas.Result.{err_from_is_err_and}
use Rattle.bgp_codec.specs.UpdateReading.{segment_at}
use Rattle.bgp_codec.proofs.EachLemmas.{some_left, none_left}
use Rattle.bgp_codec.proofs.PathLemmas.{segment_shortens}
use Rattle.bgp_codec.proofs.JudgingLemmas.{judged_from, behind_more, behind_stop, behind_end}
use Rattle.bgp_codec.proofs.judging.judge_path.Goals as goal

pub returns-in_err-rest : goal.returns-in_err-rest
returns-in_err-rest c =
    let p = err_from_is_err_and c.from_residual.result c.from_residual.ensures.1 in
    let e = c.in_err-rest.ensures in
    rw (p.1, p.2) (behind_stop (segment_at c.args.width) c.args.octets.now c.segments.left.now c.in_err-rest.field-0.0 (some_left _ c.segments-test.ensures) (judged_from _ _ e.gives e.memory) c.segments.invariant)

pub segments-smaller : goal.segments-smaller
segments-smaller c = omega (arith, segment_shortens c.args.width c.segments.left.now _ c.in_ok-rest.rest.now c.in_ok-rest.ensures.gives)

pub segments-preserved : goal.segments-preserved
segments-preserved c = behind_more (segment_at c.args.width) c.args.octets.now c.segments.left.now c.in_ok-rest.rest.now _ (segment_shortens c.args.width) c.in_ok-rest.ensures.gives c.segments.invariant

pub returns : goal.returns
returns c = behind_end (segment_at c.args.width) c.args.octets.now c.segments.left.now (none_left _ c.segments-test.ensures) c.segments.invariant
