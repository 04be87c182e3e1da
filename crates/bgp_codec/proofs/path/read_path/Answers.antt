use Rattle.std.proofs.lemmas.Result.{err_from_is_err_and}
use Rattle.bgp_codec.specs.UpdateReading.{segment_at}
use Rattle.bgp_codec.proofs.EachLemmas.{each_go_on, each_stop, each_end, some_left, none_left}
use Rattle.bgp_codec.proofs.PathLemmas.{segment_shortens}
use Rattle.bgp_codec.proofs.path.read_path.Goals as goal

pub returns-in_err-segment : goal.returns-in_err-segment
returns-in_err-segment c =
    let p = err_from_is_err_and c.from_residual-in_err-segment.result c.from_residual-in_err-segment.ensures.1 in
    rw (p.1, p.2) (each_stop (segment_at c.args.width) c.args.octets.now c.segments.left.now c.segments.segments c.in_err-segment.field-0.0 (some_left _ c.segments-test.ensures) c.segments.invariant c.in_err-segment.ensures)

pub segments-preserved : goal.segments-preserved
segments-preserved c =
    rw c.in_ok-push.ensures.ok
    (each_go_on (segment_at c.args.width) c.args.octets.now c.segments.left.now c.in_ok-segment.rest.now c.segments.segments c.in_ok-segment.segment (segment_shortens c.args.width) c.in_ok-segment.ensures c.segments.invariant)

pub returns : goal.returns
returns c = (each_end (segment_at c.args.width) c.args.octets.now c.segments.left.now c.segments.segments (none_left _ c.segments-test.ensures) c.segments.invariant)
