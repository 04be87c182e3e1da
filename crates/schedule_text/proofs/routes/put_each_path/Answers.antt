use Rattle.std.proofs.Common.{arith}
use Rattle.std.proofs.lemmas.Grind.{common_steps}
use Rattle.schedule_text.proofs.BufferLemmas.{kept_before}
use Rattle.schedule_text.proofs.routes.put_each_path.Goals as goal

pub loop-origin-preserved : goal.loop-origin-preserved
loop-origin-preserved c = record {
  put = grind (arith, common_steps);
  kept = kept_before _ _ _ _ c.loop-origin.invariant.kept c.in_ok-route_line.ensures.ok;
}
