use Rattle.std.proofs.Common.{arith, ◌∙◌}
use Rattle.text_engines.proofs.WritingLemmas.{one_more_at}
use Rattle.text_engines.proofs.transfer.write_out.Goals as goal

pub pieces-preserved : goal.pieces-preserved
pieces-preserved g c = (
  omega (arith, c.in-Ok.ensures.bound, c.split_at.ensures.back_len),
  one_more_at _ _ _ c.args.text.now _ c.pieces.at c.in-Ok.n c.split_at.ensures.back c.pieces.invariant.1 c.in-Ok.ensures.bytes,
  c.in-Ok.ensures.ok ∙ c.pieces.invariant.2,
)
