use Rattle.std.proofs.Common.{arith}
use Rattle.text_engines.proofs.WritingLemmas.{called}
use Rattle.text_engines.proofs.engine.limited_answer.Goals as goal

pub returns : goal.returns
returns g c =
    called g.F.FnOnce c.args.answer c.args.input.items c.as_slice.result c.answer.result c.as_slice.ensures.value c.answer.ensures
    (omega (arith, c.len.ensures, c.if-len-gt-INPUT_LIMIT.false))
