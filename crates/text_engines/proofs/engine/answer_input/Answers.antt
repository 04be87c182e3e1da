use Rattle.std.proofs.Common.{rules}
use Rattle.text_engines.proofs.WritingLemmas.{answered_more, or_memory_more}
use Rattle.text_engines.proofs.engine.answer_input.Goals as goal

pub returns : goal.returns
returns g c =
    answered_more _ _ (or_memory_more _ (g.E.Engine.gives c.args.engine.now) (λ text out given. search rules)) _ _ _ _ _ _ _ _ c.answer_by.ensures
