use Rattle.std.proofs.Common.{◌∙◌}
use Rattle.why_engine.proofs.WhyLemmas.{pipe_says}
use Rattle.why_engine.proofs.sessions.is_in_pipe.Goals as goal

pub returns : goal.returns
returns c =
    c.is_some.ensures
    ∙ pipe_says (λ i. i.now) c.args.world.now c.args.router.now c.args.peer c.next_to_take.result c.requires.same c.requires.there c.requires.peer (rw c.number.ensures at c.next_to_take.ensures)
