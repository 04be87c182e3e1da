use Rattle.std.proofs.Common.{◌∙◌, ap, List, Bool}
use Rattle.world_core.specs.Answering.{count_of}
use Rattle.world_core.specs.Through.{count_true}
use Rattle.world_core.specs.Verdicts.{judged}
use Rattle.world_core.proofs.Cutting.{counts}
use Rattle.world_core.proofs.through.count_inside.Goals as goal

pub returns-clause-counts : goal.returns-clause-counts
returns-clause-counts c =
    let x = c.in_ok-world.world in
    counts c.tests_tell_what_is_inside.ensures c.args.network.now c.args.events.items c.args.number x c.in_ok-world.inside.items c.counted.result c.in_ok-world.ensures c.counted.ensures.judges
    (c.counted.ensures.answer ∙ ap (λ (k : List Bool). count_of (judged x.collector c.args.number) (count_true k)) c.as_slice.ensures.value)
