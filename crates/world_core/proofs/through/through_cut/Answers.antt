use Rattle.std.proofs.Common.{◌∙◌, ap, List, Bool}
use Rattle.world_core.specs.Answering.{answer_of}
use Rattle.world_core.specs.Through.{picked_by}
use Rattle.world_core.specs.Verdicts.{judged}
use Rattle.world_core.proofs.Cutting.{goes, wants_room}
use Rattle.world_core.proofs.through.through_cut.Goals as goal

pub returns-in-Ok-clause-goes : goal.returns-in-Ok-clause-goes
returns-in-Ok-clause-goes c =
    let x = c.in_ok-world.world in
    goes c.answers_are_through.ensures c.args.network.now c.args.events.now c.args.number x c.in_ok-world.inside.items c.in-Ok.through c.in_ok-world.ensures.plays c.in-Ok.ensures.judges
    (c.in-Ok.ensures.answer ∙ ap (λ (k : List Bool). answer_of (judged x.collector c.args.number) (picked_by k x.run)) c.as_slice.ensures.value)

pub returns-clause-refused : goal.returns-clause-refused
returns-clause-refused c = wants_room c.args.network.now c.args.events.now c.args.number c.in_ok-world.world c.in_ok-world.inside.items c.in_ok-world.ensures.plays
