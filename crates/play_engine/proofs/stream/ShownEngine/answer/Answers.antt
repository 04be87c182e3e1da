use Rattle.std.specs.Prelude.{codes}
use Rattle.play_engine.specs.Playing.{ScheduleGives}
use Rattle.play_engine.specs.Cutting.{IsShown}
use Rattle.text_engines.proofs.CheckLemmas.{if_ok, lines_give}
use Rattle.play_engine.proofs.stream.ShownEngine.answer.Goals as goal

pub returns : goal.returns
returns c =
    let split = c.split_at_section-split.ensures in
    if_ok _ _ c.network_output.result
    (λ printed gives. lines_give (ScheduleGives (IsShown c.args.self.now)) (codes "schedule") c.args.text.now _ _ _ _ split.front split.behind split.before gives)
    c.network_output.ensures
