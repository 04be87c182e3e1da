use Rattle.std.specs.Prelude.{codes}
use Rattle.text_engines.proofs.OneText.{inputs_give_one}
use Rattle.play_engine.specs.Playing.{ScheduleGives}
use Rattle.play_engine.specs.Cutting.{IsCutReport}
use Rattle.play_engine.proofs.OneText.{schedule_one, cut_one}
use Rattle.play_engine.proofs.laws.cut_prints_one_text.Goals as goal

pub returns : goal.returns
returns c s =
    inputs_give_one c.texts_spell_one_network.ensures c.spelt_settings.ensures.hold c.what_is_spelt_is_not_refused.ensures c.texts_are_refused_once.ensures
    (ScheduleGives (IsCutReport s))
    (schedule_one c.each_network_has_a_setting.ensures (IsCutReport s) (cut_one c.outcome_is_one.ensures c.played_runs_are_one.ensures.cut s)) (codes "schedule")
