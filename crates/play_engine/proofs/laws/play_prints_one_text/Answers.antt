use Rattle.std.specs.Prelude.{codes}
use Rattle.text_engines.proofs.OneText.{inputs_give_one}
use Rattle.play_engine.specs.Playing.{IsReport, ScheduleGives}
use Rattle.play_engine.proofs.OneText.{schedule_one, report_one}
use Rattle.play_engine.proofs.laws.play_prints_one_text.Goals as goal

pub returns : goal.returns
returns c =
    inputs_give_one c.texts_spell_one_network.ensures c.spelt_settings.ensures.hold c.what_is_spelt_is_not_refused.ensures c.texts_are_refused_once.ensures
    (ScheduleGives IsReport) (schedule_one c.each_network_has_a_setting.ensures IsReport report_one) (codes "schedule")
