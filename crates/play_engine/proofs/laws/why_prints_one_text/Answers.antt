use Rattle.std.specs.Prelude.{codes}
use Rattle.text_engines.proofs.OneText.{inputs_give_one}
use Rattle.why_engine.specs.Explaining.{Explains}
use Rattle.play_engine.specs.Playing.{ScheduleGives}
use Rattle.play_engine.proofs.OneText.{schedule_one}
use Rattle.play_engine.proofs.laws.why_prints_one_text.Goals as goal

pub returns : goal.returns
returns c u =
    inputs_give_one c.texts_spell_one_network.ensures c.spelt_settings.ensures.hold c.what_is_spelt_is_not_refused.ensures c.texts_are_refused_once.ensures
    (ScheduleGives (Explains u)) (schedule_one c.each_network_has_a_setting.ensures (Explains u) (c.each_router_has_one_text.ensures u)) (codes "schedule")
