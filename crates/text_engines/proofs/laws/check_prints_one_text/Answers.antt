use Rattle.std.specs.Prelude.{codes}
use Rattle.text_engines.specs.Checking.{AssignmentGives}
use Rattle.text_engines.proofs.OneText.{inputs_give_one, assignment_one}
use Rattle.text_engines.proofs.laws.check_prints_one_text.Goals as goal

pub returns : goal.returns
returns c = λ all.
    inputs_give_one c.texts_spell_one_network.ensures c.spelt_settings.ensures.hold c.what_is_spelt_is_not_refused.ensures c.texts_are_refused_once.ensures
    (AssignmentGives all) (assignment_one c.one_best.ensures all) (codes "assignment")
