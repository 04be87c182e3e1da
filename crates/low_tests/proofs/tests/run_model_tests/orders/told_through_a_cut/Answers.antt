use Rattle.low_tests.proofs.SpeakerExamples.{told_through_the_cut, not_through_any_cut}
use Rattle.low_tests.proofs.tests.run_model_tests.orders.told_through_a_cut.Goals as goal

pub returns : goal.returns
returns c = record { parts = told_through_the_cut (c.steps_are_takes_in_order.ensures tt); any = not_through_any_cut (c.steps_are_takes_in_order.ensures tt) }
