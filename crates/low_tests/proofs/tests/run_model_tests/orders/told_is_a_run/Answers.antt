use Rattle.low_tests.proofs.SpeakerExamples.{told_is_a_run}
use Rattle.low_tests.proofs.tests.run_model_tests.orders.told_is_a_run.Goals as goal

pub returns : goal.returns
returns c = told_is_a_run (c.steps_are_takes_in_order.ensures tt) (c.runs_are_causal_orders.ensures tt)
