use Rattle.low_tests.proofs.SpeakerExamples.{foretold_is_no_run}
use Rattle.low_tests.proofs.tests.run_model_tests.orders.foretold_is_no_run.Goals as goal

pub returns : goal.returns
returns c = foretold_is_no_run (c.runs_are_causal_orders.ensures tt)
