use Rattle.low_tests.proofs.tests.run_model_tests.orders.laws_of_speakers.Goals as goal

pub returns-clause-runs : goal.returns-clause-runs
returns-clause-runs c = c.causal_orders_are_runs.ensures tt

pub returns-clause-cuts : goal.returns-clause-cuts
returns-clause-cuts c = c.runs_pass_through_cuts.ensures tt
