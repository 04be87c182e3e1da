-- By the exchange, which keeps what is chosen.
use Rattle.run_cuts.proofs.ChosenRuns.{chosen_runs_pass_through}
use Rattle.run_cuts.proofs.laws.chosen_runs_pass_through.Goals as goal

pub returns : goal.returns
returns c = chosen_runs_pass_through c.laws_below.ensures
