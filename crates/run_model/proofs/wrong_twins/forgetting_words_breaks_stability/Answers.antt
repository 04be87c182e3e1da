-- By a small run.
use Rattle.run_model.proofs.TwinRuns.{forgetting_breaks_stability}
use Rattle.run_model.proofs.wrong_twins.forgetting_words_breaks_stability.Goals as goal

pub returns : goal.returns
returns c = forgetting_breaks_stability
