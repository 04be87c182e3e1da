-- By the law of cuts, and what is kept through a run.
use Rattle.run_cuts.proofs.Through.{runs_pass_through_snapshots, decided_runs_pass_through}
use Rattle.run_cuts.proofs.laws.runs_pass_through_snapshots.Goals as goal

pub returns : goal.returns
returns c = record {
  through = runs_pass_through_snapshots c.laws_below.ensures;
  decided = decided_runs_pass_through c.laws_below.ensures;
}
