-- By the laws of snapshots, and by what each list of all stable assignments says.
use Rattle.stable_runs.proofs.Listed.{runs_settle_in_listed, worlds_settle_in_listed, records_settle_in_listed}
use Rattle.stable_runs.proofs.laws.settled_are_listed.Goals as goal

pub returns : goal.returns
returns g c =
    let stable = c.snapshots_of_runs.ensures.stable in
    let decided = c.runs_pass_through_snapshots.ensures.decided in
    record {
      runs = runs_settle_in_listed stable decided;
      worlds = worlds_settle_in_listed stable decided;
      records = records_settle_in_listed g.G.Gate.given stable decided c.records_are_runs.ensures.promises;
    }
