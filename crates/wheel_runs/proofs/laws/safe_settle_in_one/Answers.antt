-- A settled snapshot is stable, and one assignment is.
use Rattle.wheel_runs.specs.Settling.{SettlesInOne}
use Rattle.wheel_runs.proofs.EverywhereLemmas.{of_worlds, of_records}
use Rattle.wheel_runs.proofs.OneLemmas.{safe_have_one_choice}
use Rattle.wheel_runs.proofs.SettleLemmas.{runs_settle_in_one}
use Rattle.wheel_runs.proofs.laws.safe_settle_in_one.Goals as goal

pub returns : goal.returns
returns g c =
    let runs = runs_settle_in_one c.runs_are_mirrored.ensures.model c.snapshots_of_runs.ensures.stable c.safe_have_one_stable.ensures in
    record {
      one = safe_have_one_choice c.safe_have_one_stable.ensures c.stable_assignments_are_counted.ensures;
      runs = runs;
      worlds = of_worlds (λ g order state. SettlesInOne g state) runs;
      records = of_records (λ g order state. SettlesInOne g state) runs g.G.Gate.given c.records_are_runs.ensures.promises;
    }
