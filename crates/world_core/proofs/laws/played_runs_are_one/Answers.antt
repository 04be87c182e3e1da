-- By the events' names.
use Rattle.world_core.proofs.OneRun.{played_runs_are_one, played_cuts_are_one}
use Rattle.world_core.proofs.laws.played_runs_are_one.Goals as goal

pub returns : goal.returns
returns c =
    let run = played_runs_are_one (λ g. c.steps_are_takes_in_order.ensures g) in
    record { run = run; cut = played_cuts_are_one run c.cuts_are_one.ensures.one }
