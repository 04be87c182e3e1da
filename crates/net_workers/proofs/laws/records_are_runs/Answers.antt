-- By stamps.
use Rattle.net_workers.specs.Runs.{RecordsAreRuns}
use Rattle.net_workers.proofs.Runs.{records_are_runs, records_keep_their_promises}
use Rattle.net_workers.proofs.laws.records_are_runs.Goals as goal

pub returns : goal.returns
returns g c =
    let runs : RecordsAreRuns g.G.Gate.given = records_are_runs g.G.Gate.given c.acts_are_journals.ensures c.stamps_rise.ensures c.sorting_by_stamp_gathers.ensures c.gathering_lifts.ensures c.gathered_events_are_stamped.ensures
    c.stamps_give_the_collectors_order.ensures c.threads_are_a_run.ensures c.threads_are_a_run-2.ensures c.what_follows_is_called.ensures c.causal_orders_end_alike.ensures c.stamps_change_no_item.ensures in
    record {
      runs = runs;
      promises = records_keep_their_promises g.G.Gate.given runs c.updates_pass_in_order.ensures c.nothing_is_acted_on_after_the_close.ensures
          c.close_loses_the_recording.ensures c.snapshots_of_runs.ensures.hold c.runs_pass_through_snapshots.ensures.through c.members_are_of_the_network.ensures c.verdicts_are_outcomes.ensures c.collected_are_kept.ensures;
    }
