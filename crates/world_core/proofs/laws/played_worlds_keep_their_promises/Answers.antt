-- By the promises of runs.
use Rattle.world_core.proofs.Keeping.{worlds_keep_their_promises}
use Rattle.world_core.proofs.laws.played_worlds_keep_their_promises.Goals as goal

pub returns : goal.returns
returns c =
    worlds_keep_their_promises c.answers_are_steps.ensures c.linked_routers_are_peers.ensures c.updates_pass_in_order.ensures c.nothing_is_acted_on_after_the_close.ensures
    c.close_loses_the_recording.ensures c.snapshots_of_runs.ensures.hold c.runs_pass_through_snapshots.ensures.through
