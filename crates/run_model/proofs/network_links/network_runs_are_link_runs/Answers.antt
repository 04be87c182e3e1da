-- By the moves of each event on one link.
use Rattle.run_model.proofs.NetworkLinkRuns.{network_runs_are_link_runs, network_acted_begins_sent, network_none_after_close, network_joined_heard}
use Rattle.run_model.proofs.network_links.network_runs_are_link_runs.Goals as goal

pub returns : goal.returns
returns g c = record { run = network_runs_are_link_runs; begins = network_acted_begins_sent; none_after_close = network_none_after_close; joined = network_joined_heard }
