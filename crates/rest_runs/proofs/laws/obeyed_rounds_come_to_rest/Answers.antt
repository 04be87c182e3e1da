-- Routers that choose by rank choose alike in each setting.
use Rattle.rest_runs.proofs.Obeyed.{obeyed_rounds}
use Rattle.rest_runs.proofs.laws.obeyed_rounds_come_to_rest.Goals as goal

pub returns : goal.returns
returns g c = obeyed_rounds c.linked_routers_are_peers.ensures c.one_best.ensures c.runs_are_mirrored.ensures.model c.each_network_has_a_setting.ensures c.rounds_come_to_rest.ensures.rest
