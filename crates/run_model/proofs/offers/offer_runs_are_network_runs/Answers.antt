-- By the events that are not offers made.
use Rattle.run_model.proofs.OfferRuns.{offers_aside}
use Rattle.run_model.proofs.OutcomeFacts.{offer_runs_go_on}
use Rattle.run_model.proofs.offers.offer_runs_are_network_runs.Goals as goal

pub returns : goal.returns
returns g c = record { on = offer_runs_go_on; run = offers_aside }
