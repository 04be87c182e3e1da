-- Law by law.
use Rattle.run_cuts.proofs.laws.laws_below.Goals as goal

pub returns : goal.returns
returns c = record {
  journals = λ g. c.runs_are_causal_orders.ensures g;
  alike = c.causal_orders_end_alike.ensures;
  cuts = λ g. c.runs_have_their_cuts.ensures g;
  through = λ g. c.runs_pass_through_cuts.ensures g;
  stand = c.offers_stand.ensures;
  long = c.parts_are_as_long.ensures;
  commute = c.puts_commute.ensures.commute;
  said = c.puts_commute.ensures.said;
  goes_on = c.leaving_loses_the_recording.ensures.goes_on;
  linked_peers = c.linked_routers_are_peers.ensures;
  appends = c.steps_append_what_they_say.ensures;
  kept = c.runs_keep.ensures;
  parts = c.snapshots_of_runs.ensures.cut;
  all = c.snapshots_of_runs.ensures.all;
}
