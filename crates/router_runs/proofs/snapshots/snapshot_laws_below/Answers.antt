use Rattle.router_runs.proofs.snapshots.snapshot_laws_below.Goals as goal

pub returns : goal.returns
returns c = record {
  on = c.offer_runs_are_network_runs.ensures.on;
  aside = c.offer_runs_are_network_runs.ensures.run;
  cut = c.copies_are_a_cut.ensures.cut;
  marked = c.copies_are_a_cut.ensures.marked;
  obeyed = c.markers_are_obeyed.ensures;
  parts = c.outcome_tells.ensures.parts;
  mismatch = c.outcome_tells.ensures.mismatch;
  stable = c.settled_outcome_is_stable_and_stays.ensures.stable;
  stays = c.settled_outcome_is_stable_and_stays.ensures.stays;
}
