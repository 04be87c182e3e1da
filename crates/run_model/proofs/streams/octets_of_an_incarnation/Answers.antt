-- By induction over the entries, and over the moves of a run.
use Rattle.run_model.proofs.StreamFacts.{beginnings_pass, octets_begin_what_is_said, nothing_said_behind_shut, all_octets_pass, used_octets_were_taken}
use Rattle.run_model.proofs.streams.octets_of_an_incarnation.Goals as goal

pub returns : goal.returns
returns g c = record {
  beginnings = beginnings_pass;
  begins = octets_begin_what_is_said;
  none_behind = nothing_said_behind_shut;
  all = all_octets_pass;
  used = used_octets_were_taken;
}
