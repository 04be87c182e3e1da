-- By the frames, none of which begins another.
use Rattle.run_model.proofs.OctetFacts.{next_frame, held_begins, next_item, dropped_are_messages, octets_stay_before_mark, no_stale_octet_while_joined, none_dropped_before_answer}
use Rattle.run_model.proofs.octets.octets_are_entries.Goals as goal

pub returns : goal.returns
returns g c = record {
  message = next_frame g.F.Framing.is_frame;
  held = held_begins g.F.Framing.is_frame;
  control = next_item g.F.Framing.is_frame;
  dropped = dropped_are_messages;
  stay = octets_stay_before_mark;
  no_stale = no_stale_octet_while_joined g.F.Framing.is_frame;
  none_dropped = none_dropped_before_answer;
}
