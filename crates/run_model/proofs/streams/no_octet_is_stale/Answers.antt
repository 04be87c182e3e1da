-- By the facts of the two ends.
use Rattle.run_model.proofs.StreamFacts.{no_stale_at_an_end, none_dropped_at_an_end}
use Rattle.run_model.proofs.streams.no_octet_is_stale.Goals as goal

pub returns : goal.returns
returns g c = record { no_stale = no_stale_at_an_end g.F.Framing.is_frame; none_dropped = none_dropped_at_an_end }
