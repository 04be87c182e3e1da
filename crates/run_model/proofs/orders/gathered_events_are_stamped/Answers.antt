use Rattle.run_model.proofs.StampedGathers.{gathered_events_are_stamped}
use Rattle.run_model.proofs.orders.gathered_events_are_stamped.Goals as goal

pub returns : goal.returns
returns g c = gathered_events_are_stamped
