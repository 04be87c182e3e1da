use Rattle.run_model.proofs.OwnEvents.{causal_orders_end_alike}
use Rattle.run_model.proofs.orders.causal_orders_end_alike.Goals as goal

pub returns : goal.returns
returns g c = causal_orders_end_alike
