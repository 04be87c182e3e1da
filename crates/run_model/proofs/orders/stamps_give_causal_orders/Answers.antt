use Rattle.run_model.proofs.StampedOrders.{stamps_give_causal_orders}
use Rattle.run_model.proofs.orders.stamps_give_causal_orders.Goals as goal

pub returns : goal.returns
returns g c = stamps_give_causal_orders
