use Rattle.run_model.proofs.StampedOrders.{stamps_give_the_collectors_order}
use Rattle.run_model.proofs.orders.stamps_give_the_collectors_order.Goals as goal

pub returns : goal.returns
returns g c = stamps_give_the_collectors_order
