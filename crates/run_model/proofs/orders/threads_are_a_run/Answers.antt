use Rattle.run_model.proofs.StampedOrders.{threads_are_a_run}
use Rattle.run_model.proofs.orders.threads_are_a_run.Goals as goal

pub returns : goal.returns
returns g c = λ setting. threads_are_a_run (g.Net.Routers.step setting)
