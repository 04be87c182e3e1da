use Rattle.run_model.proofs.NetworkSteps.{steps_are_takes_in_order}
use Rattle.run_model.proofs.orders.steps_are_takes_in_order.Goals as goal

pub returns : goal.returns
returns g c = λ setting. steps_are_takes_in_order (g.Net.Routers.step setting)
