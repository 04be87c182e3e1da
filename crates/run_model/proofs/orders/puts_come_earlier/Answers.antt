use Rattle.run_model.proofs.Exchanges.{puts_come_earlier}
use Rattle.run_model.proofs.orders.puts_come_earlier.Goals as goal

pub returns : goal.returns
returns g c = λ setting. puts_come_earlier (g.Net.Routers.step setting)
