use Rattle.run_model.proofs.TakesAndPuts.{takes_have_their_puts}
use Rattle.run_model.proofs.orders.takes_have_their_puts.Goals as goal

pub returns : goal.returns
returns g c = takes_have_their_puts
