use Rattle.run_model.proofs.CutOffers.{offers_stand}
use Rattle.run_model.proofs.orders.offers_stand.Goals as goal

pub returns : goal.returns
returns g c = offers_stand
