use Rattle.run_model.proofs.Stripping.{stamps_change_no_item}
use Rattle.run_model.proofs.orders.stamps_change_no_item.Goals as goal

pub returns : goal.returns
returns g c = stamps_change_no_item
