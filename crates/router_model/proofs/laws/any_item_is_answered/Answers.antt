-- Sign by sign.
use Rattle.router_model.proofs.AnyItem.{any_item_is_taken, what_waits_is_handled}
use Rattle.router_model.proofs.laws.any_item_is_answered.Goals as goal

pub returns : goal.returns
returns c = record { taken = any_item_is_taken; handled = what_waits_is_handled }
