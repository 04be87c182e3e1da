use Rattle.low_tests.proofs.GatheringExamples.{not_whatever_is_collected, not_all_offers_stand}
use Rattle.low_tests.proofs.tests.run_model_tests.orders.offers_are_collected_in_order.Goals as goal

pub returns : goal.returns
returns c = record { collected = not_whatever_is_collected; inside = not_all_offers_stand }
