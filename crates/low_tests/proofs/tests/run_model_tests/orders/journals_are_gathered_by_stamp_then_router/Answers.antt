use Rattle.low_tests.proofs.GatheringExamples.{two_journals_gathered, ties_are_not_turned, not_by_routers}
use Rattle.low_tests.proofs.tests.run_model_tests.orders.journals_are_gathered_by_stamp_then_router.Goals as goal

pub returns : goal.returns
returns c = record { gathered = two_journals_gathered; ties = ties_are_not_turned; routers = not_by_routers }
