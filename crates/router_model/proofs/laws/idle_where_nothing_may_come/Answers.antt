-- Call by call.
use Rattle.router_model.proofs.Idling.{idle_where_nothing_may_come}
use Rattle.router_model.proofs.laws.idle_where_nothing_may_come.Goals as goal

pub returns : goal.returns
returns c = idle_where_nothing_may_come
