-- A put changes the outbox alone, and no other event looks at it.
use Rattle.router_model.proofs.Commuting.{puts_commute, puts_leave_what_is_said}
use Rattle.router_model.proofs.laws.puts_commute.Goals as goal

pub returns : goal.returns
returns c = record { commute = puts_commute; said = puts_leave_what_is_said }
