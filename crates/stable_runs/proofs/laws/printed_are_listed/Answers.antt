-- By what each answer says.
use Rattle.stable_runs.proofs.Printed.{printed_settled_are_listed}
use Rattle.stable_runs.proofs.laws.printed_are_listed.Goals as goal

pub returns : goal.returns
returns c = printed_settled_are_listed
