use Rattle.router_side.proofs.Coming.{signs_keep_fresh, messages_keep_fresh}
use Rattle.router_side.proofs.laws.what_comes_keeps_fresh.Goals as goal

pub returns-clause-signs : goal.returns-clause-signs
returns-clause-signs c = signs_keep_fresh

pub returns-clause-messages : goal.returns-clause-messages
returns-clause-messages c = messages_keep_fresh
