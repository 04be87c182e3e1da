-- By the facts that hold of the two ends of a link.
use Rattle.run_model.proofs.LinkFacts.{begins_sent}
use Rattle.run_model.proofs.AfterClose.{none_after_close}
use Rattle.run_model.proofs.IncarnationRuns.{acted_begins_sent}
use Rattle.run_model.proofs.links.first_in_first_out.Goals as goal

pub returns : goal.returns
returns g c = record { begins = begins_sent; updates = acted_begins_sent; none_after_close = none_after_close }
