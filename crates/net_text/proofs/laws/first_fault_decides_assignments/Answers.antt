use Rattle.net_text.specs.Assignments.{entry_reading}
use Rattle.net_text.proofs.TextLemmas.{first_found, first_refused}
use Rattle.net_text.proofs.laws.first_fault_decides_assignments.Goals as goal

pub returns : goal.returns
returns c = λ net before entries lines line code. (first_found (entry_reading net) before entries lines line code, first_refused (entry_reading net) before entries lines line code)
