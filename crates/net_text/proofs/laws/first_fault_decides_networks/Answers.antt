use Rattle.net_text.specs.Lines.{line_reading}
use Rattle.net_text.proofs.TextLemmas.{first_found, first_refused}
use Rattle.net_text.proofs.laws.first_fault_decides_networks.Goals as goal

pub returns : goal.returns
returns c = λ d before lines line code. (first_found (λ line draft words. line_reading draft words) before d lines line code, first_refused (λ line draft words. line_reading draft words) before d lines line code)
