-- By the facts of link runs and of closes.
use Rattle.run_model.proofs.FactLaws.{moves_keep_facts, not_dialled_is_not_shut, closing_leaves, past_stays_past}
use Rattle.run_model.proofs.links.moves_keep_end_facts.Goals as goal

pub returns : goal.returns
returns g c = record { keeps = moves_keep_facts; not_shut = not_dialled_is_not_shut; closes = closing_leaves; stays_past = past_stays_past }
