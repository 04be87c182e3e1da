use Rattle.router_side.proofs.Sayable.{tellings_sayable}
use Rattle.router_side.proofs.laws.told_updates_are_sayable.Goals as goal

pub returns : goal.returns
returns c = tellings_sayable c.written_has_a_header.ensures
