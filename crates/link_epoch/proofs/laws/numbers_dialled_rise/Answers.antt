use Rattle.link_epoch.proofs.Dialling.{numbers_rise}
use Rattle.link_epoch.proofs.laws.numbers_dialled_rise.Goals as goal

pub returns : goal.returns
returns c = numbers_rise
