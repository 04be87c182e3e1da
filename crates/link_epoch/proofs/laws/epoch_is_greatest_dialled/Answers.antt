use Rattle.link_epoch.proofs.Dialling.{epoch_is_greatest}
use Rattle.link_epoch.proofs.laws.epoch_is_greatest_dialled.Goals as goal

pub returns : goal.returns
returns c = epoch_is_greatest
