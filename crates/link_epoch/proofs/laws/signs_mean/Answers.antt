use Rattle.link_epoch.proofs.Meaning.{joins, offers, closes}
use Rattle.link_epoch.proofs.laws.signs_mean.Goals as goal

pub returns : goal.returns
returns c = record { joins = joins; offers = offers; closes = closes }
