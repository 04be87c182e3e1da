use Rattle.link_epoch.proofs.Hearing.{heard_is_greatest}
use Rattle.link_epoch.proofs.laws.heard_is_greatest_heard.Goals as goal

pub returns : goal.returns
returns c = heard_is_greatest
