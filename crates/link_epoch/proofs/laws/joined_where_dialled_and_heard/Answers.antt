use Rattle.link_epoch.proofs.Hearing.{joined_is}
use Rattle.link_epoch.proofs.laws.joined_where_dialled_and_heard.Goals as goal

pub returns : goal.returns
returns c = joined_is
