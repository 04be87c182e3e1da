use Rattle.link_epoch.proofs.Hearing.{heard_is_shut, heard_is_shut_anywhere}
use Rattle.link_epoch.proofs.laws.heard_is_shut_where_it_was_shut.Goals as goal

pub returns : goal.returns
returns c = record { as_the_greatest = heard_is_shut; at_all = heard_is_shut_anywhere }
