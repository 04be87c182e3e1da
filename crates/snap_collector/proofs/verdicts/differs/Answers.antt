use Rattle.std.proofs.Common.{◌==◌, ap, not, ◌∙◌}
use Rattle.snap_collector.specs.Collecting.{made_in}
use Rattle.snap_collector.specs.Verdicts.{has_part}
use Rattle.snap_collector.proofs.verdicts.differs.Goals as goal

pub returns : goal.returns
returns c = c.names_another.ensures ∙ ap (λ e. has_part (made_in c.args.offers.now) c.args.peer (λ other. not (e == other.incarnation c.args.router))) c.epoch-epoch.ensures
