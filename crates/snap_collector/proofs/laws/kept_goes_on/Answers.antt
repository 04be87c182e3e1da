use Rattle.snap_collector.proofs.Deciding.{kept_aside, kept_late, kept_more}
use Rattle.snap_collector.proofs.laws.kept_goes_on.Goals as goal

pub returns : goal.returns
returns c = λ members s made kept m k.
    ((λ n. kept_aside members s made kept m n k), ((λ e d. kept_late members s made kept m e d k), λ e d. kept_more members s made kept m e d k))
