use Rattle.ranked_policy.proofs.WaysOn.{shorter_onward}
use Rattle.ranked_policy.proofs.onward.is_shorter_onward.Goals as goal

pub returns : goal.returns
returns c =
    let same = shorter_onward c.args._router c.args.a.now c.args.b.now in
    (λ t. same.0 (c.is_shorter.ensures.0 t), λ h. c.is_shorter.ensures.1 (same.1 h))
