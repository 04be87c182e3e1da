-- what of the row went before this place, while the row is busy and stands at the end of the trail
use Rattle.std.specs.Prelude.{cond}
use Rattle.std.specs.List.{sum_by}
use Rattle.wheel_search.specs.Letting.{IsOn}
use Rattle.wheel_search.proofs.letting.+let_go.Given as goal

abbrev pub decreases-let_go : goal.decreases-let_go
decreases-let_go l = sum_by (λ busy. cond busy 0 1) l.letting.now.busy.items

abbrev pub invariant-loop-place : goal.invariant-loop-place
invariant-loop-place l = IsOn l.waits l.fn.letting l.letting.gone.items l.letting.busy.items l.letting.trail.items l.row l.place
