use Rattle.prefix_lanes.proofs.Prefixes.{covers_test, longer_test}
use Rattle.prefix_lanes.proofs.prefix.Prefix.covers.Goals as goal

-- the first bits are compared where this prefix is no longer
pub returns-then-self-other : goal.returns-then-self-other
returns-then-self-other c = rw (← c.self.view_is, ← c.other.view_is) (covers_test _ _ _ c.self.invariant c.other.invariant c.if-self-other.true c.begin_alike.ensures)

pub returns-else-self-other : goal.returns-else-self-other
returns-else-self-other c = rw (← c.self.view_is, ← c.other.view_is) (longer_test _ _ c.self.invariant c.other.invariant c.if-self-other.false)
