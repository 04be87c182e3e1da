use Rattle.std.proofs.Common.{◌≡◌, ℕ, ◌<◌, not, length}
use Rattle.std.specs.Prelude.{slice_index}
use Rattle.std.specs.List.{count_by}
use Rattle.ranked_policy.specs.Plans.{numbers, Joined}
use Rattle.ranked_policy.specs.Reaching.{IsMarked}
use Rattle.ranked_policy.proofs.connected.is_connected.Given as goal

-- the first is marked, and links lead from it to all that are
abbrev pub invariant-marking : goal.invariant-marking
invariant-marking l = record {
  room : length l.reached ≡ 64;
  first : IsMarked l.reached 0;
  reached : (k : ℕ) → k < length l.routers → IsMarked l.reached k → Joined l.links (slice_index (numbers l.routers) 0) (slice_index (numbers l.routers) k);
}

abbrev pub decreases-marking : goal.decreases-marking
decreases-marking l = count_by not l.reached
