-- the values picked are the only ones of the sets passed
use Rattle.std.proofs.Common.{◌≡◌, ◌<◌, ℕ, length, get_or}
use Rattle.stable_search.specs.Picks.{IsOnly}
use Rattle.stable_search.proofs.picking.only_pick.Given as goal

abbrev pub invariant-loop-set : goal.invariant-loop-set
invariant-loop-set l = (length l.pick.items ≡ l.set-index) × ((i : ℕ) → i < l.set-index → IsOnly (get_or l.sets i 0) (get_or l.pick.items i 0))
