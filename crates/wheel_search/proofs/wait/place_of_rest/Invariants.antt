-- the path goes on by none from a top on, and this is the last place below it whose path has the key of what it goes on by
use Rattle.std.proofs.Common.{◌≡◌, ◌<◌, ◌≤◌, ◌∷◌, [], ℕ, List, length, get_or}
use Rattle.wheel_search.specs.Chains.{path_key, IsLast}
use Rattle.wheel_search.proofs.wait.place_of_rest.Given as goal

abbrev pub invariant-places : goal.invariant-places
invariant-places l = record {
  top : ℕ;
  wanted : ℕ;
  within : top ≤ length l.paths;
  has : (rest : List ℕ) → l.path ≡ l.router ∷ rest → path_key rest ≡ wanted;
  last : IsLast l.paths wanted top l.last;
  passed : (k : ℕ) → top ≤ k → k < length l.paths → l.path ≡ l.router ∷ get_or l.paths k [] → ⊥;
}

abbrev pub decreases-places : goal.decreases-places
decreases-places l = l.last
