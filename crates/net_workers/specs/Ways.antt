-- The pipes of a network when all workers have ended: what was put into each, and what was taken out of it.
use Rattle.std.specs.Prelude.{ℕ, ◌≡◌, ◌≤◌, ◌==◌, ◌&&◌, ◌++◌, Bool, cond, List, [], ◌∷◌, length, map}
use Rattle.std.specs.List.{AllByRecursion, flat_map}
use Rattle.ranked_policy.specs.Plans.{Plan}
use Rattle.ranked_policy.specs.declared.network.Link.{Link}
use Rattle.ruled_pipe.specs.Ends.{left}
use Rattle.net_workers.specs.declared.record.ClosedPipe.{ClosedPipe}
use Rattle.net_workers.specs.Ran.{Passed}

-- the way leads from u to v
abbrev pub leads : ℕ → ℕ → ClosedPipe → Bool
leads u v w = (w.from == u) && (w.to == v)

-- what the first way from u to v has, or `none` if no way leads there
abbrev pub way_has : {B : Type 0} → (ClosedPipe → B) → B → List ClosedPipe → ℕ → ℕ → B
way_has what none [] u v = none
way_has what none (w ∷ ws) u v = cond (leads u v w) (what w) (way_has what none ws u v)

-- the items put from each router towards each other, and taken by each from each other
abbrev pub passed_in : List ClosedPipe → Passed
passed_in ways = record {
  put = λ u v. way_has (λ w. w.tail.put) [] ways u v;
  taken = λ u v. way_has (λ w. w.tail.taken) [] ways v u;
}

-- what was put into a pipe is what was taken, followed by what is left in it, which is no more than the network says
pub record IsWay (net : Plan) (w : ClosedPipe) : Type 0 where
  pub in_turn : w.tail.put ≡ w.tail.taken ++ left w.tail
  pub room : w.tail.room ≡ net.settings.pipe
  pub held : length (left w.tail) ≤ net.settings.pipe

-- the two ways of a link, there and back
abbrev pub both_ways : Link → List (ℕ × ℕ)
both_ways link = (link.one, link.other) ∷ (link.other, link.one) ∷ []

-- both ways of each link of the network, in its order
pub record AreWays (net : Plan) (ways : List ClosedPipe) : Type 0 where
  pub between : map (λ w. (w.from, w.to)) ways ≡ flat_map both_ways net.links
  pub each : AllByRecursion (IsWay net) ways
