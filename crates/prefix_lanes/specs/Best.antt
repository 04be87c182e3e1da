-- The best so far, entry by entry. Only private clauses cite it.
use Rattle.std.specs.Prelude.{ℕ, ◌≡◌, ◌<◌, List, Option, Some, None, MatchOption}
use Rattle.std.specs.List.{All}
use Rattle.prefix_lanes.specs.declared.cover_table.Candidate.{Candidate}
use Rattle.prefix_lanes.specs.Bits.{PrefixView, Covers}
use Rattle.prefix_lanes.specs.Covering.{StandsAt}

-- a length is above that of the candidate, if there is one
abbrev pub IsLonger : ℕ → Option Candidate → Type 0
IsLonger len best = MatchOption best (Unit {0}) (λ candidate. candidate.len < len)

-- of these entries the candidate is the longest that covers, the first among equals
abbrev pub IsBest : List PrefixView → PrefixView → Option Candidate → Type 0
IsBest xs q None = All (λ e. Covers e q → ⊥) xs
IsBest xs q (Some best) = (p : PrefixView) × StandsAt xs q best.place p × (p.len ≡ best.len)
