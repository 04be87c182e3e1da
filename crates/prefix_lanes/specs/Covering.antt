-- The longest prefix of a list that covers a prefix.
use Rattle.std.specs.Prelude.{ℕ, ◌≡◌, ◌≤◌, ◌<◌, List, ◌∷◌, ◌++◌, length, Option, Some, None}
use Rattle.std.specs.List.{All}
use Rattle.prefix_lanes.specs.Bits.{PrefixView, Covers}

-- those before it that cover are shorter, those behind it no longer
pub record StandsAt (entries : List PrefixView) (q : PrefixView) (at : ℕ) (p : PrefixView) : Type 0 where
  pub before : List PrefixView
  pub behind : List PrefixView
  pub whole : entries ≡ before ++ p ∷ behind
  pub place : length before ≡ at
  pub covers : Covers p q
  pub shorter : All (λ e. Covers e q → e.len < p.len) before
  pub no_longer : All (λ e. Covers e q → e.len ≤ p.len) behind

-- the place of the longest that covers, the first among equals; none if none covers
abbrev pub IsLongest : List PrefixView → PrefixView → Option ℕ → Type 0
IsLongest entries q None = All (λ e. Covers e q → ⊥) entries
IsLongest entries q (Some at) = (p : PrefixView) × StandsAt entries q at p

-- a list and a prefix have one answer
abbrev pub OneLongest : Type 0
OneLongest = (entries : List PrefixView) (q : PrefixView) (r s : Option ℕ) → IsLongest entries q r → IsLongest entries q s → r ≡ s
