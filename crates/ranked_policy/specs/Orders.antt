-- Which of two paths a router prefers.
use Rattle.std.specs.Prelude.{ℕ, ◌≡◌, ◌≢◌, ◌<◌, List, ◌∷◌, ◌++◌, length}
use Rattle.std.specs.List.{Contains}
use mathlib.Core.Logic.{◌⊎◌}
use Rattle.std.specs.declared.cmp.Ordering.{Ordering}
use Rattle.std.specs.Ordering.{nat_cmp, ordering_then}
use Rattle.prefix_lanes.specs.Bits.{PrefixView}

-- on the permitted paths: no path is better than itself, a path better than a better one is better, and of two paths
-- one is better
pub record IsStrictTotalOrder (Permits : List ℕ → Type 0) (Prefers : List ℕ → List ℕ → Type 0) : Type 0 where
  pub irreflexive : (p : List ℕ) → Permits p → Prefers p p → ⊥
  pub transitive : (p q r : List ℕ) → Permits p → Permits q → Permits r → Prefers p q → Prefers q r → Prefers p r
  pub total : (p q : List ℕ) → Permits p → Permits q → p ≢ q → Prefers p q ⊎ Prefers q p

-- in a list, best first: a stands where b has not come yet
pub record ComesFirst (paths : List (List ℕ)) (a b : List ℕ) : Type 0 where
  pub before : List (List ℕ)
  pub behind : List (List ℕ)
  pub whole : paths ≡ before ++ a ∷ behind
  pub not_before : Contains before b → ⊥
  pub other : a ≢ b

-- in a dictionary of lists of one length: where they begin to differ, the first has the smaller number
pub record ComesEarlier (a b : List ℕ) : Type 0 where
  pub common : List ℕ
  pub mine : ℕ
  pub theirs : ℕ
  pub my_rest : List ℕ
  pub their_rest : List ℕ
  pub first : a ≡ common ++ mine ∷ my_rest
  pub second : b ≡ common ++ theirs ∷ their_rest
  pub smaller : mine < theirs

-- the shorter first, then as in a dictionary
abbrev pub IsShorter : List ℕ → List ℕ → Type 0
IsShorter a b = (length a < length b) ⊎ ((length a ≡ length b) × ComesEarlier a b)

-- how two prefixes stand to each other: by address, then by length
abbrev pub compared : PrefixView → PrefixView → Ordering
compared p q = ordering_then (nat_cmp p.addr q.addr) (nat_cmp p.len q.len)
