-- Two known instances of the stable paths problem (Griffin, Shepherd and Wilfong 2002), for one prefix whose origin is
-- router 1.
use Rattle.std.specs.Prelude.{ℕ, ◌≡◌, ◌==◌, ◌&&◌, Bool, true, false, cond, List, [], ◌∷◌}
use mathlib.Core.Logic.{◌⊎◌}
use Rattle.run_model.specs.Routes.{Network, IsStableAssignment}

abbrev pub Path : Type 0
Path = List ℕ

abbrev pub same_path : Path → Path → Bool
same_path [] [] = true
same_path [] (v ∷ vs) = false
same_path (u ∷ us) [] = false
same_path (u ∷ us) (v ∷ vs) = (u == v) && same_path us vs

-- a permitted path is a choice if its next router has the rest of it
abbrev pub is_choice : Path → (ℕ → Path) → Bool
is_choice [] words = false
is_choice (u ∷ []) words = false
is_choice (u ∷ v ∷ rest) words = same_path (words v) (v ∷ rest)

-- the first of the permitted paths, best first, that is a choice
abbrev pub first_choice : List Path → (ℕ → Path) → Path
first_choice [] words = []
first_choice (path ∷ paths) words = cond (is_choice path words) path (first_choice paths words)

-- a network of these links in which routers rank these paths; what messages tell plays no part
abbrev pub ranked : (ℕ → Bool) → (ℕ → ℕ → Bool) → (ℕ → List Path) → Network ℕ ℕ Path
ranked routers linked permitted = record {
  routers = routers;
  linked = linked;
  named = λ p. true;
  same_prefix = λ p q. p == q;
  is_update = λ m. false;
  mentions = λ m. [];
  no_path = [];
  best = λ u p originated words. cond (u == 1) (cond originated (1 ∷ []) []) (first_choice (permitted u) words);
}

abbrev pub one_of : List ℕ → ℕ → Bool
one_of [] u = false
one_of (v ∷ vs) u = cond (u == v) true (one_of vs u)

-- what routers 1 to 4 have; any other router has nothing
abbrev pub by_number : {A : Type 0} (a b c d : List A) → ℕ → List A
by_number a b c d u = cond (u == 1) a (cond (u == 2) b (cond (u == 3) c (cond (u == 4) d [])))

-- DISAGREE: 2 and 3 each prefer the way through the other
abbrev pub disagree : Network ℕ ℕ Path
disagree =
    ranked (one_of (1 ∷ 2 ∷ 3 ∷ []))
    (λ u. one_of (by_number (2 ∷ 3 ∷ []) (1 ∷ 3 ∷ []) (1 ∷ 2 ∷ []) [] u))
    (by_number [] ((2 ∷ 3 ∷ 1 ∷ []) ∷ (2 ∷ 1 ∷ []) ∷ []) ((3 ∷ 2 ∷ 1 ∷ []) ∷ (3 ∷ 1 ∷ []) ∷ []) [])

abbrev pub from_1 : ℕ → Bool
from_1 u = u == 1

-- DISAGREE has exactly two stable assignments
abbrev pub DisagreeHasTwo : Type 0
DisagreeHasTwo =
    IsStableAssignment disagree 7 from_1 (by_number (1 ∷ []) (2 ∷ 3 ∷ 1 ∷ []) (3 ∷ 1 ∷ []) [])
    × IsStableAssignment disagree 7 from_1 (by_number (1 ∷ []) (2 ∷ 1 ∷ []) (3 ∷ 2 ∷ 1 ∷ []) [])
    × ((path : ℕ → Path) → IsStableAssignment disagree 7 from_1 path
    → (path 1 ≡ 1 ∷ [])
    × (((path 2 ≡ 2 ∷ 3 ∷ 1 ∷ []) × (path 3 ≡ 3 ∷ 1 ∷ [])) ⊎ ((path 2 ≡ 2 ∷ 1 ∷ []) × (path 3 ≡ 3 ∷ 2 ∷ 1 ∷ []))))

-- the ring: each of 2, 3 and 4 prefers the way through the next
abbrev pub ring : Network ℕ ℕ Path
ring =
    ranked (one_of (1 ∷ 2 ∷ 3 ∷ 4 ∷ []))
    (λ u. one_of (by_number (2 ∷ 3 ∷ 4 ∷ []) (1 ∷ 3 ∷ 4 ∷ []) (1 ∷ 2 ∷ 4 ∷ []) (1 ∷ 2 ∷ 3 ∷ []) u))
    (by_number [] ((2 ∷ 3 ∷ 1 ∷ []) ∷ (2 ∷ 1 ∷ []) ∷ []) ((3 ∷ 4 ∷ 1 ∷ []) ∷ (3 ∷ 1 ∷ []) ∷ []) ((4 ∷ 2 ∷ 1 ∷ []) ∷ (4 ∷ 1 ∷ []) ∷ []))

-- the ring has no stable assignment
abbrev pub RingHasNone : Type 0
RingHasNone = (path : ℕ → Path) → IsStableAssignment ring 7 from_1 path → ⊥
