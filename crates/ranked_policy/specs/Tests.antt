-- A router's permitted paths, their order and the best of some choices as functions that compute.
use Rattle.std.specs.Prelude.{ℕ, ◌≡◌, ◌≢◌, ◌==◌, ◌&&◌, ◌||◌, not, nat_lt, nat_le, Bool, true, false, List, [], ◌∷◌, length, Option, Some, None, if◌then◌else◌}
use Rattle.std.specs.Bool.{Decides}
use Rattle.std.specs.List.{list_any, Contains}
use mathlib.Core.Logic.{◌⊎◌}
use Rattle.prefix_lanes.specs.Bits.{PrefixView, bits, is_prefix}
use Rattle.ranked_policy.specs.declared.limits.TheConstants.{LONGEST_PATH}
use Rattle.ranked_policy.specs.declared.network.RankRule.{RankRule}
use Rattle.ranked_policy.specs.Policies.{Table, IsTable, IsPermitted, IsPreferred}

-- ---- prefixes

abbrev pub same_bit : Bool → Bool → Bool
same_bit true b = b
same_bit false b = not b

-- the second list of bits begins with the first
abbrev pub begins_with : List Bool → List Bool → Bool
begins_with [] ys = true
begins_with (x ∷ xs) [] = false
begins_with (x ∷ xs) (y ∷ ys) = same_bit x y && begins_with xs ys

abbrev pub covers : PrefixView → PrefixView → Bool
covers p q = begins_with (bits p) (bits q)

-- ---- paths

abbrev pub same_path : List ℕ → List ℕ → Bool
same_path [] [] = true
same_path [] (v ∷ vs) = false
same_path (u ∷ us) [] = false
same_path (u ∷ us) (v ∷ vs) = (u == v) && same_path us vs

abbrev pub starts_at : ℕ → List ℕ → Bool
starts_at u [] = false
starts_at u (v ∷ vs) = v == u

-- no number stands twice
abbrev pub is_simple : List ℕ → Bool
is_simple [] = true
is_simple (u ∷ us) = not (list_any (λ v. v == u) us) && is_simple us

-- the last number passes
abbrev pub ends_at : (ℕ → Bool) → List ℕ → Bool
ends_at passes [] = false
ends_at passes (u ∷ []) = passes u
ends_at passes (u ∷ v ∷ vs) = ends_at passes (v ∷ vs)

-- a way of at most 16 routers from u to an origin
abbrev pub is_route : ℕ → (ℕ → Bool) → List ℕ → Bool
is_route u is_origin path = starts_at u path && (is_simple path && (nat_le (length path) LONGEST_PATH && ends_at is_origin path))

-- ---- which of two paths comes first

-- in a list, best first
abbrev pub comes_first : List (List ℕ) → List ℕ → List ℕ → Bool
comes_first [] a b = false
comes_first (p ∷ ps) a b = not (same_path p b) && (same_path p a || comes_first ps a b)

-- in a dictionary
abbrev pub comes_earlier : List ℕ → List ℕ → Bool
comes_earlier [] b = false
comes_earlier (x ∷ xs) [] = false
comes_earlier (x ∷ xs) (y ∷ ys) = nat_lt x y || ((x == y) && comes_earlier xs ys)

-- the shorter first, then as in a dictionary
abbrev pub is_shorter : List ℕ → List ℕ → Bool
is_shorter a b = nat_lt (length a) (length b) || ((length a == length b) && comes_earlier a b)

-- ---- the policy of a router for a prefix

abbrev pub originates : Table → PrefixView → ℕ → Bool
originates table q u = list_any (λ origin. is_prefix origin.prefix q && (origin.router == u)) table.origins

-- the longer of a rule and another, if there is another
abbrev pub longer : RankRule → Option RankRule → RankRule
longer rule None = rule
longer rule (Some other) = if nat_lt rule.prefix.len other.prefix.len then other else rule

-- the longest rule that covers the prefix
abbrev pub rule_for : List RankRule → PrefixView → Option RankRule
rule_for [] q = None
rule_for (rule ∷ rules) q = if covers rule.prefix q then Some (longer rule (rule_for rules q)) else rule_for rules q

abbrev pub is_listed : Option RankRule → List ℕ → Bool
is_listed None path = true
is_listed (Some rule) path = list_any (λ listed. same_path listed path) rule.paths

abbrev pub comes_before : Option RankRule → List ℕ → List ℕ → Bool
comes_before None a b = is_shorter a b
comes_before (Some rule) a b = comes_first rule.paths a b

abbrev pub permits : Table → PrefixView → List ℕ → Bool
permits table q path =
    if originates table q table.router then same_path path (table.router ∷ [])
    else (is_route table.router (originates table q) path && is_listed (rule_for table.rules q) path)

abbrev pub prefers : Table → PrefixView → List ℕ → List ℕ → Bool
prefers table q a b = not (originates table q table.router) && comes_before (rule_for table.rules q) a b

-- ---- the best of some choices

-- the better of a choice and the best so far: the choice, if it is permitted and either none was before or it is
-- preferred
abbrev pub better : Table → PrefixView → List ℕ → List ℕ → List ℕ
better table q choice best = if permits table q choice && (same_path best [] || prefers table q choice best) then choice else best

-- the first of those that are permitted, or the empty path
abbrev pub best_of : Table → PrefixView → List (List ℕ) → List ℕ
best_of table q [] = []
best_of table q (choice ∷ choices) = better table q choice (best_of table q choices)

-- ---- what the tests decide

-- `permits` decides which paths are permitted
abbrev pub PermitsIsATest : Type 0
PermitsIsATest =
    (table : Table) → IsTable table → (q : PrefixView) (path : List ℕ) → Decides (permits table q path) (IsPermitted table q path)

-- `prefers` decides which of two paths is preferred
abbrev pub PrefersIsATest : Type 0
PrefersIsATest =
    (table : Table) → IsTable table → (q : PrefixView) (a b : List ℕ) → Decides (prefers table q a b) (IsPreferred table q a b)

-- the path is one of the choices, is permitted, and is preferred to each other permitted one
pub record IsFirstOf (table : Table) (q : PrefixView) (choices : List (List ℕ)) (path : List ℕ) : Type 0 where
  pub listed : Contains choices path
  pub permitted : IsPermitted table q path
  pub before : (other : List ℕ) → Contains choices other → IsPermitted table q other → path ≢ other → IsPreferred table q path other

-- the best of some choices is the first of those that are permitted; where none is, the empty path
abbrev pub BestIsFirst : Type 0
BestIsFirst =
    (table : Table) → IsTable table → (q : PrefixView) (choices : List (List ℕ))
    → IsFirstOf table q choices (best_of table q choices)
    ⊎ ((best_of table q choices ≡ []) × ((other : List ℕ) → Contains choices other → IsPermitted table q other → ⊥))
