-- The best of a router's choices over the words that it heard (RFC 4271 section 9.1.2; Griffin, Shepherd and Wilfong 2002, section 2).
use Rattle.std.specs.Prelude.{ℕ, ◌≡◌, List, [], ◌∷◌}
use Rattle.std.specs.List.{Contains}
use mathlib.Core.Logic.{◌⊎◌}
use Rattle.prefix_lanes.specs.Bits.{PrefixView}
use Rattle.ranked_policy.specs.Plans.{Plan, IsNetwork, IsRouter}
use Rattle.ranked_policy.specs.Policies.{Table, IsTableOf, Originates}
use Rattle.ranked_policy.specs.Choices.{IsFirstOrNone}
use Rattle.rib_tables.specs.declared.word.Word.TheVariants.{Sequence}
use Rattle.rib_tables.specs.Tables.{Words, Paths, word_of, path_of}

-- what a router's choices are taken from: its network and number, the words heard, the peers whose session is Established,
-- and the prefixes that it originates now
pub record SourcesView : Type 0 where
  pub net : Plan
  pub router : ℕ
  pub heard : Words
  pub established : List ℕ
  pub originated : List PrefixView

pub record IsSources (s : SourcesView) : Type 0 where
  pub network : IsNetwork s.net
  pub router : IsRouter s.net.routers s.router

-- this path is heard from one of these peers: its word is one AS_SEQUENCE
abbrev pub Hears : Words → List ℕ → PrefixView → ℕ → List ℕ → Type 0
Hears words peers q v path = Contains peers v × (word_of words v q ≡ Sequence path)

-- the path of the origin of a prefix: itself alone while it originates the prefix, else the empty path
abbrev pub IsOwn : Type 0 → ℕ → List ℕ → Type 0
IsOwn Originated router path = (Originated × (path ≡ router ∷ [])) ⊎ ((Originated → ⊥) × (path ≡ []))

-- the best of the choices of a table's router
abbrev pub IsBestOf : Type 0 → (ℕ → List ℕ → Type 0) → Table → PrefixView → List ℕ → Type 0
IsBestOf Originated Heard table q path =
    (Originates table q table.router × IsOwn Originated table.router path)
    ⊎ ((Originates table q table.router → ⊥) × IsFirstOrNone Heard table q path)

abbrev pub IsBest : SourcesView → PrefixView → List ℕ → Type 0
IsBest s q path = (table : Table) × IsTableOf s.net s.router table × IsBestOf (Contains s.originated q) (Hears s.heard s.established q) table q path

-- the kept path is the best
abbrev pub IsDecided : SourcesView → Paths → PrefixView → Type 0
IsDecided s paths q = IsBest s q (path_of paths q)
