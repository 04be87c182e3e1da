-- Laws of the tables and the choices over many UPDATEs.
use Rattle.std.specs.Prelude.{ℕ, ◌≡◌, ◌≢◌, ◌↔◌, List, [], ◌∷◌, ◌++◌}
use Rattle.std.specs.List.{Contains, All}
use mathlib.Core.Logic.{◌⊎◌}
use Rattle.prefix_lanes.specs.Bits.{PrefixView}
use Rattle.bgp_codec.specs.declared.update.Update.{Update}
use Rattle.ranked_policy.specs.declared.network.Origin.{Origin}
use Rattle.ranked_policy.specs.Plans.{IsNamed, Linked}
use Rattle.ranked_policy.specs.Policies.{Table, IsTableOf}
use Rattle.ranked_policy.specs.Choices.{HasPathOver}
use Rattle.rib_tables.specs.declared.word.Word.{Word}
use Rattle.rib_tables.specs.declared.word.Word.TheVariants.{Sequence}
use Rattle.rib_tables.specs.Words.{nothing, path_in, Mentions, Says, word_after, last_word}
use Rattle.rib_tables.specs.Tables.{Words, word_of, Applies}
use Rattle.rib_tables.specs.Choices.{SourcesView, IsSources, IsBest, IsBestOf}

-- the UPDATEs of a peer, one after the other, lead from one table to another
abbrev pub AppliesAll : List Origin → Words → Words → ℕ → List Update → Type 0
AppliesAll origins old new peer [] = (v : ℕ) (q : PrefixView) → word_of new v q ≡ word_of old v q
AppliesAll origins old new peer (u ∷ us) = (between : Words) × Applies origins old between peer u × AppliesAll origins between new peer us

-- an UPDATE of the list says this of the prefix, and none behind it mentions the prefix
pub record IsLastMention (us : List Update) (q : PrefixView) (word : Word) : Type 0 where
  pub before : List Update
  pub update : Update
  pub behind : List Update
  pub whole : us ≡ before ++ update ∷ behind
  pub says : Says update q word
  pub last : All (λ u. Mentions u q → ⊥) behind

-- the word of a list of UPDATEs for a prefix: that of the last mention, or nothing where none mentions it
abbrev pub IsLastWord : List Update → PrefixView → Word → Type 0
IsLastWord us q word = IsLastMention us q word ⊎ (All (λ u. Mentions u q → ⊥) us × (word ≡ nothing))

-- from a peer of which nothing is known, each prefix of the network has the last word of its UPDATEs, every other prefix none;
-- the words of other peers are as they were
pub record HoldsLastWords (origins : List Origin) (old new : Words) (peer : ℕ) (us : List Update) : Type 0 where
  pub last : (q : PrefixView) → IsNamed origins q → IsLastWord us q (word_of new peer q)
  pub unnamed : (q : PrefixView) → (IsNamed origins q → ⊥) → word_of new peer q ≡ nothing
  pub others : (v : ℕ) (q : PrefixView) → v ≢ peer → word_of new v q ≡ word_of old v q

abbrev pub LastWordStays : Type 0
LastWordStays =
    (origins : List Origin) (old new : Words) (peer : ℕ) (us : List Update) → ((q : PrefixView) → word_of old peer q ≡ nothing)
    → AppliesAll origins old new peer us → HoldsLastWords origins old new peer us

-- if the word of a prefix is the last word of some UPDATEs, then after one UPDATE more it is the last word of those and
-- this one
abbrev pub LastWordGoesOn : Type 0
LastWordGoesOn =
    (origins : List Origin) (old new : Words) (peer : ℕ) (u : Update) (us : List Update) → Applies origins old new peer u
    → (q : PrefixView) → IsNamed origins q → IsLastWord us q (word_of old peer q) → IsLastWord (us ++ u ∷ []) q (word_of new peer q)

-- a list of UPDATEs has one word for each prefix
abbrev pub OneLastWord : Type 0
OneLastWord = (us : List Update) (q : PrefixView) (a b : Word) → IsLastWord us q a → IsLastWord us q b → a ≡ b

-- as a function: after an UPDATE, the word of each prefix of the network is `word_after` of the word before
abbrev pub WordFollows : Type 0
WordFollows =
    (origins : List Origin) (old new : Words) (peer : ℕ) (u : Update) → Applies origins old new peer u
    → (q : PrefixView) → IsNamed origins q → word_of new peer q ≡ word_after (word_of old peer q) u q

-- as a function: after the UPDATEs of a list, the word of each prefix of the network is `last_word` of the word before
abbrev pub WordsFollow : Type 0
WordsFollow =
    (origins : List Origin) (old new : Words) (peer : ℕ) (us : List Update) → AppliesAll origins old new peer us
    → (q : PrefixView) → IsNamed origins q → word_of new peer q ≡ last_word (word_of old peer q) us q

-- `last_word` from nothing is the word of the last mention
abbrev pub LastIsLastMention : Type 0
LastIsLastMention = (us : List Update) (q : PrefixView) → IsLastWord us q (last_word nothing us q)

-- a router has at most one best path
abbrev pub OneBest : Type 0
OneBest = (s : SourcesView) → IsSources s → (q : PrefixView) (a b : List ℕ) → IsBest s q a → IsBest s q b → a ≡ b

-- the words heard over the links of the router are the paths of its peers
pub record HearsPaths (s : SourcesView) (q : PrefixView) (paths : ℕ → List ℕ) : Type 0 where
  pub linked : (v : ℕ) → (Contains s.established v ↔ Linked s.net.links s.router v)
  pub words : (v : ℕ) → Linked s.net.links s.router v → word_of s.heard v q ≡ Sequence (paths v)

-- then the choices are those of an assignment of paths: the router, then the path of a linked router
abbrev pub BestAmongPaths : Type 0
BestAmongPaths =
    (s : SourcesView) (q : PrefixView) (paths : ℕ → List ℕ) → HearsPaths s q paths → (path : List ℕ)
    → (IsBest s q path ↔ ((table : Table) × IsTableOf s.net s.router table × IsBestOf (Contains s.originated q) (HasPathOver s.net.links paths s.router) table q path))

-- the words that a router hears, of all linked routers: an Established peer's word, read as a path, and the empty path
-- from every other one
pub record HearsWords (s : SourcesView) (q : PrefixView) (words : ℕ → List ℕ) : Type 0 where
  pub linked : (v : ℕ) → Contains s.established v → Linked s.net.links s.router v
  pub said : (v : ℕ) → Linked s.net.links s.router v
      → (Contains s.established v × (words v ≡ path_in (word_of s.heard v q))) ⊎ ((Contains s.established v → ⊥) × (words v ≡ []))

-- whichever sessions are Established, the best path is the best over these words
abbrev pub BestOverWords : Type 0
BestOverWords =
    (s : SourcesView) (q : PrefixView) (words : ℕ → List ℕ) → HearsWords s q words → (path : List ℕ)
    → (IsBest s q path ↔ ((table : Table) × IsTableOf s.net s.router table × IsBestOf (Contains s.originated q) (HasPathOver s.net.links words s.router) table q path))
