-- The words of peers and the kept paths of one router (RFC 4271 section 3.2), and what each call does to them.
-- What a table holds is told by a look-up alone: `word_of` at a peer and a prefix, `path_of` at a prefix.
use Rattle.std.specs.Prelude.{ℕ, ◌≡◌, ◌≢◌, ◌==◌, ◌&&◌, Bool, List, [], ◌∷◌, if◌then◌else◌}
use Rattle.prefix_lanes.specs.Bits.{PrefixView, is_prefix}
use Rattle.bgp_codec.specs.declared.update.Update.{Update}
use Rattle.ranked_policy.specs.declared.network.Origin.{Origin}
use Rattle.ranked_policy.specs.Plans.{IsNamed}
use Rattle.rib_tables.specs.declared.word.Word.{Word}
use Rattle.rib_tables.specs.declared.word.Word.TheVariants.{Sequence}
use Rattle.rib_tables.specs.Words.{nothing, Mentions, Says}

-- what a peer says of a prefix
pub record Said : Type 0 where
  pub peer : ℕ
  pub prefix : PrefixView
  pub word : Word

-- a prefix and the path that is kept for it
pub record Kept : Type 0 where
  pub prefix : PrefixView
  pub path : List ℕ

-- the words of all peers, and the kept paths
abbrev pub Words : Type 0
Words = List Said

abbrev pub Paths : Type 0
Paths = List Kept

-- this is the word of the peer for the prefix
abbrev pub is_of : Said → ℕ → PrefixView → Bool
is_of s peer q = (s.peer == peer) && is_prefix s.prefix q

-- the word of a peer for a prefix: nothing where none stands
unfoldable pub word_of : Words → ℕ → PrefixView → Word
word_of [] peer q = nothing
word_of (s ∷ rest) peer q = if is_of s peer q then s.word else word_of rest peer q

-- the path that is kept for a prefix: the empty path if none stands
unfoldable pub path_of : Paths → PrefixView → List ℕ
path_of [] q = []
path_of (k ∷ rest) q = if is_prefix k.prefix q then k.path else path_of rest q

-- nothing was said of any prefix
abbrev pub IsSilent : Words → Type 0
IsSilent words = (peer : ℕ) (q : PrefixView) → word_of words peer q ≡ nothing

-- no path is kept
abbrev pub KeepsNothing : Paths → Type 0
KeepsNothing paths = (q : PrefixView) → path_of paths q ≡ []

-- the last word sent to the peer for the prefix is the kept path; no mention counts as the empty path
abbrev pub IsTold : Words → Paths → ℕ → PrefixView → Type 0
IsTold sent kept peer q = word_of sent peer q ≡ Sequence (path_of kept q)

-- an UPDATE of a peer, in a network with these origins: each prefix that the network names has what the UPDATE says of it,
-- and every other word is as it was
pub record Applies (origins : List Origin) (old new : Words) (peer : ℕ) (u : Update) : Type 0 where
  pub said : (q : PrefixView) (word : Word) → IsNamed origins q → Says u q word → word_of new peer q ≡ word
  pub unsaid : (q : PrefixView) → (Mentions u q → ⊥) → word_of new peer q ≡ word_of old peer q
  pub unnamed : (q : PrefixView) → (IsNamed origins q → ⊥) → word_of new peer q ≡ word_of old peer q
  pub others : (v : ℕ) (q : PrefixView) → v ≢ peer → word_of new v q ≡ word_of old v q

-- all words of a peer are gone, and those of every other are as they were
pub record Forgets (old new : Words) (peer : ℕ) : Type 0 where
  pub gone : (q : PrefixView) → word_of new peer q ≡ nothing
  pub others : (v : ℕ) (q : PrefixView) → v ≢ peer → word_of new v q ≡ word_of old v q

-- the prefix has this path, and each other one the path that it had
pub record Keeps (old new : Paths) (q : PrefixView) (path : List ℕ) : Type 0 where
  pub kept : path_of new q ≡ path
  pub others : (p : PrefixView) → p ≢ q → path_of new p ≡ path_of old p
