-- What an UPDATE says of a prefix (RFC 4271 sections 3.2 and 4.3).
use Rattle.std.specs.Prelude.{ℕ, ◌≡◌, ◌||◌, Bool, false, List, [], ◌∷◌, Option, Some, None, if◌then◌else◌}
use Rattle.std.specs.List.{Contains}
use mathlib.Core.Logic.{◌⊎◌}
use Rattle.prefix_lanes.specs.Bits.{PrefixView, is_prefix}
use Rattle.bgp_codec.specs.declared.attributes.Attrs.{Attrs}
use Rattle.bgp_codec.specs.declared.path.Segment.{Segment}
use Rattle.bgp_codec.specs.declared.path.SegmentKind.{SegmentKind}
use Rattle.bgp_codec.specs.declared.path.SegmentKind.TheVariants.{AsSet, AsSequence}
use Rattle.bgp_codec.specs.declared.update.Update.{Update}
use Rattle.rib_tables.specs.declared.word.Word.{Word}
use Rattle.rib_tables.specs.declared.word.Word.TheVariants.{Sequence, Other}

-- the empty path: what a withdrawal says, and what is said of a prefix that was never mentioned
abbrev pub nothing : Word
nothing = Sequence []

-- the path that a word gives: the empty path if it gives none
abbrev pub path_in : Word → List ℕ
path_in (Sequence path) = path
path_in Other = []

-- exactly one AS_SEQUENCE is a path; a set, several segments and none are not
abbrev pub segment_word : SegmentKind → List ℕ → Word
segment_word AsSequence numbers = Sequence numbers
segment_word AsSet numbers = Other

abbrev pub segments_word : List Segment → Word
segments_word [] = Other
segments_word (s ∷ []) = segment_word s.kind s.numbers
segments_word (s ∷ t ∷ rest) = Other

abbrev pub path_word : Option (List Segment) → Word
path_word None = Other
path_word (Some segments) = segments_word segments

-- what the attributes of an UPDATE say of the prefixes that it announces
abbrev pub announced_word : Attrs → Word
announced_word attrs = path_word attrs.path

-- the UPDATE announces the prefix, or withdraws it
abbrev pub Announces : Update → PrefixView → Type 0
Announces u q = Contains u.nlri q

abbrev pub Withdraws : Update → PrefixView → Type 0
Withdraws u q = Contains u.withdrawn q

abbrev pub Mentions : Update → PrefixView → Type 0
Mentions u q = Announces u q ⊎ Withdraws u q

-- the word of an UPDATE for a prefix that it mentions; an announcement wins over a withdrawal
abbrev pub Says : Update → PrefixView → Word → Type 0
Says u q word =
    (Announces u q × (word ≡ announced_word u.attrs))
    ⊎ ((Announces u q → ⊥) × Withdraws u q × (word ≡ nothing))

-- the UPDATE tells one path of one prefix: it announces the path, or withdraws the prefix if the path is empty
abbrev pub TellsPath : Update → PrefixView → List ℕ → Type 0
TellsPath u q path =
    ((u.withdrawn ≡ []) × (u.nlri ≡ q ∷ []) × (announced_word u.attrs ≡ Sequence path))
    ⊎ ((u.withdrawn ≡ q ∷ []) × (u.nlri ≡ []) × (path ≡ []))

-- ---- what an UPDATE says, as tests

abbrev pub lists : List PrefixView → PrefixView → Bool
lists [] q = false
lists (p ∷ ps) q = is_prefix p q || lists ps q

abbrev pub mentions : Update → PrefixView → Bool
mentions u q = lists u.nlri q || lists u.withdrawn q

-- ---- what UPDATEs say, as functions

-- the word on a prefix after an UPDATE, in which an announcement wins over a withdrawal
abbrev pub word_after : Word → Update → PrefixView → Word
word_after word u q = if lists u.nlri q then announced_word u.attrs else if lists u.withdrawn q then nothing else word

-- the word on a prefix after these UPDATEs, one after the other
abbrev pub last_word : Word → List Update → PrefixView → Word
last_word word [] q = word
last_word word (u ∷ us) q = last_word (word_after word u q) us q
