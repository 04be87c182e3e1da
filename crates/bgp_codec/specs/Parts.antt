-- The parts of an UPDATE, as its octets have them: prefixes, segments and numbers that are read one after the other.
use Rattle.std.specs.Prelude.{◌≡◌, ℕ, ◌+◌, List, [], ◌∷◌, length, Option, Some, None, Result, Ok, Err}
use Rattle.bgp_values.specs.declared.width.Width.{Width}
use Rattle.prefix_lanes.specs.Bits.{PrefixView}
use Rattle.bgp_codec.specs.declared.fault.Fault.{Fault}
use Rattle.bgp_codec.specs.declared.path.Segment.{Segment}
use Rattle.bgp_codec.specs.declared.path.SegmentKind.{SegmentKind}
use Rattle.bgp_codec.specs.UpdateReading.{prefixes_reading, path_reading}

-- the values that were read, or none where reading gave a fault
abbrev pub values_of : {A : Type 0} → Result (List A) Fault → List A
values_of (Ok xs) = xs
values_of (Err first) = []

-- octets that read as so many prefixes
abbrev pub ReadsAs : List ℕ → ℕ → Type 0
ReadsAs octets count = (ps : List PrefixView) × (prefixes_reading octets ≡ Ok ps) × (count ≡ length ps)

-- octets that read as a path
abbrev pub ReadsAsPath : Width → List ℕ → Type 0
ReadsAsPath width octets = (ss : List Segment) × (path_reading width octets ≡ Ok ss)

-- the first of a list, and the others; or that there is none
abbrev pub TakesFirst : {A : Type 0} → List A → Option A → List A → Type 0
TakesFirst old None new = (old ≡ []) × (new ≡ [])
TakesFirst old (Some x) new = old ≡ x ∷ new

-- a segment of this kind, with these numbers
abbrev pub segment : SegmentKind → List ℕ → Segment
segment kind numbers = record { kind = kind; numbers = numbers }

-- the first of segments as its kind and its numbers, and the others; or that there is none
abbrev pub TakesSegment : List Segment → Option (SegmentKind × List ℕ) → List Segment → Type 0
TakesSegment old None new = (old ≡ []) × (new ≡ [])
TakesSegment old (Some s) new = old ≡ segment s.0 s.1 ∷ new

-- how many segments there are, and numbers in them
abbrev pub path_items : List Segment → ℕ
path_items [] = 0
path_items (s ∷ ss) = 1 + length s.numbers + path_items ss

abbrev pub items_of : Option (List Segment) → ℕ
items_of None = 0
items_of (Some ss) = path_items ss
