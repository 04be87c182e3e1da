-- A stream as frames and a rest (RFC 4271 section 4.1: each message says its own length).
use Rattle.std.specs.Prelude.{◌≡◌, ℕ, ◌≤◌, ◌<◌, List, [], ◌∷◌, ◌++◌, length, take, drop, Some, None, ◌⊎◌}
use Rattle.std.specs.List.{concat, AllByRecursion}
use Rattle.bgp_values.specs.declared.messages.TheConstants.{HEADER_LEN}
use Rattle.bgp_codec.specs.declared.fault.Fault.{Fault}
use Rattle.bgp_codec.specs.Header.{header_fault, length_field, IsFrame}

-- these frames joined, and a rest that begins with no frame, are the octets
pub record Splits (octets : List ℕ) (frames : List (List ℕ)) (rest : List ℕ) : Type 0 where
  pub whole : octets ≡ concat frames ++ rest
  pub each : AllByRecursion IsFrame frames
  pub last : (frame more : List ℕ) → IsFrame frame → rest ≡ frame ++ more → ⊥

-- each list of octets is one list of frames and one rest
abbrev pub SplitsOnce : Type 0
SplitsOnce = (octets : List ℕ) →
    ((frames : List (List ℕ)) × (rest : List ℕ) × Splits octets frames rest)
    × ((fs gs : List (List ℕ)) (r s : List ℕ) → Splits octets fs r → Splits octets gs s → (fs ≡ gs) × (r ≡ s))

-- the frames of a followed by b are those of a, then those of a's rest followed by b
abbrev pub SplitsInPieces : Type 0
SplitsInPieces = (a b : List ℕ) (fs gs : List (List ℕ)) (r s : List ℕ) → Splits a fs r → Splits (r ++ b) gs s → Splits (a ++ b) (fs ++ gs) s

-- too few octets for a header, or a good header and too few octets behind it
abbrev pub IsPartial : List ℕ → Type 0
IsPartial octets = (length octets < HEADER_LEN) ⊎ ((HEADER_LEN ≤ length octets) × (header_fault octets ≡ None) × (length octets < length_field octets))

-- a header that fails a check
abbrev pub IsFaulty : List ℕ → Type 0
IsFaulty octets = (fault : Fault) × (HEADER_LEN ≤ length octets) × (header_fault octets ≡ Some fault)

-- a rest is partial or faulty
abbrev pub RestIs : Type 0
RestIs = (octets : List ℕ) (frames : List (List ℕ)) (rest : List ℕ) → Splits octets frames rest → IsPartial rest ⊎ IsFaulty rest

-- and where one or the other stands in front, it is all rest, whatever follows a faulty header
abbrev pub SplitsIntoNothing : Type 0
SplitsIntoNothing = (octets : List ℕ) →
    (IsPartial octets → Splits octets [] octets)
    × ((fault : Fault) (more : List ℕ) → HEADER_LEN ≤ length octets → header_fault octets ≡ Some fault
    → (header_fault (octets ++ more) ≡ Some fault) × Splits (octets ++ more) [] (octets ++ more))

-- a frame in front, as its Length says, and the frames of what stands behind it
abbrev pub SplitsBehindAFrame : Type 0
SplitsBehindAFrame = (octets more : List ℕ) (end : ℕ) → end ≤ length octets → IsFrame (take end octets) →
    (length_field octets ≡ end)
    × ((frames : List (List ℕ)) (rest : List ℕ) → Splits (drop end octets ++ more) frames rest → Splits (octets ++ more) (take end octets ∷ frames) rest)
