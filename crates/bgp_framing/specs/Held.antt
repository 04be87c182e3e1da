-- What a framer holds, and what stands in front of it.
use Rattle.std.specs.Prelude.{◌≡◌, ℕ, ◌≤◌, nat_le, ◌&&◌, ◌||◌, Bool, true, List, [], ◌∷◌, length, take, slice_range, Some, is_some}
use Rattle.bgp_values.specs.declared.messages.TheConstants.{HEADER_LEN}
use Rattle.bgp_codec.specs.Header.{header_fault, length_field, IsFrame}
use Rattle.bgp_framing.specs.Frames.{Splits, IsPartial}
use Rattle.bgp_framing.specs.declared.framer.Next.{Next}
use Rattle.bgp_framing.specs.declared.framer.Next.TheVariants.{Whole, More, Bad}
use Rattle.bgp_framing.specs.declared.framer.Front.{Front}
use Rattle.bgp_framing.specs.declared.framer.Front.TheVariants.{Message, TooFew, Faulty}

-- the octets that were fed and not used, and for how many there is room
pub record Held : Type 0 where
  pub octets : List ℕ
  pub room : ℕ

-- the same room, and these octets
abbrev pub with_octets : Held → List ℕ → Held
with_octets held octets = record { octets = octets; room = held.room }

-- what stands in front: a frame, too few octets, or a faulty header
abbrev pub IsNext : List ℕ → Next → Type 0
IsNext octets (Whole start end) = (start ≡ 0) × (end ≤ length octets) × IsFrame (take end octets)
IsNext octets More = IsPartial octets
IsNext octets (Bad fault) = (HEADER_LEN ≤ length octets) × (header_fault octets ≡ Some fault)

-- what stands in front, without the fault, as a framer keeps it
abbrev pub IsFront : List ℕ → Front → Type 0
IsFront octets (Message len) = (len ≤ length octets) × IsFrame (take len octets)
IsFront octets TooFew = IsPartial octets
IsFront octets Faulty = (HEADER_LEN ≤ length octets) × (is_some (header_fault octets) ≡ true)

-- a whole message or a fault stands in front
abbrev pub is_waiting : List ℕ → Bool
is_waiting octets = nat_le HEADER_LEN (length octets) && (is_some (header_fault octets) || nat_le (length_field octets) (length octets))

-- a whole message stands in front
abbrev pub HasFrame : List ℕ → Type 0
HasFrame octets = (end : ℕ) × (end ≤ length octets) × IsFrame (take end octets)

-- the first of the frames, or that there is none
abbrev pub IsFirst : List ℕ → Next → Type 0
IsFirst octets (Whole start end) = (frames : List (List ℕ)) (rest : List ℕ) → Splits octets frames rest → (others : List (List ℕ)) × (frames ≡ slice_range octets start end ∷ others)
IsFirst octets More = (frames : List (List ℕ)) (rest : List ℕ) → Splits octets frames rest → frames ≡ []
IsFirst octets (Bad fault) = (frames : List (List ℕ)) (rest : List ℕ) → Splits octets frames rest → frames ≡ []

-- what stands in front is the first frame, if there is one
abbrev pub NextIsFirst : Type 0
NextIsFirst = (octets : List ℕ) (next : Next) → IsNext octets next → IsFirst octets next

-- octets have one answer
abbrev pub OneNext : Type 0
OneNext = (octets : List ℕ) (a b : Next) → IsNext octets a → IsNext octets b → a ≡ b
