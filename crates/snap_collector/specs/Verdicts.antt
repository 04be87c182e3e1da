-- How a snapshot comes out by the offers for it (Chandy and Lamport 1985), as a function: what decides it, and the first fault of
-- its parts, routers and peers rising.
use Rattle.std.specs.Prelude.{ℕ, ◌≡◌, ◌<◌, ◌==◌, Bool, true, false, ◌&&◌, ◌||◌, not, cond, List, [], ◌∷◌, ◌++◌, map, Option, None, Some}
use Rattle.std.specs.Option.{option_map}
use Rattle.std.specs.List.{find, list_any}
use Rattle.prefix_lanes.specs.Bits.{PrefixView}
use Rattle.bgp_codec.specs.declared.message.Message.{Message}
use Rattle.run_model.specs.Routes.{Network}
use Rattle.run_model.specs.Offers.{Finished, Lost, Why, Pending, InFlight, Mismatch, Outcome, Waiting, Abandoned, Moving, Settled, number_of}
use Rattle.snap_marker.specs.Parts.{is_empty}
use Rattle.snap_marker.specs.Recordings.{RouterOffer, MadeOffer, RouterPart}

-- a router of the network, and its peers, rising
pub record Member : Type 0 where
  pub router : ℕ
  pub peers : List ℕ

-- ---- what the offers hold

abbrev pub is_lost : RouterOffer → Bool
is_lost (Finished s part) = false
is_lost (Lost s v e cause) = true

abbrev pub is_part : RouterOffer → Bool
is_part (Finished s part) = true
is_part (Lost s v e cause) = false

-- a part of router u for which this holds
abbrev pub of_part : (RouterPart → Bool) → RouterOffer → Bool
of_part holds (Finished s part) = holds part
of_part holds (Lost s v e cause) = false

abbrev pub has_part : List MadeOffer → ℕ → (RouterPart → Bool) → Bool
has_part ms u holds = list_any (λ m. (u == m.router) && of_part holds m.offer) ms

-- ---- what decides: a Lost, or a Part of every router

abbrev pub any_lost : List MadeOffer → Bool
any_lost ms = list_any (λ m. is_lost m.offer) ms

abbrev pub all_parts : List Member → List MadeOffer → Bool
all_parts [] ms = true
all_parts (m ∷ rest) ms = has_part ms m.router (λ part. true) && all_parts rest ms

abbrev pub decides : List Member → List MadeOffer → Bool
decides members ms = any_lost ms || all_parts members ms

-- ---- the faults of the parts

abbrev pub pending : List MadeOffer → ℕ → Bool
pending ms u = has_part ms u (λ part. part.pending)

-- the channel from v to u is not empty
abbrev pub in_flight : List MadeOffer → ℕ → ℕ → Bool
in_flight ms u v = has_part ms u (λ part. not (is_empty (part.channel v)))

-- the parts of u and v name two incarnations of their link
abbrev pub mismatch : List MadeOffer → ℕ → ℕ → Bool
mismatch ms u v = has_part ms u (λ part. has_part ms v (λ other. not (part.incarnation v == other.incarnation u)))

abbrev pub or_else : Option Why → Option Why → Option Why
or_else None other = other
or_else (Some why) other = Some why

abbrev pub fault_at : List MadeOffer → Member → Option Why
fault_at ms m =
    cond (pending ms m.router) (Some Pending)
    (or_else (option_map InFlight (find (in_flight ms m.router) m.peers)) (option_map Mismatch (find (mismatch ms m.router) m.peers)))

abbrev pub moving_at : ℕ → Option Why → Option (ℕ × Why) → Option (ℕ × Why)
moving_at u None rest = rest
moving_at u (Some why) rest = Some (u, why)

abbrev pub first_fault : List Member → List MadeOffer → Option (ℕ × Why)
first_fault [] ms = None
first_fault (m ∷ rest) ms = moving_at m.router (fault_at ms m) (first_fault rest ms)

-- ---- the outcome of the offers for one number

abbrev pub moving_or_settled : Option (ℕ × Why) → Outcome
moving_or_settled None = Settled
moving_or_settled (Some fault) = Moving fault.0 fault.1

abbrev pub whole_or_waiting : Bool → Option (ℕ × Why) → Outcome
whole_or_waiting true fault = moving_or_settled fault
whole_or_waiting false fault = Waiting

-- the first Lost abandons the snapshot
abbrev pub abandoned_by : ℕ → RouterOffer → Outcome → Outcome
abandoned_by u (Finished s part) rest = rest
abandoned_by u (Lost s v e cause) rest = Abandoned u v e cause

abbrev pub abandoned_or : List MadeOffer → Outcome → Outcome
abandoned_or [] other = other
abandoned_or (m ∷ ms) other = abandoned_by m.router m.offer (abandoned_or ms other)

abbrev pub verdict : List Member → List MadeOffer → Outcome
verdict members ms = abandoned_or ms (whole_or_waiting (all_parts members ms) (first_fault members ms))

-- ---- offers that were kept

-- no offer is kept behind the one that decides
abbrev pub IsKept : List Member → List MadeOffer → Type 0
IsKept members ms = (front : List MadeOffer) (last : MadeOffer) → ms ≡ front ++ last ∷ [] → decides members front ≡ false

-- the offers are for one number
abbrev pub AreFor : ℕ → List MadeOffer → Type 0
AreFor s [] = Unit {0}
AreFor s (m ∷ ms) = (number_of m.offer ≡ s) × AreFor s ms

-- ---- the network

abbrev pub is_member : List Member → ℕ → Bool
is_member members u = list_any (λ m. u == m.router) members

abbrev pub IsAbove : ℕ → List ℕ → Type 0
IsAbove u [] = Unit {0}
IsAbove u (v ∷ vs) = (u < v) × IsAbove u vs

abbrev pub Rises : List ℕ → Type 0
Rises [] = Unit {0}
Rises (v ∷ vs) = IsAbove v vs × Rises vs

-- the members are the routers of the network with their peers
abbrev pub HasLinks : Network Message PrefixView (List ℕ) → List Member → Type 0
HasLinks g [] = Unit {0}
HasLinks g (m ∷ ms) = ((v : ℕ) → g.linked m.router v ≡ list_any (λ w. v == w) m.peers) × Rises m.peers × HasLinks g ms

pub record IsOver (g : Network Message PrefixView (List ℕ)) (members : List Member) : Type 0 where
  pub routers : (u : ℕ) → g.routers u ≡ is_member members u
  pub rising : Rises (map (λ m. m.router) members)
  pub links : HasLinks g members
