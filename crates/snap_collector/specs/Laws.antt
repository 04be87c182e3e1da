-- Laws of verdicts: the verdict on the offers that were kept is how the snapshot comes out, by the laws of runs, for
-- all offers made.
use Rattle.std.specs.Prelude.{ℕ, ◌≡◌, ◌≢◌, true, false, List, [], ◌∷◌, ◌++◌}
use mathlib.Core.Logic.{◌⊎◌}
use Rattle.prefix_lanes.specs.Bits.{PrefixView}
use Rattle.bgp_codec.specs.declared.message.Message.{Message}
use Rattle.run_model.specs.Routes.{Network}
use Rattle.run_model.specs.Offers.{HasOutcome, Settled, made_for, number_of}
use Rattle.snap_marker.specs.Recordings.{MadeOffer}
use Rattle.snap_collector.specs.Collector.{kept_of}
use Rattle.snap_collector.specs.Flights.{in_flight_of}
use Rattle.snap_collector.specs.Verdicts.{Member, IsOver, IsKept, AreFor, decides, verdict}

-- of the offers made, those for a number that were kept: all of them, or those up to the one that decided
pub record IsKeptOf (members : List Member) (s : ℕ) (made kept : List MadeOffer) : Type 0 where
  pub rest : List MadeOffer
  pub parts : made_for s made ≡ kept ++ rest
  pub done : (rest ≡ []) ⊎ (decides members kept ≡ true)
  pub number : AreFor s kept
  pub whole : IsKept members kept

-- the verdict on what was kept is how the snapshot comes out by all that was made
abbrev pub VerdictsAreOutcomes : Type 0
VerdictsAreOutcomes =
    (g : Network Message PrefixView (List ℕ)) (members : List Member) → IsOver g members
    → (s : ℕ) (made kept : List MadeOffer) → IsKeptOf members s made kept → HasOutcome g s made (verdict members kept)

-- one more offer: one for another number changes nothing, nor does one that comes late; any other is kept
abbrev pub KeptGoesOn : Type 0
KeptGoesOn =
    (members : List Member) (s : ℕ) (made kept : List MadeOffer) (m : MadeOffer) → IsKeptOf members s made kept
    → (number_of m.offer ≢ s → IsKeptOf members s (made ++ m ∷ []) kept)
    × ((number_of m.offer ≡ s → decides members kept ≡ true → IsKeptOf members s (made ++ m ∷ []) kept)
    × (number_of m.offer ≡ s → decides members kept ≡ false → IsKeptOf members s (made ++ m ∷ []) (kept ++ m ∷ [])))

-- before any offer nothing is kept
abbrev pub NothingIsKept : Type 0
NothingIsKept = (members : List Member) (s : ℕ) → IsKeptOf members s [] []

-- a collector keeps, of all offers made, those for the number up to the first that decides
abbrev pub CollectedAreKept : Type 0
CollectedAreKept = (members : List Member) (s : ℕ) (made : List MadeOffer) → IsKeptOf members s made (kept_of members (made_for s made))

-- the channels of a settled snapshot hold nothing
abbrev pub SettledHasNoneInFlight : Type 0
SettledHasNoneInFlight = (members : List Member) (kept : List MadeOffer) → verdict members kept ≡ Settled → in_flight_of members kept ≡ []
