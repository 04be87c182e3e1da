-- The laws of network runs that the promises of snapshots rest on, at the messages, prefixes and paths of this product.
use Rattle.std.specs.Prelude.{ℕ, List}
use Rattle.prefix_lanes.specs.Bits.{PrefixView}
use Rattle.bgp_codec.specs.declared.message.Message.{Message}
use Rattle.run_model.specs.Offers.{OfferRunsGoOn, OffersAside, PartsAreRecorded, MismatchNeverComes, SettledOutcomeIsStable, SettledOutcomeStays}
use Rattle.run_model.specs.Steps.{CopiesAreACut, CopiesAreMarked, MarkersAreObeyed}

pub record SnapshotLaws : Type 0 where
  pub on : OfferRunsGoOn Message PrefixView (List ℕ)
  pub aside : OffersAside Message PrefixView (List ℕ)
  pub cut : CopiesAreACut Message PrefixView (List ℕ)
  pub marked : CopiesAreMarked Message PrefixView (List ℕ)
  pub obeyed : MarkersAreObeyed Message PrefixView (List ℕ)
  pub parts : PartsAreRecorded Message PrefixView (List ℕ)
  pub mismatch : MismatchNeverComes Message PrefixView (List ℕ)
  pub stable : SettledOutcomeIsStable Message PrefixView (List ℕ)
  pub stays : SettledOutcomeStays Message PrefixView (List ℕ)
