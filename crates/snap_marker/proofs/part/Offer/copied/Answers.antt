use Rattle.std.proofs.Common.{◌∙◌, ap, sym}
use Rattle.snap_marker.specs.Parts.{offer_of}
use Rattle.snap_marker.proofs.Copies.{offers_say_the_same}
use Rattle.snap_marker.proofs.part.Offer.copied.Goals as goal

pub returns-in_ok-copied_part-in-Part-clause-offer : goal.returns-in_ok-copied_part-in-Part-clause-offer
returns-in_ok-copied_part-in-Part-clause-offer c = offers_say_the_same _ _ c.in_ok-copied_part-in-Part.ensures ∙ ap offer_of (sym c.in-Part.is)
