use Rattle.offer_board.proofs.Parts.{parts_offer_the_same}
use Rattle.offer_board.proofs.same.same_offer.Goals as goal

pub returns-in-Part-Part : goal.returns-in-Part-Part
returns-in-Part-Part c = rw (c.in-Part-Part.is-0, c.in-Part-Part.is-1) (λ yes. parts_offer_the_same c.in-Part-Part.one c.in-Part-Part.other (c.same_part.ensures yes))
