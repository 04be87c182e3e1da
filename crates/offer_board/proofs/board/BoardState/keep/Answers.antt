use Rattle.std.proofs.Common.{◌≡◌, ◌∙◌, ◌+◌, ◌<◌, ap, refl, arith, ◌++◌, ◌∷◌, []}
use Rattle.std.specs.Prelude.{max, Ok}
use Rattle.offer_board.proofs.Boards.{next_board}
use Rattle.offer_board.proofs.Copies.{made_alike, takes_the_copied}
use Rattle.offer_board.proofs.board.BoardState.keep.Goals as goal

pub invariant_of-self-2 : goal.invariant_of-self-2
invariant_of-self-2 c =
    let x = c.self.inside in
    let at = c.saturating_add-stamp.result in
    let copies = rw c.in_ok-copy.was at c.requires in
    let is : at ≡ max x.stamp c.args.stamp + 1 = omega (arith, c.if-stamp-gt-GREATEST_STAMP.false, c.max.ensures, c.saturating_add-stamp.ensures) in
    let later : x.stamp < at = omega (arith, is) in
    next_board c.kept_goes_on.ensures (record { collector = x.collector; offers = x.offers.items; stamp = x.stamp }) c.self.invariant c.offer.new.self _ at c.args.offer.now (record { stamp = at; offer = c.in_ok-copy.copy }) c.in_ok-taken.taken
    later c.if-stamp-gt-GREATEST_STAMP.false (c.push_reserved.ensures.items ∙ ap (λ l. l ++ record { stamp = at; offer = c.in_ok-copy.copy } ∷ []) c.reserve.ensures.items) refl
    (made_alike c.in_ok-copy.copy c.args.offer.now copies.0.router copies.0.offer)
    (takes_the_copied c.in_ok-copy.collected c.args.offer.now copies.1.router copies.1.offer x.collector c.offer.new.self (Ok c.in_ok-taken.taken) c.in_ok-taken.ensures)
