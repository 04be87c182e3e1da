use Rattle.std.proofs.Common.{◌==◌, ◌∙◌, ap, sym, refl, arith, filter, ℕ}
use Rattle.offer_board.specs.Boards.{collected_in}
use Rattle.net_workers.specs.Ran.{OffersOf}
use Rattle.net_workers.proofs.Lists.{read_more}
use Rattle.net_workers.proofs.net.agrees.Goals as goal

pub loop-ended-preserved : goal.loop-ended-preserved
loop-ended-preserved g c =
    let own = c.ended-item.result in
    let same = c.if-not-made_by_same.ensures refl in
    read_more (OffersOf c.args.board.now.offers) c.args.workers.now c.loop-ended.ended-index own (omega (arith, c.loop-ended-test.true)) c.ended-item.is c.loop-ended.invariant
    (ap (λ (n : ℕ). filter (λ o. o.router == n) (collected_in c.args.board.now.offers)) (sym c.number.ensures)
    ∙ ap (λ os. filter (λ o. o.router == c.number.result) (collected_in os)) (sym c.offers.ensures.value) ∙ same ∙ ap collected_in c.as_slice-own.ensures.value)
