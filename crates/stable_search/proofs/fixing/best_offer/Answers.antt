use Rattle.std.proofs.Common.{◌≡◌, ◌∷◌, ◌∙◌, ℕ, List, Some, None, get_or, sym, ap, inr}
use Rattle.stable_search.specs.Fixing.{IsOfferAt, IsOffered}
use Rattle.stable_search.proofs.PartLemmas.{if_ok}
use Rattle.stable_search.proofs.fixing.best_offer.Goals as goal

pub returns-in-Some-path_at : goal.returns-in-Some-path_at
returns-in-Some-path_at c =
    let theirs : List ℕ = c.in-Some-path_at.theirs.now in
    let has : get_or c.args.fixed.now c.in-Some.place None ≡ Some theirs = rw c.in-Some-path_at.is at c.path_at.ensures in
    let offer : IsOfferAt c.args.network.now.links c.args.choosers.now c.args.fixed.now c.args.it.now c.in-Some.place = rw c.in-Some.is at c.best_peer.ensures in
    let some : Some theirs ≡ Some offer.theirs = sym has ∙ offer.has in
    let same : theirs ≡ offer.theirs = cc in
    if_ok {P = λ path. path ≡ c.args.it.now.router ∷ theirs} {Q = IsOffered c.args.network.now.links c.args.choosers.now c.args.fixed.now c.args.it.now} c.from_router.result
    (λ path e. inr (c.in-Some.place, offer, e ∙ ap (λ (q : List ℕ). c.args.it.now.router ∷ q) same)) c.from_router.ensures
