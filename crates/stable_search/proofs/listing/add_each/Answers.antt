use Rattle.std.proofs.Common.{ℕ, List, refl, subst}
use Rattle.std.proofs.lemmas.List.{take_all}
use Rattle.stable_search.specs.Listing.{AddsOnce}
use Rattle.stable_search.proofs.ListingLemmas.{adds_none, adds_more}
use Rattle.stable_search.proofs.listing.add_each.Goals as goal

pub loop-path-init : goal.loop-path-init
loop-path-init c = adds_none c.args.values.now.items c.args.values.now.items refl

pub loop-path-preserved : goal.loop-path-preserved
loop-path-preserved c =
    adds_more c.args.paths.now c.loop-path.path-index c.path-item.result c.loop-path-test.true c.path-item.is c.args.values.now.items c.loop-path.values.items c.add_once.new.values.items c.loop-path.invariant
    c.in_ok-add_once.ensures.exact c.in_ok-add_once.ensures.distinct

pub returns : goal.returns
returns c =
    subst (λ (xs : List (List ℕ)). AddsOnce c.args.values.now.items xs c.loop-path.values.items) (take_all c.loop-path.path-index c.args.paths.now c.loop-path-test.false) c.loop-path.invariant
