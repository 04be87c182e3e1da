use Rattle.std.proofs.Common.{List, [], ◌∷◌, ◌++◌, ap, ◌∙◌, subst, refl}
use Rattle.std.specs.Prelude.{IsSome}
use Rattle.snap_marker.specs.declared.part.Offer.{Offer}
use Rattle.snap_collector.proofs.Books.{joined_at, number_same, items_of}
use Rattle.snap_collector.proofs.collector.keep.Goals as goal

pub returns-clause-made : goal.returns-clause-made
returns-clause-made c =
    let found = rw c.unwrap-book.ensures at c.get_mut.ensures.value in
    let written = c.get_mut.follows.holds c.put.new.self in
    let there = subst (λ x. IsSome x) found refl in
    let items = c.put.ensures.items ∙ ap (λ (l : List Offer). l ++ c.args.offer ∷ []) (ap items_of found) in
    joined_at c.args.offers.now.entries _ c.number-number.result c.put.new.self c.args.offer (written.3 there).0 items (c.number-number.ensures ∙ number_same c.args.offer)
