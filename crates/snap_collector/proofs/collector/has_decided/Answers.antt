use Rattle.std.proofs.Common.{◌==◌, List, ap, map, sym, ◌∙◌}
use Rattle.snap_marker.specs.declared.part.Offer.{Offer}
use Rattle.snap_collector.specs.Collecting.{made_in, member_of}
use Rattle.snap_collector.specs.Verdicts.{decides}
use Rattle.snap_collector.proofs.Booked.{decides_by, none_decides}
use Rattle.snap_collector.proofs.Books.{at_number, items_of}
use Rattle.snap_collector.proofs.collector.has_decided.Goals as goal

pub returns-in-Some : goal.returns-in-Some
returns-in-Some c =
    let members = map member_of c.args.members.now in
    let book = c.in-Some.book.now in
    let is = c.requires c.args.number book (sym c.in-Some.ensures.value) in
    ap (λ n. n == 0) is.awaits ∙ sym (decides_by members (made_in book.offers.items))
    ∙ ap (λ (l : List Offer). decides members (made_in l)) (ap items_of c.in-Some.ensures.value ∙ sym (at_number c.args.offers.now.entries c.args.number))

pub returns-in-None : goal.returns-in-None
returns-in-None c =
    c.is_empty.ensures ∙ none_decides c.args.members.now _ (ap items_of c.in-None.ensures.value ∙ sym (at_number c.args.offers.now.entries c.args.number))
