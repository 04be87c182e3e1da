use Rattle.std.proofs.Common.{ap, sym, ◌∙◌}
use Rattle.snap_collector.proofs.Booked.{kept_in_book, none_kept}
use Rattle.snap_collector.proofs.Books.{at_number, items_of}
use Rattle.snap_collector.proofs.collector.Collector.kept.Goals as goal

pub returns-in-Some : goal.returns-in-Some
returns-in-Some c =
    let book = c.in-Some.book.now in
    rw (← c.self.view_is)
    (kept_in_book _ c.args.number book.kept book.awaited book.offers.items c.deref.result.now c.deref.ensures.value
    (ap items_of c.in-Some.ensures.value ∙ sym (at_number c.self.inside.offers.entries c.args.number))
    (c.self.invariant.1 c.args.number book (sym c.in-Some.ensures.value)))

pub returns-in-None : goal.returns-in-None
returns-in-None c =
    rw (← c.self.view_is)
    (none_kept _ c.args.number (ap items_of c.in-None.ensures.value ∙ sym (at_number c.self.inside.offers.entries c.args.number)))
