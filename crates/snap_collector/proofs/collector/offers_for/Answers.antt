use Rattle.std.proofs.Common.{◌∙◌, sym, ap}
use Rattle.snap_collector.proofs.Books.{at_number, items_of}
use Rattle.snap_collector.proofs.collector.offers_for.Goals as goal

pub returns-in-Some : goal.returns-in-Some
returns-in-Some c =
    (c.as_slice.ensures.value ∙ ap items_of c.in-Some.ensures.value ∙ sym (at_number c.args.offers.now.entries c.args.number))

pub returns-in-None : goal.returns-in-None
returns-in-None c = (ap items_of c.in-None.ensures.value ∙ sym (at_number c.args.offers.now.entries c.args.number))
