use Rattle.snap_collector.proofs.Booked.{booked_new}
use Rattle.snap_collector.proofs.book.Book.new.Goals as goal

pub returns-clause-book : goal.returns-clause-book
returns-clause-book c = booked_new c.args.members.now c.new.result.items c.new.ensures.items
