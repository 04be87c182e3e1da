use Rattle.std.proofs.Common.{map, refl}
use Rattle.snap_collector.specs.Booking.{entry_of}
use Rattle.snap_collector.proofs.Decided.{decided_now, not_yet}
use Rattle.snap_collector.proofs.collector.put.Goals as goal

pub returns-then-has_decided-clause-decided : goal.returns-then-has_decided-clause-decided
returns-then-has_decided-clause-decided c =
    decided_now c.args.members.now (map entry_of c.args.offers.now.entries) (map entry_of c.keep.new.offers.entries) c.args.offer c.keep.ensures.made c.number-number.result c.number-number.ensures
    c.args.decided.now.items c.requires.decided c.args.decided.now.items c.note.new.numbers.items refl c.has_decided.result c.has_decided.ensures c.if-has_decided.true c.note.ensures.rising c.note.ensures.more

pub returns-else-has_decided-clause-decided : goal.returns-else-has_decided-clause-decided
returns-else-has_decided-clause-decided c =
    not_yet c.args.members.now (map entry_of c.args.offers.now.entries) (map entry_of c.keep.new.offers.entries) c.args.offer c.keep.ensures.made c.number-number.result c.number-number.ensures
    c.args.decided.now.items c.requires.decided c.args.decided.now.items refl c.has_decided.result c.has_decided.ensures c.if-has_decided.false
