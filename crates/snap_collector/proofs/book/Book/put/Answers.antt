use Rattle.std.proofs.Common.{◌∷◌, [], arith, ap, map, length}
use Rattle.std.proofs.lemmas.List.{length-append}
use Rattle.snap_collector.specs.Collecting.{member_of}
use Rattle.snap_collector.proofs.Booked.{booked_behind, booked_with}
use Rattle.snap_collector.proofs.book.Book.put.Goals as goal

pub returns-then-self-eq0-clause-book : goal.returns-then-self-eq0-clause-book
returns-then-self-eq0-clause-book c =
    booked_behind (map member_of c.args.members.now) c.args.self.now.offers.items c.push_reserved.new.self.items c.args.offer c.args.self.now.kept c.args.self.now.awaited
    c.if-self-eq0.true c.push_reserved.ensures.items c.requires.book

pub returns-clause-book : goal.returns-clause-book
returns-clause-book c =
    let before = c.as_slice.ensures.len in
    let same = ap length c.as_slice.ensures.value in
    let more = c.push_reserved-2.ensures.len in
    let items = ap length c.push_reserved-2.ensures.items in
    let joined = length-append c.args.self.now.offers.items (c.args.offer ∷ []) in
    let now = c.len-self.ensures in
    booked_with (map member_of c.args.members.now) c.args.self.now.offers.items c.push_reserved-2.new.self.items c.as_slice.result.now c.args.offer c.args.self.now.kept c.args.self.now.awaited c.len-self.result
    c.missing_with-awaited.result c.if-self-eq0.false c.as_slice.ensures.value c.push_reserved-2.ensures.items (omega (arith, before, same, more, items, joined, now)) c.requires.book c.missing_with-awaited.ensures
