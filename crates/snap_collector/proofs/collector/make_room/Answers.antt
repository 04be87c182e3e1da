use Rattle.std.proofs.Common.{map, ap, sym, ◌∙◌, subst, refl}
use Rattle.std.specs.Prelude.{IsSome}
use Rattle.snap_collector.specs.Booking.{entry_of}
use Rattle.snap_collector.specs.Collector.{made_at}
use Rattle.snap_collector.proofs.Books.{same_made, same_entries, room_for, items_of, on_err}
use Rattle.snap_collector.proofs.collector.make_room.Goals as goal

pub returns-in_err-make_room-in-Some-clause-err : goal.returns-in_err-make_room-in-Some-clause-err
returns-in_err-make_room-in-Some-clause-err c =
    let written = c.get_mut.follows.holds c.make_room.new.self in
    let entries = ap (map entry_of) written.0
    ∙ same_entries c.args.number c.args.offers.now.entries c.in-Some.book.now c.make_room.new.self c.make_room.ensures.items (sym c.in-Some.ensures.value) in
    on_err c.from_residual-in_err-make_room-in-Some.result _ entries

pub returns-in_ok-make_room-in-Some-clause-room : goal.returns-in_ok-make_room-in-Some-clause-room
returns-in_ok-make_room-in-Some-clause-room c =
    let written = c.get_mut.follows.holds c.make_room.new.self in
    let there = subst (λ x. IsSome x) c.in-Some.ensures.value refl in
    room_for c.args.offers.now.entries _ c.args.number c.make_room.new.self (written.3 there).0 c.in_ok-make_room-in-Some.ensures.room

pub returns-in_ok-make_room-in-Some-clause-made : goal.returns-in_ok-make_room-in-Some-clause-made
returns-in_ok-make_room-in-Some-clause-made c =
    let written = c.get_mut.follows.holds c.make_room.new.self in
    ap made_at (ap (map entry_of) written.0
    ∙ same_entries c.args.number c.args.offers.now.entries c.in-Some.book.now c.make_room.new.self c.make_room.ensures.items (sym c.in-Some.ensures.value))

pub returns-in_ok-insert-in-None-clause-made : goal.returns-in_ok-insert-in-None-clause-made
returns-in_ok-insert-in-None-clause-made c =
    let updates = c.in_ok-insert-in-None.ensures.updates.0 in
    let items = c.make_room-in-None.ensures.items ∙ c.new-book.ensures.items ∙ ap items_of c.in-None.ensures.value in
    let same = ap (λ m. m.entries) c.get_mut.follows.holds-at-none in
    same_made _ c.args.offers.now.entries _ c.args.number c.make_room-in-None.new.self same updates items
