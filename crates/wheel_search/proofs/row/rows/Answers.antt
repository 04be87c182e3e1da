use Rattle.std.proofs.Common.{◌≡◌, ◌∙◌, [], List, length, map, take, sym, ap, subst}
use Rattle.std.proofs.lemmas.List.{take_all}
use Rattle.std.specs.List.{All}
use Rattle.wheel_search.specs.declared.row.Row.{Row}
use Rattle.wheel_search.specs.declared.row.Seat.{Seat}
use Rattle.wheel_search.specs.Rows.{IsRow, IsWhole, GoesWithin, listed}
use Rattle.wheel_search.proofs.RowLemmas.{rows_more, rows_each}
use Rattle.wheel_search.proofs.row.rows.Goals as goal

pub row_of-requires-clause-within : goal.row_of-requires-clause-within
row_of-requires-clause-within c =
    subst (λ (s : Seat). GoesWithin c.args.instance.now (length c.args.levels.now) s.router (listed s.kind [])) (sym c.index-seats-place.is) (c.requires.within c.loop-place.place c.index-seats-place.result c.loop-place-test.true)

pub loop-place-preserved : goal.loop-place-preserved
loop-place-preserved c =
    let p = c.args.instance.now in
    let items = c.in_ok-push.ensures.items in
    let row = c.in_ok-row.row in (
      ap (map (λ (r : Row). r.seat.router)) items
          ∙ rows_more c.loop-place.rows.items c.args.seats.now c.loop-place.place c.index-seats-place.result row c.loop-place-test.true c.index-seats-place.is c.loop-place.invariant.0 c.in_ok-row.ensures.seat,
      subst (λ (xs : List Row). All (IsRow p) xs) (sym items) (rows_each (IsRow p) c.loop-place.rows.items row c.loop-place.invariant.1 c.in_ok-row.ensures.row),
      subst (λ (xs : List Row). All (IsWhole p (length c.args.levels.now)) xs) (sym items)
          (rows_each (IsWhole p (length c.args.levels.now)) c.loop-place.rows.items row c.loop-place.invariant.2 c.in_ok-row.ensures.whole),
    )

pub returns : goal.returns
returns c =
    let all : take c.loop-place.place c.args.seats.now ≡ c.args.seats.now = take_all c.loop-place.place c.args.seats.now c.loop-place-test.false in
    record {
      routers = c.loop-place.invariant.0 ∙ ap (map (λ (s : Seat). s.router)) all ∙ c.requires.seats.routers;
      each = c.loop-place.invariant.1;
      longest = length c.args.levels.now;
      whole = c.loop-place.invariant.2;
    }
