use Rattle.std.proofs.Common.{◌≡◌, ◌++◌, List, map, subst, ap, sym, ◌∙◌}
use Rattle.std.specs.Prelude.{OnOk}
use Rattle.std.proofs.lemmas.List.{append-nil}
use Rattle.snap_collector.specs.Collecting.{member_of}
use Rattle.snap_collector.specs.Flights.{Flight, flight_of}
use Rattle.snap_collector.proofs.FirstParts.{of_part, of_none}
use Rattle.snap_collector.proofs.flights.put_router.Goals as goal

pub returns-in-Some : goal.returns-in-Some
returns-in-Some c =
    let is = of_part c.args.offers.now (member_of c.args.member.now) c.in-Some.part.now c.in-Some.ensures in
    subst (λ (l : List Flight). OnOk c.put_part.result (map flight_of c.put_part.new.flights.items ≡ map flight_of c.args.flights.now.items ++ l)) is c.put_part.ensures

pub returns-in-None : goal.returns-in-None
returns-in-None c =
    let put = map flight_of c.args.flights.now.items in
    sym (append-nil put) ∙ ap (λ (l : List Flight). put ++ l) (of_none c.args.offers.now (member_of c.args.member.now) c.in-None.ensures)
