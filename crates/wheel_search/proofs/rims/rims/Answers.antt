use Rattle.std.proofs.Common.{◌≡◌, ◌∙◌, ◌<◌, ◌++◌, [], ℕ, List, length, map, take, drop, ◌-◌, sym, subst}
use Rattle.std.specs.List.{All}
use Rattle.std.proofs.lemmas.List.{take-append-drop}
use Rattle.dispute_wheels.specs.Wheels.{IsWheel}
use Rattle.dispute_wheels.specs.Feasible.{game_of}
use Rattle.wheel_search.specs.declared.rim.Rim.{Rim}
use Rattle.wheel_search.specs.Found.{as_rim}
use Rattle.wheel_search.specs.Rims.{HeldAt, AreHeld, AreRimsOf}
use Rattle.wheel_search.proofs.GraphLemmas.{within}
use Rattle.wheel_search.proofs.RimLemmas.{turned_wheel, held_rows, all_held, round_here, all_front, all_back, back_all}
use Rattle.wheel_search.proofs.rims.rims.Goals as goal

pub start_of-start-requires-clause-within : goal.start_of-start-requires-clause-within
start_of-start-requires-clause-within c =
    within c.each_policy_is_an_order.ensures c.args.instance.now c.network-network.ensures.problem.problem c.args.rows.now c.requires.rows c.args.waits.now c.requires.waits

pub start_of-start-requires-clause-known : goal.start_of-start-requires-clause-known
start_of-start-requires-clause-known c =
    let law = c.each_policy_is_an_order.ensures in
    let is = c.network-network.ensures.problem.problem in
    let at = c.from_row-circle.ensures in
    let round = round_here c.args.waits.now c.args.letting.now c.args.closes c.requires.circle at.0 at.1 (sym c.as_slice.ensures.value ∙ at.2) in
    let all = all_held law c.args.instance.now is c.args.rows.now c.requires.rows c.args.waits.now c.requires.waits c.args.letting.now.gone.items c.args.closes at.1 c.args.closes round in
    subst (λ (gone : List ℕ). All (λ row. (row < length c.args.waits.now) × HeldAt c.args.waits.now gone row) c.from_row-circle.result.now) (sym c.as_slice-gone.ensures.value)
    (subst (λ (xs : List ℕ). All (λ row. (row < length c.args.waits.now) × HeldAt c.args.waits.now c.args.letting.now.gone.items row) xs) (sym at.3) all)

pub add_rims-requires-clause-rows : goal.add_rims-requires-clause-rows
add_rims-requires-clause-rows c =
    subst (AreHeld c.args.rows.now c.args.waits.now) (sym c.as_slice-gone.ensures.value)
    (held_rows c.each_policy_is_an_order.ensures c.args.instance.now c.network-network.ensures.problem.problem c.args.rows.now c.requires.rows c.args.waits.now c.requires.waits c.args.letting.now.gone.items c.requires.circle.gone)

pub add_rims-requires-clause-held : goal.add_rims-requires-clause-held
add_rims-requires-clause-held c =
    let law = c.each_policy_is_an_order.ensures in
    let is = c.network-network.ensures.problem.problem in
    let at = c.from_row-circle.ensures in
    let round = round_here c.args.waits.now c.args.letting.now c.args.closes c.requires.circle at.0 at.1 (sym c.as_slice.ensures.value ∙ at.2) in
    let all = all_held law c.args.instance.now is c.args.rows.now c.requires.rows c.args.waits.now c.requires.waits c.args.letting.now.gone.items c.args.closes at.1 c.args.closes round in
    let held = subst (λ (gone : List ℕ). All (λ row. (row < length c.args.waits.now) × HeldAt c.args.waits.now gone row) c.from_row-circle.result.now) (sym c.as_slice-gone.ensures.value)
    (subst (λ (xs : List ℕ). All (λ row. (row < length c.args.waits.now) × HeldAt c.args.waits.now c.args.letting.now.gone.items row) xs) (sym at.3) all) in
    let whole : take (length c.from_row-circle.result.now - c.start_of-start.result) (drop c.start_of-start.result c.from_row-circle.result.now) ≡ drop c.start_of-start.result c.from_row-circle.result.now = back_all c.from_row-circle.result.now c.start_of-start.result in
    subst (λ (xs : List ℕ). All (λ row. (row < length c.args.waits.now) × HeldAt c.args.waits.now c.as_slice-gone.result.now row) xs) (sym whole)
    (all_back (λ row. (row < length c.args.waits.now) × HeldAt c.args.waits.now c.as_slice-gone.result.now row) c.from_row-circle.result.now c.start_of-start.result held)

pub add_rims-requires-2-clause-rows : goal.add_rims-requires-2-clause-rows
add_rims-requires-2-clause-rows c =
    subst (AreHeld c.args.rows.now c.args.waits.now) (sym c.as_slice-gone.ensures.value)
    (held_rows c.each_policy_is_an_order.ensures c.args.instance.now c.network-network.ensures.problem.problem c.args.rows.now c.requires.rows c.args.waits.now c.requires.waits c.args.letting.now.gone.items c.requires.circle.gone)

pub add_rims-requires-2-clause-held : goal.add_rims-requires-2-clause-held
add_rims-requires-2-clause-held c =
    let law = c.each_policy_is_an_order.ensures in
    let is = c.network-network.ensures.problem.problem in
    let at = c.from_row-circle.ensures in
    let round = round_here c.args.waits.now c.args.letting.now c.args.closes c.requires.circle at.0 at.1 (sym c.as_slice.ensures.value ∙ at.2) in
    let all = all_held law c.args.instance.now is c.args.rows.now c.requires.rows c.args.waits.now c.requires.waits c.args.letting.now.gone.items c.args.closes at.1 c.args.closes round in
    let held = subst (λ (gone : List ℕ). All (λ row. (row < length c.args.waits.now) × HeldAt c.args.waits.now gone row) c.from_row-circle.result.now) (sym c.as_slice-gone.ensures.value)
    (subst (λ (xs : List ℕ). All (λ row. (row < length c.args.waits.now) × HeldAt c.args.waits.now c.args.letting.now.gone.items row) xs) (sym at.3) all) in
    all_front (λ row. (row < length c.args.waits.now) × HeldAt c.args.waits.now c.as_slice-gone.result.now row) c.from_row-circle.result.now c.start_of-start.result held

pub returns : goal.returns
returns c =
    let law = c.each_policy_is_an_order.ensures in
    let p = c.args.instance.now in
    let is = c.network-network.ensures.problem.problem in
    let at = c.from_row-circle.ensures in
    let circle = c.from_row-circle.result.now in
    let start = c.start_of-start.result in
    let gone = c.args.letting.now.gone.items in
    let round = round_here c.args.waits.now c.args.letting.now c.args.closes c.requires.circle at.0 at.1 (sym c.as_slice.ensures.value ∙ at.2) in
    let some = subst (λ (xs : List ℕ). AreRimsOf c.args.rows.now c.args.waits.now c.as_slice-gone.result.now xs c.add_rims.new.rims.items) (back_all circle start) (c.in_ok-add_rims.ensures [] c.new-rims.ensures.items) in
    let both = c.in_ok-add_rims-2.ensures (drop start circle) some in
    let rims = subst (λ (xs : List ℕ). AreRimsOf c.args.rows.now c.args.waits.now xs (drop start circle ++ take start circle) c.add_rims-2.new.rims.items) c.as_slice-gone.ensures.value both in
    subst (λ (rs : List Rim). IsWheel (game_of p) (map as_rim rs)) (sym c.from_vec.ensures)
    (turned_wheel law p is c.args.rows.now c.requires.rows c.args.waits.now c.requires.waits gone c.args.closes at.1 round (take start circle) (drop start circle) (take-append-drop start circle ∙ at.3)
    c.add_rims-2.new.rims.items rims)
