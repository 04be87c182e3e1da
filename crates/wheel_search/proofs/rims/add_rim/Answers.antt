use Rattle.std.proofs.Common.{◌∙◌, ◌++◌, ◌∷◌, [], refl, sym, ap, arith, inl, inr}
use Rattle.wheel_search.specs.declared.rim.Rim.{Rim}
use Rattle.wheel_search.proofs.RimLemmas.{held_place, held_here, rim_is}
use Rattle.wheel_search.proofs.rims.add_rim.Goals as goal

pub bounds-gone-row : goal.bounds-gone-row
bounds-gone-row c =
    let place = held_place c.args.rows.now c.args.waits.now c.args.gone.now c.requires.rows c.args.held c.in-Rest.row c.in-Rest.place c.requires.at (sym c.wait_at.ensures ∙ c.in-Rest.is) in
    omega (arith, place.0, c.requires.rows.size, c.requires.rows.same)

pub path_of-requires-clause-row : goal.path_of-requires-clause-row
path_of-requires-clause-row c =
    (held_place c.args.rows.now c.args.waits.now c.args.gone.now c.requires.rows c.args.held c.in-Rest.row c.in-Rest.place c.requires.at (sym c.wait_at.ensures ∙ c.in-Rest.is)).0

pub path_of-requires-clause-place : goal.path_of-requires-clause-place
path_of-requires-clause-place c =
    (held_place c.args.rows.now c.args.waits.now c.args.gone.now c.requires.rows c.args.held c.in-Rest.row c.in-Rest.place c.requires.at (sym c.wait_at.ensures ∙ c.in-Rest.is)).1

pub bounds-gone-row-then-place-gone : goal.bounds-gone-row-then-place-gone
bounds-gone-row-then-place-gone c =
    let place = held_place c.args.rows.now c.args.waits.now c.args.gone.now c.requires.rows c.args.held c.in-Rest.row c.in-Rest.place c.requires.at (sym c.wait_at.ensures ∙ c.in-Rest.is) in
    omega (arith, place.0, c.requires.rows.size, c.requires.rows.same)

pub path_of-requires-then-place-gone-clause-row : goal.path_of-requires-then-place-gone-clause-row
path_of-requires-then-place-gone-clause-row c =
    (held_place c.args.rows.now c.args.waits.now c.args.gone.now c.requires.rows c.args.held c.in-Rest.row c.in-Rest.place c.requires.at (sym c.wait_at.ensures ∙ c.in-Rest.is)).0

pub path_of-requires-then-place-gone-clause-place : goal.path_of-requires-then-place-gone-clause-place
path_of-requires-then-place-gone-clause-place c =
    let place = held_place c.args.rows.now c.args.waits.now c.args.gone.now c.requires.rows c.args.held c.in-Rest.row c.in-Rest.place c.requires.at (sym c.wait_at.ensures ∙ c.in-Rest.is) in
    omega (arith, place.1, place.2)

pub returns-in_ok-push : goal.returns-in_ok-push
returns-in_ok-push c =
    let e = sym c.wait_at.ensures ∙ c.in-Rest.is in
    let h = held_here c.args.rows.now c.args.waits.now c.args.gone.now c.requires.rows c.args.held c.in-Rest.row c.in-Rest.place c.requires.at e in (
      h,
      inr (
        c.if-place-gone.true,
        c.in_ok-push.ensures.items ∙ ap (λ (r : Rim). c.args.rims.now.items ++ r ∷ [])
            (rim_is c.args.rows.now c.args.gone.now c.in-Rest.row c.in-Rest.place c.in_ok-spoke.spoke c.in_ok-over.over c.in_ok-spoke.ensures c.in_ok-over.ensures),
      ),
    )

pub returns-else-place-gone : goal.returns-else-place-gone
returns-else-place-gone c =
    let e = sym c.wait_at.ensures ∙ c.in-Rest.is in
    (held_here c.args.rows.now c.args.waits.now c.args.gone.now c.requires.rows c.args.held c.in-Rest.row c.in-Rest.place c.requires.at e, inl (c.if-place-gone.false, refl))
