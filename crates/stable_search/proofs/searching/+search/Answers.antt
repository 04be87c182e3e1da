use Rattle.std.proofs.Common.{◌≡◌, ◌∙◌, ℕ, List, length, set, get_or, refl, sym, ap, subst, arith, inl, inr}
use Rattle.std.proofs.lemmas.Result.{err_from_is_err_and}
use Rattle.stable_search.specs.Picks.{LeavesOut, AddsAll, IsFull, Narrows}
use Rattle.stable_search.proofs.PickLemmas.{leaves_start, leaves_none, leaves_on, full_left, full_on, written}
use Rattle.stable_search.proofs.searching.+search.Goals as goal

pub loop-steps-init : goal.loop-steps-init
loop-steps-init t c = (leaves_start c.args.ways.now c.args.sets.items c.args.found.now.items c.requires, omega arith, λ few. few)

pub returns-in_default-clause-all : goal.returns-in_default-clause-all
returns-in_default-clause-all t c =
    let now : c.as_mut_slice.result.now ≡ c.loop-steps.sets.items = c.as_mut_slice.ensures.value in
    leaves_none c.args.ways.now c.args.sets.items c.loop-steps.sets.items c.args.found.now.items c.loop-steps.found.items c.settle.new.found.items c.loop-steps.invariant.0
    (subst (λ (xs : List ℕ). AddsAll c.args.ways.now xs c.loop-steps.found.items c.settle.new.found.items) now (rw c.in_default.is at c.in_ok-place.ensures.next))

pub loop-steps-preserved : goal.loop-steps-preserved
loop-steps-preserved t c =
    let now : c.as_mut_slice.result.now ≡ c.loop-steps.sets.items = c.as_mut_slice.ensures.value in
    let size : length c.settle.new.sets ≡ length c.loop-steps.sets.items = c.settle.auto.sets ∙ ap length now in
    let back = written c.loop-steps.sets.items c.settle.new.sets c.loop-steps.sets.len size (ap length (sym now) ∙ c.as_mut_slice.ensures.len) in
    let next = rw c.in-Some.is at c.in_ok-place.ensures.next in
    let value : c.index.result.now ≡ get_or c.settle.new.sets c.in-Some.place c.index.result.now = c.index.ensures ∙ ap (λ (xs : List ℕ). get_or xs c.in-Some.place c.index.result.now) back in
    let one : c.in_ok-one.one.items ≡ c.settle.new.sets = c.in_ok-one.ensures.items ∙ c.as_slice.ensures.value ∙ back in (
      subst (λ (xs : List ℕ). LeavesOut c.args.ways.now c.args.sets.items (set xs c.in-Some.place c.first_apart-first.result.1) c.args.found.now.items c.search.new.found.items) (sym back)
          (leaves_on c.args.ways.now c.args.sets.items c.loop-steps.sets.items c.settle.new.sets c.in-Some.place c.index.result.now c.first_apart-first.result.0 c.first_apart-first.result.1 c.args.found.now.items
          c.loop-steps.found.items c.settle.new.found.items c.search.new.found.items c.loop-steps.invariant.0 size (subst (λ (xs : List ℕ). Narrows c.args.ways.now xs c.settle.new.sets) now next.1) next.2 next.0 value
          c.first_apart-first.ensures (subst (λ (xs : List ℕ). AddsAll c.args.ways.now (set xs c.in-Some.place c.first_apart-first.result.0) c.settle.new.found.items c.search.new.found.items) one c.in_ok-search.ensures.all)),
      omega (arith, c.search.ensures.steps, c.loop-steps.invariant.1),
      λ few. c.in_ok-search.ensures.most (c.in_ok-place.ensures.most (c.loop-steps.invariant.2 few)),
    )

pub returns-in_default-clause-most : goal.returns-in_default-clause-most
returns-in_default-clause-most t c = λ few. c.in_ok-place.ensures.most (c.loop-steps.invariant.2 few)

pub returns-then-steps-eq0-clause-stopped : goal.returns-then-steps-eq0-clause-stopped
returns-then-steps-eq0-clause-stopped t c = inr (refl, c.if-steps-eq0.true)

pub returns-in_err-place-clause-stopped : goal.returns-in_err-place-clause-stopped
returns-in_err-place-clause-stopped t c =
    let now : c.as_mut_slice.result.now ≡ c.loop-steps.sets.items = c.as_mut_slice.ensures.value in
    let p = err_from_is_err_and c.from_residual.result c.from_residual.ensures.1 in
    rw (p.1, p.2)
    (inl (full_left c.args.ways.now c.args.sets.items c.loop-steps.sets.items c.args.most c.args.found.now.items c.loop-steps.found.items c.in_err-place.field-0.0 c.loop-steps.invariant.0
    (subst (λ (xs : List ℕ). IsFull c.args.ways.now xs c.args.most c.loop-steps.found.items c.in_err-place.field-0.0) now c.in_err-place.ensures.full)))

pub returns-in_err-search-clause-stopped : goal.returns-in_err-search-clause-stopped
returns-in_err-search-clause-stopped t c =
    let now : c.as_mut_slice.result.now ≡ c.loop-steps.sets.items = c.as_mut_slice.ensures.value in
    let size : length c.settle.new.sets ≡ length c.loop-steps.sets.items = c.settle.auto.sets ∙ ap length now in
    let back = written c.loop-steps.sets.items c.settle.new.sets c.loop-steps.sets.len size (ap length (sym now) ∙ c.as_mut_slice.ensures.len) in
    let next = rw c.in-Some.is at c.in_ok-place.ensures.next in
    let value : c.index.result.now ≡ get_or c.settle.new.sets c.in-Some.place c.index.result.now = c.index.ensures ∙ ap (λ (xs : List ℕ). get_or xs c.in-Some.place c.index.result.now) back in
    let one : c.in_ok-one.one.items ≡ c.settle.new.sets = c.in_ok-one.ensures.items ∙ c.as_slice.ensures.value ∙ back in
    let stop = c.in_err-search.field-0.0 in
    let p = err_from_is_err_and c.from_residual-in_err-search.result c.from_residual-in_err-search.ensures.1 in
    rw (p.1, p.2) (elim c.in_err-search.ensures.stopped [
      | inr steps ↦ inr steps
      | inl full ↦ inl (full_on c.args.ways.now c.args.sets.items c.loop-steps.sets.items c.settle.new.sets c.in-Some.place c.index.result.now c.first_apart-first.result.0 c.first_apart-first.result.1 c.args.most
          c.args.found.now.items c.loop-steps.found.items c.settle.new.found.items stop c.loop-steps.invariant.0 (subst (λ (xs : List ℕ). Narrows c.args.ways.now xs c.settle.new.sets) now next.1) next.2 next.0 value
          c.first_apart-first.ensures (subst (λ (xs : List ℕ). IsFull c.args.ways.now (set xs c.in-Some.place c.first_apart-first.result.0) c.args.most c.settle.new.found.items stop) one full))
    ])

pub returns-in_err-one-clause-stopped : goal.returns-in_err-one-clause-stopped
returns-in_err-one-clause-stopped t c =
    let p = err_from_is_err_and c.from_residual-in_err-one.result c.from_residual-in_err-one.ensures.1 in
    rw (p.1, p.2) (inl tt)
