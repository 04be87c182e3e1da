use Rattle.std.proofs.Common.{◌≡◌, ◌⊎◌, ◌∷◌, ◌++◌, ◌∙◌, [], ℕ, List, refl, sym, ap, subst}
use Rattle.std.specs.Prelude.{◌↔◌}
use Rattle.std.specs.List.{Contains}
use Rattle.std.proofs.lemmas.List.{take_all}
use Rattle.stable_paths.proofs.ListLemmas.{never}
use Rattle.stable_search.specs.Listing.{LeadsOn}
use Rattle.stable_search.proofs.ListingLemmas.{Along, none_along, skip_along, put_along}
use Rattle.stable_search.proofs.SeatLemmas.{pushed}
use Rattle.stable_search.proofs.listing.put_along.Goals as goal
use Rattle.stable_search.proofs.listing.put_along.Goals.{then-leads_on+in_ok-from_router+in_ok-push, else-leads_on}

pub loop-rest-init : goal.loop-rest-init
loop-rest-init c = none_along c.args.it.now c.args.bound.now c.args.count c.args.found.now.items c.args.found.now.items refl

pub loop-rest-preserved : goal.loop-rest-preserved
loop-rest-preserved c =
    let it = c.args.it.now in
    let bound = c.args.bound.now in
    let count = c.args.count in
    let theirs = c.args.theirs.now in
    let i = c.loop-rest.rest-index in
    let rest : List ℕ = c.rest-item.result in
    let old = c.args.found.now.items in
    let found = c.loop-rest.found.items in
    let new = c.if-leads_on.found.items in
    elim c.if-leads_on.branch [
      | then-leads_on+in_ok-from_router+in_ok-push w ↦
          let path : List ℕ = w.in_ok-from_router.field-0 in
          let added : new ≡ found ++ path ∷ [] = ap (λ v. v.items) w.found-is ∙ w.in_ok-push.ensures.items in
          let is_path : path ≡ it.router ∷ rest = w.in_ok-from_router.ensures ∙ ap (λ (r : List ℕ). it.router ∷ r) w.as_slice-then-leads_on.ensures in
          let adds : (other : List ℕ) → (Contains new other ↔ Contains found other ⊎ (it.router ∷ rest ≡ other)) =
          subst (λ (q : List ℕ). (other : List ℕ) → (Contains new other ↔ Contains found other ⊎ (q ≡ other))) is_path (pushed found new path added) in
          put_along it bound count theirs i rest c.loop-rest-test.true c.rest-item.is old found new c.loop-rest.invariant adds
          (subst (LeadsOn it bound count) c.as_slice.ensures (w.if-leads_on.ensures.0 refl))
      | else-leads_on w ↦
          skip_along it bound count theirs i rest c.loop-rest-test.true c.rest-item.is old found new c.loop-rest.invariant (ap (λ v. v.items) w.found-is)
          (λ leads. never (w.if-leads_on.ensures.1 (subst (LeadsOn it bound count) (sym c.as_slice.ensures) leads)))
    ]

pub returns : goal.returns
returns c =
    subst (λ (xs : List (List ℕ)). Along c.args.it.now c.args.bound.now c.args.count c.args.found.now.items xs c.loop-rest.found.items)
    (take_all c.loop-rest.rest-index c.args.theirs.now c.loop-rest-test.false) c.loop-rest.invariant
