use Rattle.std.proofs.Common.{◌∙◌, List, cond, ap, subst}
use Rattle.std.specs.Prelude.{◌==◌}
use Rattle.stable_paths.specs.declared.assignment.Assigned.{Assigned}
use Rattle.stable_paths.specs.Stable.{path_of}
use Rattle.stable_paths.specs.Rising.{StandsAt, BelongsAt}
use Rattle.stable_paths.proofs.ListLemmas.{path_set}
use Rattle.stable_paths.proofs.RisingLemmas.{path_insert}
use Rattle.stable_paths.proofs.assignment.Assignment.set.Goals as goal
use Rattle.stable_paths.proofs.assignment.Assignment.set.Goals.{in-Heap-1, in-Inline-1}

pub returns-in-Ok-clause-ok : goal.returns-in-Ok-clause-ok
returns-in-Ok-clause-ok c =
    λ u.
    let new : Assigned = record { router = c.args.router; path = c.args.path } in
    let items = c.self.inside.paths.items in
    let at = subst (λ (xs : List Assigned). StandsAt xs c.args.router c.in-Ok.place) c.as_slice.ensures.value c.in-Ok.ensures.found in
    let placed = path_set items c.in-Ok.place new new u at.inside at.before (at.here new) in
    let old = ap (λ (xs : List Assigned). cond (c.args.router == u) c.args.path (path_of xs u)) c.self.view_is in
    elim c.match-index_mut.branch [
      | in-Heap-1 w ↦ ap (λ (xs : List Assigned). path_of xs u) w.self-is ∙ placed ∙ old
      | in-Inline-1 w ↦ ap (λ (xs : List Assigned). path_of xs u) w.self-is ∙ placed ∙ old
    ]

pub returns-in_ok-insert-in-Err-clause-ok : goal.returns-in_ok-insert-in-Err-clause-ok
returns-in_ok-insert-in-Err-clause-ok c =
    λ u.
    let new : Assigned = record { router = c.args.router; path = c.args.path } in
    let items = c.self.inside.paths.items in
    let at = subst (λ (xs : List Assigned). BelongsAt xs c.args.router c.in-Err.place) c.as_slice.ensures.value c.in-Err.ensures.missing in
    ap (λ (xs : List Assigned). path_of xs u) c.in_ok-insert-in-Err.ensures.items ∙ path_insert items c.in-Err.place new u at
    ∙ ap (λ (xs : List Assigned). cond (c.args.router == u) c.args.path (path_of xs u)) c.self.view_is
