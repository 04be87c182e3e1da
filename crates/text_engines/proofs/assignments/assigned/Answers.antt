use Rattle.std.proofs.Common.{◌≡◌, ◌+◌, ◌<◌, List, [], length, take, cond, get_or, subst, sym, ap, ◌∙◌, arith}
use Rattle.std.specs.Prelude.{◌==◌}
use Rattle.stable_paths.specs.declared.assignment.Assigned.{Assigned}
use Rattle.stable_paths.specs.Stable.{path_of}
use Rattle.text_engines.specs.Checking.{Assign}
use Rattle.text_engines.proofs.CheckLemmas.{within}
use Rattle.text_engines.proofs.PlaceLemmas.{assign_more, assign_pass}
use Rattle.text_engines.proofs.assignments.assigned.Goals as goal
use Rattle.text_engines.proofs.assignments.assigned.Goals.{in-Some+in_ok-give, in_default}

pub loop-entry-preserved : goal.loop-entry-preserved
loop-entry-preserved c =
    elim c.match-place_of.branch [
      | in-Some+in_ok-give w ↦
          let e = c.entry-item.result in
          let all = c.loop-entry.all.items in
          let place = w.in-Some.place in
          let inside : place < length all = omega (arith, w.in-Some.ensures.inside, c.loop-entry.invariant.as_many) in
          let old : w.index_mut.result.now ≡ get_or all place [] = w.index_mut.ensures.value ∙ within all place w.index_mut.result.now [] inside in
          subst (λ (v : List (List Assigned)). Assign c.args.origins.now (take (c.loop-entry.entry-index + 1) c.args.entries.now) v) (sym (ap (λ v. v.items) w.all-is))
          (assign_more c.args.origins.now c.args.entries.now c.loop-entry.entry-index e all place w.give.new.assignment c.loop-entry-test.true c.entry-item.is w.in-Some.ensures
          (λ u. w.in_ok-give.ensures u ∙ ap (λ (p : List Assigned). cond (e.router == u) e.path (path_of p u)) old) c.loop-entry.invariant)
      | in_default w ↦
          subst (λ (v : List (List Assigned)). Assign c.args.origins.now (take (c.loop-entry.entry-index + 1) c.args.entries.now) v) (sym (ap (λ v. v.items) w.all-is))
          (assign_pass c.args.origins.now c.args.entries.now c.loop-entry.entry-index c.entry-item.result c.loop-entry.all.items c.loop-entry-test.true c.entry-item.is w.in_default.ensures c.loop-entry.invariant)
    ]
