use Rattle.std.proofs.Common.{◌≡◌, ◌∙◌, List, sym, ap}
use Rattle.stable_paths.specs.declared.assignment.Assigned.{Assigned}
use Rattle.stable_paths.specs.Stable.{path_of}
use Rattle.stable_paths.proofs.ListLemmas.{path_at}
use Rattle.stable_paths.proofs.RisingLemmas.{path_missing}
use Rattle.stable_paths.proofs.assignment.Assignment.get.Goals as goal

pub returns-in-Ok : goal.returns-in-Ok
returns-in-Ok c =
    let d = c.index-paths-place.result in
    let at = c.in-Ok.ensures.found in
    let same : c.as_slice-paths.result.now ≡ c.args.self.now = c.as_slice-paths.ensures.value ∙ c.self.view_is in
    sym (path_at c.as_slice-paths.result.now c.in-Ok.place c.args.router d at.inside at.before (at.here d))
    ∙ ap (λ (xs : List Assigned). path_of xs c.args.router) same

pub returns-in-Err : goal.returns-in-Err
returns-in-Err c =
    let same : c.as_slice-paths.result.now ≡ c.args.self.now = c.as_slice-paths.ensures.value ∙ c.self.view_is in
    ap (λ (xs : List Assigned). path_of xs c.args.router) (sym same)
    ∙ path_missing c.as_slice-paths.result.now c.args.router _ c.in-Err.ensures.missing
