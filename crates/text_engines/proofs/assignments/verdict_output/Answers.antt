use Rattle.std.proofs.Common.{subst, inl, inr}
use Rattle.std.specs.List.{All}
use Rattle.stable_paths.specs.Judging.{IsVerdict}
use Rattle.text_engines.specs.Checking.{at_prefix, paths_of, IsStableAt}
use Rattle.text_engines.specs.Checking.Moves.{it_moves}
use Rattle.text_engines.proofs.CheckLemmas.{all_on, all_all, move_found, if_ok}
use Rattle.text_engines.proofs.PlaceLemmas.{verdict_here}
use Rattle.text_engines.proofs.assignments.verdict_output.Goals as goal

pub returns-in-Unstable : goal.returns-in-Unstable
returns-in-Unstable c =
    let origin = c.index-origins-place.result in
    let moving =
    subst (IsVerdict (at_prefix c.args.network.now origin.prefix) (paths_of c.args.entries.now origin.prefix)) c.in-Unstable.is
    (verdict_here c.args.network.now c.origins-origins.result.now c.args.entries.now c.in_ok-all.all.items c.loop-place.place origin c.index.result.now c.in_ok-verdict_at.field-0 c.loop-place-test.true c.index-origins-place.is c.index.ensures
    c.in_ok-all.ensures c.in_ok-verdict_at.ensures) in
    let found =
    move_found c.args.network.now c.args.entries.now c.origins-origins.result.now c.origins-origins.ensures.value c.loop-place.place origin c.loop-place-test.true c.index-origins-place.is
    c.in-Unstable.router c.in-Unstable.has c.in-Unstable.best moving c.loop-place.invariant in
    if_ok _ _ c.unstable_output.result (λ printed e. inr (it_moves c.in-Unstable.router c.in-Unstable.has c.in-Unstable.best found e)) c.unstable_output.ensures

pub loop-place-preserved : goal.loop-place-preserved
loop-place-preserved c =
    let origin = c.index-origins-place.result in
    let stable =
    subst (IsVerdict (at_prefix c.args.network.now origin.prefix) (paths_of c.args.entries.now origin.prefix)) c.in-Stable.is
    (verdict_here c.args.network.now c.origins-origins.result.now c.args.entries.now c.in_ok-all.all.items c.loop-place.place origin c.index.result.now c.in_ok-verdict_at.field-0 c.loop-place-test.true c.index-origins-place.is c.index.ensures
    c.in_ok-all.ensures c.in_ok-verdict_at.ensures) in
    all_on (IsStableAt c.args.network.now c.args.entries.now) c.origins-origins.result.now c.loop-place.place origin c.loop-place-test.true c.index-origins-place.is stable c.loop-place.invariant

pub returns : goal.returns
returns c =
    let stable =
    subst (All (IsStableAt c.args.network.now c.args.entries.now)) c.origins-origins.ensures.value
    (all_all (IsStableAt c.args.network.now c.args.entries.now) c.origins-origins.result.now c.loop-place.place c.loop-place-test.false c.loop-place.invariant) in
    if_ok _ _ c.stable_output.result (λ printed e. inl (stable, e)) c.stable_output.ensures
