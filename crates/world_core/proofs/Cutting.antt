-- The answers of `through_cut` and `count_inside`.
use Rattle.std.proofs.Common.{◌≡◌, ℕ, List, [], sym, ap, ◌∙◌, subst, refl, inl, inr, length}
use Rattle.std.specs.Prelude.{Option, Ok, Err, MatchOption, Bool}
use Rattle.ranked_policy.specs.Plans.{Plan}
use Rattle.world_core.specs.declared.schedule.Event.{Event}
use Rattle.world_core.specs.declared.schedule.StepFault.TheVariants.{Memory}
use Rattle.run_model.specs.Offers.{Outcome, Waiting, Abandoned, Moving, Settled}
use Rattle.snap_marker.specs.Recordings.{RouterPart}
use Rattle.router_model.specs.Settings.{Setting}
use Rattle.router_runs.specs.Snapshots.{ComesOut}
use Rattle.run_cuts.specs.ThroughSnapshot.{ThroughItsCut}
use Rattle.world_core.specs.Answering.{AnswersAreThrough, IsUndecided, answer_of, count_of, HasInside, CountsInside, GoesThrough, StopsAsPlay}
use Rattle.world_core.specs.Flagging.{FlagsTo}
use Rattle.world_core.specs.Replays.{PlayedRun}
use Rattle.world_core.specs.Tested.{TestsTellWhatIsInside}
use Rattle.world_core.specs.Through.{ThroughView, IsThrough, inside_part, count_true, picked_by}
use Rattle.world_core.specs.Verdicts.{JudgesItsRuns, judged}
use Rattle.world_core.specs.Views.{WorldView, plain_world}
use Rattle.world_core.specs.World.{World}
use Rattle.world_core.proofs.Picked.{inside_counted}

pub goes : AnswersAreThrough → (net : Plan) (events : List Event) (s : ℕ) (x : WorldView) (flags : List Bool) (answer : Option ThroughView) → FlagsTo net events s x flags → JudgesItsRuns x
    → answer ≡ answer_of (judged x.collector s) (picked_by flags x.run) → GoesThrough (Ok answer) net events s
goes answers net events s x flags answer to judges is g e set =
    let h = to.played g e set.chooses in
    let a = answers g set s events (plain_world x) h in
    let run = a.0 in
    let comes = judges g (e ∙ sym to.net) run.state run.agrees s in
    let same = is ∙ ap (λ (k : List Bool). answer_of (judged x.collector s) (picked_by k x.run)) (to.tests g e set.chooses) in (
      plain_world x,
      h,
      run,
      subst (λ (k : Option ThroughView). MatchOption k (IsUndecided g run.state s) (IsThrough g (plain_world x) run s)) (sym same) (a.1 (judged x.collector s) comes),
    )

pub wants_room : (net : Plan) (events : List Event) (s : ℕ) (x : WorldView) (flags : List Bool) → FlagsTo net events s x flags → StopsAsPlay (Err (record { at = length events; why = Memory })) net events
wants_room net events s x flags to g e ranks = inr (refl, refl, (plain_world x, to.played g e ranks))

-- ---- how many are inside

by_outcome : (g : Setting) (w : World) (run : PlayedRun g w) (s count : ℕ)
    → ((parts : ℕ → RouterPart) (through : ThroughItsCut g run.order run.state s parts) → count ≡ length (inside_part through.cut run.order)) → (outcome : Outcome)
    → ComesOut g run.state s outcome → MatchOption (count_of outcome count) (IsUndecided g run.state s) (HasInside g w run s)
by_outcome g w run s count counted Waiting is = inl is
by_outcome g w run s count counted (Abandoned u v e cause) is = inr (u, v, e, cause, is)
by_outcome g w run s count counted (Moving u why) is = record { decided = inr (u, why, is); counted = counted }
by_outcome g w run s count counted Settled is = record { decided = inl is; counted = counted }

pub counts : TestsTellWhatIsInside → (net : Plan) (events : List Event) (s : ℕ) (x : WorldView) (flags : List Bool) (answer : Option ℕ) → FlagsTo net events s x flags → JudgesItsRuns x
    → answer ≡ count_of (judged x.collector s) (count_true flags) → CountsInside (Ok answer) net events s
counts tell net events s x flags answer to judges is g e set =
    let h = to.played g e set.chooses in
    let tests = tell g set.network s events (plain_world x) h in
    let run = tests.run in
    let comes = judges g (e ∙ sym to.net) run.state run.agrees s in
    let found = to.tests g e set.chooses in (
      plain_world x,
      h,
      run,
      subst (λ (k : Option ℕ). MatchOption k (IsUndecided g run.state s) (HasInside g (plain_world x) run s)) (sym is)
          (by_outcome g (plain_world x) run s (count_true flags)
          (λ parts through. ap count_true (found ∙ tests.inside through.cut through.at (λ u k. through.passes.recorded u k)) ∙ inside_counted through.cut [] run.order)
          (judged x.collector s) comes),
    )
