-- What is picked by names and tests is the run through the cut.
use Rattle.std.proofs.Common.{◌≡◌, ℕ, suc, ◌+◌, Bool, true, false, cond, List, [], ◌∷◌, ◌++◌, length, refl, ap, sym, ◌∙◌, arith}
use Rattle.std.specs.Prelude.{if◌then◌else◌, ltb}
use Rattle.std.proofs.Math.Path.{fun_ext}
use Rattle.run_model.specs.Journals.{events_of}
use Rattle.run_model.specs.ThroughCut.{selected, needed, first_part, second_part}
use Rattle.router_model.specs.Laws.{AnswersAreSteps, LinkedRoutersArePeers}
use Rattle.router_runs.specs.Runs.{RunOrder, RunState, new_logged}
use Rattle.run_model.specs.Network as runs
use Rattle.run_cuts.specs.ThroughSnapshot.{ThroughItsCut, DecidedRunsPassThrough, InsideByNumber}
use Rattle.run_cuts.specs.Choices.{ChosenRunsPassThrough}
use Rattle.world_core.specs.declared.schedule.Event.{Event}
use Rattle.world_core.specs.World.{new_world, named}
use Rattle.world_core.specs.Picking.{taken_inside, firsts, laters, flags, Picks}
use Rattle.world_core.specs.Tested.{tested}
use Rattle.world_core.specs.Through.{ThroughView, inside_part, count_true, picked_by, PickedIsThrough}
use Rattle.world_core.proofs.Calling.{run_of, cuts_are_played}
use Rattle.world_core.proofs.Picking.{names_are_enough, named_more}
use Rattle.world_core.proofs.Testing.{tests_tell}

-- as many flags say inside as events are
pub inside_counted : (cut : ℕ → ℕ) (before ds : RunOrder) → count_true (flags cut before ds) ≡ length (selected (λ u b e. ltb (length b) (cut u)) before ds)
inside_counted cut before [] = refl
inside_counted cut before (d ∷ ds) = at (ltb (length (events_of d.router before)) (cut d.router)) (inside_counted cut (before ++ d ∷ []) ds)
  where
    at : (b : Bool) → count_true (flags cut (before ++ d ∷ []) ds) ≡ length (selected (λ u b e. ltb (length b) (cut u)) (before ++ d ∷ []) ds)
        → cond b 1 0 + count_true (flags cut (before ++ d ∷ []) ds) ≡ length ((if b then d ∷ [] else []) ++ selected (λ u b e. ltb (length b) (cut u)) (before ++ d ∷ []) ds)
    at true ih = omega (arith, ih)
    at false ih = omega (arith, ih)

as_many : (ds : RunOrder) → length (named ds) ≡ length ds
as_many [] = refl
as_many (d ∷ ds) = ap (λ n. suc n) (as_many ds)

-- picked by the flags of the cut
by_flags : (cut : ℕ → ℕ) (order : RunOrder) (tests : List Bool) (events : List Event) → tests ≡ flags cut [] order → events ≡ named order
    → picked_by tests events ≡ record { events = named (first_part cut order ++ second_part cut order); recorded = length (inside_part cut order); place = length (first_part cut order) }
by_flags cut order tests events is are =
    let picks : Picks cut order = names_are_enough cut order in
    let same : (λ (u v : ℕ). taken_inside u v (flags cut [] order) (named order)) ≡ needed cut order = fun_ext (λ u. fun_ext (λ v. picks.counts u v)) in
    let first : firsts (λ u v. taken_inside u v (flags cut [] order) (named order)) [] (flags cut [] order) (named order) ≡ named (first_part cut order) =
    ap (λ (n : ℕ → ℕ → ℕ). firsts n [] (flags cut [] order) (named order)) same ∙ picks.first in
    let second : laters (λ u v. taken_inside u v (flags cut [] order) (named order)) [] (flags cut [] order) (named order) ≡ named (second_part cut order) =
    ap (λ (n : ℕ → ℕ → ℕ). laters n [] (flags cut [] order) (named order)) same ∙ picks.second in
    (λ i. picked_by (is i) (are i))
    ∙ (λ i. record {
      events = ((λ j. first j ++ second j) ∙ sym (named_more (first_part cut order) (second_part cut order))) i;
      recorded = inside_counted cut [] order i;
      place = (ap (λ l. length l) first ∙ as_many (first_part cut order)) i;
    })

pub picked_is_through : AnswersAreSteps → LinkedRoutersArePeers → InsideByNumber → DecidedRunsPassThrough → ChosenRunsPassThrough → PickedIsThrough
picked_is_through answers links by_number decided pass g set s events w h =
    let tests = tests_tell answers by_number g set.network s events w h in
    let run = tests.run in
    let start : RunState = runs.opening (λ u. new_logged g) in (
      run,
      λ is.
          let d = decided g set run.order run.state (run_of g run.order start run.state run.run) s is in
          let t : ThroughItsCut g run.order run.state s d.0 = d.2 in
          let same = by_flags t.cut run.order (tested g s (new_world g) events) w.run (tests.inside t.cut t.at (λ u k. t.passes.recorded u k)) (sym run.events) in
          record {
            parts = d.0;
            made = d.1;
            through = t;
            events = ap (λ (v : ThroughView). v.events) same;
            recorded = ap (λ (v : ThroughView). v.recorded) same;
            place = ap (λ (v : ThroughView). v.place) same;
            plays = λ none short. cuts_are_played answers links pass g set w run none short s d.0 d.1 t;
          },
    )
