-- A journal at the word of chores, and the run that such journals are.
use Rattle.std.proofs.Common.{◌≡◌, ℕ, List, [], ◌∷◌, sym, ap, subst, ◌∙◌}
use Rattle.std.specs.List.{AllByRecursion}
use Rattle.outbox.specs.declared.item.What.{What}
use Rattle.run_model.specs.Network.{Journal, Run}
use Rattle.run_model.specs.Journals.{IsJournal}
use Rattle.run_model.specs.Stamps.{without_stamp, without_stamps}
use Rattle.snap_marker.specs.Recordings.{MadeOffer}
use Rattle.router_model.specs.Settings.{Setting}
use Rattle.router_model.specs.Step.{Own, RouterEvent, after}
use Rattle.router_model.specs.Calls.{Stamped}
use Rattle.router_runs.specs.Runs.{Logged, RunOrder, RunState, logged_steps}
use Rattle.world_core.specs.Replays.{IsCalled, IsCalledRun}
use Rattle.worker_loop.specs.declared.chore.Chore.{Chore}
use Rattle.worker_loop.specs.Acts.{Act, journal_of}
use Rattle.worker_loop.specs.Laws.{IsOrdered, LeadsByCalls}
use Rattle.net_workers.specs.Called.{CalledStep, Orders, called_steps}

-- a journal of one router at the word of these chores
abbrev pub IsCalledJournal : Setting → List Chore → ℕ → Logged → Journal Own What MadeOffer → Logged → Type 0
IsCalledJournal g chores u old es new = IsJournal (λ k x e y. CalledStep g chores k x e y) u old es new

-- a journal whose events are led to by calls
pub called_journal : (g : Setting) (chores : List Chore) (u : ℕ) (x y : Stamped) (acts : List Act) (old last : Logged) → old.router ≡ x.router
    → IsJournal (logged_steps g) u old (without_stamps (journal_of acts)) last → LeadsByCalls g u chores x acts y → IsCalledJournal g chores u old (without_stamps (journal_of acts)) last
called_journal g chores u x y [] old last same journal leads = journal
called_journal g chores u x y (a ∷ acts) old last same journal leads =
    let e : RouterEvent = without_stamp a.event.event in
    let next = journal.0 in
    let to : next.router ≡ leads.0.router = journal.1.step.leaves ∙ ap (λ r. after g u r e) same ∙ sym leads.1.step.leaves in (
      next,
      record { step = journal.1; called = subst (λ r. IsCalled g u r e) (sym same) leads.2; ordered = leads.3 },
      called_journal g chores u leads.0 y acts next last to journal.2 leads.4,
    )

pub of_orders : (o : Orders) (u : ℕ) (es : Journal Own What MadeOffer) (old new : Logged) → IsCalledJournal o.setting (o.chores u) u old es new → IsJournal (called_steps o) u old es new
of_orders o u [] old new h = h
of_orders o u (e ∷ es) old new h = (h.0, h.1, of_orders o u es h.0 new h.2)

-- ---- the run

pub called_run : (o : Orders) (ds : RunOrder) (old new : RunState) → Run (called_steps o) old ds new → IsCalledRun o.setting old ds new
called_run o [] old new r = r
called_run o (d ∷ ds) old new r =
    let s = r.1 in
    (r.0, (s.0, s.1.step, s.2, s.3), s.1.called, called_run o ds r.0 new r.2)

pub ordered_run : (o : Orders) (ds : RunOrder) (old new : RunState) → Run (called_steps o) old ds new → AllByRecursion (λ d. IsOrdered (o.chores d.router) d.event) ds
ordered_run o [] old new r = tt
ordered_run o (d ∷ ds) old new r = (r.1.1.ordered, ordered_run o ds r.0 new r.2)
