-- Laws of what follows from chores.
use Rattle.std.specs.Prelude.{ℕ, ◌≡◌, List, [], ◌∷◌, All}
use Rattle.std.specs.List.{Contains}
use Rattle.std.specs.List.Sorted.{IsNonDecreasingBy}
use Rattle.ranked_policy.specs.Plans.{IsNetwork, IsRouter}
use Rattle.run_model.specs.Network.{alone}
use Rattle.run_model.specs.Journals.{IsJournal}
use Rattle.run_model.specs.Stamps.{FitsItem, without_stamp, without_stamps}
use Rattle.router_model.specs.Settings.{Setting}
use Rattle.router_model.specs.Step as step
use Rattle.router_model.specs.Step.{RouterEvent}
use Rattle.router_model.specs.Calls.{Stamped}
use Rattle.router_runs.specs.Runs.{Logged, logged_steps}
use Rattle.world_core.specs.Replays.{IsCalled}
use Rattle.worker_loop.specs.declared.chore.Chore.{Chore}
use Rattle.worker_loop.specs.declared.chore.Chore.TheVariants as chore
use Rattle.worker_loop.specs.Acts.{Act, Seen, Does, Moves, Leads, journal_of}
use Rattle.worker_loop.specs.Following.{Follows}

-- the events that follow from chores were done
abbrev pub WhatFollowsIsDone : Type 0
WhatFollowsIsDone =
    (g : Setting) (u : ℕ) (peers : List ℕ) (chores : List Chore) (a b : Seen) (acts : List Act) → Follows g u peers chores a acts b → Does g u a acts b

-- a journal of the router's steps, from a router with what it ever appended to one with the same
pub record IsJournalTo (g : Setting) (u : ℕ) (old : Logged) (acts : List Act) (y : Stamped) : Type 0 where
  pub last : Logged
  pub journal : IsJournal (logged_steps g) u old (without_stamps (journal_of acts)) last
  pub router : last.router ≡ y.router

abbrev pub ActsAreJournals : Type 0
ActsAreJournals =
    (g : Setting) (u : ℕ) → IsRouter g.net.routers u → (x y : Stamped) (acts : List Act) → Leads g u x acts y
    → (old : Logged) → old.router ≡ x.router → IsJournalTo g u old acts y

-- all events are of router u, and fit the items' stamps
pub record IsOf (u : ℕ) (a : Act) : Type 0 where
  pub router : a.event.router ≡ u
  pub fits : FitsItem a.stamp a.event.event

abbrev pub StampsRise : Type 0
StampsRise =
    (g : Setting) (u : ℕ) (x y : Stamped) (acts : List Act) → Leads g u x acts y
    → IsNonDecreasingBy (λ a. a.stamp) acts × All (IsOf u) acts

-- ---- each event is what its router's call answers, at the word of chores

-- an event is a command only if a chore is that command
abbrev pub IsOrdered : List Chore → RouterEvent → Type 0
IsOrdered chores (alone (step.Obeys c)) = Contains chores (chore.Command c)
IsOrdered chores _ = Unit {0}

-- events lead a router on, one after another; each is what its call answers, and is a command only if a chore is that
-- command
abbrev pub LeadsByCalls : Setting → ℕ → List Chore → Stamped → List Act → Stamped → Type 0
LeadsByCalls g u chores x [] z = x ≡ z
LeadsByCalls g u chores x (a ∷ acts) z =
    (y : Stamped) × Moves g u x a y × IsCalled g u x.router (without_stamp a.event.event) × IsOrdered chores (without_stamp a.event.event)
    × LeadsByCalls g u chores y acts z

abbrev pub WhatFollowsIsCalled : Type 0
WhatFollowsIsCalled =
    (g : Setting) → IsNetwork g.net → (u : ℕ) (peers : List ℕ) (chores : List Chore) (a b : Seen) (acts : List Act)
    → Follows g u peers chores a acts b → LeadsByCalls g u chores a.router acts b.router
