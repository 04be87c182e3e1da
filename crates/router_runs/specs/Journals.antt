-- The runs that routers' journals show: every causal order of the journals is one.
-- g is a setting, u a router's number.
use Rattle.std.specs.Prelude.{ℕ, List}
use Rattle.run_model.specs.Journals.{IsJournal}
use Rattle.run_model.specs.CausalOrder.{IsCausalOrder, closing, TakesHaveTheirPuts}
use Rattle.outbox.specs.declared.item.What.{What}
use Rattle.snap_marker.specs.Recordings.{MadeOffer}
use Rattle.router_model.specs.Settings.{Setting}
use Rattle.router_model.specs.Step.{Own, RouterEvent}
use Rattle.router_runs.specs.Runs.{Logged, new_logged, logged_steps, RunOrder, IsRunTo}

-- the events of router u lead it from the opening to this state, each by a step of its own
abbrev pub LeadsTo : Setting → ℕ → List RouterEvent → Logged → Type 0
LeadsTo g u events logged = IsJournal (logged_steps g) u (new_logged g) events logged

-- an order of all journals' events, in which each router's own order is kept, each take stands behind the put of its item, and
-- the offers stand as they were collected, is a run of the network; its last state has the routers as their journals left them
abbrev pub CausalOrdersAreRunsOfRouters : Type 0
CausalOrdersAreRunsOfRouters =
    (g : Setting) (journal : ℕ → List RouterEvent) (routers : ℕ → Logged) (collected : List MadeOffer)
    (order : RunOrder)
    → ((u : ℕ) → LeadsTo g u (journal u) (routers u)) → IsCausalOrder journal collected order
    → IsRunTo g order (closing routers collected order)

-- an order is causal if the k-th take of a direction has the item of its k-th put, and stands behind it
abbrev pub TakesOfRoutersHaveTheirPuts : Type 0
TakesOfRoutersHaveTheirPuts = TakesHaveTheirPuts Own What MadeOffer
