-- A run of the network, seen on one link: the moves of the two ends between two routers.
use Rattle.std.specs.Prelude.{ℕ, ◌≤◌, ◌≡◌, ◌≢◌, ◌==◌, cond, List, [], ◌∷◌, ◌++◌}
use mathlib.Core.List.{IsPrefix}
use Rattle.run_model.specs.Links.{End, Mark, Joined, Move, Tells, Marks, HangsUp, Takes, LinkStep, IsRun, opening, ends_after, said, is_up, incarnation, heard_number}
use Rattle.run_model.specs.Sessions.{link_steps}
use Rattle.run_model.specs.Recordings.{Act, Moves, EndsChannel, IgnoresMarker, Begins, Follows, Finishes}
use Rattle.run_model.specs.Routes.{Network, Routers, Event, Acts, Advertise, Decide, Command, NetworkStep, updates, advanced, first_routers, IsRunOf, reached}

module _ {M : Type 0} where
  -- a marker goes to a peer whose session is Established
  abbrev pub marker_moves : End M → ℕ → List (Move M)
  marker_moves a s = cond (is_up a) (Marks s ∷ []) []

  -- the moves of an act on the end a towards v
  abbrev pub act_moves : End M → ℕ → Act M → List (Move M)
  act_moves a v (Moves y move) = cond (v == y) (move ∷ []) []
  act_moves a v (EndsChannel y e s) = cond (v == y) (Takes (Mark e s) ∷ []) []
  act_moves a v (IgnoresMarker y e s) = cond (v == y) (Takes (Mark e s) ∷ []) []
  act_moves a v (Begins s whole) = marker_moves a s
  act_moves a v (Follows y e s whole) = cond (v == y) (Takes (Mark e s) ∷ marker_moves a s) (marker_moves a s)
  act_moves a v (Finishes s) = []

module _ {M P W : Type 0} where
  -- the moves of an event on the end a towards v
  abbrev pub event_moves : End M → ℕ → Event M P W → List (Move M)
  event_moves a v (Acts act) = act_moves a v act
  event_moves a v (Advertise y p m) = cond (v == y) (Tells m ∷ []) []
  event_moves a v (Decide p) = []
  event_moves a v (Command originated kept) = []

module _ {M P W : Type 0} (g : Network M P W) where
  -- the moves of a step on the link between u and v
  abbrev pub step_moves : Routers M P W → ℕ → ℕ → NetworkStep M P W → List (LinkStep M)
  step_moves w u v t =
      cond (u == t.router) (link_steps u v (event_moves ((w u).recorder.ends v) v t.event))
      (cond (v == t.router) (link_steps v u (event_moves ((w v).recorder.ends u) u t.event)) [])

  -- the moves of a run from w on the link between u and v
  abbrev pub moves_between : Routers M P W → ℕ → ℕ → List (NetworkStep M P W) → List (LinkStep M)
  moves_between w u v [] = []
  moves_between w u v (t ∷ ts) = step_moves w u v t ++ moves_between (advanced g w t) u v ts

  -- the end of u towards v that a run reaches
  abbrev pub reached_end : List (NetworkStep M P W) → ℕ → ℕ → End M
  reached_end ts u v = (reached g ts u).recorder.ends v

-- by the moves between two routers, a run of the network is a run of link ends, and ends in theirs
abbrev pub NetworkRunsAreLinkRuns : (M P W : Type 0) → Type 0
NetworkRunsAreLinkRuns M P W =
    (g : Network M P W) (ts : List (NetworkStep M P W)) → IsRunOf g ts → (u v : ℕ) → u ≢ v
    → IsRun opening (moves_between g (first_routers g) u v ts)
    × (ends_after opening (moves_between g (first_routers g) u v ts) u v ≡ reached_end g ts u v)
    × (ends_after opening (moves_between g (first_routers g) u v ts) v u ≡ reached_end g ts v u)

-- in every run of the network, the UPDATEs that a router acted on in an incarnation are a beginning of those that its peer
-- sent in it
abbrev pub NetworkActedBeginsSent : (M P W : Type 0) → Type 0
NetworkActedBeginsSent M P W =
    (g : Network M P W) (ts : List (NetworkStep M P W)) → IsRunOf g ts → (u v e : ℕ) → u ≢ v
    → IsPrefix (updates g (said e (reached_end g ts u v).used)) (updates g (said e (reached_end g ts v u).appended))

-- in every run of the network, no UPDATE of an incarnation is acted on after the router's close
abbrev pub NetworkNoneAfterClose : (M P W : Type 0) → Type 0
NetworkNoneAfterClose M P W =
    (g : Network M P W) (before later : List (NetworkStep M P W)) (u v : ℕ) → u ≢ v
    → IsRunOf g (before ++ record { router = u; event = Acts (Moves v HangsUp) } ∷ later)
    → (e : ℕ) → e ≤ incarnation (reached_end g before u v)
    → said e (reached_end g (before ++ record { router = u; event = Acts (Moves v HangsUp) } ∷ later) u v).used
    ≡ said e (reached_end g before u v).used

-- in every run of the network, an end that is joined has heard exactly its own number
abbrev pub NetworkJoinedHeardItsOwn : (M P W : Type 0) → Type 0
NetworkJoinedHeardItsOwn M P W =
    (g : Network M P W) (ts : List (NetworkStep M P W)) → IsRunOf g ts → (u v : ℕ) → u ≢ v
    → (reached_end g ts u v).phase ≡ Joined → heard_number (reached_end g ts u v) ≡ incarnation (reached_end g ts u v)
