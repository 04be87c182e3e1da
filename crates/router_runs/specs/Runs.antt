-- Runs of a network of routers: each router steps by itself, and a take gets the next item that the peer put.
-- g is a setting, u v routers' numbers, e an event, d one with its router, m a message, n an incarnation, k a
-- snapshot's number; old and new are states of a run.
use Rattle.std.specs.Prelude.{ℕ, ◌≡◌, ◌==◌, cond, List, [], ◌∷◌, ◌++◌, map}
use Rattle.std.specs.List.{concat}
use Rattle.bgp_codec.specs.declared.message.Message.{Message}
use Rattle.bgp_codec.specs.Spelling.{written}
use Rattle.ranked_policy.specs.Plans.{IsRouter}
use Rattle.run_model.specs.Links.{Entry}
use Rattle.run_model.specs.Network as runs
use Rattle.run_model.specs.Network.{NetworkEvent, Order, Steps, NetworkState, Run}
use Rattle.outbox.specs.declared.item.What.{What}
use Rattle.outbox.specs.declared.item.What.TheVariants as item
use Rattle.snap_marker.specs.Recordings.{MadeOffer}
use Rattle.router_model.specs.Settings.{Setting}
use Rattle.router_model.specs.Sides.{Side}
use Rattle.router_model.specs.State.{Router, new_router}
use Rattle.router_model.specs.Step.{Own, RouterEvent, Step, says}

-- a router, and all that it ever appended towards each peer, put already or not; no router keeps the second
pub record Logged : Type 0 where
  pub router : Router
  pub log : ℕ → List (Entry Message)

abbrev pub new_logged : Setting → Logged
new_logged g = record { router = new_router g; log = λ v. [] }

-- a step of router u, and what it appends
pub record LoggedStep (g : Setting) (u : ℕ) (logged : Logged) (e : RouterEvent) (next : Logged) : Type 0 where
  pub known : IsRouter g.net.routers u
  pub step : Step g u logged.router e next.router
  pub log : next.log ≡ (λ v. logged.log v ++ says g u logged.router e v)

abbrev pub logged_steps : Setting → Steps Logged Own What MadeOffer
logged_steps g = LoggedStep g

-- the events of a run, in their order, each with its router
abbrev pub RunOrder : Type 0
RunOrder = Order Own What MadeOffer

-- the routers, the items put and taken in each direction, and the offers made
abbrev pub RunState : Type 0
RunState = NetworkState Logged What MadeOffer

-- a run from the opening, in which no router has done anything, to this state
abbrev pub IsRunTo : Setting → RunOrder → RunState → Type 0
IsRunTo g order state = Run (logged_steps g) (runs.opening (λ u. new_logged g)) order state

-- an event of a run to `last`, from the state `old` to `new`
pub record IsEventOf (g : Setting) (order : RunOrder) (last : RunState) (d : NetworkEvent Own What MadeOffer) (old new : RunState) : Type 0 where
  pub before : RunOrder
  pub later : RunOrder
  pub parts : order ≡ before ++ d ∷ later
  pub reached : IsRunTo g before old
  pub step : runs.NetworkStep (logged_steps g) old d new
  pub goes_on : Run (logged_steps g) new later last

-- the side of router u towards v in a state of a run
abbrev pub side_of : RunState → ℕ → ℕ → Side
side_of state u v = (state.routers u).router.sides v

-- all that router u ever appended towards v
abbrev pub log_of : RunState → ℕ → ℕ → List (Entry Message)
log_of state u v = (state.routers u).log v

-- ---- messages and octets of an incarnation

-- messages as the routers of a network write them: its AS numbers have two octets, or four (RFC 6793 section 4.1)
abbrev pub written_in : Setting → Message → List ℕ
written_in g m = written g.net.settings.width m

-- the octets of messages, one behind another (RFC 4271 section 4)
abbrev pub octets_of_all : Setting → List Message → List ℕ
octets_of_all g ms = concat (map (written_in g) ms)

-- the octets of the pieces of an incarnation, up to its end
abbrev pub stream : ℕ → List What → List ℕ
stream n [] = []
stream n (item.Dial other ∷ is) = stream n is
stream n (item.Piece other octets ∷ is) = cond (n == other) (octets ++ stream n is) (stream n is)
stream n (item.Mark other k ∷ is) = stream n is
stream n (item.Shut other ∷ is) = cond (n == other) [] (stream n is)
