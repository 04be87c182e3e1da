-- A network of routers, and the network of the laws of runs that it stands for: router by router, recording by
-- recording.
-- g is a setting, x a router, twin the one in the laws of runs, u v routers' numbers, l an event of a twin with its
-- offers, m a message, k a snapshot's number, q a prefix.
use Rattle.std.specs.Prelude.{ℕ, ◌+◌, ◌≡◌, ◌↔◌, ◌<◌, ◌==◌, cond, true, List, [], ◌∷◌, ◌++◌, Option, None, Some}
use Rattle.std.specs.List.{list_any}
use mathlib.Core.Logic.{◌⊎◌}
use Rattle.prefix_lanes.specs.Bits.{PrefixView}
use Rattle.bgp_codec.specs.declared.message.Message.{Message}
use Rattle.ranked_policy.specs.Plans.{IsRouter, IsNamed, Linked}
use Rattle.run_model.specs.Links as links
use Rattle.run_model.specs.Links.{End}
use Rattle.run_model.specs.Recordings.{MayAct}
use Rattle.run_model.specs.Routes as routes
use Rattle.run_model.specs.Routes.{Acts, Advertise, Decide, Command, NetworkStep, TellsNoUpdate, told_word, router_after, advanced}
use Rattle.run_model.specs.Quiet as model
use Rattle.run_model.specs.Quiet.{IsQuietEvent}
use Rattle.run_model.specs.Offers as offers
use Rattle.run_model.specs.Offers.{Offering, OfferStep, Happens, Queues, IsOfferRunOf, final, network_steps, made_by}
use Rattle.snap_marker.specs.Recordings.{RouterOffer, Recording, Snapshots}
use Rattle.router_model.specs.declared.command.Command.TheVariants as command
use Rattle.router_model.specs.Settings.{Setting, is_router, names, linked, peers}
use Rattle.router_model.specs.Sides.{is_up}
use Rattle.router_model.specs.State.{Router}
use Rattle.router_model.specs.Laws.{all_passes}
use Rattle.router_model.specs.Step.{RouterEvent, Obeys}
use Rattle.router_runs.specs.Model.{network_of}
use Rattle.run_model.specs.Network.{Run, alone}
use Rattle.router_model.specs.Settings.{IsSetting}
use Rattle.router_runs.specs.Runs.{RunOrder, RunState, IsRunTo, logged_steps, side_of, log_of}
use Rattle.router_runs.specs.Acts.{ModelRouters, ModelStep}
use Rattle.router_runs.specs.Reading.{Reads}
use Rattle.router_runs.specs.Doing.{Stands}
use Rattle.router_runs.specs.Kept.{Holds}
use Rattle.router_runs.specs.Snapshots.{RecordedAt, IsQuietSince}

abbrev pub ModelRouter : Type 0
ModelRouter = routes.Router Message PrefixView (List ℕ)

abbrev pub ModelEvent : Type 0
ModelEvent = routes.Event Message PrefixView (List ℕ)

abbrev pub ModelOffering : Type 0
ModelOffering = Offering Message PrefixView (List ℕ)

abbrev pub ModelSteps : Type 0
ModelSteps = List (OfferStep Message PrefixView (List ℕ))

-- the network that a setting stands for is one of the laws, with its routers and links, and names no other prefix
pub record IsModelOf (g : Setting) : Type 0 where
  pub network : routes.IsNetwork (network_of g)
  pub routers : (u : ℕ) → ((is_router g u ≡ true) ↔ IsRouter g.net.routers u)
  pub linked : (u v : ℕ) → ((linked g.net u v ≡ true) ↔ Linked g.net.links u v)
  pub named : (q : PrefixView) → names g.net.origins q ≡ true → IsNamed g.net.origins q

abbrev pub EachSettingHasItsModel : Type 0
EachSettingHasItsModel = (g : Setting) → IsSetting g → IsModelOf g

-- ---- one router

-- towards each peer a side is its end, and is up exactly where the end is
pub record AreAlike (g : Setting) (u : ℕ) (x : Router) (ends : ℕ → End Message) : Type 0 where
  pub reads : (v : ℕ) → linked g.net u v ≡ true → Reads (x.sides v) (ends v)
  pub up : (v : ℕ) → linked g.net u v ≡ true → links.is_up (ends v) ≡ is_up (x.sides v)

abbrev pub number_of : Option Recording → Option ℕ
number_of None = None
number_of (Some recording) = Some recording.number

-- the unfinished recording waits for the same peers, at least one, and its part is what was recorded
pub record ReadsPart (g : Setting) (u : ℕ) (recording : Recording) (twin : ModelRouter) : Type 0 where
  pub waits : (v : ℕ) → linked g.net u v ≡ true → twin.recorder.waits v ≡ recording.waits v
  pub some : list_any recording.waits (peers g.net u) ≡ true
  pub part : offers.IsPartOf (network_of g) u twin recording.number twin.recorder.channel recording.part

abbrev pub ReadsRecording : Setting → ℕ → Option Recording → ModelRouter → Type 0
ReadsRecording g u None twin = Unit {0}
ReadsRecording g u (Some recording) twin = ReadsPart g u recording twin

-- what is recorded
pub record ReadsSnapshots (g : Setting) (u : ℕ) (snapshots : Snapshots) (twin : ModelRouter) : Type 0 where
  pub last : twin.recorder.last ≡ snapshots.last
  pub unfinished : twin.recorder.unfinished ≡ number_of snapshots.unfinished
  pub recording : ReadsRecording g u snapshots.unfinished twin

-- all but the sides
pub record ReadsRouter (g : Setting) (u : ℕ) (x : Router) (twin : ModelRouter) : Type 0 where
  pub kept : twin.kept ≡ x.kept
  pub originated : twin.originated ≡ x.originated
  pub snapshots : ReadsSnapshots g u x.snapshots twin

-- ---- commands: to originate, to withdraw and to restart are what the laws of runs call a command

abbrev pub is_command : ModelEvent → ℕ
is_command (Acts link_act) = 0
is_command (Advertise v q m) = 0
is_command (Decide q) = 0
is_command (Command originated kept) = 1

abbrev pub is_table_command : RouterEvent → ℕ
is_table_command (alone (Obeys (command.Originate q))) = 1
is_table_command (alone (Obeys (command.Withdraw q))) = 1
is_table_command (alone (Obeys command.Restart)) = 1
is_table_command _ = 0

-- how many of these events are commands of router u
abbrev pub commands_at : ℕ → List ModelStep → ℕ
commands_at u [] = 0
commands_at u (t ∷ ts) = cond (u == t.router) (is_command t.event) 0 + commands_at u ts

abbrev pub table_commands_at : ℕ → RunOrder → ℕ
table_commands_at u [] = 0
table_commands_at u (d ∷ ds) = cond (u == d.router) (is_table_command d.event) 0 + table_commands_at u ds

-- a command leaves what is kept, or forgets it
abbrev pub Forgets : ModelRouter → ModelEvent → Type 0
Forgets twin (Acts link_act) = Unit {0}
Forgets twin (Advertise v q m) = Unit {0}
Forgets twin (Decide q) = Unit {0}
Forgets twin (Command originated kept) = (kept ≡ twin.kept) ⊎ (kept ≡ (λ q. []))

abbrev pub CommandsForget : Setting → ModelRouters → List ModelStep → Type 0
CommandsForget g twins [] = Unit {0}
CommandsForget g twins (t ∷ ts) = Forgets (twins t.router) t.event × CommandsForget g (advanced (network_of g) twins t) ts

-- ---- events of one router, one after another, while the ends of its peers stand still

-- an event and the offers that it queues
pub record Local : Type 0 where
  pub event : ModelEvent
  pub queues : List RouterOffer

module _ (g : Setting) (u : ℕ) (far_ends : ℕ → End Message) where
  abbrev pub MayLocal : ModelRouter → ModelEvent → Type 0
  MayLocal twin (Acts link_act) =
      MayAct u twin.recorder far_ends (linked g.net u) link_act × TellsNoUpdate (network_of g) link_act
  MayLocal twin (Advertise v q m) =
      (u ≡ v → ⊥) × (linked g.net u v ≡ true) × (links.is_up (twin.recorder.ends v) ≡ true)
      × (told_word (network_of g) twin.recorder.ends v q ≡ twin.kept q → ⊥)
      × ((network_of g).named q ≡ true) × ((network_of g).is_update m ≡ true)
      × ((network_of g).mentions m ≡ (q, twin.kept q) ∷ [])
  MayLocal twin (Decide q) =
      ((network_of g).named q ≡ true)
      × (twin.kept q ≡ routes.route (network_of g) u twin.recorder.ends q (twin.originated q) → ⊥)
  MayLocal twin (Command originated kept) = Forgets twin (Command originated kept)

  abbrev pub IsLocalRun : ModelRouter → List Local → Type 0
  IsLocalRun twin [] = Unit {0}
  IsLocalRun twin (l ∷ ls) =
      MayLocal twin l.event × Queues (network_of g) u twin l.event l.queues
      × IsLocalRun (router_after (network_of g) u twin l.event) ls

abbrev pub local_after : Setting → ℕ → ModelRouter → List Local → ModelRouter
local_after g u twin [] = twin
local_after g u twin (l ∷ ls) = local_after g u (router_after (network_of g) u twin l.event) ls

abbrev pub queued_by : List Local → List RouterOffer
queued_by [] = []
queued_by (l ∷ ls) = l.queues ++ queued_by ls

abbrev pub commands_by : List Local → ℕ
commands_by [] = 0
commands_by (l ∷ ls) = is_command l.event + commands_by ls

-- each event behind a recording of k is quiet
abbrev pub IsLocallyQuiet : Setting → ℕ → ℕ → ModelRouter → List Local → Type 0
IsLocallyQuiet g u k twin [] = Unit {0}
IsLocallyQuiet g u k twin (l ∷ ls) =
    ((copy : ℕ → End Message) → twin.recorder.copy k ≡ Some copy → IsQuietEvent twin l.event)
    × IsLocallyQuiet g u k (router_after (network_of g) u twin l.event) ls

-- events of router u lead from one state of it to another, and queue these offers; so many are commands; if they have
-- to be still, each behind a recording is quiet
pub record Goes (g : Setting) (u : ℕ) (far_ends : ℕ → End Message) (Still : Type 0) (commands : ℕ)
    (from to : ModelRouter) (offers : List RouterOffer) : Type 0 where
  pub events : List Local
  pub run : IsLocalRun g u far_ends from events
  pub leads : local_after g u from events ≡ to
  pub queues : queued_by events ≡ offers
  pub counts : commands_by events ≡ commands
  pub calm : (k : ℕ) → (Still ⊎ (from.recorder.copy k ≡ None)) → IsLocallyQuiet g u k from events

pub record Recorded (from to : ModelRouter) (low high : ℕ) : Type 0 where
  -- nothing that was recorded is forgotten
  pub kept : (k : ℕ) (copy : ℕ → End Message) → from.recorder.copy k ≡ Some copy
      → (other : ℕ → End Message) × (to.recorder.copy k ≡ Some other)
  pub new : (k : ℕ) (copy : ℕ → End Message) → to.recorder.copy k ≡ Some copy
      → ((from.recorder.copy k ≡ Some copy) × (to.kept_at k ≡ from.kept_at k)
      × (to.originated_at k ≡ from.originated_at k))
      ⊎ ((low < k) × (high ≡ k) × (to.recorder.ends ≡ copy) × (to.kept_at k ≡ to.kept)
      × (to.originated_at k ≡ to.originated))
  pub recorded : (k : ℕ) → low < k → high ≡ k → (copy : ℕ → End Message) × (to.recorder.copy k ≡ Some copy)

-- ---- the network

-- the state of a run, and that of a run with offers of the laws
pub record Mirrors (g : Setting) (state : RunState) (offering : ModelOffering) : Type 0 where
  pub sides : (u v : ℕ) → linked g.net u v ≡ true
      → Stands (side_of state u v) ((offering.routers u).recorder.ends v) ((offering.routers v).recorder.ends u)
  pub log : (u v : ℕ) → linked g.net u v ≡ true → log_of state u v ≡ ((offering.routers u).recorder.ends v).appended
  pub holds : (u v : ℕ) → linked g.net u v ≡ true
      → Holds g (side_of state u v) (all_passes (state.taken v u)) ((offering.routers u).recorder.ends v)
  pub routers : (u : ℕ) → ReadsRouter g u (state.routers u).router (offering.routers u)
  pub queued : (u : ℕ) → offering.queued u ≡ made_by u offering.made ++ (state.routers u).router.snapshots.queue
  pub made : offering.made ≡ state.offered

-- a copy of the ends of router u is its sides where it recorded, with what it had said and taken by then
pub record IsCopyAt (g : Setting) (u : ℕ) (at : RunState) (copy : ℕ → End Message) : Type 0 where
  pub reads : (v : ℕ) → linked g.net u v ≡ true → Reads (side_of at u v) (copy v)
  pub up : (v : ℕ) → linked g.net u v ≡ true → links.is_up (copy v) ≡ is_up (side_of at u v)
  pub log : (v : ℕ) → linked g.net u v ≡ true → log_of at u v ≡ (copy v).appended
  pub holds : (v : ℕ) → linked g.net u v ≡ true → Holds g (side_of at u v) (all_passes (at.taken v u)) (copy v)

pub record Copied (g : Setting) (order : RunOrder) (state : RunState) (twin : ModelRouter) (u k : ℕ)
    (copy : ℕ → End Message) : Type 0 where
  pub at : RunState
  pub place : RecordedAt g order state u k at
  pub ends : IsCopyAt g u at copy
  pub kept : twin.kept_at k ≡ (at.routers u).router.kept
  pub originated : twin.originated_at k ≡ (at.routers u).router.originated
  -- no octet that was taken behind the marker of a peer is held: the event is the marker's own, or the marker was not
  -- taken yet
  pub unmarked : (v : ℕ) (near : linked g.net u v ≡ true) → links.is_up (copy v) ≡ true
      → ((ends.holds v near).rest ≡ []) ⊎ (offers.IsIn (links.Mark (links.incarnation (copy v)) k) (copy v).taken → ⊥)

-- a run of routers, and the run of the laws beside it
pub record Mirrored (g : Setting) (order : RunOrder) (state : RunState) : Type 0 where
  pub steps : ModelSteps
  pub run : IsOfferRunOf (network_of g) steps
  pub mirrors : Mirrors g state (final (network_of g) steps)
  pub copies : (u k : ℕ) (copy : ℕ → End Message) → ((final (network_of g) steps).routers u).recorder.copy k ≡ Some copy
      → Copied g order state ((final (network_of g) steps).routers u) u k copy
  pub quiet : (k : ℕ) → IsQuietSince g k order state
      → model.IsQuietSince (network_of g) k (routes.first_routers (network_of g)) (network_steps (network_of g) steps)
  pub commands : (u : ℕ) → commands_at u (network_steps (network_of g) steps) ≡ table_commands_at u order
  pub forgets : CommandsForget g (routes.first_routers (network_of g)) (network_steps (network_of g) steps)

-- the run of the laws goes on as the run of routers does, and forgets nothing that was recorded
pub record GoesOn (g : Setting) (before : RunOrder) (at : RunState) (mirrored : Mirrored g before at)
    (later : RunOrder) (last : RunState) : Type 0 where
  pub whole : Mirrored g (before ++ later) last
  pub more : ModelSteps
  pub steps : whole.steps ≡ mirrored.steps ++ more
  pub keeps : (u k : ℕ) (copy : ℕ → End Message)
      → ((final (network_of g) mirrored.steps).routers u).recorder.copy k ≡ Some copy
      → (other : ℕ → End Message) × (((final (network_of g) whole.steps).routers u).recorder.copy k ≡ Some other)

-- every run has its run of the laws
abbrev pub RunsAreMirrored : Type 0
RunsAreMirrored = (g : Setting) → IsSetting g → (order : RunOrder) (state : RunState) → IsRunTo g order state → Mirrored g order state

abbrev pub MirrorsGoOn : Type 0
MirrorsGoOn =
    (g : Setting) → IsSetting g → (before later : RunOrder) (at last : RunState) (mirrored : Mirrored g before at)
    → IsRunTo g before at → Run (logged_steps g) at later last → GoesOn g before at mirrored later last

-- if a router recorded, there is a run of the laws whose router has that recording
abbrev pub RecordingsAreMirrored : Type 0
RecordingsAreMirrored =
    (g : Setting) → IsSetting g → (order : RunOrder) (state : RunState) (u k : ℕ) (at : RunState)
    → RecordedAt g order state u k at → (mirrored : Mirrored g order state) × (copy : ℕ → End Message)
    × (((final (network_of g) mirrored.steps).routers u).recorder.copy k ≡ Some copy)
