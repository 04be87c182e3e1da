-- What holds of the snapshots of every run (Chandy and Lamport 1985).
-- g is a setting, x y a router before and behind, u v routers' numbers, e an event, d one with its router, c a command,
-- i an item, k a snapshot's number, q a prefix; old and new are states of a run.
use Rattle.std.specs.Prelude.{ℕ, ◌≡◌, ◌<◌, Bool, true, List, [], ◌∷◌, ◌++◌, map}
use mathlib.Core.List.{IsPrefix}
use mathlib.Core.Logic.{◌⊎◌}
use Rattle.prefix_lanes.specs.Bits.{PrefixView}
use Rattle.bgp_codec.specs.declared.message.Message.TheVariants.{UpdateMsg}
use Rattle.bgp_codec.specs.declared.update.Update.{Update}
use Rattle.ranked_policy.specs.Plans.{IsOrigin}
use Rattle.stable_paths.specs.Stable.{IsStable}
use Rattle.run_model.specs.Octets.{passing}
use Rattle.run_model.specs.Network as runs
use Rattle.run_model.specs.Network.{NetworkEvent, alone}
use Rattle.run_model.specs.Offers.{Finished, Lost, Closed, Outcome, Settled, Moving, Why, Mismatch, HasOutcome, made_of, IsIn}
use Rattle.outbox.specs.declared.item.What.{What}
use Rattle.snap_marker.specs.Recordings.{RouterPart, MadeOffer, Snapshots}
use Rattle.router_model.specs.declared.command.Command.TheVariants as command
use Rattle.router_model.specs.Settings.{Setting, IsSetting, is_router, linked, names}
use Rattle.router_model.specs.Sides.{is_up}
use Rattle.router_model.specs.State.{Router, best_path, is_pending}
use Rattle.router_model.specs.Step.{Own, RouterEvent, Obeys}
use Rattle.router_model.specs.Laws.{all_passes}
use Rattle.router_model.specs.Recording.{IsRecording, LeavesFirst}
use Rattle.router_runs.specs.Runs.{RunOrder, RunState, IsRunTo, IsEventOf, logged_steps, side_of, log_of, written_in}
use Rattle.router_runs.specs.Model.{network_of}

-- what router u records and has queued in a state of a run
abbrev pub snapshots_of : RunState → ℕ → Snapshots
snapshots_of state u = (state.routers u).router.snapshots

-- router u made this part of k
abbrev pub HasMade : RunState → (k u : ℕ) → RouterPart → Type 0
HasMade state k u part = IsIn (made_of u (Finished k part)) state.offered

-- a session that leaves Established while k is recorded queues the loss of k, by the least such peer of the event and in the
-- incarnation that was left; and no part of k by that router is ever made
abbrev pub CloseLosesTheRecording : Type 0
CloseLosesTheRecording =
    (g : Setting) → IsSetting g → (before later : RunOrder) (d : NetworkEvent Own What MadeOffer) (old new last : RunState)
    → IsRunTo g before old → runs.NetworkStep (logged_steps g) old d new → runs.Run (logged_steps g) new later last
    → (k v : ℕ) → IsRecording (snapshots_of old d.router) k → LeavesFirst g d.router v (old.routers d.router).router (new.routers d.router).router
    → ((snapshots_of new d.router).queue ≡ (snapshots_of old d.router).queue ++ Lost k v (side_of old d.router v).link.epoch Closed ∷ [])
    × ((part : RouterPart) → HasMade last k d.router part → ⊥)

-- each event of one run that leaves Established loses the recording in this way
abbrev pub ClosesLoseRecordings : Setting → RunOrder → RunState → Type 0
ClosesLoseRecordings g order last =
    (d : NetworkEvent Own What MadeOffer) (old new : RunState) → IsEventOf g order last d old new
    → (k v : ℕ) → IsRecording (snapshots_of old d.router) k → LeavesFirst g d.router v (old.routers d.router).router (new.routers d.router).router
    → ((snapshots_of new d.router).queue ≡ (snapshots_of old d.router).queue ++ Lost k v (side_of old d.router v).link.epoch Closed ∷ [])
    × ((part : RouterPart) → HasMade last k d.router part → ⊥)

-- ---- the place where a router recorded a snapshot

-- router u recorded k in a run to `last`: by the event that made k its last number; `new` is the state of the run behind it
pub record RecordedAt (g : Setting) (order : RunOrder) (last : RunState) (u k : ℕ) (new : RunState) : Type 0 where
  pub before : RunOrder
  pub event : RouterEvent
  pub later : RunOrder
  pub old : RunState
  pub parts : order ≡ before ++ record { router = u; event = event } ∷ later
  pub reached : IsRunTo g before old
  pub step : runs.NetworkStep (logged_steps g) old (record { router = u; event = event }) new
  pub goes_on : runs.Run (logged_steps g) new later last
  pub greater : (snapshots_of old u).last < k
  pub records : (snapshots_of new u).last ≡ k

-- ---- the cut of a snapshot (Chandy and Lamport 1985): of each router, its events up to the one that recorded are
-- inside

-- a part says what this router is, of the prefixes that the network names and of its peers
pub record IsPartOf (g : Setting) (u : ℕ) (x : Router) (part : RouterPart) : Type 0 where
  pub kept : (q : PrefixView) → names g.net.origins q ≡ true → part.kept q ≡ x.kept q
  pub originated : (q : PrefixView) → names g.net.origins q ≡ true → part.originated q ≡ x.originated q
  pub incarnation : (v : ℕ) → linked g.net u v ≡ true → part.incarnation v ≡ (x.sides v).link.epoch
  pub pending : part.pending ≡ is_pending g u x

-- the link from u to v in a cut, by the states of the run as u and as v recorded, and the part of v. What v took
-- inside, u appended inside, octet by octet; both recorded in one incarnation; the recorded channel is the UPDATEs that
-- u sent in it inside and v did not act on inside
pub record IsCutLink (g : Setting) (at_u at_v : RunState) (u v : ℕ) (part : RouterPart) : Type 0 where
  pub consistent : IsPrefix (all_passes (at_v.taken u v)) (passing (written_in g) (log_of at_u u v))
  pub one_incarnation : (side_of at_u u v).link.epoch ≡ (side_of at_v v u).link.epoch
  pub in_flight : List Update
  pub channel : part.channel u ≡ map UpdateMsg in_flight
  pub sent : (side_of at_u u v).sent (side_of at_v v u).link.epoch ≡ (side_of at_v v u).acted (side_of at_v v u).link.epoch ++ in_flight

-- the recording events of k are a consistent cut, and these parts are what it leaves; `recordings u` is the state of
-- the run as u recorded
pub record IsCutOf (g : Setting) (order : RunOrder) (last : RunState) (k : ℕ) (parts : ℕ → RouterPart)
    (recordings : ℕ → RunState) : Type 0 where
  pub recorded : (u : ℕ) → is_router g u ≡ true → RecordedAt g order last u k (recordings u)
  pub states : (u : ℕ) → is_router g u ≡ true → IsPartOf g u ((recordings u).routers u).router (parts u)
  pub links : (u v : ℕ) → linked g.net u v ≡ true → IsCutLink g (recordings u) (recordings v) u v (parts v)

-- every router made its part of k
abbrev pub HaveMade : Setting → RunState → ℕ → (ℕ → RouterPart) → Type 0
HaveMade g state k parts = (u : ℕ) → is_router g u ≡ true → HasMade state k u (parts u)

-- the parts of a snapshot are those of a consistent cut, whatever they hold
abbrev pub PartsAreOfACut : Type 0
PartsAreOfACut =
    (g : Setting) → IsSetting g → (order : RunOrder) (state : RunState) → IsRunTo g order state → (k : ℕ) (parts : ℕ → RouterPart)
    → HaveMade g state k parts → (recordings : ℕ → RunState) × IsCutOf g order state k parts recordings

-- ---- how a snapshot comes out, by all offers made

abbrev pub ComesOut : Setting → RunState → ℕ → Outcome → Type 0
ComesOut g state k outcome = HasOutcome (network_of g) k state.offered outcome

-- a snapshot that is settled or moving has a part of every router
abbrev pub DecidedHasAllParts : Type 0
DecidedHasAllParts =
    (g : Setting) → IsSetting g → (order : RunOrder) (state : RunState) → IsRunTo g order state → (k u : ℕ) → is_router g u ≡ true
    → ComesOut g state k Settled ⊎ ((v : ℕ) × (why : Why) × ComesOut g state k (Moving v why))
    → (part : RouterPart) × HasMade state k u part

-- the two parts of a link name one incarnation: no snapshot is moving by a mismatch
abbrev pub MismatchNeverComes : Type 0
MismatchNeverComes =
    (g : Setting) → IsSetting g → (order : RunOrder) (state : RunState) → IsRunTo g order state → (k u v : ℕ)
    → ComesOut g state k (Moving u (Mismatch v)) → ⊥

-- ---- what holds of a settled snapshot

-- the prefix is originated or not, as its origin's part says
abbrev pub AsOriginated : Setting → PrefixView → (ℕ → RouterPart) → Bool → Type 0
AsOriginated g q parts originated = (u : ℕ) → IsOrigin g.net.origins u q → (parts u).originated q ≡ originated

-- the paths of these parts are a stable path assignment (Griffin, Shepherd and Wilfong 2002) for each prefix of the network
abbrev pub AreStable : Setting → (ℕ → RouterPart) → Type 0
AreStable g parts =
    (q : PrefixView) → names g.net.origins q ≡ true → (originated : Bool) → AsOriginated g q parts originated
    → IsStable (record { net = g.net; prefix = q; originated = originated }) (λ u. (parts u).kept q)

abbrev pub SettledIsStable : Type 0
SettledIsStable =
    (g : Setting) → IsSetting g → (order : RunOrder) (state : RunState) → IsRunTo g order state → (k : ℕ) → ComesOut g state k Settled
    → (parts : ℕ → RouterPart) → HaveMade g state k parts → AreStable g parts

-- ---- the quiet stretch

-- a command other than Snapshot
abbrev pub IsCommand : RouterEvent → Type 0
IsCommand (alone (Obeys (command.Snapshot k))) = ⊥
IsCommand (alone (Obeys c)) = Unit {0}
IsCommand _ = ⊥

-- a step of router u does no command, and no session leaves Established in it
pub record IsQuiet (g : Setting) (u : ℕ) (x y : Router) (e : RouterEvent) : Type 0 where
  pub no_command : IsCommand e → ⊥
  pub stays_up : (v : ℕ) → linked g.net u v ≡ true → is_up (x.sides v) ≡ true → is_up (y.sides v) ≡ true

-- a run is quiet since k: each step of a router after its own recording of k is quiet
abbrev pub IsQuietSince : Setting → ℕ → RunOrder → RunState → Type 0
IsQuietSince g k order last =
    (before later : RunOrder) (d : NetworkEvent Own What MadeOffer) (old new at : RunState) → order ≡ before ++ d ∷ later
    → IsRunTo g before old → runs.NetworkStep (logged_steps g) old d new → runs.Run (logged_steps g) new later last
    → RecordedAt g before old d.router k at
    → IsQuiet g d.router (old.routers d.router).router (new.routers d.router).router d.event

-- at a place of the run, these are a router's kept path and its route for the prefix
abbrev pub HasRoute : Setting → RunState → ℕ → PrefixView → List ℕ → Type 0
HasRoute g at u q path = ((at.routers u).router.kept q ≡ path) × (best_path g u (at.routers u).router q ≡ path)

-- the paths of a settled snapshot are every router's kept paths and routes at every place from its own recording on up to which
-- the run is quiet
abbrev pub SettledStays : Type 0
SettledStays =
    (g : Setting) → IsSetting g → (before later : RunOrder) (at last : RunState) → IsRunTo g before at
    → runs.Run (logged_steps g) at later last → (k : ℕ) → ComesOut g last k Settled → IsQuietSince g k before at
    → (u : ℕ) (new : RunState) (part : RouterPart) → RecordedAt g before at u k new → HasMade last k u part
    → (q : PrefixView) → names g.net.origins q ≡ true → HasRoute g at u q (part.kept q)

-- ---- all of this together: a settled snapshot can be believed

-- these parts are what a consistent cut leaves, their paths are a stable path assignment, and stay at `at`, a place of the run
pub record IsBelievable (g : Setting) (before later : RunOrder) (at last : RunState) (k : ℕ) (parts : ℕ → RouterPart) : Type 0 where
  pub recordings : ℕ → RunState
  pub cut : IsCutOf g (before ++ later) last k parts recordings
  pub stable : AreStable g parts
  pub stays : IsQuietSince g k before at → (u : ℕ) (new : RunState) → is_router g u ≡ true
      → RecordedAt g before at u k new
      → (q : PrefixView) → names g.net.origins q ≡ true → HasRoute g at u q ((parts u).kept q)

-- the parts that all routers made of a settled snapshot; they made them by `DecidedHasAllParts`
abbrev pub SettledSnapshotsCanBeBelieved : Type 0
SettledSnapshotsCanBeBelieved =
    (g : Setting) → IsSetting g → (before later : RunOrder) (at last : RunState) → IsRunTo g before at
    → runs.Run (logged_steps g) at later last → (k : ℕ) → ComesOut g last k Settled → (parts : ℕ → RouterPart) → HaveMade g last k parts
    → IsBelievable g before later at last k parts

-- ---- the snapshots of one run

pub record SnapshotsHold (g : Setting) (order : RunOrder) (state : RunState) : Type 0 where
  -- a snapshot that is settled or moving has a part of every router, and no two parts name two incarnations of a link
  pub all : (k u : ℕ) → is_router g u ≡ true → ComesOut g state k Settled ⊎ ((v : ℕ) × (why : Why) × ComesOut g state k (Moving v why))
      → (part : RouterPart) × HasMade state k u part
  pub mismatch : (k u v : ℕ) → ComesOut g state k (Moving u (Mismatch v)) → ⊥
  -- the parts are what a consistent cut leaves
  pub cut : (k : ℕ) (parts : ℕ → RouterPart) → HaveMade g state k parts
      → (recordings : ℕ → RunState) × IsCutOf g order state k parts recordings
  -- the paths of a settled snapshot are a stable path assignment, which stays
  pub settled : (k : ℕ) → ComesOut g state k Settled → (parts : ℕ → RouterPart) → HaveMade g state k parts
      → (before later : RunOrder) (at : RunState) → order ≡ before ++ later → IsRunTo g before at → runs.Run (logged_steps g) at later state
      → IsBelievable g before later at state k parts

abbrev pub SnapshotsHoldInRuns : Type 0
SnapshotsHoldInRuns = (g : Setting) → IsSetting g → (order : RunOrder) (state : RunState) → IsRunTo g order state → SnapshotsHold g order state
