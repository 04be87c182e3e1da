-- How the snapshots of a run come out by the collector of its world.
use Rattle.std.specs.Prelude.{ℕ, ◌≡◌, List, map}
use Rattle.ranked_policy.specs.Plans.{Plan, IsNetwork, numbers}
use Rattle.run_model.specs.Network as runs
use Rattle.run_model.specs.Offers.{Outcome, Settled, HasOutcome}
use Rattle.snap_marker.specs.Recordings.{RouterPart}
use Rattle.snap_collector.specs.declared.members.Member.{Member as MemberOf}
use Rattle.snap_collector.specs.Collecting.{member_of}
use Rattle.snap_collector.specs.Collector.{CollectorView, AreMembers, made_for, kept_of}
use Rattle.snap_collector.specs.Verdicts.{Member, IsOver, verdict}
use Rattle.router_model.specs.Settings.{Setting, IsSetting, peers}
use Rattle.router_runs.specs.Model.{network_of}
use Rattle.router_runs.specs.Runs.{RunOrder, RunState, IsRunTo, logged_steps}
use Rattle.router_runs.specs.Snapshots.{HaveMade, IsBelievable}
use Rattle.world_core.specs.World.{AgreesWith}
use Rattle.world_core.specs.Views.{WorldView, IsWhole, plain_world}

-- a collector's members are the routers with their peers, in the network of the laws of runs
abbrev pub MembersAreOfTheNetwork : Type 0
MembersAreOfTheNetwork =
    (g : Setting) → IsNetwork g.net → (members : List MemberOf) → AreMembers g.net members → IsOver (network_of g) (map member_of members)

-- the routers of a network with their peers, rising
abbrev pub members_of : Plan → List Member
members_of net = map (λ u. record { router = u; peers = peers net u }) (numbers net.routers)

abbrev pub MembersAreTheRouters : Type 0
MembersAreTheRouters =
    (net : Plan) → IsNetwork net → (members : List MemberOf) → AreMembers net members → map member_of members ≡ members_of net

-- how a collector says that the snapshot of a number comes out
abbrev pub judged : CollectorView → ℕ → Outcome
judged c s = verdict (map member_of c.members) (kept_of (map member_of c.members) (made_for c s))

-- the collector's verdict is how each snapshot comes out, by all offers of a run that the world stands at the end of
abbrev pub JudgesItsRuns : WorldView → Type 0
JudgesItsRuns x =
    (g : Setting) → g.net ≡ x.net → (state : RunState) → AgreesWith g (plain_world x) state → (s : ℕ)
    → HasOutcome (network_of g) s state.offered (judged x.collector s)

-- a snapshot that is judged settled can be believed, at each place of a run that the world stands at the end of
abbrev pub SettledCanBeBelieved : WorldView → Type 0
SettledCanBeBelieved x =
    (g : Setting) → g.net ≡ x.net → IsSetting g → (before later : RunOrder) (at state : RunState) → IsRunTo g before at
    → runs.Run (logged_steps g) at later state → AgreesWith g (plain_world x) state → (s : ℕ) → judged x.collector s ≡ Settled
    → (parts : ℕ → RouterPart) → HaveMade g state s parts → IsBelievable g before later at state s parts

abbrev pub CollectorsJudgeTheirRuns : Type 0
CollectorsJudgeTheirRuns = (x : WorldView) → IsWhole x → JudgesItsRuns x
