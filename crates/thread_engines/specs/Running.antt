-- The text printed for a network that runs in threads.
use Rattle.std.specs.Prelude.{◌≡◌, ℕ, ◌<◌, ◌≤◌, ◌⊎◌, Bool, true, false, ◌&&◌, List, ◌++◌, map, codes, Option, None, Some}
use Rattle.std.specs.List.{flat_map, list_all}
use Rattle.prefix_lanes.specs.Bits.{PrefixView}
use Rattle.ranked_policy.specs.Plans.{Plan, IsOrigin}
use Rattle.ranked_policy.specs.declared.network.Origin.{Origin}
use Rattle.stable_paths.specs.Stable.{IsStable}
use Rattle.run_model.specs.Network.{Run}
use Rattle.run_model.specs.Offers.{Outcome, Settled}
use Rattle.snap_marker.specs.Recordings.{RouterPart, MadeOffer}
use Rattle.snap_collector.specs.Collecting.{member_of}
use Rattle.snap_collector.specs.Collector.{CollectorView, made_for, kept_of}
use Rattle.router_model.specs.Settings.{Setting, IsSetting, names}
use Rattle.router_runs.specs.Runs.{RunOrder, RunState, IsRunTo, logged_steps}
use Rattle.router_runs.specs.Snapshots.{ComesOut, HaveMade, AreStable, IsBelievable}
use Rattle.world_core.specs.Verdicts.{judged}
use Rattle.net_text.specs.Lexing.{Text, lines_of}
use Rattle.net_workers.specs.Runs.{IsRunOfThreads}
use Rattle.net_workers.specs.Ways.{passed_in}
use Rattle.text_engines.specs.declared.status.TheConstants.{DONE}
use Rattle.text_engines.specs.Decoding.{Output, output, WithinLimit, OrMemory}
use Rattle.text_engines.specs.Checking.{at_prefix}
use Rattle.text_engines.specs.Inputs.{LinesPrint}
use Rattle.schedule_text.specs.Routes.{router_text, recorded, parts_text}
use Rattle.thread_engines.specs.declared.chores.RunOptions.{RunOptions}
use Rattle.thread_engines.specs.declared.gates.Until.TheVariants.{OneSettled}
use Rattle.thread_engines.specs.Records.{RunRecord, RunPrints}

-- the text printed if no snapshot is wanted
abbrev pub unsettled_output : Output
unsettled_output = output (codes "unsettled\n") DONE

-- ---- the routes of a settled snapshot

-- the paths that these parts have for the prefix of each origin, routers rising
abbrev pub parts_routes : Plan → (ℕ → RouterPart) → List ℕ
parts_routes net parts = flat_map (λ r. router_text (parts r.asn).kept r.asn net.origins) net.routers

-- every origin originates its prefix in these parts
abbrev pub EveryOriginOriginates : Plan → (ℕ → RouterPart) → Type 0
EveryOriginOriginates net parts = (u : ℕ) (q : PrefixView) → IsOrigin net.origins u q → (parts u).originated q ≡ true

-- ---- how its snapshots came out

-- in a run the snapshot is not settled, or an origin does not originate in the parts that all routers made of it
abbrev pub IsPassedOver : Setting → RunState → ℕ → Type 0
IsPassedOver g state s =
    (ComesOut g state s Settled → ⊥)
    ⊎ ((parts : ℕ → RouterPart) × HaveMade g state s parts × (EveryOriginOriginates g.net parts → ⊥))

module _ {options : RunOptions} {net : Plan} {taken : ℕ} (r : RunRecord options net taken) where
  -- the record of the threads, as a run of the network
  abbrev pub RunOfRecord : Setting → Type 0
  RunOfRecord g = IsRunOfThreads g (passed_in r.ways) r.workers r.gathered

  -- the snapshot is settled in the run, and all routers made these parts of it. They are a stable path assignment for
  -- each prefix, and what a consistent cut leaves of the run, and stay while the run is quiet. Each number before it is
  -- passed over
  pub record SettlesOn (g : Setting) (s : ℕ) (parts : ℕ → RouterPart) : Type 0 where
    pub run : RunOfRecord g
    pub settled : ComesOut g run.state s Settled
    pub made : HaveMade g run.state s parts
    pub stable : AreStable g parts
    pub believed : (before later : RunOrder) (at : RunState) → run.order ≡ before ++ later → IsRunTo g before at → Run (logged_steps g) at later run.state
        → IsBelievable g before later at run.state s parts
    pub least : (t : ℕ) → 0 < t → t < s → IsPassedOver g run.state t

  -- each number up to the last is passed over
  pub record SettlesOnNone (g : Setting) : Type 0 where
    pub run : RunOfRecord g
    pub none : (s : ℕ) → 0 < s → s ≤ options.snapshots → IsPassedOver g run.state s

  -- the routes of a snapshot with one of the numbers from 1 to the last, in which every origin originates: settled in the
  -- run, in every setting of the network that chooses by rank, and stable, as `bgpnet check` says of them
  pub record PrintsStableRoutes (out : Output) : Type 0 where
    pub number : ℕ
    pub some : 0 < number
    pub few : number ≤ options.snapshots
    pub parts : ℕ → RouterPart
    pub originated : EveryOriginOriginates net parts
    pub settled : (g : Setting) → g.net ≡ net → IsSetting g → SettlesOn g number parts
    pub stable : (q : PrefixView) → names net.origins q ≡ true → IsStable (at_prefix net q) (λ u. (parts u).kept q)
    pub printed : out ≡ output (parts_routes net parts) DONE

  -- each snapshot was taken, and none is settled with every origin originating
  pub record PrintsUnsettled (out : Output) : Type 0 where
    pub all : taken ≡ options.snapshots
    pub unsettled : (g : Setting) → g.net ≡ net → IsSetting g → SettlesOnNone g
    pub printed : out ≡ unsettled_output

-- ---- the text printed for a network

-- there is a setting of the network that chooses by rank
abbrev pub HasSetting : Plan → Type 0
HasSetting net = (g : Setting) × (g.net ≡ net) × IsSetting g

-- fewer snapshots than the options name are taken only if the routes of one are printed
abbrev pub RunGives : RunOptions → Plan → Output → Type 0
RunGives options net out = RunPrints options OneSettled net out ((taken : ℕ) × (r : RunRecord options net taken) × (PrintsStableRoutes r out ⊎ PrintsUnsettled r out))

abbrev pub LinesRun : RunOptions → List Text → Output → Type 0
LinesRun options lines out = LinesPrint (RunGives options) lines out

-- the text for an input, which may be too long
abbrev pub InputRuns : RunOptions → List ℕ → Output → Type 0
InputRuns options input out = WithinLimit (λ text. LinesRun options (lines_of text)) input out

-- the text that the program prints: this one, or that memory ran out
abbrev pub Runs : RunOptions → List ℕ → Output → Type 0
Runs options input out = OrMemory (InputRuns options) input out

-- ---- the text by the collector

abbrev pub is_settled : Outcome → Bool
is_settled Settled = true
is_settled _ = false

-- the offers that decide a snapshot
abbrev pub decided_by : CollectorView → ℕ → List MadeOffer
decided_by c s = kept_of (map member_of c.members) (made_for c s)

abbrev pub says : Option RouterPart → PrefixView → Bool
says None q = false
says (Some part) q = part.originated q

-- every origin has an offer among these, and originates its prefix in it
abbrev pub all_originate : List Origin → List MadeOffer → Bool
all_originate origins offers = list_all (λ o. says (recorded offers o.router) o.prefix) origins

-- a snapshot that came out settled, with every origin originating
abbrev pub is_wanted : Plan → CollectorView → ℕ → Bool
is_wanted net c s = is_settled (judged c s) && all_originate net.origins (decided_by c s)

pub record IsFirstWanted (net : Plan) (c : CollectorView) (last s : ℕ) : Type 0 where
  pub some : 0 < s
  pub few : s ≤ last
  pub wanted : is_wanted net c s ≡ true
  pub first : (t : ℕ) → 0 < t → t < s → is_wanted net c t ≡ false

-- the text of the routes of the first snapshot that is wanted, or that there is none
abbrev pub CollectorGives : Plan → CollectorView → ℕ → Output → Type 0
CollectorGives net c last out =
    ((s : ℕ) × IsFirstWanted net c last s × (out ≡ output (parts_text net (decided_by c s)) DONE))
    ⊎ (((s : ℕ) → 0 < s → s ≤ last → is_wanted net c s ≡ false) × (out ≡ unsettled_output))
