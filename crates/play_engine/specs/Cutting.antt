-- The text printed of the cut of a snapshot, and the choice among the texts of a world.
use Rattle.std.specs.Prelude.{◌≡◌, ℕ, true, List, [], ◌++◌, Some, length, codes, ◌⊎◌}
use Rattle.std.specs.List.{flat_map}
use Rattle.bgp_codec.specs.declared.message.Message.{Message}
use Rattle.bgp_codec.specs.declared.message.Message.TheVariants.{OpenMsg, UpdateMsg, NoticeMsg, AliveMsg}
use Rattle.ranked_policy.specs.Plans.{Plan}
use Rattle.snap_marker.specs.Recordings.{RouterPart, MadeOffer}
use Rattle.snap_collector.specs.Verdicts.{Member}
use Rattle.snap_collector.specs.Flights.{Flight, flights_of, in_flight_of}
use Rattle.router_model.specs.Settings.{Setting, IsSetting, is_router}
use Rattle.router_runs.specs.Runs.{RunState}
use Rattle.run_cuts.specs.ThroughSnapshot.{ThroughItsCut}
use Rattle.world_core.specs.Answering.{IsUndecided}
use Rattle.world_core.specs.Replays.{PlayedRun}
use Rattle.world_core.specs.Through.{IsDecided, inside_part}
use Rattle.world_core.specs.Verdicts.{members_of}
use Rattle.world_core.specs.World.{World, AgreesWith}
use Rattle.net_text.specs.Printing.{flight_line}
use Rattle.schedule_text.specs.Reports.{cut_line, cut_none_line}
use Rattle.text_engines.specs.declared.status.TheConstants.{DONE}
use Rattle.text_engines.specs.Decoding.{Output, output}
use Rattle.text_engines.specs.Inputs.{Prints}
use Rattle.why_engine.specs.Explaining.{Explains}
use Rattle.play_engine.specs.declared.stream.Shown.{Shown}
use Rattle.play_engine.specs.declared.stream.Shown.TheVariants as shown
use Rattle.schedule_text.specs.Routes.{deciding, parts_text, recorded}
use Rattle.play_engine.specs.Playing.{IsReport, ScheduleGives}

-- ---- the text

-- the line of an UPDATE in flight to a router from its peer; no other message is in a channel
abbrev pub message_text : ℕ → ℕ → Message → List ℕ
message_text u v (OpenMsg m) = []
message_text u v (UpdateMsg m) = flight_line v u m
message_text u v (NoticeMsg m) = []
message_text u v AliveMsg = []

abbrev pub flight_text : Flight → List ℕ
flight_text f = message_text f.router f.peer f.message

abbrev pub flights_text : List Flight → List ℕ
flights_text flights = flat_map flight_text flights

-- the text of what these offers recorded: the routes, and the UPDATEs in flight
abbrev pub recorded_text : Plan → List Member → List MadeOffer → List ℕ
recorded_text net members offers = parts_text net offers ++ flights_text (in_flight_of members offers)

-- the text of the cut of s, with so many of all events inside: that line, then what was recorded of s
abbrev pub cut_text : Plan → (ℕ → List MadeOffer) → ℕ → (inside all : ℕ) → List ℕ
cut_text net made s inside all = cut_line s inside all ++ recorded_text net (members_of net) (deciding net made s)

-- ---- what holds of the text

-- the cut of s, which is settled or moving: the routes and the UPDATEs in flight that are printed are those of the parts that all
-- routers recorded; the run that the world played passes through the cut of these parts; and so many of its events are inside
pub record HasCut (g : Setting) (w : World) (s inside : ℕ) : Type 0 where
  pub parts : ℕ → RouterPart
  pub printed : (u : ℕ) → is_router g u ≡ true → recorded (deciding g.net w.made s) u ≡ Some (parts u)
  pub flights : in_flight_of (members_of g.net) (deciding g.net w.made s) ≡ flat_map (λ m. flights_of m (parts m.router)) (members_of g.net)
  pub run : PlayedRun g w
  pub decided : IsDecided g w run s
  pub through : ThroughItsCut g run.order run.state s parts
  pub counted : inside ≡ length (inside_part through.cut run.order)

-- the report of s: that it has no cut, since it is not decided, or is abandoned, in every run that the world stands at
-- the end of; or its cut
abbrev pub IsCutReport : ℕ → Setting → World → Output → Type 0
IsCutReport s g w out =
    (((state : RunState) → AgreesWith g w state → IsUndecided g state s) × (out ≡ output (cut_none_line s) DONE))
    ⊎ ((inside : ℕ) × (IsSetting g → HasCut g w s inside) × (out ≡ output (cut_text g.net w.made s inside (length w.run)) DONE))

-- the text that `cut` prints of an input: the report of the world that its schedule leads to, or what is refused, or
-- that memory ran out
abbrev pub Cuts : ℕ → List ℕ → Output → Type 0
Cuts s input out = Prints (ScheduleGives (IsCutReport s)) (codes "schedule") input out

-- ---- what a router knows

-- the text that `why` prints of an input: that of the router in the world that its schedule leads to, or what is
-- refused, or that memory ran out
abbrev pub Whys : ℕ → List ℕ → Output → Type 0
Whys u input out = Prints (ScheduleGives (Explains u)) (codes "schedule") input out

-- ---- one of the three

abbrev pub IsShown : Shown → Setting → World → Output → Type 0
IsShown shown.Report = IsReport
IsShown (shown.Cut s) = IsCutReport s
IsShown (shown.Why u) = Explains u
