-- What holds of one link through a run of routers.
-- g is a setting, s t sides, end and far the ends of a link, twin_side a side in the laws of runs, u v routers'
-- numbers, m a message.
use Rattle.std.specs.Prelude.{ℕ, ◌≡◌, ◌≢◌, true, List, [], ◌++◌, Ok}
use Rattle.bgp_codec.specs.declared.message.Message.{Message}
use Rattle.bgp_codec.specs.Header.{IsFrame}
use Rattle.bgp_codec.specs.Faults.{reading}
use Rattle.link_epoch.specs.declared.link_end.Phase.TheVariants as phase
use Rattle.run_model.specs.Links.{Entry, End}
use Rattle.run_model.specs.Sessions as model
use Rattle.run_model.specs.Sessions.{SessionStep, IsSessionRun, first_sides}
use Rattle.run_model.specs.Octets.{Passing, passing, octets_of, OnlyOctets, AllGood}
use Rattle.router_model.specs.Sides.{Side}
use mathlib.Core.List.{IsPrefix}
use Rattle.outbox.specs.declared.item.What.{What}
use Rattle.router_model.specs.Laws.{all_passes}
use Rattle.router_runs.specs.Runs.{RunState}
use Rattle.router_runs.specs.Runs.{side_of, log_of, written_in}
use Rattle.router_model.specs.Settings.{Setting, linked}
use Rattle.router_model.specs.State.{rule_of}
use Rattle.router_runs.specs.Reading.{sides_after, state_of, model_side}
use Rattle.router_runs.specs.Doing.{Stands, Does}

-- a message of router u that is written as a frame, and that its peers read back
abbrev pub IsGood : Setting → ℕ → Message → Type 0
IsGood g u m = IsFrame (written_in g m) × ((v : ℕ) → reading (rule_of g.net v u) (written_in g m) ≡ Ok m)

-- the items taken are what the end took, and then octets that are held if the side is joined, and were dropped
-- otherwise
pub record Holds (g : Setting) (s : Side) (passes : List (Passing Message)) (end : End Message) : Type 0 where
  pub rest : List (Passing Message)
  pub only : OnlyOctets rest
  pub passed : passes ≡ passing (written_in g) end.taken ++ rest
  pub joined : s.link.phase ≡ phase.Joined → rest ≡ octets_of s.link.epoch s.held
  pub apart : s.link.phase ≢ phase.Joined → s.held ≡ []

-- a step of a side that takes these items
pub record Advances (g : Setting) (s t : Side) (said : List (Entry Message)) (passes more : List (Passing Message))
    (end far : End Message) : Type 0 where
  pub past : List (Entry Message)
  pub does : Does s t said past end far
  pub holds : Holds g t (passes ++ more) (sides_after (model_side s end) does.events).end

-- the side of a session in the laws of runs, and the side of a router that it stands for, with its log and what it took
pub record SideKept (g : Setting) (s : Side) (said : List (Entry Message)) (items : List What)
    (twin_side : model.Side Message) (far : End Message) : Type 0 where
  pub state : twin_side.state ≡ state_of s.session.state
  pub stands : Stands s twin_side.end far
  pub log : said ≡ twin_side.end.appended
  pub holds : Holds g s (all_passes items) twin_side.end

-- a link: a run of its two sessions leads to its two sides, s of router u and t of router v
pub record LinkKept (g : Setting) (u v : ℕ) (s t : Side) (log other : List (Entry Message)) (items back : List What) : Type 0 where
  pub steps : List (SessionStep Message)
  pub run : IsSessionRun first_sides steps
  pub here : SideKept g s log items (model.sides_after first_sides steps u v) (model.sides_after first_sides steps v u).end
  pub there : SideKept g t other back (model.sides_after first_sides steps v u) (model.sides_after first_sides steps u v).end

abbrev pub LinkAt : Setting → RunState → ℕ → ℕ → Type 0
LinkAt g state u v = LinkKept g u v (side_of state u v) (side_of state v u) (log_of state u v) (log_of state v u) (state.taken v u) (state.taken u v)

-- what was put, and then what waits to be put, is what was said
abbrev pub PutsItsLog : Setting → RunState → ℕ → ℕ → Type 0
PutsItsLog g state u v = all_passes (state.put u v) ++ (side_of state u v).outbox ≡ passing (written_in g) (log_of state u v)

pub record Reached (g : Setting) (state : RunState) : Type 0 where
  pub links : (u v : ℕ) → linked g.net u v ≡ true → LinkAt g state u v
  pub puts : (u v : ℕ) → PutsItsLog g state u v
  pub begins : (u v : ℕ) → IsPrefix (state.taken u v) (state.put u v)
  pub widths : (u v : ℕ) → (side_of state u v).width ≡ g.net.settings.width

-- every message that was said is good
abbrev pub AllAreGood : Setting → RunState → Type 0
AllAreGood g state = (u v : ℕ) → linked g.net u v ≡ true → AllGood (IsGood g u) (log_of state u v)
