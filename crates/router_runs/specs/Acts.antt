-- A step of a side as events of the network of the laws of runs, if no UPDATE is told and no marker is sent or taken.
-- g is a setting, twins its routers in the laws of runs, u v w routers' numbers, s t a side before and behind, m a
-- message, n an incarnation, k a snapshot's number.
use Rattle.std.specs.Prelude.{ℕ, ◌≡◌, ◌≢◌, ◌==◌, false, List, [], ◌∷◌}
use Rattle.prefix_lanes.specs.Bits.{PrefixView}
use Rattle.bgp_codec.specs.declared.message.Message.{Message}
use Rattle.run_model.specs.Links.{Entry, Dial, Says, Mark, Shut}
use Rattle.run_model.specs.Routes as routes
use Rattle.run_model.specs.Routes.{NetworkStep, IsNetworkRun, routers_after}
use Rattle.router_model.specs.Sides.{Side}
use Rattle.router_model.specs.Settings.{Setting}
use Rattle.router_model.specs.Messages.{is_update}
use Rattle.router_runs.specs.Model.{network_of}
use Rattle.router_runs.specs.Doing.{Stands, Does}

abbrev pub ModelRouters : Type 0
ModelRouters = routes.Routers Message PrefixView (List ℕ)

abbrev pub ModelStep : Type 0
ModelStep = NetworkStep Message PrefixView (List ℕ)

-- the entries have neither an UPDATE nor a marker
abbrev pub SaysNoUpdate : List (Entry Message) → Type 0
SaysNoUpdate [] = Unit {0}
SaysNoUpdate (Dial n ∷ entries) = SaysNoUpdate entries
SaysNoUpdate (Says n m ∷ entries) = (is_update m ≡ false) × SaysNoUpdate entries
SaysNoUpdate (Mark n k ∷ entries) = ⊥
SaysNoUpdate (Shut n ∷ entries) = SaysNoUpdate entries

-- the entries have no marker
abbrev pub HasNoMark : List (Entry Message) → Type 0
HasNoMark [] = Unit {0}
HasNoMark (Dial n ∷ entries) = HasNoMark entries
HasNoMark (Says n m ∷ entries) = HasNoMark entries
HasNoMark (Mark n k ∷ entries) = ⊥
HasNoMark (Shut n ∷ entries) = HasNoMark entries

-- events of router u that may come, and leave its end towards v as the side t; of ends, tables and recordings nothing
-- else changes but the channel from v, and a recording that a close loses
pub record ActsAs (g : Setting) (twins : ModelRouters) (u v : ℕ) (t : Side) : Type 0 where
  pub steps : List ModelStep
  pub run : IsNetworkRun (network_of g) twins steps
  pub stands : Stands t ((routers_after (network_of g) twins steps u).recorder.ends v) ((twins v).recorder.ends u)
  pub ends : (w : ℕ) → (w == v) ≡ false
      → (routers_after (network_of g) twins steps u).recorder.ends w ≡ (twins u).recorder.ends w
  pub others : (w : ℕ) → (w == u) ≡ false → routers_after (network_of g) twins steps w ≡ twins w
  pub kept : (routers_after (network_of g) twins steps u).kept ≡ (twins u).kept
  pub originated : (routers_after (network_of g) twins steps u).originated ≡ (twins u).originated
  pub last : (routers_after (network_of g) twins steps u).recorder.last ≡ (twins u).recorder.last
  pub copy : (routers_after (network_of g) twins steps u).recorder.copy ≡ (twins u).recorder.copy
  pub waits : (routers_after (network_of g) twins steps u).recorder.waits ≡ (twins u).recorder.waits

abbrev pub QuietStepsAreActs : Type 0
QuietStepsAreActs =
    (g : Setting) (twins : ModelRouters) (u v : ℕ) → u ≢ v → (s t : Side) (said past : List (Entry Message))
    → Stands s ((twins u).recorder.ends v) ((twins v).recorder.ends u)
    → Does s t said past ((twins u).recorder.ends v) ((twins v).recorder.ends u)
    → SaysNoUpdate said → HasNoMark past → ActsAs g twins u v t
