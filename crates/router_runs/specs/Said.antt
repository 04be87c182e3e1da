-- What routers say: each message of a run is one of these, and can be read by every peer.
-- g is a setting, u v routers' numbers, m a message, o an OPEN, q a prefix.
use Rattle.std.specs.Prelude.{ℕ, ◌≡◌, true, false, ◌≤◌, List, [], length}
use Rattle.std.specs.List.{AllByRecursion}
use mathlib.Core.Logic.{◌⊎◌}
use Rattle.ranked_policy.specs.declared.limits.TheConstants.{LONGEST_PATH}
use Rattle.bgp_codec.specs.AsNumbers.{AsnFits}
use Rattle.prefix_lanes.specs.Bits.{PrefixView}
use Rattle.bgp_codec.specs.declared.message.Message.{Message}
use Rattle.bgp_codec.specs.declared.message.Message.TheVariants.{OpenMsg, UpdateMsg, NoticeMsg, AliveMsg}
use Rattle.bgp_codec.specs.declared.update.Update.{Update}
use Rattle.ranked_policy.specs.Paths.{BeginsWith}
use Rattle.ranked_policy.specs.Plans.{IsRouter, IsNamed}
use Rattle.run_model.specs.Octets.{AllGood}
use Rattle.router_model.specs.Sides.{is_up}
use Rattle.router_model.specs.Settings.{linked, Setting, identifier}
use Rattle.router_model.specs.State.{open_of, telling}
use Rattle.router_runs.specs.Runs.{RunState, RunOrder, IsRunTo}
use Rattle.router_model.specs.Settings.{IsSetting}
use Rattle.router_runs.specs.Runs.{side_of, log_of}
use Rattle.router_runs.specs.Kept.{IsGood, Reached}

-- each number is one that the octets of an AS number hold in this network
abbrev pub NumbersFit : Setting → List ℕ → Type 0
NumbersFit g path = AllByRecursion (AsnFits g.net.settings.width) path

pub record IsFinePath (g : Setting) (u : ℕ) (path : List ℕ) : Type 0 where
  pub begins : BeginsWith path u
  pub short : length path ≤ LONGEST_PATH
  pub small : NumbersFit g path

-- a path that router u may keep
abbrev pub MayKeep : Setting → ℕ → List ℕ → Type 0
MayKeep g u path = (path ≡ []) ⊎ IsFinePath g u path

-- an UPDATE that router u may tell
abbrev pub IsToldBy : Setting → ℕ → Update → Type 0
IsToldBy g u update =
    (q : PrefixView) × (path : List ℕ) × IsNamed g.net.origins q × MayKeep g u path
    × (update ≡ telling (identifier g.net.routers u) q path)

-- a message that router u may say: its OPEN, an UPDATE as above, a NOTIFICATION without data, a KEEPALIVE
abbrev pub IsSaid : Setting → ℕ → Message → Type 0
IsSaid g u (OpenMsg o) = OpenMsg o ≡ open_of g.net u
IsSaid g u (UpdateMsg update) = IsToldBy g u update
IsSaid g u (NoticeMsg notice) = notice.extra ≡ []
IsSaid g u AliveMsg = Unit {0}

-- a message that a router may say is written as a frame, and each peer of the router reads it back
abbrev pub SaidIsGood : Type 0
SaidIsGood = (g : Setting) → IsSetting g → (u : ℕ) → IsRouter g.net.routers u → (m : Message) → IsSaid g u m → IsGood g u m

-- what every state of a run keeps, for each link, for what is said and for the kept paths; and no session is up without
-- a link
pub record Kept (g : Setting) (state : RunState) : Type 0 where
  pub reached : Reached g state
  pub said : (u v : ℕ) → linked g.net u v ≡ true → AllGood (IsSaid g u) (log_of state u v)
  pub paths : (u : ℕ) (q : PrefixView) → MayKeep g u ((state.routers u).router.kept q)
  pub apart : (u v : ℕ) → linked g.net u v ≡ false → is_up (side_of state u v) ≡ false

abbrev pub RunsKeep : Type 0
RunsKeep = (g : Setting) → IsSetting g → (order : RunOrder) (state : RunState) → IsRunTo g order state → Kept g state
