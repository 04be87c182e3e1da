-- How an UPDATE that comes in Established is acted on, and which paths can be said.
-- s is a side, q a prefix.
use Rattle.std.specs.Prelude.{ℕ, ◌≡◌, ◌^◌, ◌<◌, ◌≤◌, true, List, length, Some, Ok}
use Rattle.std.specs.List.{AllByRecursion}
use Rattle.bgp_values.specs.Ranges.{is_unicast}
use Rattle.bgp_values.specs.declared.width.Width.{Width}
use Rattle.prefix_lanes.specs.Bits.{PrefixView, IsCanonical}
use Rattle.bgp_codec.specs.declared.message.Message.{Message}
use Rattle.bgp_codec.specs.declared.message.Message.TheVariants.{UpdateMsg}
use Rattle.bgp_codec.specs.declared.update.Update.{Update}
use Rattle.bgp_codec.specs.declared.rule.Rule.{Rule}
use Rattle.bgp_codec.specs.AsNumbers.{AsnFits}
use Rattle.bgp_codec.specs.Faults.{reading}
use Rattle.router_model.specs.Sides.{Side, is_up, front, draft_message}
use Rattle.router_model.specs.State.{telling}
use Rattle.router_side.specs.declared.told_path.TheConstants.{MOST_NUMBERS}
use Rattle.router_side.specs.Sayings.{IsSayable}
use Rattle.router_side.specs.SideOf.{acting}

-- the frame of a peer tells the UPDATE, which can be said: whoever reads the frame as the peer's reads this UPDATE
pub record IsToldBy (width : Width) (peer : ℕ) (frame : List ℕ) (update : Update) : Type 0 where
  pub sayable : IsSayable width (UpdateMsg update)
  pub reads : (rule : Rule) → rule.width ≡ width → rule.peer ≡ Some peer → reading rule frame ≡ Ok (UpdateMsg update)

-- the message in front of octets is a peer's UPDATE, which can be said: whoever reads it as the peer's reads this
-- UPDATE
pub record IsToldInFront (width : Width) (peer : ℕ) (octets : List ℕ) (update : Update) : Type 0 where
  pub sayable : IsSayable width (UpdateMsg update)
  pub reads : (rule : Rule) → rule.width ≡ width → rule.peer ≡ Some peer → front rule octets ≡ Ok (UpdateMsg update)

abbrev pub UpdatesAreActedOn : Type 0
UpdatesAreActedOn = (own_open : Message) (update : Update) (s : Side) → is_up s ≡ true
    → draft_message own_open (Ok (UpdateMsg update)) s ≡ acting s

abbrev pub TellingsAreSayable : Type 0
TellingsAreSayable =
    (width : Width) (id : ℕ) (q : PrefixView) (path : List ℕ) → id < 2 ^ 32 → is_unicast id ≡ true → IsCanonical q
    → length path ≤ MOST_NUMBERS → AllByRecursion (AsnFits width) path
    → IsSayable width (UpdateMsg (telling id q path))
