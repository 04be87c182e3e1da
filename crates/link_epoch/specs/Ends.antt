-- One end of a link, and how a dial, a hanging up and a sign of the peer change it.
-- All rules are this project's own; they stand in for the transport connection of RFC 4271 section 8.
use Rattle.std.specs.Prelude.{ℕ, ◌+◌, ◌==◌, max, nat_lt, Bool, true, false, ◌&&◌, not, cond, Option, None, Some}
use Rattle.link_epoch.specs.declared.link_end.Phase.{Phase}
use Rattle.link_epoch.specs.declared.link_end.Phase.TheVariants.{Shut, Offered, Joined}
use Rattle.link_epoch.specs.declared.link_end.Sign.{Sign}
use Rattle.link_epoch.specs.declared.link_end.Sign.TheVariants as sign
use Rattle.link_epoch.specs.declared.link_end.Heard.{Heard}
use Rattle.link_epoch.specs.declared.link_end.Heard.TheVariants as heard

-- the last number dialled, the greatest number heard, whether that one is shut, the phase
pub record LinkView : Type 0 where
  pub epoch : ℕ
  pub heard : ℕ
  pub heard_is_shut : Bool
  pub phase : Phase

-- nothing is dialled or heard
abbrev pub opening : LinkView
opening = record { epoch = 0; heard = 0; heard_is_shut = false; phase = Shut }

-- the peer waits in a number above the own
abbrev pub is_joinable : LinkView → Bool
is_joinable a = nat_lt a.epoch a.heard && not a.heard_is_shut

-- the number of the next dial
abbrev pub next_number : LinkView → ℕ
next_number a = cond (is_joinable a) a.heard (max a.epoch a.heard + 1)

abbrev pub dialled : LinkView → LinkView
dialled a = record a { epoch = next_number a; phase = cond (is_joinable a) Joined Offered }

abbrev pub hung_up : LinkView → LinkView
hung_up a = record a { phase = Shut }

-- the number that hanging up shuts
abbrev pub number_in : Phase → ℕ → Option ℕ
number_in Shut epoch = None
number_in Offered epoch = Some epoch
number_in Joined epoch = Some epoch

abbrev pub number_shut : LinkView → Option ℕ
number_shut a = number_in a.phase a.epoch

-- the phase once the peer dialled a number above all that it dialled before
abbrev pub phase_at_dial : Phase → Bool → Phase
phase_at_dial Shut is_own = Shut
phase_at_dial Offered is_own = cond is_own Joined Offered
phase_at_dial Joined is_own = Joined

-- a Dial not above the greatest heard, and a Shut of another number than that, change nothing
abbrev pub heard_by : LinkView → Sign → LinkView
heard_by a (sign.Dial n) = cond (nat_lt a.heard n)
    (record { epoch = a.epoch; heard = n; heard_is_shut = false; phase = phase_at_dial a.phase (n == a.epoch) })
    a
heard_by a (sign.Shut n) = cond (n == a.heard) (record a { heard_is_shut = true }) a

-- the meaning of a Dial above the greatest heard: the own number joins if it is offered; a number above the own is an
-- offer unless the end is joined
abbrev pub meaning_of_dial : Phase → Bool → Bool → ℕ → Heard
meaning_of_dial Shut is_own is_above n = cond is_above (heard.Offered n) heard.Quiet
meaning_of_dial Offered is_own is_above n = cond is_own heard.Joined (cond is_above (heard.Offered n) heard.Quiet)
meaning_of_dial Joined is_own is_above n = heard.Quiet

-- a Shut of the incarnation that both ends are in closes it
abbrev pub meaning_of_shut : Phase → Bool → Heard
meaning_of_shut Shut is_own = heard.Quiet
meaning_of_shut Offered is_own = heard.Quiet
meaning_of_shut Joined is_own = cond is_own heard.Closed heard.Quiet

abbrev pub meaning_of : LinkView → Sign → Heard
meaning_of a (sign.Dial n) = cond (nat_lt a.heard n) (meaning_of_dial a.phase (n == a.epoch) (nat_lt a.epoch n) n) heard.Quiet
meaning_of a (sign.Shut n) = meaning_of_shut a.phase ((n == a.heard) && (n == a.epoch))
