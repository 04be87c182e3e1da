-- The tables of a router, as the session with one peer moves.
-- s is a side, v a router's number; old and new are tables.
use Rattle.std.specs.Prelude.{ℕ, ◌≡◌, ◌==◌, Bool, true, false, cond, Option, None, Some}
use Rattle.rib_tables.specs.Owners.{RibView, ComesUp, ForgetsPeer}
use Rattle.router_model.specs.Sides.{Side, is_up}

-- the incarnation in which the session is Established, if it is
abbrev pub standing : Side → Option ℕ
standing s = cond (is_up s) (Some s.link.epoch) None

-- the session comes up in another incarnation: the words of the one before are forgotten
abbrev pub ComesUpAgain : Bool → RibView → RibView → ℕ → Type 0
ComesUpAgain true old new v = new ≡ old
ComesUpAgain false old new v = (between : RibView) × ForgetsPeer old between v × ComesUp between new v

-- the tables after the session with a peer moved: the incarnation in which it was Established before, if it was, and
-- the one in which it is now, if it is
abbrev pub Followed : RibView → RibView → ℕ → Option ℕ → Option ℕ → Type 0
Followed old new v None None = new ≡ old
Followed old new v None (Some now) = ComesUp old new v
Followed old new v (Some was) None = ForgetsPeer old new v
Followed old new v (Some was) (Some now) = ComesUpAgain (was == now) old new v
