-- What moves of a link end are on the side of a router: the side that they leave, and what they append and take.
-- s t are a side before and behind, end and far its end and the peer's, m a message, o an OPEN, n an incarnation, k a
-- snapshot's number, b a Bool.
use Rattle.std.specs.Prelude.{ℕ, ◌≡◌, ◌==◌, Bool, true, false, List, [], ◌∷◌, ◌++◌}
use Rattle.bgp_codec.specs.declared.message.Message.{Message}
use Rattle.bgp_codec.specs.declared.message.Message.TheVariants.{OpenMsg, UpdateMsg, NoticeMsg, AliveMsg}
use Rattle.bgp_codec.specs.declared.update.Update.{Update}
use Rattle.link_epoch.specs.Ends.{next_number, dialled, hung_up, heard_by}
use Rattle.link_epoch.specs.declared.link_end.Phase.{Phase}
use Rattle.link_epoch.specs.declared.link_end.Phase.TheVariants as phase
use Rattle.link_epoch.specs.declared.link_end.Sign.TheVariants as sign
use Rattle.run_model.specs.Links.{Entry, Dial, Says, Mark, Shut, End, Move, Dials, Tells, Marks, HangsUp, Takes, May, after}
use Rattle.run_model.specs.Facts.{EndFacts}
use Rattle.router_model.specs.Sides.{Side, with_update}
use Rattle.router_runs.specs.Reading.{Reads}

-- a history with one more message, which counts where it is an UPDATE
abbrev pub with_message : Message → ℕ → (ℕ → List Update) → ℕ → List Update
with_message (OpenMsg o) n history = history
with_message (UpdateMsg update) n history = with_update history n update
with_message (NoticeMsg notice) n history = history
with_message AliveMsg n history = history

-- a message that is taken counts where the side is joined in its incarnation
abbrev pub with_used : Phase → Bool → Message → ℕ → (ℕ → List Update) → ℕ → List Update
with_used phase.Shut b m n history = history
with_used phase.Offered b m n history = history
with_used phase.Joined true m n history = with_message m n history
with_used phase.Joined false m n history = history

abbrev pub side_by : Move Message → Side → Side
side_by Dials s = record s { link = dialled s.link }
side_by (Tells m) s = record s { sent = with_message m s.link.epoch s.sent }
side_by (Marks k) s = s
side_by HangsUp s = record s { link = hung_up s.link }
side_by (Takes (Dial n)) s = record s { link = heard_by s.link (sign.Dial n) }
side_by (Takes (Says n m)) s = record s { acted = with_used s.link.phase (s.link.epoch == n) m n s.acted }
side_by (Takes (Mark n k)) s = s
side_by (Takes (Shut n)) s = record s { link = heard_by s.link (sign.Shut n) }

abbrev pub says_of : Move Message → Side → List (Entry Message)
says_of Dials s = Dial (next_number s.link) ∷ []
says_of (Tells m) s = Says s.link.epoch m ∷ []
says_of (Marks k) s = Mark s.link.epoch k ∷ []
says_of HangsUp s = Shut s.link.epoch ∷ []
says_of (Takes entry) s = []

abbrev pub takes_of : Move Message → List (Entry Message)
takes_of Dials = []
takes_of (Tells m) = []
takes_of (Marks k) = []
takes_of HangsUp = []
takes_of (Takes entry) = entry ∷ []

-- and of several moves, one after another
abbrev pub sides_by : List (Move Message) → Side → Side
sides_by [] s = s
sides_by (move ∷ moves) s = sides_by moves (side_by move s)

abbrev pub says_by : List (Move Message) → Side → List (Entry Message)
says_by [] s = []
says_by (move ∷ moves) s = says_of move s ++ says_by moves (side_by move s)

abbrev pub takes_by : List (Move Message) → List (Entry Message)
takes_by [] = []
takes_by (move ∷ moves) = takes_of move ++ takes_by moves

-- if a side is an end, and the end moves on, the side that the move leaves is that end
pub record Read (t : Side) (said past : List (Entry Message)) (end end_after : End Message) : Type 0 where
  pub reads : Reads t end_after
  pub appends : end_after.appended ≡ end.appended ++ said
  pub takes : end_after.taken ≡ end.taken ++ past

abbrev pub MovesAreRead : Type 0
MovesAreRead =
    (move : Move Message) (s : Side) (end far : End Message)
    → Reads s end → EndFacts end far → EndFacts far end → May end far move
    → Read (side_by move s) (says_of move s) (takes_of move) end (after end move)
