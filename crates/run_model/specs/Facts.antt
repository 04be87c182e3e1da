-- What holds of the two ends of a link in every run. Each move and each session event keeps it.
use Rattle.std.specs.Prelude.{ℕ, ◌≡◌, ◌≢◌, ◌≤◌, ◌<◌, max, true, false, ◌||◌, List, [], ◌∷◌, ◌++◌}
use mathlib.Core.List.{IsPrefix}
use Rattle.run_model.specs.Links.{Entry, Dial, Says, Mark, Shut, greatest_dial, has_shut, said, incarnation, heard_number, Closed, Joined, End, Move, HangsUp, after, is_up, May, LinkStep, IsRun, opening, ends_after}
use Rattle.run_model.specs.Sessions.{SessionState, Established, SessionEvent, Side, Fits, MayCome, moves_of, state_after, afters}
use Rattle.run_model.specs.Octets.{passing}

module _ {M : Type 0} where
  -- each message, marker and close bears the greatest number that was dialled before it
  abbrev pub Sound : ℕ → List (Entry M) → Type 0
  Sound hi [] = Unit {0}
  Sound hi (Dial e ∷ rest) = Sound (max hi e) rest
  Sound hi (Says e m ∷ rest) = (e ≡ hi) × Sound hi rest
  Sound hi (Mark e s ∷ rest) = (e ≡ hi) × Sound hi rest
  Sound hi (Shut e ∷ rest) = (e ≡ hi) × Sound hi rest

  -- what holds of an end a whose peer's end is b
  pub record EndFacts (a b : End M) : Type 0 where
    -- what it took is a beginning of what the peer appended
    pub front : IsPrefix a.taken b.appended
    pub sound : Sound 0 a.appended
    -- an end joins only a number that the peer dialled
    pub joined : a.phase ≡ Joined → greatest_dial a.appended ≤ greatest_dial a.taken
    -- nothing is said in an incarnation that the peer hasn't dialled
    pub told : (n : ℕ) → greatest_dial b.appended < n → said n a.appended ≡ []
    -- while it is joined it has used all that it took of its incarnation
    pub whole : a.phase ≡ Joined → said (greatest_dial a.appended) a.used ≡ said (greatest_dial a.appended) a.taken
    pub begins : (n : ℕ) → IsPrefix (said n a.used) (said n a.taken)

  -- an end is past incarnation e, having used these messages of it: it has dialled a greater number, or hung up
  pub record IsPast (e : ℕ) (messages : List M) (a : End M) : Type 0 where
    pub low : a.phase ≢ Closed → e < greatest_dial a.appended
    pub reached : e ≤ greatest_dial a.appended
    pub same : said e a.used ≡ messages

  -- moves that may be made one after another, while the peer's end b stands still
  abbrev pub MayInTurn : End M → End M → List (Move M) → Type 0
  MayInTurn a b [] = Unit {0}
  MayInTurn a b (m ∷ ms) = May a b m × MayInTurn (after a m) b ms

-- ---- in every run

-- the facts hold of both ends of each link
abbrev pub EndFactsHold : Type 0 → Type 0
EndFactsHold M = (moves : List (LinkStep M)) → IsRun opening moves → (u v : ℕ) → u ≢ v → EndFacts (ends_after opening moves u v) (ends_after opening moves v u)

-- ---- move by move

-- a move that may be made keeps the facts of both ends
abbrev pub MovesKeepFacts : Type 0 → Type 0
MovesKeepFacts M =
    (a b : End M) (move : Move M) → May a b move → EndFacts a b → EndFacts b a
    → EndFacts (after a move) b × EndFacts b (after a move)

-- a number that the peer has not dialled yet is not shut, and neither is one that the end itself has not dialled
abbrev pub NotDialledIsNotShut : Type 0 → Type 0
NotDialledIsNotShut M =
    (a b : End M) → EndFacts a b → EndFacts b a → (e : ℕ)
    → (heard_number a < e → has_shut e a.taken ≡ false) × (incarnation a < e → has_shut e a.appended ≡ false)

-- an end that hangs up is past its incarnation and every lower one
abbrev pub ClosingLeaves : Type 0 → Type 0
ClosingLeaves M = (e : ℕ) (a : End M) → e ≤ incarnation a → IsPast e (said e a.used) (after a HangsUp)

-- an end that is past an incarnation stays past it by every move that may be made
abbrev pub PastStaysPast : Type 0 → Type 0
PastStaysPast M =
    (e : ℕ) (messages : List M) (a b : End M) (move : Move M) → May a b move → IsPast e messages a
    → IsPast e messages (after a move)

-- ---- session event by session event

-- a session event that may come, at an end that fits its session's state, is a list of moves that may be made; it
-- leaves the end fitting the new state, and keeps the facts of both ends
pub record LeadsOn {M : Type 0} (side : Side M) (b : End M) (event : SessionEvent M) : Type 0 where
  pub may : MayInTurn side.end b (moves_of side.end event)
  pub fits : Fits (state_after side event) (afters side.end (moves_of side.end event))
  pub mine : EndFacts (afters side.end (moves_of side.end event)) b
  pub theirs : EndFacts b (afters side.end (moves_of side.end event))

abbrev pub SessionEventsLeadOn : Type 0 → Type 0
SessionEventsLeadOn M =
    (side : Side M) (b : End M) (event : SessionEvent M) → Fits side.state side.end → EndFacts side.end b
    → EndFacts b side.end → MayCome side b event → LeadsOn side b event

-- an end that fits its session's state is up exactly where the session is Established
abbrev pub UpByFit : Type 0 → Type 0
UpByFit M =
    (state : SessionState) (a : End M) → Fits state a
    → (state ≡ Established → is_up a ≡ true) × (is_up a ≡ true → state ≡ Established)

-- ---- lists of entries, one behind the other

-- the greatest number, the messages of an incarnation, whether a number is shut, what passes: for two lists in a row,
-- each is that of the first and that of the second
pub record AddUp (M : Type 0) (xs ys : List (Entry M)) : Type 0 where
  pub dialled : greatest_dial (xs ++ ys) ≡ max (greatest_dial xs) (greatest_dial ys)
  pub messages : (e : ℕ) → said e (xs ++ ys) ≡ said e xs ++ said e ys
  pub shut : (e : ℕ) → has_shut e (xs ++ ys) ≡ (has_shut e xs || has_shut e ys)
  pub octets : (written : M → List ℕ) → passing written (xs ++ ys) ≡ passing written xs ++ passing written ys

abbrev pub EntriesAddUp : Type 0 → Type 0
EntriesAddUp M = (xs ys : List (Entry M)) → AddUp M xs ys
