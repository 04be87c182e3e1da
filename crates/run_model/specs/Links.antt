-- The two ends of each link: what they append for each other, what they take, and when they are joined.
-- A link has one connection at a time; a number, its incarnation, tells one connection from the next.
use Rattle.std.specs.Prelude.{ℕ, ◌+◌, ◌≤◌, ◌≡◌, ◌≢◌, ◌==◌, max, nat_lt, Bool, true, false, ◌&&◌, not, cond, List, [], ◌∷◌, ◌++◌, length, Some, slice_get, filter}
use mathlib.Core.List.{IsPrefix}

-- what a router appends towards a peer: an offer to connect, a message of an incarnation (RFC 4271 section 4),
-- a marker of a snapshot (Chandy and Lamport 1985), or the end of an incarnation
pub data Entry (M : Type 0) : Type 0 where
  Dial : (incarnation : ℕ) → Entry M
  Says : (incarnation : ℕ) (what : M) → Entry M
  Mark : (incarnation number : ℕ) → Entry M
  Shut : (incarnation : ℕ) → Entry M

-- Closed: the end has dialled nothing, or hung up since (Idle, Active). Offered: it dialled, and waits for the peer's
-- dial (Connect). Joined: both ends dialled the same number (OpenSent, OpenConfirm, Established)
pub data Phase : Type 0 where
  Closed : Phase
  Offered : Phase
  Joined : Phase

-- one end: all that it ever appended, put on the wire or not; all that it took of what its peer appended, used or
-- dropped; its phase; and the messages that it used, each with its incarnation
pub record End (M : Type 0) : Type 0 where
  pub appended : List (Entry M)
  pub taken : List (Entry M)
  pub phase : Phase
  pub used : List (Entry M)

abbrev pub is_joined : Phase → Bool
is_joined Closed = false
is_joined Offered = false
is_joined Joined = true

-- what an end does
pub data Move (M : Type 0) : Type 0 where
  Dials : Move M
  Tells : (what : M) → Move M
  Marks : (number : ℕ) → Move M
  HangsUp : Move M
  Takes : (entry : Entry M) → Move M

-- the phase after a dial was taken: an end that offered the same number joins
abbrev pub phase_joining : Phase → Phase
phase_joining Closed = Closed
phase_joining Offered = Joined
phase_joining Joined = Joined

module _ {M : Type 0} where
  -- the greatest number dialled, 0 if there is none
  abbrev pub greatest_dial : List (Entry M) → ℕ
  greatest_dial [] = 0
  greatest_dial (Dial e ∷ rest) = max e (greatest_dial rest)
  greatest_dial (Says e m ∷ rest) = greatest_dial rest
  greatest_dial (Mark e s ∷ rest) = greatest_dial rest
  greatest_dial (Shut e ∷ rest) = greatest_dial rest

  -- an end's own number, and the number that it heard
  abbrev pub incarnation : End M → ℕ
  incarnation a = greatest_dial a.appended

  abbrev pub heard_number : End M → ℕ
  heard_number a = greatest_dial a.taken

  abbrev pub has_shut : ℕ → List (Entry M) → Bool
  has_shut n [] = false
  has_shut n (Dial e ∷ rest) = has_shut n rest
  has_shut n (Says e m ∷ rest) = has_shut n rest
  has_shut n (Mark e s ∷ rest) = has_shut n rest
  has_shut n (Shut e ∷ rest) = cond (n == e) true (has_shut n rest)

  -- the messages of an incarnation
  abbrev pub said : ℕ → List (Entry M) → List M
  said n [] = []
  said n (Dial e ∷ rest) = said n rest
  said n (Says e m ∷ rest) = cond (n == e) (m ∷ said n rest) (said n rest)
  said n (Mark e s ∷ rest) = said n rest
  said n (Shut e ∷ rest) = said n rest

  -- the peer's number is open: it is above the own, and not shut
  abbrev pub answers : End M → Bool
  answers a = nat_lt (incarnation a) (heard_number a) && not (has_shut (heard_number a) a.taken)

  -- the number of the next dial: the peer's if that is open, else one that is new to both
  abbrev pub next_incarnation : End M → ℕ
  next_incarnation a = cond (answers a) (heard_number a) (max (incarnation a) (heard_number a) + 1)

  abbrev pub dialling : End M → End M
  dialling a = record {
    appended = a.appended ++ Dial (next_incarnation a) ∷ [];
    taken = a.taken;
    phase = cond (answers a) Joined Offered;
    used = a.used;
  }

  abbrev pub appending : End M → Entry M → End M
  appending a x = record { appended = a.appended ++ x ∷ []; taken = a.taken; phase = a.phase; used = a.used }

  abbrev pub hanging_up : End M → End M
  hanging_up a = record {
    appended = a.appended ++ Shut (incarnation a) ∷ [];
    taken = a.taken;
    phase = Closed;
    used = a.used;
  }

  -- a dial above all that were heard joins the end that offered the same number
  abbrev pub phase_at_dial : End M → ℕ → Phase
  phase_at_dial a e = cond (nat_lt (heard_number a) e && (e == incarnation a)) (phase_joining a.phase) a.phase

  -- an end uses a message if it is joined in the message's incarnation, and drops it otherwise
  abbrev pub used_with : Phase → ℕ → ℕ → M → List (Entry M) → List (Entry M)
  used_with Joined n e m used = cond (n == e) (used ++ Says e m ∷ []) used
  used_with Offered n e m used = used
  used_with Closed n e m used = used

  abbrev pub taking : End M → Entry M → End M
  taking a (Dial e) = record {
    appended = a.appended;
    taken = a.taken ++ Dial e ∷ [];
    phase = phase_at_dial a e;
    used = a.used;
  }
  taking a (Says e m) = record {
    appended = a.appended;
    taken = a.taken ++ Says e m ∷ [];
    phase = a.phase;
    used = used_with a.phase (incarnation a) e m a.used;
  }
  taking a (Mark e s) = record {
    appended = a.appended;
    taken = a.taken ++ Mark e s ∷ [];
    phase = a.phase;
    used = a.used;
  }
  taking a (Shut e) = record {
    appended = a.appended;
    taken = a.taken ++ Shut e ∷ [];
    phase = a.phase;
    used = a.used;
  }

  abbrev pub after : End M → Move M → End M
  after a Dials = dialling a
  after a (Tells m) = appending a (Says (incarnation a) m)
  after a (Marks s) = appending a (Mark (incarnation a) s)
  after a HangsUp = hanging_up a
  after a (Takes x) = taking a x

  -- the messages of an end's own incarnation
  abbrev pub said_now : End M → List (Entry M) → List M
  said_now a entries = said (incarnation a) entries

  -- the session is up (Established): joined, with two messages of the incarnation used, OPEN and KEEPALIVE, and two said
  abbrev pub is_up : End M → Bool
  is_up a = is_joined a.phase && (nat_lt 1 (length (said_now a a.used)) && nat_lt 1 (length (said_now a a.appended)))

  -- an end hangs up before it takes the end of the incarnation in which it is joined
  abbrev pub MayTake : End M → Entry M → Type 0
  MayTake a (Dial e) = Unit {0}
  MayTake a (Says e m) = Unit {0}
  MayTake a (Mark e s) = Unit {0}
  MayTake a (Shut e) = a.phase ≡ Joined → e ≢ incarnation a

  -- the next entry of a's peer, whose end is b
  abbrev pub IsNext : End M → End M → Entry M → Type 0
  IsNext a b x = slice_get b.appended (length a.taken) ≡ Some x

  -- when an end a, whose peer's end is b, may make a move: it dials unless it is joined, and dials again only to
  -- answer; it tells while it is joined, marks while it is up, and takes the next entry that the peer appended
  abbrev pub May : End M → End M → Move M → Type 0
  May a b Dials = (a.phase ≢ Joined) × (a.phase ≡ Offered → answers a ≡ true)
  May a b (Tells m) = a.phase ≡ Joined
  May a b (Marks s) = is_up a ≡ true
  May a b HangsUp = a.phase ≢ Closed
  May a b (Takes x) = IsNext a b x × MayTake a x

-- all ends: of which router, towards which peer
abbrev pub Ends : Type 0 → Type 0
Ends M = ℕ → ℕ → End M

-- a router's move towards a peer
pub record LinkStep (M : Type 0) : Type 0 where
  pub router : ℕ
  pub peer : ℕ
  pub move : Move M

-- w with a change at s and t, and nowhere else
abbrev pub changed_at : {A : Type 0} → ℕ → ℕ → (A → A) → (ℕ → ℕ → A) → ℕ → ℕ → A
changed_at s t change w = λ u v. cond (u == s) (cond (v == t) (change (w u v)) (w u v)) (w u v)

module _ {M : Type 0} where
  module _ (rule : End M → Move M → End M) where
    abbrev pub moved_by : Ends M → LinkStep M → Ends M
    moved_by w m = changed_at m.router m.peer (λ a. rule a m.move) w

    -- a run of ends that move by the rule: each move is allowed where it is made
    abbrev pub IsRunBy : Ends M → List (LinkStep M) → Type 0
    IsRunBy w [] = Unit {0}
    IsRunBy w (m ∷ ms) =
        (m.router ≢ m.peer) × May (w m.router m.peer) (w m.peer m.router) m.move × IsRunBy (moved_by w m) ms

    abbrev pub ends_by : Ends M → List (LinkStep M) → Ends M
    ends_by w [] = w
    ends_by w (m ∷ ms) = ends_by (moved_by w m) ms

  abbrev pub moved : Ends M → LinkStep M → Ends M
  moved = moved_by after

  abbrev pub IsRun : Ends M → List (LinkStep M) → Type 0
  IsRun = IsRunBy after

  abbrev pub ends_after : Ends M → List (LinkStep M) → Ends M
  ends_after = ends_by after

  -- nothing was appended or taken
  abbrev pub new_end : End M
  new_end = record { appended = []; taken = []; phase = Closed; used = [] }

  abbrev pub opening : Ends M
  opening = λ u v. new_end

  abbrev pub close_of : ℕ → ℕ → LinkStep M
  close_of u v = record { router = u; peer = v; move = HangsUp }

-- a run, and then steps that are a run from where it ends, make a longer run
abbrev pub RunsGoOn : {S T : Type 0} → (S → List T → Type 0) → (S → List T → S) → S → Type 0
RunsGoOn {S} {T} IsRunFrom reach first =
    (ts more : List T) → IsRunFrom first ts → IsRunFrom (reach first ts) more
    → IsRunFrom first (ts ++ more) × (reach first (ts ++ more) ≡ reach (reach first ts) more)

abbrev pub LinkRunsGoOn : Type 0 → Type 0
LinkRunsGoOn M = RunsGoOn (IsRun {M = M}) ends_after opening

-- in every run, what an end used in an incarnation is a beginning of what its peer said in it
abbrev pub UsedBeginsSaid : Type 0 → Type 0
UsedBeginsSaid M =
    (moves : List (LinkStep M)) → IsRun opening moves → (u v e : ℕ) → u ≢ v
    → IsPrefix (said e (ends_after opening moves u v).used) (said e (ends_after opening moves v u).appended)

-- in every run, the messages of one kind that an end used begin those that its peer said: UPDATEs acted on are a
-- beginning of the UPDATEs sent
abbrev pub ActedBeginsSent : Type 0 → Type 0
ActedBeginsSent M =
    (is_update : M → Bool) (moves : List (LinkStep M)) → IsRun opening moves → (u v e : ℕ) → u ≢ v
    → IsPrefix (filter is_update (said e (ends_after opening moves u v).used)) (filter is_update (said e (ends_after opening moves v u).appended))

-- from a close on, an end uses no message of the incarnation that it left, nor of an older one
abbrev pub NoneUsedAfterClose : Type 0 → Type 0
NoneUsedAfterClose M =
    (u v : ℕ) (before later : List (LinkStep M)) → IsRun opening (before ++ close_of u v ∷ later) → (e : ℕ)
    → e ≤ incarnation (ends_after opening before u v)
    → said e (ends_after opening (before ++ close_of u v ∷ later) u v).used ≡ said e (ends_after opening before u v).used

-- an end that is joined has heard exactly its own number
abbrev pub JoinedHeardItsOwn : Type 0 → Type 0
JoinedHeardItsOwn M =
    (moves : List (LinkStep M)) → IsRun opening moves → (u v : ℕ) → u ≢ v
    → (ends_after opening moves u v).phase ≡ Joined
    → heard_number (ends_after opening moves u v) ≡ incarnation (ends_after opening moves u v)
