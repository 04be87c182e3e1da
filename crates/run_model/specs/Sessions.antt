-- The states of a session (RFC 4271 section 8.2.2), and the moves of its end at each of its events.
use Rattle.std.specs.Prelude.{ℕ, ◌<◌, ◌≤◌, ◌≡◌, ◌≢◌, Bool, true, cond, List, [], ◌∷◌, ◌++◌, length}
use Rattle.run_model.specs.Links.{End, Entry, Dial, Says, Mark, Shut, Phase, Closed, Offered, Joined, Move, Dials, Tells, Marks, HangsUp, Takes, said, answers, after, is_up, new_end, phase_at_dial, LinkStep, changed_at, RunsGoOn, IsRun, opening, ends_after, incarnation, heard_number}
pub use Rattle.run_model.specs.Links.{IsNext}

pub data SessionState : Type 0 where
  Idle : SessionState
  Connect : SessionState
  Active : SessionState
  OpenSent : SessionState
  OpenConfirm : SessionState
  Established : SessionState

abbrev pub phase_in : SessionState → Phase
phase_in Idle = Closed
phase_in Active = Closed
phase_in Connect = Offered
phase_in _ = Joined

-- how many messages a session in this state has said: its OPEN, its KEEPALIVE, and more
abbrev pub SaidIn : SessionState → ℕ → Type 0
SaidIn OpenSent n = 1 ≤ n
SaidIn OpenConfirm n = 2 ≤ n
SaidIn Established n = 2 ≤ n
SaidIn _ n = Unit {0}

-- how many messages a session in this state has used: the peer's OPEN, its KEEPALIVE, and more
abbrev pub UsedIn : SessionState → ℕ → Type 0
UsedIn Idle n = Unit {0}
UsedIn Connect n = Unit {0}
UsedIn Active n = Unit {0}
UsedIn OpenSent n = n ≡ 0
UsedIn OpenConfirm n = n ≡ 1
UsedIn Established n = 2 ≤ n

-- an end is as its session's state says
pub record Fits {M : Type 0} (state : SessionState) (a : End M) : Type 0 where
  pub phase : a.phase ≡ phase_in state
  pub has_said : SaidIn state (length (said (incarnation a) a.appended))
  pub has_used : UsedIn state (length (said (incarnation a) a.used))

-- what a session does, with the messages that it says; an event of a router is one of these, or several in turn
pub data SessionEvent (M : Type 0) : Type 0 where
  -- Idle, or Active as its retry timer expires: it dials, and joins at once where it answers
  Starts : (own_open : M) → SessionEvent M
  -- Connect as its retry timer expires: it takes its offer back and dials again
  Retries : (own_open : M) → SessionEvent M
  Confirms : (incarnation : ℕ) (own_open : M) → SessionEvent M  -- Connect: the dial that it waits for
  -- Connect or Active: a dial of a greater number, which it answers
  Yields : (incarnation : ℕ) (own_open : M) → SessionEvent M
  AcceptsOpen : (peer_open keepalive : M) → SessionEvent M  -- OpenSent: the peer's OPEN
  -- OpenConfirm: the peer's KEEPALIVE, and the session is Established
  AcceptsKeepalive : (keepalive : M) → SessionEvent M
  Accepts : (what : M) → SessionEvent M  -- Established: KEEPALIVE or UPDATE
  Speaks : (what : M) → SessionEvent M  -- OpenConfirm: KEEPALIVE; Established: KEEPALIVE or UPDATE
  SendsMarker : (number : ℕ) → SessionEvent M  -- Established: a marker
  -- any state but Idle, with its NOTIFICATION if it has one
  Closes : (notification : List M) → SessionEvent M
  Fails : SessionEvent M  -- OpenSent: the connection fails, and the session waits in Active
  Passes : (entry : Entry M) → SessionEvent M  -- an entry that is taken and not used

-- a side of a link: the session's state and its end
pub record Side (M : Type 0) : Type 0 where
  pub state : SessionState
  pub end : End M

abbrev pub joined_or : Bool → SessionState → SessionState
joined_or joined state = cond joined OpenSent state

module _ {M : Type 0} where
  -- the moves of a start: a dial, and the OPEN if it joins at once
  abbrev pub start_moves : Bool → M → List (Move M)
  start_moves joined own_open = cond joined (Dials ∷ Tells own_open ∷ []) (Dials ∷ [])

  abbrev pub hanging : Phase → List (Move M)
  hanging Closed = []
  hanging Offered = HangsUp ∷ []
  hanging Joined = HangsUp ∷ []

  abbrev pub telling : List M → List (Move M)
  telling [] = []
  telling (m ∷ ms) = Tells m ∷ telling ms

  -- the moves of an event
  abbrev pub moves_of : End M → SessionEvent M → List (Move M)
  moves_of a (Starts own_open) = start_moves (answers a) own_open
  moves_of a (Retries own_open) = HangsUp ∷ start_moves (answers a) own_open
  moves_of a (Confirms e own_open) = Takes (Dial e) ∷ Tells own_open ∷ []
  moves_of a (Yields e own_open) = Takes (Dial e) ∷ Dials ∷ Tells own_open ∷ []
  moves_of a (AcceptsOpen peer_open keepalive) = Takes (Says (incarnation a) peer_open) ∷ Tells keepalive ∷ []
  moves_of a (AcceptsKeepalive keepalive) = Takes (Says (incarnation a) keepalive) ∷ []
  moves_of a (Accepts what) = Takes (Says (incarnation a) what) ∷ []
  moves_of a (Speaks what) = Tells what ∷ []
  moves_of a (SendsMarker s) = Marks s ∷ []
  moves_of a (Closes notification) = telling notification ++ hanging a.phase
  moves_of a Fails = HangsUp ∷ []
  moves_of a (Passes x) = Takes x ∷ []

  abbrev pub state_after : Side M → SessionEvent M → SessionState
  state_after x (Starts own_open) = joined_or (answers x.end) Connect
  state_after x (Retries own_open) = joined_or (answers x.end) Connect
  state_after x (Confirms e own_open) = OpenSent
  state_after x (Yields e own_open) = OpenSent
  state_after x (AcceptsOpen peer_open keepalive) = OpenConfirm
  state_after x (AcceptsKeepalive keepalive) = Established
  state_after x (Accepts what) = x.state
  state_after x (Speaks what) = x.state
  state_after x (SendsMarker s) = x.state
  state_after x (Closes notification) = Idle
  state_after x Fails = Active
  state_after x (Passes entry) = x.state

  abbrev pub afters : End M → List (Move M) → End M
  afters a [] = a
  afters a (x ∷ xs) = afters (after a x) xs

  abbrev pub side_after : Side M → SessionEvent M → Side M
  side_after x event = record { state = state_after x event; end = afters x.end (moves_of x.end event) }

  -- an entry that changes nothing but what was taken: a dial that joins nothing, a message of another incarnation or where
  -- the end is not joined, a marker, an end of an incarnation in which it is not joined
  abbrev pub IsPassed : End M → Entry M → Type 0
  IsPassed a (Dial e) = phase_at_dial a e ≡ a.phase
  IsPassed a (Says e m) = a.phase ≡ Joined → e ≢ incarnation a
  IsPassed a (Mark e s) = Unit {0}
  IsPassed a (Shut e) = a.phase ≡ Joined → e ≢ incarnation a

-- how many NOTIFICATIONs go before a close: at most one if the phase is Joined, else none
abbrev pub MayNotify : {M : Type 0} → Phase → List M → Type 0
MayNotify Closed ms = ms ≡ []
MayNotify Offered ms = ms ≡ []
MayNotify Joined ms = length ms ≤ 1

abbrev pub MayRestart : SessionState → Type 0
MayRestart Idle = Unit {0}
MayRestart Active = Unit {0}
MayRestart _ = ⊥

abbrev pub WaitsForPeer : SessionState → Type 0
WaitsForPeer Connect = Unit {0}
WaitsForPeer Active = Unit {0}
WaitsForPeer _ = ⊥

abbrev pub MaySay : SessionState → Type 0
MaySay OpenConfirm = Unit {0}
MaySay Established = Unit {0}
MaySay _ = ⊥

module _ {M : Type 0} where
  -- when a session's event may come: b is the peer's end
  abbrev pub MayCome : Side M → End M → SessionEvent M → Type 0
  MayCome x b (Starts own_open) = MayRestart x.state
  MayCome x b (Retries own_open) = x.state ≡ Connect
  MayCome x b (Confirms e own_open) =
      (x.state ≡ Connect) × IsNext x.end b (Dial e) × (e ≡ incarnation x.end) × (heard_number x.end < e)
  MayCome x b (Yields e own_open) =
      WaitsForPeer x.state × IsNext x.end b (Dial e) × (incarnation x.end < e) × (heard_number x.end < e)
  MayCome x b (AcceptsOpen peer_open keepalive) =
      (x.state ≡ OpenSent) × IsNext x.end b (Says (incarnation x.end) peer_open)
  MayCome x b (AcceptsKeepalive keepalive) =
      (x.state ≡ OpenConfirm) × IsNext x.end b (Says (incarnation x.end) keepalive)
  MayCome x b (Accepts what) = (x.state ≡ Established) × IsNext x.end b (Says (incarnation x.end) what)
  MayCome x b (Speaks what) = MaySay x.state
  MayCome x b (SendsMarker s) = x.state ≡ Established
  MayCome x b (Closes notification) = (x.state ≢ Idle) × MayNotify x.end.phase notification
  MayCome x b Fails = x.state ≡ OpenSent
  MayCome x b (Passes entry) = IsNext x.end b entry × IsPassed x.end entry

abbrev pub Sides : Type 0 → Type 0
Sides M = ℕ → ℕ → Side M

pub record SessionStep (M : Type 0) : Type 0 where
  pub router : ℕ
  pub peer : ℕ
  pub event : SessionEvent M

module _ {M : Type 0} where
  abbrev pub came : Sides M → SessionStep M → Sides M
  came w t = changed_at t.router t.peer (λ x. side_after x t.event) w

  abbrev pub IsSessionRun : Sides M → List (SessionStep M) → Type 0
  IsSessionRun w [] = Unit {0}
  IsSessionRun w (t ∷ ts) =
      (t.router ≢ t.peer) × MayCome (w t.router t.peer) (w t.peer t.router).end t.event
      × IsSessionRun (came w t) ts

  abbrev pub sides_after : Sides M → List (SessionStep M) → Sides M
  sides_after w [] = w
  sides_after w (t ∷ ts) = sides_after (came w t) ts

  abbrev pub first_sides : Sides M
  first_sides = λ u v. record { state = Idle; end = new_end }

  abbrev pub ends_of : Sides M → ℕ → ℕ → End M
  ends_of w = λ u v. (w u v).end

  abbrev pub link_steps : ℕ → ℕ → List (Move M) → List (LinkStep M)
  link_steps u v [] = []
  link_steps u v (m ∷ ms) = record { router = u; peer = v; move = m } ∷ link_steps u v ms

  -- the moves of a run of sessions
  abbrev pub all_moves : Sides M → List (SessionStep M) → List (LinkStep M)
  all_moves w [] = []
  all_moves w (t ∷ ts) =
      link_steps t.router t.peer (moves_of (w t.router t.peer).end t.event) ++ all_moves (came w t) ts

abbrev pub SessionRunsGoOn : Type 0 → Type 0
SessionRunsGoOn M = RunsGoOn (IsSessionRun {M = M}) sides_after first_sides

-- a run of sessions is, by its moves, a run of link ends, and ends in these
abbrev pub SessionsMakeALinkRun : Type 0 → Type 0
SessionsMakeALinkRun M =
    (ts : List (SessionStep M)) → IsSessionRun first_sides ts
    → IsRun opening (all_moves first_sides ts)
    × ((u v : ℕ) → ends_after opening (all_moves first_sides ts) u v ≡ (sides_after first_sides ts u v).end)

-- in every run each end is as its session's state says
abbrev pub SessionsFit : Type 0 → Type 0
SessionsFit M =
    (ts : List (SessionStep M)) → IsSessionRun first_sides ts → (u v : ℕ) → u ≢ v
    → Fits (sides_after first_sides ts u v).state (sides_after first_sides ts u v).end

-- in every run an end is up exactly where its session is Established
abbrev pub UpIsEstablished : Type 0 → Type 0
UpIsEstablished M =
    (ts : List (SessionStep M)) → IsSessionRun first_sides ts → (u v : ℕ) → u ≢ v
    → ((sides_after first_sides ts u v).state ≡ Established → is_up (sides_after first_sides ts u v).end ≡ true)
    × (is_up (sides_after first_sides ts u v).end ≡ true → (sides_after first_sides ts u v).state ≡ Established)
