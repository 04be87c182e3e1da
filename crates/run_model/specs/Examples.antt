-- Small runs and assignments that show what the definitions say.
use Rattle.std.specs.Prelude.{ℕ, length, ◌≡◌, ◌==◌, nat_lt, Bool, true, false, cond, List, [], ◌∷◌, ◌++◌}
use Rattle.run_model.specs.Links.{Dial, Says, Shut, Joined, Move, Dials, Tells, HangsUp, Takes, LinkStep, IsRun, opening, ends_after, is_up, incarnation}
use Rattle.run_model.specs.Octets.{Octet, Control, IsFraming}
use Rattle.run_model.specs.Streams.{octets_in}
use Rattle.run_model.specs.Sessions.{SessionEvent, Starts, Confirms, AcceptsOpen, AcceptsKeepalive, Closes, Passes, Connect, OpenSent, Established, SessionStep, IsSessionRun, first_sides, sides_after}
use Rattle.run_model.specs.Recordings.{Moves, EndsChannel, IgnoresMarker, Begins, Follows, Finishes}
use Rattle.run_model.specs.Routes.{Network, Event, Acts, Advertise, Decide, Command, IsSettled, IsNetwork, first_routers}
use Rattle.run_model.specs.Quiet.{IsQuietSince}
use Rattle.run_model.specs.Offers.{Offer, Finished, Lost, Part, Cause, Happens, Makes, OfferStep, final, HasOutcome, Settled, Moving, Abandoned, InFlight, offers_for, IsOfferRunOf, network_steps}

-- messages: OPEN, KEEPALIVE, and UPDATEs that tell a path of a prefix, 0 for a withdrawal
pub data Sample : Type 0 where
  Open : Sample
  Keepalive : Sample
  Update : (prefix path : ℕ) → Sample

abbrev pub is_update : Sample → Bool
is_update Open = false
is_update Keepalive = false
is_update (Update p x) = true

abbrev pub mentions : Sample → List (ℕ × ℕ)
mentions Open = []
mentions Keepalive = []
mentions (Update p x) = (p, x) ∷ []

-- ---- two ends that dial at once

abbrev pub link_move : ℕ → ℕ → Move Sample → LinkStep Sample
link_move u v m = record { router = u; peer = v; move = m }

abbrev pub dial_at_once : List (LinkStep Sample)
dial_at_once =
    link_move 1 2 Dials ∷ link_move 2 1 Dials ∷ link_move 1 2 (Takes (Dial 1)) ∷ link_move 2 1 (Takes (Dial 1))
    ∷ []

-- each end offers number 1, and joins by the other's dial
abbrev pub DialAtOnceJoins : Type 0
DialAtOnceJoins =
    IsRun opening dial_at_once
    × ((ends_after opening dial_at_once 1 2).phase ≡ Joined)
    × ((ends_after opening dial_at_once 2 1).phase ≡ Joined)
    × (incarnation (ends_after opening dial_at_once 1 2) ≡ 1)
    × (incarnation (ends_after opening dial_at_once 2 1) ≡ 1)

-- ---- messages written behind their length

abbrev pub by_length : List ℕ → List ℕ
by_length message = length message ∷ message

-- such messages are a framing
abbrev pub LengthsAreFrames : Type 0
LengthsAreFrames =
    IsFraming (λ octets. (message : List ℕ) × (octets ≡ by_length message))

-- the octets of incarnation 1, up to its end; octets of another incarnation stand between them, and others stand behind
-- the end
abbrev pub StreamEndsAtShut : Type 0
StreamEndsAtShut =
    octets_in {M = ℕ} 1 (Octet 1 5 ∷ Octet 2 7 ∷ Octet 1 6 ∷ Control (Shut 1) ∷ Octet 1 9 ∷ []) ≡ 5 ∷ 6 ∷ []

-- ---- two sessions that come up, and one that comes up again

abbrev pub session : ℕ → ℕ → SessionEvent Sample → SessionStep Sample
session u v e = record { router = u; peer = v; event = e }

abbrev pub sessions_start : List (SessionStep Sample)
sessions_start =
    session 1 2 (Starts Open) ∷ session 2 1 (Starts Open) ∷ session 1 2 (Confirms 1 Open) ∷ session 2 1 (Confirms 1 Open)
    ∷ session 1 2 (AcceptsOpen Open Keepalive) ∷ session 2 1 (AcceptsOpen Open Keepalive)
    ∷ session 1 2 (AcceptsKeepalive Keepalive) ∷ session 2 1 (AcceptsKeepalive Keepalive) ∷ []

-- router 1 closes, and dials again; router 2 takes what it said, closes, and answers number 2 at once
abbrev pub sessions_restart : List (SessionStep Sample)
sessions_restart =
    session 1 2 (Closes (Keepalive ∷ [])) ∷ session 1 2 (Starts Open) ∷ session 2 1 (Closes []) ∷ session 2 1 (Passes (Says 1 Keepalive))
    ∷ session 2 1 (Passes (Shut 1)) ∷ session 2 1 (Passes (Dial 2)) ∷ session 2 1 (Starts Open) ∷ []

-- both sessions are Established; then router 2 has joined in number 2, and router 1 waits for its dial
abbrev pub SessionsComeUp : Type 0
SessionsComeUp =
    IsSessionRun first_sides (sessions_start ++ sessions_restart)
    × ((sides_after first_sides sessions_start 1 2).state ≡ Established) × ((sides_after first_sides sessions_start 2 1).state ≡ Established)
    × ((sides_after first_sides (sessions_start ++ sessions_restart) 1 2).state ≡ Connect)
    × ((sides_after first_sides (sessions_start ++ sessions_restart) 2 1).state ≡ OpenSent)
    × (incarnation (sides_after first_sides (sessions_start ++ sessions_restart) 2 1).end ≡ 2)

-- ---- two routers, of which the first may originate prefix 7; path 1 is router 1 alone, path 2 is 2-1

abbrev pub pair : Network Sample ℕ ℕ
pair = record {
  routers = λ u. cond (u == 1) true (u == 2);
  linked = λ u v. cond (u == 1) (v == 2) (cond (u == 2) (v == 1) false);
  named = λ p. p == 7;
  same_prefix = λ p q. p == q;
  is_update = is_update;
  mentions = mentions;
  no_path = 0;
  best = λ u p originated words. cond (u == 1) (cond originated 1 0) (cond (nat_lt 0 (words 1)) 2 0);
}

abbrev pub does : ℕ → Event Sample ℕ ℕ → OfferStep Sample ℕ ℕ
does u e = record { router = u; event = Happens e [] }

abbrev pub moves : ℕ → ℕ → Move Sample → OfferStep Sample ℕ ℕ
moves u v m = does u (Acts (Moves v m))

abbrev pub queueing : ℕ → Event Sample ℕ ℕ → Offer Sample ℕ ℕ → OfferStep Sample ℕ ℕ
queueing u e o = record { router = u; event = Happens e (o ∷ []) }

abbrev pub making : ℕ → Offer Sample ℕ ℕ → OfferStep Sample ℕ ℕ
making u o = record { router = u; event = Makes o }

-- both sessions come up in incarnation 1
abbrev pub comes_up : List (OfferStep Sample ℕ ℕ)
comes_up =
    moves 1 2 Dials ∷ moves 2 1 Dials ∷ moves 1 2 (Takes (Dial 1)) ∷ moves 2 1 (Takes (Dial 1))
    ∷ moves 1 2 (Tells Open) ∷ moves 2 1 (Tells Open) ∷ moves 1 2 (Takes (Says 1 Open))
    ∷ moves 2 1 (Takes (Says 1 Open))
    ∷ moves 1 2 (Tells Keepalive) ∷ moves 2 1 (Tells Keepalive) ∷ moves 1 2 (Takes (Says 1 Keepalive))
    ∷ moves 2 1 (Takes (Says 1 Keepalive)) ∷ []

-- router 1 originates prefix 7, both decide and tell
abbrev pub announces : List (OfferStep Sample ℕ ℕ)
announces =
    does 1 (Command (λ p. p == 7) (λ p. 0)) ∷ does 1 (Decide 7) ∷ does 1 (Advertise 2 7 (Update 7 1))
    ∷ moves 2 1 (Takes (Says 1 (Update 7 1)))
    ∷ does 2 (Decide 7) ∷ does 2 (Advertise 1 7 (Update 7 2)) ∷ moves 1 2 (Takes (Says 1 (Update 7 2))) ∷ []

-- a part of a router with one peer, whose session is in incarnation 1
abbrev pub part_with : (kept : ℕ → ℕ) → (originated : ℕ → Bool) → (channel : ℕ → List Sample) → Part Sample ℕ ℕ
part_with kept originated channel =
    record { kept = kept; originated = originated; incarnation = λ v. 1; pending = false; channel = channel }

abbrev pub part_1 : Part Sample ℕ ℕ
part_1 = part_with (λ p. cond (p == 7) 1 0) (λ p. p == 7) (λ v. [])

abbrev pub part_2 : Part Sample ℕ ℕ
part_2 = part_with (λ p. cond (p == 7) 2 0) (λ p. false) (λ v. [])

-- router 1 begins snapshot 5, router 2 follows, both finish and offer
abbrev pub begins_5 : List (OfferStep Sample ℕ ℕ)
begins_5 = does 1 (Acts (Begins 5 true)) ∷ []

abbrev pub follows_5 : List (OfferStep Sample ℕ ℕ)
follows_5 = does 2 (Acts (Follows 1 1 5 true)) ∷ []

abbrev pub finishes_2 : List (OfferStep Sample ℕ ℕ)
finishes_2 = queueing 2 (Acts (Finishes 5)) (Finished 5 part_2) ∷ []

abbrev pub finishes_1 : List (OfferStep Sample ℕ ℕ)
finishes_1 = does 1 (Acts (EndsChannel 2 1 5)) ∷ queueing 1 (Acts (Finishes 5)) (Finished 5 part_1) ∷ []

abbrev pub offers_5 : List (OfferStep Sample ℕ ℕ)
offers_5 = making 2 (Finished 5 part_2) ∷ making 1 (Finished 5 part_1) ∷ []

abbrev pub settled_steps : List (OfferStep Sample ℕ ℕ)
settled_steps = comes_up ++ (announces ++ (begins_5 ++ (follows_5 ++ (finishes_2 ++ (finishes_1 ++ offers_5)))))

-- a whole run whose snapshot is settled, with these routes, and that is quiet to its end
abbrev pub SettledRun : Type 0
SettledRun =
    IsNetwork pair × IsOfferRunOf pair settled_steps × HasOutcome pair 5 (final pair settled_steps).made Settled
    × (((final pair settled_steps).routers 1).kept_at 5 7 ≡ 1)
    × (((final pair settled_steps).routers 2).kept_at 5 7 ≡ 2)
    × IsQuietSince pair 5 (first_routers pair) (network_steps pair settled_steps)

-- ---- a withdrawal in flight: it was told before router 1 recorded, and is taken after router 2 recorded

abbrev pub withdraws : List (OfferStep Sample ℕ ℕ)
withdraws =
    does 1 (Command (λ p. false) (λ p. cond (p == 7) 1 0)) ∷ does 1 (Decide 7)
    ∷ does 1 (Advertise 2 7 (Update 7 0)) ∷ []

abbrev pub begins_6 : ℕ → List (OfferStep Sample ℕ ℕ)
begins_6 u = does u (Acts (Begins 6 true)) ∷ []

abbrev pub moving_part_1 : Part Sample ℕ ℕ
moving_part_1 = part_with (λ p. 0) (λ p. false) (λ v. [])

abbrev pub moving_part_2 : Part Sample ℕ ℕ
moving_part_2 = part_with (λ p. cond (p == 7) 2 0) (λ p. false) (λ v. Update 7 0 ∷ [])

abbrev pub finishes_6 : List (OfferStep Sample ℕ ℕ)
finishes_6 =
    moves 2 1 (Takes (Says 1 (Update 7 0))) ∷ does 2 (Acts (EndsChannel 1 1 6))
    ∷ does 1 (Acts (EndsChannel 2 1 6)) ∷ []

abbrev pub offers_6 : List (OfferStep Sample ℕ ℕ)
offers_6 =
    queueing 2 (Acts (Finishes 6)) (Finished 6 moving_part_2)
    ∷ queueing 1 (Acts (Finishes 6)) (Finished 6 moving_part_1) ∷ []

abbrev pub made_6 : List (OfferStep Sample ℕ ℕ)
made_6 = making 2 (Finished 6 moving_part_2) ∷ making 1 (Finished 6 moving_part_1) ∷ []

abbrev pub moving_steps : List (OfferStep Sample ℕ ℕ)
moving_steps =
    comes_up
    ++ (announces ++ (withdraws ++ (begins_6 1 ++ (begins_6 2 ++ (finishes_6 ++ (offers_6 ++ made_6))))))

-- every router has a part, nothing was pending, and the snapshot is moving
abbrev pub MovingRun : Type 0
MovingRun =
    IsOfferRunOf pair moving_steps
    × HasOutcome pair 6 (final pair moving_steps).made (Moving 2 (InFlight 1))
    × (IsSettled pair (final pair moving_steps).routers 6 → ⊥)

-- ---- a reset in a window: router 1 leaves Established before its recording is finished, and both come up again in
-- incarnation 2; router 2, which followed, leaves too

abbrev pub resets : List (OfferStep Sample ℕ ℕ)
resets =
    queueing 1 (Acts (Moves 2 HangsUp)) (Lost 5 2 1 Cause.Closed) ∷ making 1 (Lost 5 2 1 Cause.Closed)
    ∷ queueing 2 (Acts (Moves 1 HangsUp)) (Lost 5 1 1 Cause.Closed) ∷ moves 2 1 (Takes (Shut 1)) ∷ []

abbrev pub comes_up_again : List (OfferStep Sample ℕ ℕ)
comes_up_again =
    does 1 (Acts (IgnoresMarker 2 1 5)) ∷ moves 1 2 (Takes (Shut 1)) ∷ moves 1 2 Dials
    ∷ moves 2 1 (Takes (Dial 2)) ∷ moves 2 1 Dials ∷ moves 1 2 (Takes (Dial 2))
    ∷ moves 1 2 (Tells Open) ∷ moves 2 1 (Tells Open) ∷ moves 1 2 (Takes (Says 2 Open))
    ∷ moves 2 1 (Takes (Says 2 Open))
    ∷ moves 1 2 (Tells Keepalive) ∷ moves 2 1 (Tells Keepalive) ∷ moves 1 2 (Takes (Says 2 Keepalive))
    ∷ moves 2 1 (Takes (Says 2 Keepalive)) ∷ []

abbrev pub reset_steps : List (OfferStep Sample ℕ ℕ)
reset_steps = comes_up ++ (announces ++ (begins_5 ++ (follows_5 ++ (resets ++ comes_up_again))))

-- the snapshot is abandoned; the Lost is the router's one offer for it; the sessions are up in incarnation 2
abbrev pub ResetRun : Type 0
ResetRun =
    IsOfferRunOf pair reset_steps
    × HasOutcome pair 5 (final pair reset_steps).made (Abandoned 1 2 1 Cause.Closed)
    × (offers_for 5 ((final pair reset_steps).queued 1) ≡ Lost 5 2 1 Cause.Closed ∷ [])
    × (is_up (((final pair reset_steps).routers 1).recorder.ends 2) ≡ true)
    × (is_up (((final pair reset_steps).routers 2).recorder.ends 1) ≡ true)
    × (incarnation (((final pair reset_steps).routers 1).recorder.ends 2) ≡ 2)
