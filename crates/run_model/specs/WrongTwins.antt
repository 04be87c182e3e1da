-- Definitions that are wrong, each with a small run in which a law fails for it.
use Rattle.std.specs.Prelude.{ℕ, ◌<◌, ◌≡◌, ◌≢◌, ◌==◌, Bool, true, false, not, cond, List, [], ◌∷◌, ◌++◌, Some}
use mathlib.Core.List.{IsPrefix}
use Rattle.run_model.specs.Links.{Entry, Dial, Says, Mark, Shut, End, Move, Dials, Tells, HangsUp, Takes, LinkStep, IsRunBy, ends_by, after, taking, opening, said, is_up, incarnation}
use Rattle.run_model.specs.Recordings.{Recorder, Recorders, Act, Moves, EndsChannel, IgnoresMarker, Begins, Follows, Finishes, RecordingStep, with_end, recorder_after, recording, recording_by, first_recorders, IsNext, MayAct, IsChannel}
use Rattle.run_model.specs.Routes.{Network, Routers, Event, Acts, Decide, Command, NetworkStep, updates, route, IsStableAssignment, IsRunOf, reached}
use Rattle.run_model.specs.Offers.{IsIn}
use Rattle.run_model.specs.Examples.{Sample, Open, Keepalive, Update, pair, link_move}

-- ---- an end that uses another incarnation's messages

module _ {M : Type 0} where
  -- wrong: a message that is taken is used as one of the end's own incarnation, whatever incarnation it is of
  abbrev pub taking_any : End M → Entry M → End M
  taking_any a (Dial e) = taking a (Dial e)
  taking_any a (Says e m) =
      record {
        appended = a.appended;
        taken = a.taken ++ Says e m ∷ [];
        phase = a.phase;
        used = a.used ++ Says (incarnation a) m ∷ [];
      }
  taking_any a (Mark e s) = taking a (Mark e s)
  taking_any a (Shut e) = taking a (Shut e)

  abbrev pub using_any : End M → Move M → End M
  using_any a (Takes x) = taking_any a x
  using_any a move = after a move

-- router 2 tells an UPDATE in incarnation 1; before it is taken, router 1 hangs up and dials number 2
abbrev pub stale_steps : List (LinkStep Sample)
stale_steps =
    link_move 1 2 Dials ∷ link_move 2 1 Dials ∷ link_move 1 2 (Takes (Dial 1)) ∷ link_move 2 1 (Takes (Dial 1))
    ∷ link_move 2 1 (Tells (Update 7 1)) ∷ link_move 1 2 HangsUp ∷ link_move 1 2 Dials
    ∷ link_move 1 2 (Takes (Says 1 (Update 7 1))) ∷ []

-- what router 1 used in incarnation 2 is then no beginning of what router 2 said in it
abbrev pub UsingAnyBreaksOrder : Type 0
UsingAnyBreaksOrder =
    IsRunBy using_any opening stale_steps
    × (IsPrefix (said 2 (ends_by using_any opening stale_steps 1 2).used) (said 2 (ends_by using_any opening stale_steps 2 1).appended) → ⊥)

-- ---- routers that record by another rule

abbrev pub Rule : Type 0 → Type 0
Rule M = Recorder M → Act M → Recorder M

abbrev pub Guard : Type 0 → Type 1
Guard M = ℕ → Recorder M → (ℕ → End M) → (ℕ → Bool) → Act M → Type 0

module _ {M : Type 0} (rule : Rule M) (may : Guard M) (linked : ℕ → ℕ → Bool) where
  abbrev pub recorded_by : Recorders M → RecordingStep M → Recorders M
  recorded_by w m = λ u. cond (u == m.router) (rule (w u) m.act) (w u)

  abbrev pub IsRecordedBy : Recorders M → List (RecordingStep M) → Type 0
  IsRecordedBy w [] = Unit {0}
  IsRecordedBy w (m ∷ ms) =
      may m.router (w m.router) (λ v. (w v).ends m.router) (linked m.router) m.act
      × IsRecordedBy (recorded_by w m) ms

  abbrev pub recorders_by : Recorders M → List (RecordingStep M) → Recorders M
  recorders_by w [] = w
  recorders_by w (m ∷ ms) = recorders_by (recorded_by w m) ms

-- the law of consistent cuts, of the channel from v to u in snapshot s, where these steps end
abbrev pub HasCut : {M : Type 0} → Recorders M → ℕ → ℕ → ℕ → Type 0
HasCut {M} w u v s =
    (channels : ℕ → List M) → (w u).part s ≡ Some channels → IsChannel (w u).copy (w v).copy u v s (channels v)

abbrev pub acts : ℕ → Act Sample → RecordingStep Sample
acts u act = record { router = u; act = act }

-- the two sessions of a link come up
abbrev pub session_up : ℕ → ℕ → List (RecordingStep Sample)
session_up u v =
    acts u (Moves v Dials) ∷ acts v (Moves u Dials) ∷ acts u (Moves v (Takes (Dial 1)))
    ∷ acts v (Moves u (Takes (Dial 1)))
    ∷ acts u (Moves v (Tells Open)) ∷ acts v (Moves u (Tells Open)) ∷ acts u (Moves v (Takes (Says 1 Open)))
    ∷ acts v (Moves u (Takes (Says 1 Open)))
    ∷ acts u (Moves v (Tells Keepalive)) ∷ acts v (Moves u (Tells Keepalive))
    ∷ acts u (Moves v (Takes (Says 1 Keepalive))) ∷ acts v (Moves u (Takes (Says 1 Keepalive))) ∷ []

-- ---- recording at the last marker

module _ {M : Type 0} where
  -- wrong: a router records as the last of its peers' markers comes, and takes every channel as ended
  abbrev pub late_rule : Rule M
  late_rule x (Moves v move) = recorder_after x (Moves v move)
  late_rule x (EndsChannel v e s) = recorder_after x (EndsChannel v e s)
  late_rule x (IgnoresMarker v e s) = recorder_after x (IgnoresMarker v e s)
  late_rule x (Begins s whole) = recorder_after x (Begins s whole)
  late_rule x (Follows v e s whole) =
      recording x (with_end x.ends v (taking (x.ends v) (Mark e s))) s whole (λ y. false)
  late_rule x (Finishes s) = recorder_after x (Finishes s)

  abbrev pub late_guard : Guard M
  late_guard u x far linked (Moves v move) = MayAct u x far linked (Moves v move)
  late_guard u x far linked (EndsChannel v e s) = MayAct u x far linked (EndsChannel v e s)
  late_guard u x far linked (IgnoresMarker v e s) =
      (u ≢ v) × IsNext (x.ends v) (far v) (Mark e s) × (x.last < s)
      × (w : ℕ) × (linked w ≡ true) × (w ≢ v) × (IsIn (Mark (incarnation (x.ends w)) s) (x.ends w).taken → ⊥)
  late_guard u x far linked (Begins s whole) = MayAct u x far linked (Begins s whole)
  late_guard u x far linked (Follows v e s whole) =
      MayAct u x far linked (Follows v e s whole)
      × ((w : ℕ) → linked w ≡ true → w ≢ v → IsIn (Mark (incarnation (x.ends w)) s) (x.ends w).taken)
  late_guard u x far linked (Finishes s) = MayAct u x far linked (Finishes s)

-- routers 1 and 3 are linked with router 2
abbrev pub line : ℕ → ℕ → Bool
line u v = cond (u == 2) (cond (v == 1) true (v == 3)) (cond (u == 1) (v == 2) (cond (u == 3) (v == 2) false))

-- 1 and 3 begin; 2 takes the marker of 1, uses an UPDATE that 1 told after it recorded, and records by the marker of 3
abbrev pub late_steps : List (RecordingStep Sample)
late_steps =
    session_up 1 2
    ++ (session_up 3 2
    ++ (acts 1 (Begins 5 true) ∷ acts 3 (Begins 5 true) ∷ acts 2 (IgnoresMarker 1 1 5)
    ∷ acts 1 (Moves 2 (Tells (Update 7 1)))
    ∷ acts 2 (Moves 1 (Takes (Says 1 (Update 7 1)))) ∷ acts 2 (Follows 3 1 5 true) ∷ acts 2 (Finishes 5) ∷ []))

-- what 2 took inside, 1 appended outside
abbrev pub LateRecordingBreaksCut : Type 0
LateRecordingBreaksCut =
    IsRecordedBy late_rule late_guard line first_recorders late_steps
    × (HasCut (recorders_by late_rule late_guard line first_recorders late_steps) 2 1 5 → ⊥)

-- ---- markers ahead of waiting messages

module _ {M : Type 0} where
  abbrev pub before_last : Entry M → List (Entry M) → List (Entry M)
  before_last x [] = x ∷ []
  before_last x (y ∷ []) = x ∷ y ∷ []
  before_last x (y ∷ z ∷ rest) = y ∷ before_last x (z ∷ rest)

  -- wrong: the marker goes ahead of the last message, which waits to be put
  abbrev pub overtaking_mark : ℕ → End M → End M
  overtaking_mark s a =
      cond (is_up a)
      (record { appended = before_last (Mark (incarnation a) s) a.appended; taken = a.taken; phase = a.phase; used = a.used })
      a

  abbrev pub overtaking_rule : Rule M
  overtaking_rule x (Moves v move) = recorder_after x (Moves v move)
  overtaking_rule x (EndsChannel v e s) = recorder_after x (EndsChannel v e s)
  overtaking_rule x (IgnoresMarker v e s) = recorder_after x (IgnoresMarker v e s)
  overtaking_rule x (Begins s whole) = recording_by overtaking_mark x x.ends s whole (λ y. true)
  overtaking_rule x (Follows v e s whole) =
      recording_by overtaking_mark x (with_end x.ends v (taking (x.ends v) (Mark e s))) s whole (λ y. not (y == v))
  overtaking_rule x (Finishes s) = recorder_after x (Finishes s)

-- each of two routers has told an UPDATE that waits; router 1 begins, and router 2 follows
abbrev pub overtaking_steps : List (RecordingStep Sample)
overtaking_steps =
    session_up 1 2
    ++ (acts 1 (Moves 2 (Tells (Update 7 1))) ∷ acts 2 (Moves 1 (Tells (Update 7 2)))
    ∷ acts 1 (Begins 5 true) ∷ acts 2 (Follows 1 1 5 true) ∷ acts 2 (Finishes 5) ∷ [])

-- the recorded channel is empty, and what 1 had said and 2 had not used is not
abbrev pub OvertakingBreaksChannel : Type 0
OvertakingBreaksChannel =
    IsRecordedBy overtaking_rule MayAct pair.linked first_recorders overtaking_steps
    × (HasCut (recorders_by overtaking_rule MayAct pair.linked first_recorders overtaking_steps) 2 1 5 → ⊥)

-- ---- a pending flag that forgets words not told

module _ {M P W : Type 0} (g : Network M P W) where
  -- wrong: it is not asked that each Established peer was told the kept path
  abbrev pub IsForgetfullySettled : Routers M P W → ℕ → Type 0
  IsForgetfullySettled w s =
      (u : ℕ) → g.routers u ≡ true → (channels : ℕ → List M) × (c : ℕ → End M)
      × ((w u).recorder.part s ≡ Some channels) × ((w u).recorder.copy s ≡ Some c)
      × ((v : ℕ) → g.linked u v ≡ true → updates g (channels v) ≡ [])
      × ((p : P) → g.named p ≡ true → (w u).kept_at s p ≡ route g u c p ((w u).originated_at s p))

abbrev pub step_by : ℕ → Event Sample ℕ ℕ → NetworkStep Sample ℕ ℕ
step_by u e = record { router = u; event = e }

abbrev pub network_up : List (NetworkStep Sample ℕ ℕ)
network_up =
    step_by 1 (Acts (Moves 2 Dials)) ∷ step_by 2 (Acts (Moves 1 Dials))
    ∷ step_by 1 (Acts (Moves 2 (Takes (Dial 1)))) ∷ step_by 2 (Acts (Moves 1 (Takes (Dial 1))))
    ∷ step_by 1 (Acts (Moves 2 (Tells Open))) ∷ step_by 2 (Acts (Moves 1 (Tells Open)))
    ∷ step_by 1 (Acts (Moves 2 (Takes (Says 1 Open)))) ∷ step_by 2 (Acts (Moves 1 (Takes (Says 1 Open))))
    ∷ step_by 1 (Acts (Moves 2 (Tells Keepalive))) ∷ step_by 2 (Acts (Moves 1 (Tells Keepalive)))
    ∷ step_by 1 (Acts (Moves 2 (Takes (Says 1 Keepalive))))
    ∷ step_by 2 (Acts (Moves 1 (Takes (Says 1 Keepalive)))) ∷ []

-- router 1 originates and decides, and records before it has told router 2
abbrev pub forgetful_steps : List (NetworkStep Sample ℕ ℕ)
forgetful_steps =
    network_up
    ++ (step_by 1 (Command (λ p. p == 7) (λ p. 0)) ∷ step_by 1 (Decide 7) ∷ step_by 1 (Acts (Begins 5 true))
    ∷ step_by 2 (Acts (Follows 1 1 5 true))
    ∷ step_by 2 (Acts (Finishes 5)) ∷ step_by 1 (Acts (EndsChannel 2 1 5)) ∷ step_by 1 (Acts (Finishes 5)) ∷ [])

-- the recorded paths are no stable assignment: router 2 has no path, and 2-1 is a choice
abbrev pub ForgettingBreaksStability : Type 0
ForgettingBreaksStability =
    IsRunOf pair forgetful_steps × IsForgetfullySettled pair (reached pair forgetful_steps) 5
    × (IsStableAssignment pair 7 (λ u. (reached pair forgetful_steps u).originated_at 5 7)
    (λ u. (reached pair forgetful_steps u).kept_at 5 7) → ⊥)
