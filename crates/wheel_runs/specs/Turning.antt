-- DISAGREE (Griffin, Shepherd and Wilfong 2002, figure 3) in the laws of runs: its routers change their paths for ever,
-- though nothing is commanded and no session opens or closes.
use Rattle.std.specs.Prelude.{ℕ, ◌≤◌, ◌==◌, Bool, true, false, List, [], ◌∷◌, ◌++◌}
use Rattle.run_model.specs.Links.{Move, Dials, Tells, Takes, Dial, Says}
use Rattle.run_model.specs.Recordings.{Moves}
use Rattle.run_model.specs.Routes.{Network, Event, Acts, Advertise, Decide, Command, NetworkStep, IsNetworkRun, IsRunOf, reached}
use Rattle.run_model.specs.RankedExamples as ranked
use Rattle.dispute_wheels.specs.RunChanges.{shifts, moments}

-- messages: OPEN, KEEPALIVE, and UPDATEs that tell a path of the one prefix, 7
pub data Note : Type 0 where
  Open : Note
  Keepalive : Note
  Update : (path : List ℕ) → Note

abbrev pub is_update : Note → Bool
is_update Open = false
is_update Keepalive = false
is_update (Update path) = true

abbrev pub mentions : Note → List (ℕ × List ℕ)
mentions Open = []
mentions Keepalive = []
mentions (Update path) = (7, path) ∷ []

abbrev pub disagree : Network Note ℕ (List ℕ)
disagree = record {
  routers = ranked.disagree.routers;
  linked = ranked.disagree.linked;
  named = λ p. p == 7;
  same_prefix = λ p q. p == q;
  is_update = is_update;
  mentions = mentions;
  no_path = [];
  best = ranked.disagree.best;
}

abbrev pub Steps : Type 0
Steps = List (NetworkStep Note ℕ (List ℕ))

abbrev pub does : ℕ → Event Note ℕ (List ℕ) → NetworkStep Note ℕ (List ℕ)
does u e = record { router = u; event = e }

abbrev pub moves : ℕ → ℕ → Move Note → NetworkStep Note ℕ (List ℕ)
moves u v m = does u (Acts (Moves v m))

-- a session comes up in incarnation 1
abbrev pub comes_up : ℕ → ℕ → Steps
comes_up u v =
    moves u v Dials ∷ moves v u Dials ∷ moves u v (Takes (Dial 1)) ∷ moves v u (Takes (Dial 1))
    ∷ moves u v (Tells Open) ∷ moves v u (Tells Open) ∷ moves u v (Takes (Says 1 Open)) ∷ moves v u (Takes (Says 1 Open))
    ∷ moves u v (Tells Keepalive) ∷ moves v u (Tells Keepalive) ∷ moves u v (Takes (Says 1 Keepalive)) ∷ moves v u (Takes (Says 1 Keepalive)) ∷ []

-- router 1 originates the prefix, once; it tells 2 and 3, and these tell each other
abbrev pub announces : Steps
announces =
    does 1 (Command (λ p. p == 7) (λ p. [])) ∷ does 1 (Decide 7)
    ∷ does 1 (Advertise 2 7 (Update (1 ∷ []))) ∷ does 1 (Advertise 3 7 (Update (1 ∷ [])))
    ∷ moves 2 1 (Takes (Says 1 (Update (1 ∷ [])))) ∷ moves 3 1 (Takes (Says 1 (Update (1 ∷ []))))
    ∷ does 2 (Decide 7) ∷ does 3 (Decide 7)
    ∷ does 2 (Advertise 3 7 (Update (2 ∷ 1 ∷ []))) ∷ does 3 (Advertise 2 7 (Update (3 ∷ 1 ∷ [])))
    ∷ moves 3 2 (Takes (Says 1 (Update (2 ∷ 1 ∷ [])))) ∷ moves 2 3 (Takes (Says 1 (Update (3 ∷ 1 ∷ [])))) ∷ []

abbrev pub begins : Steps
begins = comes_up 1 2 ++ (comes_up 1 3 ++ (comes_up 2 3 ++ announces))

-- a router decides, tells an UPDATE or takes a message
abbrev pub IsCalm : Event Note ℕ (List ℕ) → Type 0
IsCalm (Acts (Moves v (Takes (Says n m)))) = Unit {0}
IsCalm (Advertise v p m) = Unit {0}
IsCalm (Decide p) = Unit {0}
IsCalm _ = ⊥

abbrev pub AreCalm : Steps → Type 0
AreCalm [] = Unit {0}
AreCalm (t ∷ ts) = IsCalm t.event × AreCalm ts

-- behind these events, of which one is a command, and in which each end dials once, router 2 may change its path as often
-- as one likes, by events that are calm
abbrev pub DisagreeTurnsForEver : Type 0
DisagreeTurnsForEver =
    IsRunOf disagree begins
    × ((n : ℕ) → (more : Steps) × IsNetworkRun disagree (reached disagree begins) more × AreCalm more
    × (n ≤ shifts disagree 7 2 (record { at = reached disagree begins; command = λ u. 0 }) (moments disagree 7 (reached disagree begins) more)))
