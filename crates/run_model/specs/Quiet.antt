-- The quiet stretch after a recording, and what holds of snapshots that are not finished.
use Rattle.std.specs.Prelude.{ℕ, ◌≡◌, true, false, List, [], ◌∷◌, ◌++◌, Some}
use mathlib.Core.Logic.{◌⊎◌}
use Rattle.run_model.specs.Links.{End, said, is_up, incarnation}
use Rattle.run_model.specs.Recordings.{Recorder}
use Rattle.run_model.specs.Routes.{Network, IsNetwork, Router, Routers, Event, Acts, Advertise, Decide, Command, NetworkStep, leaves, updates, route, IsNotPending, advanced, first_routers, IsSettled, IsRunOf, reached}

-- neither a command nor an event in which a session leaves Established (Snapshot counts as an act, and not as a
-- command)
abbrev pub IsQuietEvent : {M P W : Type 0} → Router M P W → Event M P W → Type 0
IsQuietEvent n (Acts act) = leaves n.recorder act ≡ false
IsQuietEvent n (Advertise v p m) = Unit {0}
IsQuietEvent n (Decide p) = Unit {0}
IsQuietEvent n (Command originated kept) = ⊥

module _ {M P W : Type 0} (g : Network M P W) where
  -- a run from w is quiet since s: no router, after its own recording of s, left Established on any link or did a command
  abbrev pub IsQuietSince : ℕ → Routers M P W → List (NetworkStep M P W) → Type 0
  IsQuietSince s w [] = Unit {0}
  IsQuietSince s w (t ∷ ts) =
      (g.routers t.router ≡ true → (c : ℕ → End M) → (w t.router).recorder.copy s ≡ Some c → IsQuietEvent (w t.router) t.event)
      × IsQuietSince s (advanced g w t) ts

  -- each router that recorded s has its flag
  abbrev pub IsFlaggedQuiet : Routers M P W → ℕ → Type 0
  IsFlaggedQuiet w s =
      (u : ℕ) (c : ℕ → End M) → g.routers u ≡ true → (w u).recorder.copy s ≡ Some c → (w u).quiet s ≡ true

  -- the recording goes on, or is finished, and no channel of it has an UPDATE
  abbrev pub HasStillChannels : ℕ → Recorder M → ℕ → Type 0
  HasStillChannels u x s =
      ((x.unfinished ≡ Some s) × ((v : ℕ) → g.linked u v ≡ true → updates g (x.channel v) ≡ []))
      ⊎ ((channels : ℕ → List M) × (x.part s ≡ Some channels) × ((v : ℕ) → g.linked u v ≡ true → updates g (channels v) ≡ []))

-- nothing that router u recorded speaks against s being settled: nothing was pending, the recording is not lost, and no
-- UPDATE stands in a channel of it; c are the ends of u as it recorded
pub record IsStillSettling {M P W : Type 0} (g : Network M P W) (u : ℕ) (n : Router M P W) (s : ℕ) (c : ℕ → End M) : Type 0 where
  pub calm : IsNotPending g u c (n.kept_at s) (n.originated_at s)
  pub alive : HasStillChannels g u n.recorder s

-- an end is as it was recorded: up in the same incarnation, with the same UPDATEs used, and the same said, so that no
-- UPDATE stands behind its marker
pub record IsEndAsRecorded {M P W : Type 0} (g : Network M P W) (a c : End M) : Type 0 where
  pub up : is_up a ≡ true
  pub c_up : is_up c ≡ true
  pub number : incarnation a ≡ incarnation c
  pub heard : updates g (said (incarnation a) a.used) ≡ updates g (said (incarnation c) c.used)
  pub told : updates g (said (incarnation a) a.appended) ≡ updates g (said (incarnation c) c.appended)

-- a router is as it recorded
pub record IsAsRecorded {M P W : Type 0} (g : Network M P W) (u : ℕ) (n : Router M P W) (s : ℕ) (c : ℕ → End M) : Type 0 where
  pub kept : (p : P) → n.kept p ≡ n.kept_at s p
  pub originated : (p : P) → n.originated p ≡ n.originated_at s p
  pub ends : (v : ℕ) → g.linked u v ≡ true → IsEndAsRecorded g (n.recorder.ends v) (c v)

module _ {M P W : Type 0} (g : Network M P W) where
  abbrev pub AreStillSettling : Routers M P W → ℕ → Type 0
  AreStillSettling w s =
      (u : ℕ) (c : ℕ → End M) → g.routers u ≡ true → (w u).recorder.copy s ≡ Some c
      → IsStillSettling g u (w u) s c

  abbrev pub AreAsRecorded : Routers M P W → ℕ → Type 0
  AreAsRecorded w s =
      (u : ℕ) (c : ℕ → End M) → g.routers u ≡ true → (w u).recorder.copy s ≡ Some c → IsAsRecorded g u (w u) s c

-- the invariant of unfinished snapshots: some recorded channel has an UPDATE, something was pending, or a recording is
-- lost; else, as long as the run is quiet, every router that recorded s is as it recorded
abbrev pub UnfinishedSnapshotsHold : (M P W : Type 0) → Type 0
UnfinishedSnapshotsHold M P W =
    (g : Network M P W) → IsNetwork g → (ts : List (NetworkStep M P W)) → IsRunOf g ts → (s : ℕ)
    → AreStillSettling g (reached g ts) s → IsQuietSince g s (first_routers g) ts
    → AreAsRecorded g (reached g ts) s

-- the flag that a router keeps says that the run was quiet
abbrev pub QuietRunsAreFlagged : (M P W : Type 0) → Type 0
QuietRunsAreFlagged M P W =
    (g : Network M P W) (ts : List (NetworkStep M P W)) (s : ℕ) → IsQuietSince g s (first_routers g) ts
    → IsFlaggedQuiet g (reached g ts) s

-- at every place from a router's own recording on up to which the run is quiet, its kept paths and its routes are those
-- that a settled snapshot recorded
abbrev pub StaysWhileQuiet : (M P W : Type 0) → Type 0
StaysWhileQuiet M P W =
    (g : Network M P W) → IsNetwork g → (before later : List (NetworkStep M P W)) → IsRunOf g (before ++ later)
    → (s : ℕ)
    → IsSettled g (reached g (before ++ later)) s → IsQuietSince g s (first_routers g) before
    → (u : ℕ) (p : P) (c : ℕ → End M) → g.routers u ≡ true → g.named p ≡ true
    → (reached g before u).recorder.copy s ≡ Some c
    → ((reached g before u).kept p ≡ (reached g (before ++ later) u).kept_at s p)
    × (route g u (reached g before u).recorder.ends p ((reached g before u).originated p)
    ≡ (reached g (before ++ later) u).kept_at s p)
