-- From what a router keeps of its recordings to places in a run: a cut gives for each router a number of its own first
-- events (Chandy and Lamport 1985).
use Rattle.std.specs.Prelude.{ℕ, zero, suc, ◌≤◌, ◌≡◌, ◌≢◌, ◌==◌, Bool, true, false, cond, List, [], ◌∷◌, ◌++◌, Some, None, slice_get}
use mathlib.Core.List.{IsPrefix}
use Rattle.run_model.specs.Links.{End, said, is_up, incarnation}
use Rattle.run_model.specs.Octets.{Passing, passing, OnlyOctets}
use Rattle.run_model.specs.Recordings.{Act, recorder_after}
use Rattle.run_model.specs.Routes.{Network, IsNetwork, Router, Routers, Event, Acts, Advertise, Decide, Command, NetworkStep, records, advanced, routers_after, first_routers, IsNetworkRun, updates, HasAllParts, IsRunOf, reached}

module _ {M P W : Type 0} where
  -- whether an event records a number
  abbrev pub records_in : Event M P W → ℕ → Bool
  records_in (Acts act) s = records act s
  records_in (Advertise v p m) s = false
  records_in (Decide p) s = false
  records_in (Command originated kept) s = false

  -- a router's own events of a run
  abbrev pub own_events : ℕ → List (NetworkStep M P W) → List (Event M P W)
  own_events u [] = []
  own_events u (t ∷ ts) = cond (u == t.router) (t.event ∷ own_events u ts) (own_events u ts)

  -- the k-th own event of u records s
  abbrev pub RecordsAt : List (NetworkStep M P W) → ℕ → ℕ → ℕ → Type 0
  RecordsAt ts u s k = (e : Event M P W) × (slice_get (own_events u ts) k ≡ Some e) × (records_in e s ≡ true)

  abbrev pub step_of : ℕ → Act M → NetworkStep M P W
  step_of u act = record { router = u; event = Acts act }

module _ {M P W : Type 0} (g : Network M P W) where
  -- a router after its first k own events of a run from w
  abbrev pub after_own : Routers M P W → List (NetworkStep M P W) → ℕ → ℕ → Router M P W
  after_own w [] u k = w u
  after_own w (t ∷ ts) u zero = w u
  after_own w (t ∷ ts) u (suc k) =
      cond (u == t.router) (after_own (advanced g w t) ts u k) (after_own (advanced g w t) ts u (suc k))

-- what a router has as recorded is its state after the event that recorded the number
abbrev pub RecordsItsState : (M P W : Type 0) → Type 0
RecordsItsState M P W =
    (g : Network M P W) (before later : List (NetworkStep M P W)) (u s : ℕ) (act : Act M)
    → IsRunOf g (before ++ step_of u act ∷ later) → records act s ≡ true
    → ((reached g (before ++ step_of u act ∷ later) u).recorder.copy s ≡ Some (recorder_after (reached g before u).recorder act).ends)
    × ((reached g (before ++ step_of u act ∷ later) u).kept_at s ≡ (reached g before u).kept)
    × ((reached g (before ++ step_of u act ∷ later) u).originated_at s ≡ (reached g before u).originated)

-- if a router has something as recorded, some event recorded it
abbrev pub WasRecorded : (M P W : Type 0) → Type 0
WasRecorded M P W =
    (g : Network M P W) (ts : List (NetworkStep M P W)) (u s : ℕ) (c : ℕ → End M)
    → (reached g ts u).recorder.copy s ≡ Some c
    → (before later : List (NetworkStep M P W)) × (act : Act M) × (ts ≡ before ++ step_of u act ∷ later)
    × (records act s ≡ true)

-- a number that is neither being recorded nor has a part, and is not above the last, never gets a part
abbrev pub LostStaysLost : (M P W : Type 0) → Type 0
LostStaysLost M P W =
    (g : Network M P W) (ts : List (NetworkStep M P W)) (w : Routers M P W) (u s : ℕ) → IsNetworkRun g w ts
    → s ≤ (w u).recorder.last
    → (w u).recorder.unfinished ≢ Some s → (w u).recorder.part s ≡ None
    → (routers_after g w ts u).recorder.part s ≡ None

-- for each number that a router recorded, exactly one of its own events recorded it, and what it has as recorded is its
-- state after that event
abbrev pub RecordedAtOnePlace : (M P W : Type 0) → Type 0
RecordedAtOnePlace M P W =
    (g : Network M P W) (ts : List (NetworkStep M P W)) → IsRunOf g ts → (u s : ℕ) (c : ℕ → End M)
    → (reached g ts u).recorder.copy s ≡ Some c
    → (k : ℕ) × RecordsAt ts u s k × ((j : ℕ) → RecordsAt ts u s j → j ≡ k)
    × ((after_own g (first_routers g) ts u (suc k)).recorder.ends ≡ c)
    × ((after_own g (first_routers g) ts u (suc k)).kept ≡ (reached g ts u).kept_at s)
    × ((after_own g (first_routers g) ts u (suc k)).originated ≡ (reached g ts u).originated_at s)

-- what a cut leaves of the link from v to u; a is the end of u and b that of v after their events inside. Both ends are
-- in one incarnation; what was taken inside was appended inside; these UPDATEs are those said inside and not acted on
-- inside
pub record IsCutOfLink {M P W : Type 0} (g : Network M P W) (a b : End M) (channel : List M) : Type 0 where
  pub one_incarnation : incarnation a ≡ incarnation b
  pub consistent : IsPrefix a.taken b.appended
  pub in_flight :
      updates g (said (incarnation a) b.appended) ≡ updates g (said (incarnation a) a.used) ++ updates g channel
  pub up : is_up a ≡ true

-- a router that finished a recording of s recorded it
abbrev pub FinishedWasRecorded : (M P W : Type 0) → Type 0
FinishedWasRecorded M P W =
    (g : Network M P W) (ts : List (NetworkStep M P W)) → IsRunOf g ts → (u s : ℕ) (channels : ℕ → List M)
    → (reached g ts u).recorder.part s ≡ Some channels → (c : ℕ → End M)
    × ((reached g ts u).recorder.copy s ≡ Some c)

-- the end of u towards v where a cut leaves it: inside has, for each router, a number of its own first events
abbrev pub end_inside : {M P W : Type 0} → Network M P W → List (NetworkStep M P W) → (ℕ → ℕ) → ℕ → ℕ → End M
end_inside g ts inside u v = (after_own g (first_routers g) ts u (inside u)).recorder.ends v

-- the cut of a snapshot: of each router, its own first events up to the one that recorded are inside
abbrev pub IsCutOf : {M P W : Type 0} → Network M P W → List (NetworkStep M P W) → ℕ → (ℕ → ℕ) → Type 0
IsCutOf g ts s inside = (u : ℕ) → g.routers u ≡ true → (k : ℕ) × (inside u ≡ suc k) × RecordsAt ts u s k

-- the recording events of a finished snapshot make a consistent cut: of each router, its own first events up to the one
-- that recorded are inside, and each recorded channel is what that cut leaves of its link
abbrev pub RecordingsMakeACut : (M P W : Type 0) → Type 0
RecordingsMakeACut M P W =
    (g : Network M P W) → IsNetwork g → (ts : List (NetworkStep M P W)) → IsRunOf g ts → (s : ℕ)
    → HasAllParts g (reached g ts) s
    → (inside : ℕ → ℕ) × IsCutOf g ts s inside
    × ((u v : ℕ) (channels : ℕ → List M) → g.linked u v ≡ true → (reached g ts u).recorder.part s ≡ Some channels
    → IsCutOfLink g (end_inside g ts inside u v) (end_inside g ts inside v u) (channels v))

-- the octets that a router had taken inside, handled or not, had been appended inside. A router that had taken all
-- entries of its peer's, the marker among them, holds none
abbrev pub TakenOctetsAreInside : (M P W : Type 0) → Type 0
TakenOctetsAreInside M P W =
    (g : Network M P W) → IsNetwork g → (ts : List (NetworkStep M P W)) → IsRunOf g ts → (s : ℕ)
    → HasAllParts g (reached g ts) s → (inside : ℕ → ℕ) → IsCutOf g ts s inside
    → (written : M → List ℕ) (u v : ℕ) → g.linked u v ≡ true → (held : List (Passing M)) → OnlyOctets held
    → ((end_inside g ts inside u v).taken ≡ (end_inside g ts inside v u).appended → held ≡ [])
    → IsPrefix (passing written (end_inside g ts inside u v).taken ++ held)
    (passing written ((reached g ts v).recorder.ends u).appended)
    → IsPrefix (passing written (end_inside g ts inside u v).taken ++ held)
    (passing written (end_inside g ts inside v u).appended)
