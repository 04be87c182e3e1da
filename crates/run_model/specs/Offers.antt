-- What routers offer to a collector of snapshots, and how a snapshot comes out.
use Rattle.std.specs.Prelude.{ℕ, ◌<◌, ◌≤◌, ◌≡◌, ◌≢◌, ◌==◌, Bool, true, false, cond, List, [], ◌∷◌, ◌++◌, length, Option, Some, None, slice_get, filter}
use mathlib.Core.List.{IsPrefix}
use mathlib.Core.Logic.{◌⊎◌}
use Rattle.run_model.specs.Links.{End, Dials, Tells, Marks, HangsUp, Takes, is_up, incarnation, RunsGoOn}
use Rattle.run_model.specs.Recordings.{Recorder, Act, Moves, EndsChannel, IgnoresMarker, Begins, Follows, Finishes}
use Rattle.run_model.specs.Routes.{Network, IsNetwork, Router, Routers, Event, Acts, Advertise, Decide, Command, NetworkStep, updates, IsNotPending, router_after, MayHappen, first_routers, IsSettled, HasAllParts, IsRunOf, reached, IsStableAssignment, route}
use Rattle.run_model.specs.Quiet.{IsQuietSince}

-- why a recording was lost: a linked session was not Established as it began, left Established before it was finished, or
-- a greater number was recorded
pub data Cause : Type 0 where
  NotUp : Cause
  Closed : Cause
  Superseded : Cause

-- what a router recorded
pub record Part (M P W : Type 0) : Type 0 where
  pub kept : P → W
  pub originated : P → Bool
  pub incarnation : ℕ → ℕ  -- of the link to each peer
  pub pending : Bool
  pub channel : ℕ → List M  -- the UPDATEs of the channel from each peer

pub data Offer (M P W : Type 0) : Type 0 where
  Finished : (number : ℕ) (part : Part M P W) → Offer M P W
  Lost : (number peer incarnation : ℕ) (cause : Cause) → Offer M P W

abbrev pub IsIn : {A : Type 0} → A → List A → Type 0
IsIn x [] = ⊥
IsIn x (y ∷ ys) = (x ≡ y) ⊎ IsIn x ys

abbrev pub IsLeast : (ℕ → Type 0) → ℕ → Type 0
IsLeast Is v = Is v × ((w : ℕ) → w < v → Is w → ⊥)

module _ {M P W : Type 0} where
  abbrev pub number_of : Offer M P W → ℕ
  number_of (Finished s part) = s
  number_of (Lost s v e cause) = s

  abbrev pub offers_for : ℕ → List (Offer M P W) → List (Offer M P W)
  offers_for s offers = filter (λ o. number_of o == s) offers

  -- a session that leaves Established loses the unfinished recording
  abbrev pub lost_by_close : Bool → Option ℕ → ℕ → ℕ → List (Offer M P W)
  lost_by_close true (Some s) v e = Lost s v e Closed ∷ []
  lost_by_close true None v e = []
  lost_by_close false unfinished v e = []

module _ {M P W : Type 0} (g : Network M P W) where
  -- recording a greater number loses the unfinished one, by the least peer whose marker it still waits for
  abbrev pub Supersedes : ℕ → Recorder M → Option ℕ → List (Offer M P W) → Type 0
  Supersedes u x None offers = offers ≡ []
  Supersedes u x (Some k) offers =
      (v : ℕ) × IsLeast (λ w. (g.linked u w ≡ true) × (x.waits w ≡ true)) v
      × (offers ≡ Lost k v (incarnation (x.ends v)) Superseded ∷ [])

  -- a recording is lost at once where some linked session is not Established, by the least such peer
  abbrev pub BeginsLost : ℕ → Recorder M → ℕ → Bool → List (Offer M P W) → Type 0
  BeginsLost u x s true offers = offers ≡ []
  BeginsLost u x s false offers =
      (v : ℕ) × IsLeast (λ w. (g.linked u w ≡ true) × (is_up (x.ends w) ≡ false)) v
      × (offers ≡ Lost s v (incarnation (x.ends v)) NotUp ∷ [])

  abbrev pub Records : ℕ → Recorder M → ℕ → Bool → List (Offer M P W) → Type 0
  Records u x s whole offers =
      (first then : List (Offer M P W)) × Supersedes u x x.unfinished first × BeginsLost u x s whole then
      × (offers ≡ first ++ then)

  -- a part says what router u recorded as number s, and these channels
  abbrev pub IsPartOf : ℕ → Router M P W → ℕ → (ℕ → List M) → Part M P W → Type 0
  IsPartOf u n s channels part =
      (c : ℕ → End M) × (n.recorder.copy s ≡ Some c)
      × ((p : P) → g.named p ≡ true → part.kept p ≡ n.kept_at s p)
      × ((p : P) → g.named p ≡ true → part.originated p ≡ n.originated_at s p)
      × ((v : ℕ) → g.linked u v ≡ true → part.incarnation v ≡ incarnation (c v))
      × ((part.pending ≡ false → IsNotPending g u c (n.kept_at s) (n.originated_at s))
      × (IsNotPending g u c (n.kept_at s) (n.originated_at s) → part.pending ≡ false))
      × ((v : ℕ) → g.linked u v ≡ true → part.channel v ≡ updates g (channels v))

  -- the offers that an act queues
  abbrev pub QueuesByAct : ℕ → Router M P W → Act M → List (Offer M P W) → Type 0
  QueuesByAct u n (Moves v Dials) offers = offers ≡ []
  QueuesByAct u n (Moves v (Tells m)) offers = offers ≡ []
  QueuesByAct u n (Moves v (Marks s)) offers = offers ≡ []
  QueuesByAct u n (Moves v HangsUp) offers =
      offers ≡ lost_by_close (is_up (n.recorder.ends v)) n.recorder.unfinished v (incarnation (n.recorder.ends v))
  QueuesByAct u n (Moves v (Takes x)) offers = offers ≡ []
  QueuesByAct u n (EndsChannel v e s) offers = offers ≡ []
  QueuesByAct u n (IgnoresMarker v e s) offers = offers ≡ []
  QueuesByAct u n (Begins s whole) offers = Records u n.recorder s whole offers
  QueuesByAct u n (Follows v e s whole) offers = Records u n.recorder s whole offers
  QueuesByAct u n (Finishes s) offers =
      (part : Part M P W) × IsPartOf u n s n.recorder.channel part × (offers ≡ Finished s part ∷ [])

  -- the offers that an event queues
  abbrev pub Queues : ℕ → Router M P W → Event M P W → List (Offer M P W) → Type 0
  Queues u n (Acts act) offers = QueuesByAct u n act offers
  Queues u n (Advertise v p m) offers = offers ≡ []
  Queues u n (Decide p) offers = offers ≡ []
  Queues u n (Command originated kept) offers = offers ≡ []

-- an offer that was made, and by whom
pub record Made (M P W : Type 0) : Type 0 where
  pub router : ℕ
  pub offer : Offer M P W

-- the routers, all that each queued, and all offers made to the collector, in their order
pub record Offering (M P W : Type 0) : Type 0 where
  pub routers : Routers M P W
  pub queued : ℕ → List (Offer M P W)
  pub made : List (Made M P W)

pub data OfferEvent (M P W : Type 0) : Type 0 where
  Happens : (event : Event M P W) (offers : List (Offer M P W)) → OfferEvent M P W
  Makes : (offer : Offer M P W) → OfferEvent M P W

pub record OfferStep (M P W : Type 0) : Type 0 where
  pub router : ℕ
  pub event : OfferEvent M P W

module _ {M P W : Type 0} where
  abbrev pub made_of : ℕ → Offer M P W → Made M P W
  made_of u offer = record { router = u; offer = offer }

  abbrev pub event_of : ℕ → Event M P W → List (Offer M P W) → OfferStep M P W
  event_of u event offers = record { router = u; event = Happens event offers }

  abbrev pub made_by : ℕ → List (Made M P W) → List (Offer M P W)
  made_by u [] = []
  made_by u (m ∷ ms) = cond (u == m.router) (m.offer ∷ made_by u ms) (made_by u ms)

  abbrev pub made_for : ℕ → List (Made M P W) → List (Made M P W)
  made_for s ms = filter (λ m. number_of m.offer == s) ms

module _ {M P W : Type 0} (g : Network M P W) where
  -- an offer that is made is the next of its router's queue
  abbrev pub MayOffer : Offering M P W → ℕ → OfferEvent M P W → Type 0
  MayOffer x u (Happens event offers) = MayHappen g x.routers u event × Queues g u (x.routers u) event offers
  MayOffer x u (Makes offer) = slice_get (x.queued u) (length (made_by u x.made)) ≡ Some offer

  abbrev pub offering_after : Offering M P W → ℕ → OfferEvent M P W → Offering M P W
  offering_after x u (Happens event offers) = record {
    routers = λ y. cond (y == u) (router_after g y (x.routers y) event) (x.routers y);
    queued = λ y. cond (y == u) (x.queued y ++ offers) (x.queued y);
    made = x.made;
  }
  offering_after x u (Makes offer) = record {
    routers = x.routers;
    queued = x.queued;
    made = x.made ++ made_of u offer ∷ [];
  }

  abbrev pub IsOfferRun : Offering M P W → List (OfferStep M P W) → Type 0
  IsOfferRun x [] = Unit {0}
  IsOfferRun x (t ∷ ts) = MayOffer x t.router t.event × IsOfferRun (offering_after x t.router t.event) ts

  abbrev pub offerings_after : Offering M P W → List (OfferStep M P W) → Offering M P W
  offerings_after x [] = x
  offerings_after x (t ∷ ts) = offerings_after (offering_after x t.router t.event) ts

  abbrev pub first_offering : Offering M P W
  first_offering = record { routers = first_routers g; queued = λ u. []; made = [] }

  -- offers for a snapshot decide it where one is a Lost, or there is a Part of every router
  abbrev pub Decides : ℕ → List (Made M P W) → Type 0
  Decides s ms =
      ((u v e : ℕ) × (cause : Cause) × IsIn (made_of u (Lost s v e cause)) ms)
      ⊎ ((u : ℕ) → g.routers u ≡ true → (part : Part M P W) × IsIn (made_of u (Finished s part)) ms)

  -- the shortest deciding beginning
  abbrev pub IsDeciding : ℕ → List (Made M P W) → List (Made M P W) → Type 0
  IsDeciding s front all =
      IsPrefix front all × Decides s front
      × ((shorter : List (Made M P W)) → IsPrefix shorter front → Decides s shorter → shorter ≡ front)

-- why a snapshot is not settled
pub data Why : Type 0 where
  Pending : Why
  InFlight : (peer : ℕ) → Why
  Mismatch : (peer : ℕ) → Why

-- the order in which the reasons are looked for at a router
abbrev pub Precedes : Why → Why → Type 0
Precedes Pending Pending = ⊥
Precedes Pending (InFlight w) = Unit {0}
Precedes Pending (Mismatch w) = Unit {0}
Precedes (InFlight v) Pending = ⊥
Precedes (InFlight v) (InFlight w) = v < w
Precedes (InFlight v) (Mismatch w) = Unit {0}
Precedes (Mismatch v) Pending = ⊥
Precedes (Mismatch v) (InFlight w) = ⊥
Precedes (Mismatch v) (Mismatch w) = v < w

pub data Outcome : Type 0 where
  Waiting : Outcome
  Abandoned : (router peer incarnation : ℕ) (cause : Cause) → Outcome
  Moving : (router : ℕ) (why : Why) → Outcome
  Settled : Outcome

module _ {M P W : Type 0} (g : Network M P W) where
  -- the parts that these offers hold show this at router u
  abbrev pub Shows : ℕ → List (Made M P W) → ℕ → Why → Type 0
  Shows s ms u Pending = (part : Part M P W) × IsIn (made_of u (Finished s part)) ms × (part.pending ≡ true)
  Shows s ms u (InFlight v) =
      (part : Part M P W) × IsIn (made_of u (Finished s part)) ms × (g.linked u v ≡ true)
      × (part.channel v ≢ [])
  Shows s ms u (Mismatch v) =
      (part other : Part M P W) × IsIn (made_of u (Finished s part)) ms × IsIn (made_of v (Finished s other)) ms
      × (g.linked u v ≡ true) × (part.incarnation v ≢ other.incarnation u)

  -- how a snapshot comes out, by the offers made: at the shortest deciding beginning of those for it
  abbrev pub HasOutcome : ℕ → List (Made M P W) → Outcome → Type 0
  HasOutcome s made Waiting =
      (front : List (Made M P W)) → IsPrefix front (made_for s made) → Decides g s front → ⊥
  HasOutcome s made (Abandoned u v e cause) =
      (front : List (Made M P W)) × IsDeciding g s front (made_for s made)
      × IsIn (made_of u (Lost s v e cause)) front
  HasOutcome s made (Moving u why) =
      (front : List (Made M P W)) × IsDeciding g s front (made_for s made)
      × ((w v e : ℕ) (cause : Cause) → IsIn (made_of w (Lost s v e cause)) front → ⊥)
      × (g.routers u ≡ true) × Shows s front u why
      × ((w : ℕ) → w < u → g.routers w ≡ true → (other : Why) → Shows s front w other → ⊥)
      × ((other : Why) → Precedes other why → Shows s front u other → ⊥)
  HasOutcome s made Settled =
      (front : List (Made M P W)) × IsDeciding g s front (made_for s made)
      × ((w v e : ℕ) (cause : Cause) → IsIn (made_of w (Lost s v e cause)) front → ⊥)
      × ((w : ℕ) → g.routers w ≡ true → (other : Why) → Shows s front w other → ⊥)

  -- the events of a run without the offers made
  abbrev pub network_step : ℕ → OfferEvent M P W → List (NetworkStep M P W)
  network_step u (Happens event offers) = record { router = u; event = event } ∷ []
  network_step u (Makes offer) = []

  abbrev pub network_steps : List (OfferStep M P W) → List (NetworkStep M P W)
  network_steps [] = []
  network_steps (t ∷ ts) = network_step t.router t.event ++ network_steps ts

  -- these events are a run from the opening, and the state that they reach
  abbrev pub IsOfferRunOf : List (OfferStep M P W) → Type 0
  IsOfferRunOf ts = IsOfferRun g (first_offering g) ts

  abbrev pub final : List (OfferStep M P W) → Offering M P W
  final ts = offerings_after g (first_offering g) ts

-- by any offers made, in a run or not, a snapshot comes out in at most one way
abbrev pub OutcomeIsOne : (M P W : Type 0) → Type 0
OutcomeIsOne M P W =
    (g : Network M P W) (s : ℕ) (made : List (Made M P W)) (a b : Outcome) → HasOutcome g s made a
    → HasOutcome g s made b → a ≡ b

abbrev pub OfferRunsGoOn : (M P W : Type 0) → Type 0
OfferRunsGoOn M P W = (g : Network M P W) → RunsGoOn (IsOfferRun g) (offerings_after g) (first_offering g)

-- without the offers, a run with offers is a run of the network, and ends in the same routers
abbrev pub OffersAside : (M P W : Type 0) → Type 0
OffersAside M P W =
    (g : Network M P W) (ts : List (OfferStep M P W)) → IsOfferRunOf g ts
    → IsRunOf g (network_steps g ts) × (reached g (network_steps g ts) ≡ (final g ts).routers)

-- each router makes at most one offer for each number, and queues at most one
abbrev pub AtMostOneOffer : (M P W : Type 0) → Type 0
AtMostOneOffer M P W =
    (g : Network M P W) (ts : List (OfferStep M P W)) → IsOfferRunOf g ts → (u s : ℕ)
    → (length (offers_for s ((final g ts).queued u)) ≤ 1)
    × (length (offers_for s (made_by u (final g ts).made)) ≤ 1)

-- for a number that it recorded, a router either still records it and has queued no offer, or has queued one
abbrev pub RecordedOrOffered : (M P W : Type 0) → Type 0
RecordedOrOffered M P W =
    (g : Network M P W) (ts : List (OfferStep M P W)) → IsOfferRunOf g ts → (u s : ℕ) (c : ℕ → End M)
    → ((final g ts).routers u).recorder.copy s ≡ Some c
    → ((((final g ts).routers u).recorder.unfinished ≡ Some s) × (offers_for s ((final g ts).queued u) ≡ []))
    ⊎ ((((final g ts).routers u).recorder.unfinished ≢ Some s) × (length (offers_for s ((final g ts).queued u)) ≡ 1))

-- before it recorded a number, a router has queued and made no offer for it
abbrev pub NoOfferBeforeItsRecording : (M P W : Type 0) → Type 0
NoOfferBeforeItsRecording M P W =
    (g : Network M P W) (ts : List (OfferStep M P W)) → IsOfferRunOf g ts → (u s : ℕ)
    → ((final g ts).routers u).recorder.copy s ≡ None
    → (offers_for s ((final g ts).queued u) ≡ []) × (offers_for s (made_by u (final g ts).made) ≡ [])

-- a Lost that an event queued stays the router's one offer for that number
abbrev pub LostIsFinal : (M P W : Type 0) → Type 0
LostIsFinal M P W =
    (g : Network M P W) (before later : List (OfferStep M P W)) (u s v e : ℕ) (cause : Cause) (event : Event M P W) (offers : List (Offer M P W))
    → IsOfferRunOf g (before ++ event_of u event offers ∷ later) → IsIn (Lost s v e cause) offers
    → offers_for s ((final g (before ++ event_of u event offers ∷ later)).queued u) ≡ Lost s v e cause ∷ []

-- a router's window is from its recording until an offer for it is queued. The first close in it queues a Lost with
-- that number, peer and incarnation. The Lost stays the router's one offer for that number: no Part of it ever follows
abbrev pub FirstCloseIsLost : (M P W : Type 0) → Type 0
FirstCloseIsLost M P W =
    (g : Network M P W) (before later : List (OfferStep M P W)) (u s v : ℕ) (offers : List (Offer M P W)) (c : ℕ → End M)
    → IsOfferRunOf g (before ++ event_of u (Acts (Moves v HangsUp)) offers ∷ later)
    → ((final g before).routers u).recorder.copy s ≡ Some c → offers_for s ((final g before).queued u) ≡ []
    → is_up (((final g before).routers u).recorder.ends v) ≡ true
    → (offers ≡ Lost s v (incarnation (((final g before).routers u).recorder.ends v)) Closed ∷ [])
    × (offers_for s ((final g (before ++ event_of u (Acts (Moves v HangsUp)) offers ∷ later)).queued u)
    ≡ Lost s v (incarnation (((final g before).routers u).recorder.ends v)) Closed ∷ [])

-- each Part that was made is what its router recorded, with the channels of its finished recording
abbrev pub PartsAreRecorded : (M P W : Type 0) → Type 0
PartsAreRecorded M P W =
    (g : Network M P W) (ts : List (OfferStep M P W)) → IsOfferRunOf g ts → (u s : ℕ) (part : Part M P W)
    → IsIn (made_of u (Finished s part)) (final g ts).made
    → (channels : ℕ → List M) × (((final g ts).routers u).recorder.part s ≡ Some channels)
    × IsPartOf g u ((final g ts).routers u) s channels part

-- a snapshot that is decided and not abandoned has a part of every router
abbrev pub NotAbandonedHasAllParts : (M P W : Type 0) → Type 0
NotAbandonedHasAllParts M P W =
    (g : Network M P W) (ts : List (OfferStep M P W)) → IsOfferRunOf g ts → (s : ℕ)
    → (HasOutcome g s (final g ts).made Settled → HasAllParts g (final g ts).routers s)
    × ((u : ℕ) (why : Why) → HasOutcome g s (final g ts).made (Moving u why) → HasAllParts g (final g ts).routers s)

-- a snapshot whose outcome is Settled is settled
abbrev pub SettledOutcomeIsSettled : (M P W : Type 0) → Type 0
SettledOutcomeIsSettled M P W =
    (g : Network M P W) (ts : List (OfferStep M P W)) → IsOfferRunOf g ts → (s : ℕ)
    → HasOutcome g s (final g ts).made Settled → IsSettled g (final g ts).routers s

-- no two parts name different incarnations of a link
abbrev pub MismatchNeverComes : (M P W : Type 0) → Type 0
MismatchNeverComes M P W =
    (g : Network M P W) → IsNetwork g → (ts : List (OfferStep M P W)) → IsOfferRunOf g ts → (s u v : ℕ)
    → HasOutcome g s (final g ts).made (Moving u (Mismatch v)) → ⊥

-- router u made this part of snapshot s
abbrev pub HasMade : {M P W : Type 0} → Network M P W → List (OfferStep M P W) → ℕ → ℕ → Part M P W → Type 0
HasMade g ts s u part = IsIn (made_of u (Finished s part)) (final g ts).made

-- if the outcome is Settled, the paths of the parts are a stable assignment, for each prefix
abbrev pub SettledOutcomeIsStable : (M P W : Type 0) → Type 0
SettledOutcomeIsStable M P W =
    (g : Network M P W) → IsNetwork g → (ts : List (OfferStep M P W)) → IsOfferRunOf g ts → (s : ℕ)
    → HasOutcome g s (final g ts).made Settled
    → (parts : ℕ → Part M P W) → ((u : ℕ) → g.routers u ≡ true → HasMade g ts s u (parts u)) → (p : P)
    → g.named p ≡ true
    → IsStableAssignment g p (λ u. (parts u).originated p) (λ u. (parts u).kept p)

-- the paths of the parts are the kept paths and the routes of each router, at every place from its own recording on up
-- to which the run is quiet
abbrev pub SettledOutcomeStays : (M P W : Type 0) → Type 0
SettledOutcomeStays M P W =
    (g : Network M P W) → IsNetwork g → (before later : List (OfferStep M P W))
    → IsOfferRunOf g (before ++ later)
    → (s : ℕ) → HasOutcome g s (final g (before ++ later)).made Settled
    → IsQuietSince g s (first_routers g) (network_steps g before)
    → (u : ℕ) (p : P) (c : ℕ → End M) (part : Part M P W) → g.routers u ≡ true → g.named p ≡ true
    → ((final g before).routers u).recorder.copy s ≡ Some c → HasMade g (before ++ later) s u part
    → (((final g before).routers u).kept p ≡ part.kept p)
    × (route g u ((final g before).routers u).recorder.ends p (((final g before).routers u).originated p) ≡ part.kept p)
