-- Examples: small networks of toy speakers, which append numbers towards a peer and put them later, in order.
use Rattle.std.specs.Prelude.{◌≡◌, ℕ, ◌+◌, ◌==◌, if◌then◌else◌, Bool, true, List, [], ◌∷◌, ◌++◌, Some, slice_get, filter, All}
use Rattle.std.specs.List.Sorted.{IsNonDecreasingBy}
use Rattle.run_model.specs.Network.{Steps, Journal, Order, NetworkEvent, NetworkState, alone, puts, takes, offers, offers_in, opening, Run}
use Rattle.run_model.specs.Journals.{events_of, IsJournal}
use Rattle.run_model.specs.CausalOrder.{IsCausal, closing}
use Rattle.run_model.specs.Stamps.{StampedItem, Stamped, events_in, FitsItem, order_of, TakesBeginPuts}
use Rattle.run_model.specs.Exchange.{PutsCommute}
use Rattle.run_model.specs.Gathering.{IsGathered}
use Rattle.run_model.specs.ThroughCut.{first_part, second_part, IsCut, IsConsistentCut, PassesThrough}

-- what it appended towards each peer, how many of that it put, and the sum of what it took
pub record Speaker : Type 0 where
  pub log : ℕ → List ℕ
  pub put : ℕ → ℕ
  pub total : ℕ

-- a number appended towards a peer
pub record Word : Type 0 where
  pub towards : ℕ
  pub number : ℕ

abbrev pub SpeakerStep : Steps Speaker Word ℕ ℕ
SpeakerStep u old (alone w) new =
    new ≡ record { log = λ v. if w.towards == v then old.log v ++ w.number ∷ [] else old.log v; put = old.put; total = old.total }
SpeakerStep u old (puts to x) new =
    (slice_get (old.log to) (old.put to) ≡ Some x)
    × (new ≡ record { log = old.log; put = λ v. if to == v then old.put v + 1 else old.put v; total = old.total })
SpeakerStep u old (takes from x) new = new ≡ record { log = old.log; put = old.put; total = old.total + x }
SpeakerStep u old (offers n) new = (n ≡ old.total) × (new ≡ old)

abbrev pub silent : ℕ → Speaker
silent u = record { log = λ v. []; put = λ v. 0; total = 0 }

abbrev pub appends : ℕ → ℕ → ℕ → NetworkEvent Word ℕ ℕ
appends u v n = record { router = u; event = alone (record { towards = v; number = n }) }

abbrev pub sends : ℕ → ℕ → ℕ → NetworkEvent Word ℕ ℕ
sends u v n = record { router = u; event = puts v n }

abbrev pub hears : ℕ → ℕ → ℕ → NetworkEvent Word ℕ ℕ
hears v u n = record { router = v; event = takes u n }

-- speakers can be reordered: a put reads what was appended, which other events only make longer
abbrev pub SpeakersPutsCommute : Type 0
SpeakersPutsCommute = PutsCommute SpeakerStep

-- router 0 appends 7, then 9, and sends 7, which router 1 hears
abbrev pub told : Order Word ℕ ℕ
told = appends 0 1 7 ∷ appends 0 1 9 ∷ sends 0 1 7 ∷ hears 1 0 7 ∷ []

-- the order `told` is a run, and causal
abbrev pub ToldIsARun : Type 0
ToldIsARun =
    ((last : NetworkState Speaker ℕ ℕ) × Run SpeakerStep (opening silent) told last
    × ((last.routers 1).total ≡ 7) × (last.put 0 1 ≡ 7 ∷ []) × (last.taken 0 1 ≡ 7 ∷ []))
    × IsCausal told

-- the same journals, but what is heard is heard before it is sent
abbrev pub foretold : Order Word ℕ ℕ
foretold = hears 1 0 7 ∷ appends 0 1 7 ∷ appends 0 1 9 ∷ sends 0 1 7 ∷ []

-- the order `foretold` is neither causal nor a run
abbrev pub ForetoldIsNoRun : Type 0
ForetoldIsNoRun =
    ((u : ℕ) → events_of u foretold ≡ events_of u told)
    × (IsCausal foretold → ⊥)
    × ((last : NetworkState Speaker ℕ ℕ) → Run SpeakerStep (opening silent) foretold last → ⊥)

-- the cut after one event of each
abbrev pub after_one : ℕ → ℕ
after_one u = if 0 == u then 1 else (if 1 == u then 1 else 0)

-- what 1 heard inside was sent outside, but appended inside: the send comes earlier
abbrev pub ToldThroughTheCut : Type 0
ToldThroughTheCut =
    (first_part after_one told ≡ appends 0 1 7 ∷ sends 0 1 7 ∷ hears 1 0 7 ∷ [])
    × (second_part after_one told ≡ appends 0 1 9 ∷ [])
    × ((at : ℕ → Speaker) × (last : NetworkState Speaker ℕ ℕ)
    × Run SpeakerStep (opening silent) told last × IsConsistentCut SpeakerStep after_one told silent at last.routers)

-- a wrong twin of the law on cuts: any cut will do
abbrev pub RunsPassThroughAnyCut : Type 0
RunsPassThroughAnyCut =
    (cut : ℕ → ℕ) (order : Order Word ℕ ℕ) (start at : ℕ → Speaker) (last : NetworkState Speaker ℕ ℕ)
    → PutsCommute SpeakerStep → Run SpeakerStep (opening start) order last → IsCut SpeakerStep cut order start at last.routers
    → (middle : ℕ → Speaker) × PassesThrough SpeakerStep cut order start at middle last

-- that law fails for the cut with what 1 heard inside, and nothing of 0
abbrev pub NotThroughAnyCut : Type 0
NotThroughAnyCut = RunsPassThroughAnyCut → ⊥

-- a wrong twin of speakers: counters that send their total as it is, and not what they appended
abbrev pub CounterStep : Steps ℕ ℕ ℕ ℕ
CounterStep u old (alone n) new = new ≡ old + n
CounterStep u old (puts to x) new = (x ≡ old) × (new ≡ old)
CounterStep u old (takes from x) new = new ≡ old + x
CounterStep u old (offers n) new = (n ≡ old) × (new ≡ old)

-- counters in a network: they send only to those that they are linked with
abbrev pub LinkedCounterStep : (ℕ → ℕ → Bool) → Steps ℕ ℕ ℕ ℕ
LinkedCounterStep linked u old (alone n) new = CounterStep u old (alone n) new
LinkedCounterStep linked u old (puts to x) new = (linked u to ≡ true) × CounterStep u old (puts to x) new
LinkedCounterStep linked u old (takes from x) new = CounterStep u old (takes from x) new
LinkedCounterStep linked u old (offers n) new = CounterStep u old (offers n) new

-- the puts of counters do not commute
abbrev pub CountersDoNotCommute : Type 0
CountersDoNotCommute = PutsCommute CounterStep → ⊥

-- journals of routers 1 and 2, one after the other, as stamp and router; and the two gathered
abbrev pub two_journals : List (ℕ × ℕ)
two_journals = (1, 1) ∷ (2, 1) ∷ (1, 2) ∷ (3, 2) ∷ []

abbrev pub TwoJournalsGathered : Type 0
TwoJournalsGathered = IsGathered (λ l. l.0) (λ l. l.1) two_journals ((1, 1) ∷ (1, 2) ∷ (2, 1) ∷ (3, 2) ∷ [])

-- a tie with the greater router first: stamps rise and each journal stands as it stood, but it is not gathered
abbrev pub tie_turned : List (ℕ × ℕ)
tie_turned = (1, 2) ∷ (1, 1) ∷ (2, 1) ∷ (3, 2) ∷ []

abbrev pub TiesAreNotTurned : Type 0
TiesAreNotTurned =
    IsNonDecreasingBy (λ l. l.0) tie_turned
    × ((u : ℕ) → filter (λ l. l.1 == u) tie_turned ≡ filter (λ l. l.1 == u) two_journals)
    × (IsGathered (λ l. l.0) (λ l. l.1) two_journals tie_turned → ⊥)

-- a wrong twin of the law on stamps: an order by router numbers
abbrev pub RoutersGiveCausalOrders : Type 0
RoutersGiveCausalOrders =
    (journal : ℕ → Journal ℕ (StampedItem ℕ) ℕ) (ms : List (Stamped ℕ ℕ ℕ))
    → ((u : ℕ) → events_of u (events_in ms) ≡ journal u) → IsNonDecreasingBy (λ m. m.event.router) ms
    → All (λ m. FitsItem m.stamp m.event.event) ms → TakesBeginPuts journal
    → IsCausal (order_of ms)

-- that law fails if a router takes from one with a greater number
abbrev pub NotByRouters : Type 0
NotByRouters = RoutersGiveCausalOrders → ⊥

-- a wrong twin of the law on causal orders: whatever the collector has
abbrev pub RunsWhateverIsCollected : Type 0
RunsWhateverIsCollected =
    (start finish : ℕ → ℕ) (journal : ℕ → Journal ℕ ℕ ℕ) (collected : List ℕ) (order : Order ℕ ℕ ℕ)
    → ((u : ℕ) → IsJournal CounterStep u (start u) (journal u) (finish u))
    → ((u : ℕ) → events_of u order ≡ journal u) → IsCausal order
    → Run CounterStep (opening start) order (closing finish collected order)

-- that law fails if the collector has an offer that no router made
abbrev pub NotWhateverIsCollected : Type 0
NotWhateverIsCollected = RunsWhateverIsCollected → ⊥

-- a wrong twin of the law on offers: also those that were made inside
abbrev pub AllOffersStand : Type 0
AllOffersStand =
    (cut : ℕ → ℕ) (order : Order ℕ ℕ ℕ) (kind : ℕ → Bool)
    → filter kind (offers_in (first_part cut order ++ second_part cut order)) ≡ filter kind (offers_in order)

-- that law fails if router 0 offers outside and then router 1 inside
abbrev pub NotAllOffersStand : Type 0
NotAllOffersStand = AllOffersStand → ⊥
