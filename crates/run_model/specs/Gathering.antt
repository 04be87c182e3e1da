-- Journals gathered into one list by stamp, then router.
use Rattle.std.specs.Prelude.{◌≡◌, ℕ, ◌≤◌, ◌<◌, ◌==◌, ◌⊎◌, List, filter, map, All}
use Rattle.std.specs.Ordering.{nat_cmp}
use Rattle.std.specs.List.Sorted.{IsNonDecreasingBy, IsStableByKey}
use Rattle.run_model.specs.Journals.{events_of}
use Rattle.run_model.specs.Stamps.{Pairwise, Stamped, events_in, FitsItem, TakesBeginPuts, IsStampedOrder}

-- the lines of journals: of each its stamp and its router
module _ {Entry : Type 0} (stamp router : Entry → ℕ) where
  -- one line comes before another: by stamp, and of one stamp by router
  abbrev pub ComesBefore : Entry → Entry → Type 0
  ComesBefore a b = (stamp a < stamp b) ⊎ ((stamp a ≡ stamp b) × (router a ≤ router b))

  -- the lines of one router
  abbrev pub entries_of : ℕ → List Entry → List Entry
  entries_of u es = filter (λ e. router e == u) es

  -- no router's stamps fall in its own journal
  abbrev pub JournalsRise : List Entry → Type 0
  JournalsRise all = (u : ℕ) → IsNonDecreasingBy stamp (entries_of u all)

  -- gathered: by stamp, then router, and each router's own as it stood
  pub record IsGathered (all gathered : List Entry) : Type 0 where
    pub in_order : Pairwise ComesBefore gathered
    pub journals : (u : ℕ) → entries_of u gathered ≡ entries_of u all

  -- journals that stand one after another, routers rising, are gathered by a stable sort by stamp alone
  abbrev pub SortingByStampGathers : Type 0
  SortingByStampGathers =
      (all sorted : List Entry) → IsNonDecreasingBy router all → JournalsRise all
      → IsNonDecreasingBy stamp sorted → IsStableByKey stamp nat_cmp all sorted → IsGathered all sorted

  -- journals in any order are gathered by a sort by stamp, then router, that leaves lines with the same stamp and
  -- router in their order
  abbrev pub SortingByStampThenRouterGathers : Type 0
  SortingByStampThenRouterGathers =
      (all sorted : List Entry) → JournalsRise all → Pairwise ComesBefore sorted
      → ((s u : ℕ) → filter (λ e. stamp e == s) (entries_of u sorted) ≡ filter (λ e. stamp e == s) (entries_of u all))
      → IsGathered all sorted

  -- journals can be gathered; there is one gathered list; and its stamps rise
  abbrev pub JournalsCanBeGathered : Type 0
  JournalsCanBeGathered = (all : List Entry) → JournalsRise all → (gathered : List Entry) × IsGathered all gathered

  abbrev pub GatheredIsOne : Type 0
  GatheredIsOne = (all first second : List Entry) → IsGathered all first → IsGathered all second → first ≡ second

  abbrev pub GatheredStampsRise : Type 0
  GatheredStampsRise = (all gathered : List Entry) → IsGathered all gathered → IsNonDecreasingBy stamp gathered

-- lines may leave something out, as the items of events: if they are gathered, there is a gathered list of the whole
-- entries that has these lines
abbrev pub GatheringLifts : {Whole Entry : Type 0} → (Whole → Entry) → (Entry → ℕ) → (Entry → ℕ) → Type 0
GatheringLifts {Whole} {Entry} entry stamp router =
    (all : List Whole) (gathered : List Entry)
    → JournalsRise stamp router (map entry all) → IsGathered stamp router (map entry all) gathered
    → (whole : List Whole) × (map entry whole ≡ gathered)
    × IsGathered (λ w. stamp (entry w)) (λ w. router (entry w)) all whole

-- gathered events are an order by stamps of the journals that they were gathered from
abbrev pub GatheredEventsAreStamped : (Own Item Offer : Type 0) → Type 0
GatheredEventsAreStamped Own Item Offer =
    (all ms : List (Stamped Own Item Offer))
    → IsGathered (λ m. m.stamp) (λ m. m.event.router) all ms
    → All (λ m. FitsItem m.stamp m.event.event) all → TakesBeginPuts (λ u. events_of u (events_in all))
    → IsStampedOrder Own Item Offer (λ u. events_of u (events_in all)) ms
