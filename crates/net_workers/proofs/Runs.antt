-- The gathered journals of all workers are a run of the network.
use Rattle.std.proofs.Common.{◌≡◌, ℕ, zero, suc, ◌<◌, ◌⊎◌, inl, inr, ◌==◌, Bool, true, false, cond, List, [], ◌∷◌, ◌++◌, map, refl, sym, ap, subst, ◌∙◌, arith, eqb-true, eq-eqb}
use Rattle.std.specs.Prelude.{filter}
use Rattle.std.specs.List.{All, AllPairs, AllByRecursion, Contains}
use Rattle.std.specs.List.Sorted.{IsNonDecreasingBy, IsStableByKey}
use Rattle.std.specs.Ordering.{nat_cmp}
use Rattle.std.proofs.Math.Path.{fun_ext}
use Rattle.std.proofs.lemmas.List.{map-append}
use Rattle.std.proofs.lemmas.List.Elements.{filter-append, All-head, All-tail}
use Rattle.std.proofs.lemmas.Bool.{false≢true}
use mathlib.Core.List.{IsPrefix}
use Rattle.ranked_policy.specs.Plans.{Plan, IsRouter, numbers}
use Rattle.outbox.specs.declared.item.Item.{Item}
use Rattle.outbox.specs.declared.item.What.{What}
use Rattle.run_model.specs.Network as runs
use Rattle.run_model.specs.Network.{Journal, alone, puts, takes, offers, opening}
use Rattle.run_model.specs.Journals.{puts_towards, takes_from, events_of, IsJournal}
use Rattle.run_model.specs.CausalOrder.{closing, CausalOrdersEndAlike}
use Rattle.run_model.specs.Offers.{HasOutcome}
use Rattle.run_model.specs.Gathering.{IsGathered, SortingByStampGathers, GatheringLifts, GatheredEventsAreStamped, JournalsRise}
use Rattle.run_model.specs.Stamps.{Collected, StampedItem, without_stamp, without_stamps, events_in, stamped_offers, offers_on, order_of, collected_by, TakesBeginPuts, IsStampedOrder, StampsGiveTheCollectorsOrder, ThreadsAreARun, StampsChangeNoItem}
use Rattle.snap_marker.specs.Recordings.{MadeOffer}
use Rattle.snap_collector.specs.Collecting.{member_of}
use Rattle.snap_collector.specs.Collector.{AreMembers, made_for, with_offers, kept_of}
use Rattle.snap_collector.specs.Verdicts.{verdict}
use Rattle.snap_collector.specs.Laws.{VerdictsAreOutcomes, CollectedAreKept}
use Rattle.router_model.specs.Settings.{Setting, IsSetting, peers}
use Rattle.router_model.specs.Step as step
use Rattle.router_model.specs.Step.{Own, RouterEvent}
use Rattle.router_runs.specs.Runs.{Logged, logged_steps, new_logged}
use Rattle.router_core.specs.Views.{plain_of}
use Rattle.world_core.specs.World.{name_of, named}
use Rattle.worker_loop.specs.declared.chore.Chore.{Chore}
use Rattle.worker_loop.specs.declared.journal.WorkerEvent.{WorkerEvent}
use Rattle.worker_loop.specs.Acts.{Act, passed, journal_of, entry_of}
use Rattle.offer_board.specs.Boards.{collected_in}
use Rattle.worker_loop.specs.Laws.{ActsAreJournals, IsJournalTo, StampsRise, WhatFollowsIsCalled}
use Rattle.net_workers.specs.declared.record.Worked.{Worked}
use Rattle.world_core.specs.Events.{router_of}
use Rattle.net_workers.specs.Gathered.{all_events}
use Rattle.net_workers.specs.Ran.{Passed, IsTold, HasWorked}
use Rattle.net_workers.specs.Called.{Orders, called_steps}
use Rattle.net_workers.specs.Runs.{chores_of, RecordsAreRuns, RecordsKeepTheirPromises}
use Rattle.router_runs.specs.Model.{network_of}
use Rattle.world_core.specs.Verdicts.{MembersAreOfTheNetwork}
use Rattle.router_runs.specs.Promises.{UpdatesPassInOrder, NothingIsActedOnAfterTheClose}
use Rattle.router_runs.specs.Snapshots.{CloseLosesTheRecording, SnapshotsHoldInRuns}
use Rattle.run_cuts.specs.ThroughSnapshot.{RunsPassThroughSnapshots}
use Rattle.net_workers.proofs.CalledJournals.{IsCalledJournal, called_journal, of_orders, called_run, ordered_run}
use Rattle.net_workers.proofs.Blocks.{Block, IsFit, acts_of, acts_by, routers_of, by, rises_map, own_acts, all_fit, routers_rise, own_rise, events_are}

-- ---- lines of journals

named_router : (u : ℕ) (e : RouterEvent) → router_of (name_of u e) ≡ u
named_router u e = grind arith

abbrev stamp_of : WorkerEvent → ℕ
stamp_of e = e.stamp

abbrev line_router : WorkerEvent → ℕ
line_router e = router_of e.event

same_line : (a : Act) → line_router (entry_of a) ≡ a.event.router
same_line a = named_router a.event.router (without_stamp a.event.event)

lines_of : (u : ℕ) (acts : List Act) → filter (λ e. line_router e == u) (map entry_of acts) ≡ map entry_of (filter (by u) acts)
lines_of u [] = refl
lines_of u (a ∷ acts) =
    ap (λ r. cond (r == u) (entry_of a ∷ filter (λ e. line_router e == u) (map entry_of acts)) (filter (λ e. line_router e == u) (map entry_of acts))) (same_line a)
    ∙ at (a.event.router == u) (lines_of u acts)
  where
    at : (c : Bool) → filter (λ e. line_router e == u) (map entry_of acts) ≡ map entry_of (filter (by u) acts)
        → cond c (entry_of a ∷ filter (λ e. line_router e == u) (map entry_of acts)) (filter (λ e. line_router e == u) (map entry_of acts)) ≡ map entry_of (cond c (a ∷ filter (by u) acts) (filter (by u) acts))
    at true h = ap (λ l. entry_of a ∷ l) h
    at false h = h

named_are : (ms : List Act) → named (order_of ms) ≡ map (λ e. e.event) (map entry_of ms)
named_are [] = refl
named_are (m ∷ ms) = ap (λ l. name_of m.event.router (without_stamp m.event.event) ∷ l) (named_are ms)

-- ---- offers

offers_by : (u : ℕ) (ms : List Act) → filter (λ o. o.router == u) (stamped_offers ms) ≡ stamped_offers (filter (by u) ms)
offers_by u [] = refl
offers_by u (m ∷ ms) =
    filter-append (λ o. o.router == u) (collected_by m.stamp m.event.router m.event.event) (stamped_offers ms)
    ∙ ap (λ l. filter (λ o. o.router == u) (collected_by m.stamp m.event.router m.event.event) ++ l) (offers_by u ms)
    ∙ at (m.event.router == u) refl m.event.event
  where
    at : (c : Bool) → (m.event.router == u) ≡ c → (e : runs.Event Own (StampedItem What) MadeOffer)
        → filter (λ o. o.router == u) (collected_by m.stamp m.event.router e) ++ stamped_offers (filter (by u) ms) ≡ stamped_offers (cond c (record { stamp = m.stamp; event = record { router = m.event.router; event = e } } ∷ filter (by u) ms) (filter (by u) ms))
    at true h (offers o) = ap (λ b. cond b (record { stamp = m.stamp; router = m.event.router; offer = o } ∷ []) [] ++ stamped_offers (filter (by u) ms)) h
    at true h (alone e) = refl
    at true h (puts v i) = refl
    at true h (takes v i) = refl
    at false h (offers o) = ap (λ b. cond b (record { stamp = m.stamp; router = m.event.router; offer = o } ∷ []) [] ++ stamped_offers (filter (by u) ms)) h
    at false h (alone e) = refl
    at false h (puts v i) = refl
    at false h (takes v i) = refl

-- ---- items

prefix_map : {X Y : Type 0} (f : X → Y) (xs ys : List X) → IsPrefix xs ys → IsPrefix (map f xs) (map f ys)
prefix_map f xs ys p = (map f p.0, sym (map-append f xs p.0) ∙ ap (map f) p.1)

whats : (is : List Item) → map (λ x. x.item) (map passed is) ≡ map (λ i. i.what) is
whats [] = refl
whats (i ∷ is) = ap (λ l. i.what ∷ l) (whats is)

-- ---- the workers

module _ {G : Type 0} (given : G → List Chore) (plan : Plan) (turns : ℕ) (p : Passed) (g : Setting) (net : g.net ≡ plan) (set : IsSetting g)
    (journals : ActsAreJournals) (rise : StampsRise) where
  abbrev Told : Worked G → Type 0
  Told w = IsTold given g p w

  told_all : (ws : List (Worked G)) → AllByRecursion (HasWorked given plan turns p) ws → AllByRecursion Told ws
  told_all [] all = tt
  told_all (w ∷ ws) all = (all.0.told g net set, told_all ws all.1)

  abbrev blocks : (ws : List (Worked G)) → AllByRecursion Told ws → List Block
  blocks [] all = []
  blocks (w ∷ ws) all = record { router = w.router.number; acts = all.0.acts } ∷ blocks ws all.1

  routers_are : (ws : List (Worked G)) (all : AllByRecursion Told ws) → routers_of (blocks ws all) ≡ map (λ w. w.router.number) ws
  routers_are [] all = refl
  routers_are (w ∷ ws) all = ap (λ l. w.router.number ∷ l) (routers_are ws all.1)

  fit_all : (ws : List (Worked G)) (all : AllByRecursion Told ws) → AllByRecursion IsFit (blocks ws all)
  fit_all [] all = tt
  fit_all (w ∷ ws) all =
      let t = all.0 in
      let r = rise g w.router.number t.first.router t.last.router t.acts t.done.leads in
      (record { rises = r.0; of = r.1 }, fit_all ws all.1)

  lines_are : (ws : List (Worked G)) (all : AllByRecursion Told ws) → map entry_of (acts_of (blocks ws all)) ≡ all_events ws
  lines_are [] all = refl
  lines_are (w ∷ ws) all =
      map-append entry_of all.0.acts (acts_of (blocks ws all.1)) ∙ (ap (λ l. l ++ map entry_of (acts_of (blocks ws all.1))) all.0.events ∙ ap (λ l. w.journal.events.items ++ l) (lines_are ws all.1))

  -- where each router's journal leads it
  abbrev Known : List (Worked G) → Type 0
  Known ws = AllByRecursion (λ w. IsRouter g.net.routers w.router.number) ws

  journal_to : (w : Worked G) → IsRouter g.net.routers w.router.number → (t : Told w) → IsJournalTo g w.router.number (new_logged g) t.acts t.last.router
  journal_to w known t = journals g w.router.number known t.first.router t.last.router t.acts t.done.leads (new_logged g) (ap (λ s. s.router) (sym t.opening))

  abbrev finish : (ws : List (Worked G)) → AllByRecursion Told ws → Known ws → ℕ → Logged
  finish [] all known u = new_logged g
  finish (w ∷ ws) all known u = cond (w.router.number == u) (journal_to w known.0 all.0).last (finish ws all.1 known.1 u)

  leads : (ws : List (Worked G)) (all : AllByRecursion Told ws) (known : Known ws) (u : ℕ)
      → IsJournal (logged_steps g) u (new_logged g) (without_stamps (journal_of (acts_by (blocks ws all) u))) (finish ws all known u)
  leads [] all known u = refl
  leads (w ∷ ws) all known u = at (w.router.number == u) refl (leads ws all.1 known.1 u)
    where
      at : (c : Bool) → (w.router.number == u) ≡ c → IsJournal (logged_steps g) u (new_logged g) (without_stamps (journal_of (acts_by (blocks ws all.1) u))) (finish ws all.1 known.1 u)
          → IsJournal (logged_steps g) u (new_logged g) (without_stamps (journal_of (cond c all.0.acts (acts_by (blocks ws all.1) u)))) (cond c (journal_to w known.0 all.0).last (finish ws all.1 known.1 u))
      at true h rest =
          let to = journal_to w known.0 all.0 in
          subst (λ v. IsJournal (logged_steps g) v (new_logged g) (without_stamps (journal_of all.0.acts)) to.last) (eqb-true w.router.number u h) to.journal
      at false h rest = rest

  -- by the calls that its chores led to
  leads_called : WhatFollowsIsCalled → (ws : List (Worked G)) → AllByRecursion (HasWorked given plan turns p) ws → (all : AllByRecursion Told ws) (known : Known ws) (u : ℕ)
      → IsCalledJournal g (chores_of ws u) u (new_logged g) (without_stamps (journal_of (acts_by (blocks ws all) u))) (finish ws all known u)
  leads_called follows [] worked all known u = refl
  leads_called follows (w ∷ ws) worked all known u = at (w.router.number == u) refl (leads_called follows ws worked.1 all.1 known.1 u)
    where
      at : (c : Bool) → (w.router.number == u) ≡ c → IsCalledJournal g (chores_of ws u) u (new_logged g) (without_stamps (journal_of (acts_by (blocks ws all.1) u))) (finish ws all.1 known.1 u)
          → IsCalledJournal g (cond c w.journal.chores.items (chores_of ws u)) u (new_logged g) (without_stamps (journal_of (cond c all.0.acts (acts_by (blocks ws all.1) u)))) (cond c (journal_to w known.0 all.0).last (finish ws all.1 known.1 u))
      at true h rest =
          let to = journal_to w known.0 all.0 in
          let t = all.0 in
          let by_calls = follows g set.network w.router.number (peers g.net w.router.number) (given w.gate) t.first t.last t.acts t.follows in
          let own = called_journal g (given w.gate) w.router.number t.first.router t.last.router t.acts (new_logged g) to.last (ap (λ s. s.router) (sym t.opening)) to.journal by_calls in
          subst (λ v. IsCalledJournal g w.journal.chores.items v (new_logged g) (without_stamps (journal_of t.acts)) to.last) (eqb-true w.router.number u h)
          (subst (λ cs. IsCalledJournal g cs w.router.number (new_logged g) (without_stamps (journal_of t.acts)) to.last) (sym worked.0.chores) own)
      at false h rest = rest

  -- what they put and took
  abbrev Items : ℕ → (ℕ → List Item) → (ℕ → List Item) → List Act → Type 0
  Items u put taken acts = ((v : ℕ) → puts_towards v (journal_of acts) ≡ map passed (put v)) × ((v : ℕ) → takes_from v (journal_of acts) ≡ map passed (taken v))

  items_of : (w : Worked G) (t : Told w) → Items w.router.number (p.put w.router.number) (p.taken w.router.number) t.acts
  items_of w t = (
    λ v. ap (λ (f : ℕ → List Item). map passed (f v) ++ puts_towards v (journal_of t.acts)) (sym t.nothing_put) ∙ sym (t.done.put v) ∙ ap (λ (f : ℕ → List Item). map passed (f v)) t.put,
    λ v. ap (λ (f : ℕ → List Item). map passed (f v) ++ takes_from v (journal_of t.acts)) (sym t.nothing_taken) ∙ sym (t.done.taken v) ∙ ap (λ (f : ℕ → List Item). map passed (f v)) t.taken,
  )

  -- ---- by router, whoever that is

  -- of no worker, or in the list
  abbrev Either : Type 0 → List (Worked G) → ℕ → Type 0
  Either P ws u = P ⊎ Contains (map (λ w. w.router.number) ws) u

  later : {P : Type 0} (w : Worked G) (ws : List (Worked G)) (u : ℕ) → (w.router.number == u) ≡ false → Either P (w ∷ ws) u → Either P ws u
  later w ws u h (inl none) = inl none
  later w ws u h (inr (zero, l, is)) = absurd (false≢true (sym h ∙ eq-eqb w.router.number u is))
  later w ws u h (inr (suc k, l, is)) = inr (k, omega (arith, l), is)

  nowhere : {P : Type 0} (u : ℕ) → Either P [] u → P
  nowhere u (inl none) = none
  nowhere u (inr c) = absurd (let l = c.1 in omega (arith, l))

  abbrev None : ℕ → Type 0
  None u = (v : ℕ) → (p.put u v ≡ []) × (p.taken u v ≡ [])

  items_at : (ws : List (Worked G)) (all : AllByRecursion Told ws) (u : ℕ) → Either (None u) ws u → Items u (p.put u) (p.taken u) (acts_by (blocks ws all) u)
  items_at [] all u e = let none = nowhere u e in (λ v. ap (map passed) (sym (none v).0), λ v. ap (map passed) (sym (none v).1))
  items_at (w ∷ ws) all u e = at (w.router.number == u) refl (λ h. items_at ws all.1 u (later w ws u h e))
    where
      at : (c : Bool) → (w.router.number == u) ≡ c → ((w.router.number == u) ≡ false → Items u (p.put u) (p.taken u) (acts_by (blocks ws all.1) u))
          → Items u (p.put u) (p.taken u) (cond c all.0.acts (acts_by (blocks ws all.1) u))
      at true h rest = subst (λ v. Items v (p.put v) (p.taken v) all.0.acts) (eqb-true w.router.number u h) (items_of w all.0)
      at false h rest = rest h

  offers_at : (board : List (Collected MadeOffer)) (ws : List (Worked G)) (all : AllByRecursion Told ws) (of : AllByRecursion (λ w. filter (λ o. o.router == w.router.number) board ≡ collected_in w.journal.offers.items) ws) (u : ℕ)
      → Either (filter (λ o. o.router == u) board ≡ []) ws u → stamped_offers (acts_by (blocks ws all) u) ≡ filter (λ o. o.router == u) board
  offers_at board [] all of u e = sym (nowhere u e)
  offers_at board (w ∷ ws) all of u e = at (w.router.number == u) refl (λ h. offers_at board ws all.1 of.1 u (later w ws u h e))
    where
      at : (c : Bool) → (w.router.number == u) ≡ c → ((w.router.number == u) ≡ false → stamped_offers (acts_by (blocks ws all.1) u) ≡ filter (λ o. o.router == u) board)
          → stamped_offers (cond c all.0.acts (acts_by (blocks ws all.1) u)) ≡ filter (λ o. o.router == u) board
      at true h rest = subst (λ v. stamped_offers all.0.acts ≡ filter (λ o. o.router == v) board) (eqb-true w.router.number u h) (all.0.offers ∙ sym of.0)
      at false h rest = rest h

  -- a number stands in the list, or does not
  stands : (ns : List ℕ) (u : ℕ) → Contains ns u ⊎ (Contains ns u → ⊥)
  stands [] u = inr (λ c. (let l = c.1 in omega (arith, l)))
  stands (n ∷ ns) u = at (n == u) refl (stands ns u)
    where
      at : (c : Bool) → (n == u) ≡ c → Contains ns u ⊎ (Contains ns u → ⊥) → Contains (n ∷ ns) u ⊎ (Contains (n ∷ ns) u → ⊥)
      at true h rest = inl (0, omega arith, eqb-true n u h)
      at false h (inl c) = inl (suc c.0, (let l = c.1 in omega (arith, l)), c.2)
      at false h (inr none) = inr (λ c. tail c)
        where
          tail : Contains (n ∷ ns) u → ⊥
          tail (zero, l, is) = false≢true (sym h ∙ eq-eqb n u is)
          tail (suc k, l, is) = none (k, omega (arith, l), is)

  known_all : (ws : List (Worked G)) → ((v : ℕ) → Contains (map (λ w. w.router.number) ws) v → IsRouter g.net.routers v) → Known ws
  known_all [] on = tt
  known_all (w ∷ ws) on =
      (on w.router.number (0, omega arith, refl), known_all ws (λ v c. on v (suc c.0, (let l = c.1 in omega (arith, l)), c.2)))

  -- ---- where the routers are in the end

  beyond : (vs : List (Worked G)) (f : ℕ → Logged) (m : ℕ) (l : Logged) → All (λ k. m < k) (map (λ w. w.router.number) vs) → AllByRecursion (λ v. (f v.router.number).router ≡ (plain_of v.router).router) vs
      → AllByRecursion (λ v. (cond (m == v.router.number) l (f v.router.number)).router ≡ (plain_of v.router).router) vs
  beyond [] f m l above all = tt
  beyond (v ∷ vs) f m l above all =
      let over : m < v.router.number = All-head (λ k. m < k) v.router.number (map (λ w. w.router.number) vs) above in (
        ap (λ c. (cond c l (f v.router.number)).router) (miss v.router.number over) ∙ all.0,
        beyond vs f m l (All-tail (λ k. m < k) v.router.number (map (λ w. w.router.number) vs) above) all.1,
      )
    where
      miss : (k : ℕ) → m < k → (m == k) ≡ false
      miss k over = at (m == k) refl
        where
          at : (c : Bool) → (m == k) ≡ c → c ≡ false
          at true h = absurd (omega (arith, over, eqb-true m k h))
          at false h = refl

  finals : (ws : List (Worked G)) (all : AllByRecursion Told ws) (known : Known ws) → AllPairs (λ a b. a < b) (map (λ w. w.router.number) ws)
      → AllByRecursion (λ w. (finish ws all known w.router.number).router ≡ (plain_of w.router).router) ws
  finals [] all known rising = tt
  finals (w ∷ ws) all known rising =
      let to = journal_to w known.0 all.0 in
      let ns : List ℕ = map (λ v. v.router.number) ws in (
        ap (λ c. (cond c to.last (finish ws all.1 known.1 w.router.number)).router) (eq-eqb w.router.number w.router.number refl) ∙ (to.router ∙ ap (λ s. s.router) all.0.router),
        beyond ws (finish ws all.1 known.1) w.router.number to.last (λ k d l. rising 0 (suc k) d (omega arith) (omega (arith, l)))
            (finals ws all.1 known.1 (λ i j d l k. rising (suc i) (suc j) d (omega (arith, l)) (omega (arith, k)))),
      )

-- ---- all together

pub records_are_runs : {G : Type 0} (given : G → List Chore) → ActsAreJournals → StampsRise → SortingByStampGathers stamp_of line_router → GatheringLifts entry_of stamp_of line_router
    → GatheredEventsAreStamped Own What MadeOffer → StampsGiveTheCollectorsOrder Own What MadeOffer → ((g : Setting) → ThreadsAreARun (logged_steps g)) → ((o : Orders) → ThreadsAreARun (called_steps o)) → WhatFollowsIsCalled → CausalOrdersEndAlike Logged Own What MadeOffer
    → StampsChangeNoItem Own What MadeOffer → RecordsAreRuns given
records_are_runs {G} given journals rise sorting lifts stamped_law collectors threads threads_called follows alike items plan turns p workers c gathered is turn g net set =
    let all = told_all given plan turns p g net set journals rise workers is.worked in
    let bs : List Block = blocks given plan turns p g net set journals rise workers all in
    let acts : List Act = acts_of bs in
    let fit = fit_all given plan turns p g net set journals rise workers all in
    let numbers_are : map (λ w. w.router.number) workers ≡ numbers g.net.routers = is.routers ∙ ap (λ n. numbers n.routers) (sym net) in
    let rising_numbers : AllPairs (λ a b. a < b) (map (λ w. w.router.number) workers) = subst (AllPairs (λ a b. a < b)) (sym numbers_are) set.network.plan.rising in
    let rising : AllPairs (λ a b. a < b) (routers_of bs) = subst (AllPairs (λ a b. a < b)) (sym (routers_are given plan turns p g net set journals rise workers all)) rising_numbers in
    let known = known_all given plan turns p g net set journals rise workers (λ v at. subst (λ l. Contains l v) numbers_are at) in
    let lines : map entry_of acts ≡ all_events workers = lines_are given plan turns p g net set journals rise workers all in
    let own : (u : ℕ) → filter (by u) acts ≡ acts_by bs u = λ u. own_acts bs u rising fit in
    let lines_rise : JournalsRise stamp_of line_router (map entry_of acts) =
    λ u. subst (IsNonDecreasingBy stamp_of) (sym (lines_of u acts ∙ ap (map entry_of) (own u))) (rises_map entry_of stamp_of (acts_by bs u) (own_rise bs u fit)) in
    let blocks_rise : IsNonDecreasingBy line_router (map entry_of acts) =
    rises_map entry_of line_router acts (subst (λ (f : Act → ℕ). IsNonDecreasingBy f acts) (fun_ext (λ a. sym (same_line a))) (routers_rise bs rising fit)) in
    let sorted : IsGathered stamp_of line_router (map entry_of acts) gathered =
    sorting (map entry_of acts) gathered blocks_rise lines_rise is.sorted.rising (subst (λ l. IsStableByKey stamp_of nat_cmp l gathered) (sym lines) is.sorted.stable) in
    let lifted = lifts acts gathered lines_rise sorted in
    let ms : List Act = lifted.0 in
    let in_order : IsGathered (λ m. m.stamp) (λ m. m.event.router) acts ms = subst (λ (f : Act → ℕ). IsGathered (λ m. m.stamp) f acts ms) (fun_ext same_line) lifted.2 in
    let journal : ℕ → Journal Own (StampedItem What) MadeOffer = λ u. journal_of (acts_by bs u) in
    let journal_is : (λ u. events_of u (events_in acts)) ≡ journal = fun_ext (λ u. events_are u acts ∙ ap journal_of (own u)) in
    let who : (u : ℕ) → Contains (numbers g.net.routers) u ⊎ (Contains (numbers g.net.routers) u → ⊥) = λ u. stands given plan turns p g net set journals rise (numbers g.net.routers) u in
    let outside : (u : ℕ) → (Contains (numbers g.net.routers) u → ⊥) → IsRouter plan.routers u → ⊥ = λ u none at. none (subst (λ n. IsRouter n.routers u) (sym net) at) in
    let passed_at : (u : ℕ) → ((v : ℕ) → puts_towards v (journal u) ≡ map passed (p.put u v)) × ((v : ℕ) → takes_from v (journal u) ≡ map passed (p.taken u v)) =
    λ u. items_at given plan turns p g net set journals rise workers all u (elim (who u) [
      | inl at ↦ inr (subst (λ l. Contains l u) (sym numbers_are) at)
      | inr none ↦ inl (λ v. is.nobody u v (outside u none))
    ]) in
    let begins : TakesBeginPuts journal =
    λ u v. subst (λ l. IsPrefix l (puts_towards v (journal u))) (sym ((passed_at v).1 u)) (subst (IsPrefix (map passed (p.taken v u))) (sym ((passed_at u).0 v)) (prefix_map passed (p.taken v u) (p.put u v) (turn u v))) in
    let stamped : IsStampedOrder Own What MadeOffer journal ms =
    subst (λ j. IsStampedOrder Own What MadeOffer j ms) journal_is (stamped_law acts ms in_order (all_fit bs fit) (subst TakesBeginPuts (sym journal_is) begins)) in
    let board : List (Collected MadeOffer) = is.collects.offers in
    let same_offers : (u : ℕ) → filter (λ o. o.router == u) (stamped_offers ms) ≡ filter (λ o. o.router == u) board =
    λ u.
    offers_by u ms ∙ (ap stamped_offers (in_order.journals u ∙ own u)
    ∙ offers_at given plan turns p g net set journals rise board workers all is.collects.of u (elim (who u) [
      | inl at ↦ inr (subst (λ l. Contains l u) (sym numbers_are) at)
      | inr none ↦ inl (is.collects.only u (outside u none))
    ])) in
    let offered : stamped_offers ms ≡ board = collectors board ms stamped.rise is.collects.rising same_offers in
    let last : ℕ → Logged = finish given plan turns p g net set journals rise workers all known in
    let ran = threads g (λ u. new_logged g) last journal board ms (leads given plan turns p g net set journals rise workers all known) stamped offered in
    let orders : Orders = record { setting = g; chores = chores_of workers } in
    let so = threads_called orders (λ u. new_logged g) last journal board ms
    (λ u. of_orders orders u (without_stamps (journal u)) (new_logged g) (last u) (leads_called given plan turns p g net set journals rise follows workers is.worked all known u)) stamped offered in
    let ends = alike last (λ u. without_stamps (journal u)) (offers_on board) (order_of ms) ran.0 in (
      record {
        order = order_of ms;
        state = closing last (offers_on board) (order_of ms);
        run = ran.1;
        called = called_run orders (order_of ms) (opening (λ u. new_logged g)) (closing last (offers_on board) (order_of ms)) so.1;
        ordered = ordered_run orders (order_of ms) (opening (λ u. new_logged g)) (closing last (offers_on board) (order_of ms)) so.1;
        events = named_are ms ∙ ap (map (λ e. e.event)) lifted.1;
        routers = finals given plan turns p g net set journals rise workers all known rising_numbers;
        put = λ u v. ap (λ s. s.put u v) ends ∙ ((items v (journal u)).0 ∙ (ap (map (λ x. x.item)) ((passed_at u).0 v) ∙ whats (p.put u v)));
        taken = λ u v. ap (λ s. s.taken u v) ends ∙ ((items u (journal v)).1 ∙ (ap (map (λ x. x.item)) ((passed_at v).1 u) ∙ whats (p.taken v u)));
      },
      refl,
    )

pub records_keep_their_promises : {G : Type 0} (given : G → List Chore) → RecordsAreRuns given → UpdatesPassInOrder → NothingIsActedOnAfterTheClose → CloseLosesTheRecording → SnapshotsHoldInRuns → RunsPassThroughSnapshots → MembersAreOfTheNetwork → VerdictsAreOutcomes
    → CollectedAreKept → RecordsKeepTheirPromises given
records_keep_their_promises given runs_law order nothing_after loses hold pass members_law verdicts kept plan turns p workers c gathered is turn g net set =
    let both = runs_law plan turns p workers c gathered is turn g net set in
    let ran = both.0 in
    let made : made_for c ≡ with_offers (λ s. []) ran.state.offered = is.collects.made ∙ ap (with_offers (λ s. [])) (sym both.1) in
    let members = map member_of c.members in
    let over = members_law g set.network c.members (subst (λ (n : Plan). AreMembers n c.members) (sym net) is.members) in
    record {
      run = ran;
      in_order = λ u v e near. order g set ran.order ran.state ran.run u v e near;
      after_close = λ d old new at. nothing_after g set at.before at.later d old new ran.state at.reached at.step at.goes_on;
      closes = λ d old new at. loses g set at.before at.later d old new ran.state at.reached at.step at.goes_on;
      snapshots = hold g set ran.order ran.state ran.run;
      through = pass g set ran.order ran.state ran.run;
      offered = made;
      outcomes = λ s.
          subst (λ (ms : List MadeOffer). HasOutcome (network_of g) s ran.state.offered (verdict members (kept_of members ms))) (sym (ap (λ (f : ℕ → List MadeOffer). f s) made))
          (verdicts (network_of g) members over s ran.state.offered _ (kept members s ran.state.offered));
    }
