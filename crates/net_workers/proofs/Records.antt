-- What the workers did, as their record.
use Rattle.std.proofs.Common.{◌≡◌, ◌≢◌, ℕ, suc, ◌<◌, ◌==◌, arith, Bool, true, false, cond, List, [], ◌∷◌, ◌++◌, length, map, filter, get_or, refl, sym, ap, ◌∙◌, subst, append_assoc, Option, None, Some}
use Rattle.std.specs.Prelude.{IfNone, slice_index_or}
use Rattle.std.proofs.Math.Path.{fun_ext}
use Rattle.std.proofs.lemmas.Bool.{eq-eqb, ne_eqb, eqb-true}
use Rattle.std.proofs.lemmas.List.{append-nil}
use Rattle.std.specs.List.{AllByRecursion, AllPairs, Contains}
use Rattle.ranked_policy.specs.Plans.{Plan, IsNetwork, IsRouter, numbers}
use Rattle.outbox.specs.declared.item.Item.{Item}
use Rattle.snap_marker.specs.Recordings.{MadeOffer}
use Rattle.snap_marker.specs.Parts.{router_of}
use Rattle.snap_collector.specs.Collector.{CollectorView, AreMembers, made_for, with_offers, is_for}
use Rattle.run_model.specs.Stamps.{Pairwise, offers_on, stamped_offers}
use Rattle.router_model.specs.Settings.{Setting, IsSetting, linked, peers}
use Rattle.world_core.specs.Views.{new_stamped}
use Rattle.worker_loop.specs.declared.chore.Chore.{Chore}
use Rattle.worker_loop.specs.declared.worker.WorkerFault.{WorkerFault}
use Rattle.worker_loop.specs.declared.worker.WorkerFault.TheVariants as worker
use Rattle.worker_loop.specs.Acts.{entry_of}
use Rattle.worker_loop.specs.Following.{Follows}
use Rattle.worker_loop.specs.Laws.{WhatFollowsIsDone}
use Rattle.offer_board.specs.declared.board.Made.{Made}
use Rattle.offer_board.specs.Boards.{collected, collected_in, offers_in}
use Rattle.net_workers.specs.declared.worker_pipes.PipePair.{PipePair}
use Rattle.net_workers.specs.declared.record.Worked.{Worked}
use Rattle.net_workers.specs.declared.record.RunFault.{RunFault}
use Rattle.net_workers.specs.declared.running.Finished.{Finished}
use Rattle.net_workers.specs.Lanes.{put_of, taken_of, room_of, IsNew}
use Rattle.worker_loop.specs.declared.journal.WorkerEvent.{WorkerEvent}
use Rattle.net_workers.specs.Gathered.{all_events, IsSorted}
use Rattle.net_workers.specs.Ran.{IsRecord, Passed, IsFresh, Ran, IsTold, HasWorked, OffersOf, worked_of, fault_of, or_else, first_fault, put_by, taken_by, passed_by, seen}

-- ---- offers that are collected

filter_one : (s : ℕ) (m : MadeOffer) (ms : List MadeOffer) (b : Bool) → is_for s m ≡ b → filter (is_for s) (m ∷ []) ++ filter (is_for s) ms ≡ filter (is_for s) (m ∷ ms)
filter_one s m ms true is = rw is refl
filter_one s m ms false is = rw is refl

pub collect_one : (f : ℕ → List MadeOffer) (m : MadeOffer) (ms : List MadeOffer) → with_offers (with_offers f (m ∷ [])) ms ≡ with_offers f (m ∷ ms)
collect_one f m ms =
    fun_ext (λ s. append_assoc (f s) (filter (is_for s) (m ∷ [])) (filter (is_for s) ms) ∙ ap (λ l. f s ++ l) (filter_one s m ms (is_for s m) refl))

pub collect_none : (f : ℕ → List MadeOffer) → with_offers f [] ≡ f
collect_none f = fun_ext (λ s. append-nil (f s))

pub offers_are : (os : List Made) → offers_on (collected_in os) ≡ offers_in os
offers_are [] = refl
offers_are (o ∷ os) = ap (λ (l : List MadeOffer). (collected o).offer ∷ l) (offers_are os)

-- ---- workers before and after

no_fault : (u : ℕ) (f : Option WorkerFault) (rest : Option RunFault) → or_else (fault_of u f) rest ≡ None → (f ≡ None) × (rest ≡ None)
no_fault u None rest h = (refl, h)
no_fault u (Some worker.Memory) rest h = absurd cc
no_fault u (Some worker.Refused) rest h = absurd cc

module _ {G : Type 0} where
  abbrev pub Zipped : (Finished G → Finished G → Type 0) → List (Finished G) → List (Finished G) → Type 0
  Zipped R [] [] = Unit {0}
  Zipped R (b ∷ bs) (a ∷ ends) = R b a × Zipped R bs ends
  Zipped R [] (a ∷ ends) = ⊥
  Zipped R (b ∷ bs) [] = ⊥

  pub zipped : (R : Finished G → Finished G → Type 0) (before after : List (Finished G)) → length after ≡ length before → first_fault after ≡ None
      → ((i : ℕ) (d : Finished G) → i < length before → IfNone (slice_index_or after i d).fault (R (slice_index_or before i d) (slice_index_or after i d)))
      → Zipped R before after
  zipped R [] [] many none ran = tt
  zipped R [] (a ∷ ends) many none ran = absurd (omega (arith, many))
  zipped R (b ∷ bs) [] many none ran = absurd (omega (arith, many))
  zipped R (b ∷ bs) (a ∷ ends) many none ran =
      let quiet = no_fault a.worker.router.number a.fault (first_fault ends) none in (
        (let here = ran 0 a (omega arith) in subst (λ f. IfNone f (R b a)) quiet.0 here),
        zipped R bs ends (omega (arith, many)) quiet.1 (λ i d below. ran (suc i) d (omega (arith, below))),
      )

  pub same_numbers : (R : Finished G → Finished G → Type 0) → ((b a : Finished G) → R b a → a.worker.router.number ≡ b.worker.router.number) → (before after : List (Finished G)) → Zipped R before after
      → map (λ e. e.worker.router.number) after ≡ map (λ e. e.worker.router.number) before
  same_numbers R f [] [] z = refl
  same_numbers R f [] (a ∷ ends) z = absurd z
  same_numbers R f (b ∷ bs) [] z = absurd z
  same_numbers R f (b ∷ bs) (a ∷ ends) (here, rest) = λ i. f b a here i ∷ same_numbers R f bs ends rest i

-- ---- lists

pub all_by : {X : Type 0} → (P : X → Type 0) (xs : List X) → ((i : ℕ) (d : X) → i < length xs → P (get_or xs i d)) → AllByRecursion P xs
all_by P [] h = tt
all_by P (x ∷ xs) h = (h 0 x (omega arith), all_by P xs (λ i d below. h (suc i) d (omega (arith, below))))

all_of_map : {X Y : Type 0} → (f : X → Y) (P : Y → Type 0) (xs : List X) → AllByRecursion P (map f xs) → AllByRecursion (λ x. P (f x)) xs
all_of_map f P [] all = tt
all_of_map f P (x ∷ xs) all = (all.0, all_of_map f P xs all.1)

pub all_both : {X : Type 0} → (P Q S : X → Type 0) → ((x : X) → P x → Q x → S x) → (xs : List X) → AllByRecursion P xs → AllByRecursion Q xs → AllByRecursion S xs
all_both P Q S f [] p q = tt
all_both P Q S f (x ∷ xs) p q = (f x p.0 q.0, all_both P Q S f xs p.1 q.1)

-- ---- what each router's pairs have

module _ {G : Type 0} where
  abbrev pub number : Finished G → ℕ
  number e = e.worker.router.number

  -- the first has the least number
  pub all_above : (e : Finished G) (es : List (Finished G)) → AllPairs (λ a b. a < b) (map number (e ∷ es)) → AllByRecursion (λ x. number e < number x) es
  all_above e es rising = all_of_map number (λ n. number e < n) es (all_by (λ n. number e < n) (map number es) (λ i d below. rising 0 (suc i) d (omega arith) (omega (arith, below))))

  abbrev HasLanes : List (Finished G) → Finished G → Type 0
  HasLanes all e = (put_by all (number e) ≡ put_of e.worker.lines.pairs.items) × (taken_by all (number e) ≡ taken_of e.worker.lines.pairs.items)

  lanes_there : (e : Finished G) (es : List (Finished G)) (x : Finished G) → number e ≢ number x → HasLanes es x → HasLanes (e ∷ es) x
  lanes_there e es x apart h = (
    fun_ext (λ v. rw (ne_eqb (number e) (number x) apart) refl) ∙ h.0,
    fun_ext (λ v. rw (ne_eqb (number e) (number x) apart) refl) ∙ h.1,
  )

  pub lanes_are : (es : List (Finished G)) → AllPairs (λ a b. a < b) (map number es) → AllByRecursion (HasLanes es) es
  lanes_are [] rising = tt
  lanes_are (e ∷ es) rising = (
    (fun_ext (λ v. rw (eq-eqb (number e) (number e) refl) refl), fun_ext (λ v. rw (eq-eqb (number e) (number e) refl) refl)),
    all_both (λ x. number e < number x) (HasLanes es) (HasLanes (e ∷ es))
        (λ x less h. lanes_there e es x (λ same. absurd (omega (arith, less, same))) h)
        es (all_above e es rising) (lanes_are es (λ i j d a b. rising (suc i) (suc j) d (omega (arith, a)) (omega (arith, b)))),
  )

  -- the pipes of a router hold as many items as the network says
  abbrev pub HasRooms : Plan → Finished G → Type 0
  HasRooms plan e = (v : ℕ) → linked plan (number e) v ≡ true → room_of e.worker.lines.pairs.items v ≡ plan.settings.pipe

  -- nothing passed by who is no router
  nobody_by : (e : Finished G) (es : List (Finished G)) (u : ℕ) (b : Bool) → (number e == u) ≡ b → (Contains (map number (e ∷ es)) u → ⊥)
      → ((v : ℕ) → (Contains (map number es) u → ⊥) → (put_by es u v ≡ []) × (taken_by es u v ≡ []))
      → (v : ℕ) → (put_by (e ∷ es) u v ≡ []) × (taken_by (e ∷ es) u v ≡ [])
  nobody_by e es u true is absent rest v = absurd (absent (0, (let some : 0 < length (map number (e ∷ es)) = omega arith in some), eqb-true (number e) u is))
  nobody_by e es u false is absent rest v =
      let r = rest v (λ k. absent (suc k.0, (let more = k.1 in let some : suc k.0 < length (map number (e ∷ es)) = omega (arith, more) in some), k.2)) in
      (rw is r.0, rw is r.1)

  pub nobody : (es : List (Finished G)) (u v : ℕ) → (Contains (map number es) u → ⊥) → (put_by es u v ≡ []) × (taken_by es u v ≡ [])
  nobody [] u v absent = (refl, refl)
  nobody (e ∷ es) u v absent = nobody_by e es u (number e == u) refl absent (λ w rest. nobody es u w rest) v

-- ---- pairs over which nothing passed

both_none : (b : Bool) (x y : List Item) → x ≡ [] → y ≡ [] → cond b x y ≡ []
both_none true x y p q = p
both_none false x y p q = q

put_none : (ls : List PipePair) (v : ℕ) → AllByRecursion IsNew ls → put_of ls v ≡ []
put_none [] v all = refl
put_none (l ∷ ls) v all = both_none (l.peer == v) l.out.items (put_of ls v) all.0.put (put_none ls v all.1)

taken_none : (ls : List PipePair) (v : ℕ) → AllByRecursion IsNew ls → taken_of ls v ≡ []
taken_none [] v all = refl
taken_none (l ∷ ls) v all = both_none (l.peer == v) l.into.items (taken_of ls v) all.0.taken (taken_none ls v all.1)

-- ---- one worker

module _ {G : Type 0} (law : WhatFollowsIsDone) (given : G → List Chore) (plan : Plan) (turns : ℕ) (p : Passed) where
  told : (b a : Finished G) → IsFresh given plan b.worker → HasRooms plan b → Ran given turns b.worker a.worker
      → put_of a.worker.lines.pairs.items ≡ p.put a.worker.router.number → taken_of a.worker.lines.pairs.items ≡ p.taken a.worker.router.number
      → (g : Setting) → g.net ≡ plan → IsSetting g → IsTold given g p (worked_of a)
  told b a fresh rooms ran put taken g is set =
      let u = a.worker.router.number in
      let f = ran.follows g (is ∙ sym fresh.net) set in
      let follows : Follows g u (peers g.net u) (given a.worker.gate) (seen b.worker) f.0 (seen a.worker) =
      subst (λ n. Follows g n (peers g.net n) (given a.worker.gate) (seen b.worker) f.0 (seen a.worker)) (sym ran.same.number)
      (subst (λ ns. Follows g b.worker.router.number ns (given a.worker.gate) (seen b.worker) f.0 (seen a.worker)) (ap (λ k. peers k b.worker.router.number) (fresh.net ∙ sym is)) f.1) in
      let done = law g u (peers g.net u) (given a.worker.gate) (seen b.worker) (seen a.worker) f.0 follows in
      record {
        first = seen b.worker;
        last = seen a.worker;
        acts = f.0;
        follows = follows;
        opening = fresh.router ∙ ap new_stamped (sym is);
        nothing_put = fun_ext (λ v. put_none b.worker.lines.pairs.items v fresh.pairs);
        nothing_taken = fun_ext (λ v. taken_none b.worker.lines.pairs.items v fresh.pairs);
        room = λ v link. rooms v (ap (λ k. linked k b.worker.router.number v) (sym is) ∙ ap (λ n. linked g.net n v) (sym ran.same.number) ∙ link) ∙ ap (λ k. k.settings.pipe) (sym is);
        router = refl;
        put = put;
        taken = taken;
        done = done;
        events = sym (done.events ∙ ap (λ l. l ++ map entry_of f.0) fresh.events);
        offers = sym (done.made ∙ ap (λ l. collected_in l ++ stamped_offers f.0) fresh.made);
      }

  has_worked : (b a : Finished G) → IsFresh given plan b.worker → HasRooms plan b → Ran given turns b.worker a.worker
      → put_of a.worker.lines.pairs.items ≡ p.put a.worker.router.number → taken_of a.worker.lines.pairs.items ≡ p.taken a.worker.router.number
      → HasWorked given plan turns p (worked_of a)
  has_worked b a fresh rooms ran put taken = record {
    net = ran.same.net ∙ fresh.net;
    chores = ran.chores;
    whole = ran.whole;
    told = told b a fresh rooms ran put taken;
  }

  pub all_worked : (before after : List (Finished G)) → Zipped (λ b a. Ran given turns b.worker a.worker) before after → AllByRecursion (λ e. IsFresh given plan e.worker) before → AllByRecursion (HasRooms plan) before
      → AllByRecursion (λ e. (p.put e.worker.router.number ≡ put_of e.worker.lines.pairs.items) × (p.taken e.worker.router.number ≡ taken_of e.worker.lines.pairs.items)) after
      → AllByRecursion (HasWorked given plan turns p) (map worked_of after)
  all_worked [] [] z fresh rooms pairs = tt
  all_worked [] (a ∷ ends) z fresh rooms pairs = absurd z
  all_worked (b ∷ bs) [] z fresh rooms pairs = absurd z
  all_worked (b ∷ bs) (a ∷ ends) z fresh rooms pairs =
      (has_worked b a fresh.0 rooms.0 z.0 (sym pairs.0.0) (sym pairs.0.1), all_worked bs ends z.1 fresh.1 rooms.1 pairs.1)

-- ---- the offers of a board

pub offers_of : {G : Type 0} → (board : List Made) (after : List (Finished G)) → AllByRecursion (OffersOf board) after
    → AllByRecursion (λ (w : Worked G). filter (λ o. o.router == w.router.number) (collected_in board) ≡ collected_in w.journal.offers.items) (map worked_of after)
offers_of board [] all = tt
offers_of board (e ∷ es) all = (all.0, offers_of board es all.1)

only_by : (o : Made) (os : List Made) (u : ℕ) (b : Bool) → (router_of o.offer == u) ≡ b → (u ≡ router_of o.offer → ⊥) → filter (λ c. c.router == u) (collected_in os) ≡ []
    → filter (λ c. c.router == u) (collected_in (o ∷ os)) ≡ []
only_by o os u true is absent rest = absurd (absent (sym (eqb-true (router_of o.offer) u is)))
only_by o os u false is absent rest = rw is rest

pub only : (plan : Plan) (os : List Made) (u : ℕ) → (IsRouter plan.routers u → ⊥) → AllByRecursion (λ o. IsRouter plan.routers (router_of o.offer)) os
    → filter (λ c. c.router == u) (collected_in os) ≡ []
only plan [] u absent all = refl
only plan (o ∷ os) u absent all =
    only_by o os u (router_of o.offer == u) refl (λ same. absent (subst (IsRouter plan.routers) (sym same) all.0)) (only plan os u absent all.1)

-- ---- the gates

module _ {G T : Type 0} (script : G → T) where
  same_script : (before after : List (Finished G)) → length after ≡ length before
      → ((i : ℕ) (d : Finished G) → i < length before → script (slice_index_or after i d).worker.gate ≡ script (slice_index_or before i d).worker.gate)
      → map (λ (e : Finished G). script e.worker.gate) after ≡ map script (map (λ (e : Finished G). e.worker.gate) before)
  same_script [] [] many kept = refl
  same_script [] (a ∷ ends) many kept = absurd (omega (arith, many))
  same_script (b ∷ bs) [] many kept = absurd (omega (arith, many))
  same_script (b ∷ bs) (a ∷ ends) many kept =
      let here : script a.worker.gate ≡ script b.worker.gate = kept 0 a (omega arith) in
      let rest = same_script bs ends (omega (arith, many)) (λ i d below. kept (suc i) d (omega (arith, below))) in
      λ i. here i ∷ rest i

  -- router by router those that were given
  pub gates_are : (before after : List (Finished G)) (gates : List G) → length after ≡ length before
      → ((i : ℕ) (d : Finished G) → i < length before → script (slice_index_or after i d).worker.gate ≡ script (slice_index_or before i d).worker.gate)
      → map (λ (e : Finished G). e.worker.gate) before ≡ gates → map (λ (e : Finished G). script e.worker.gate) after ≡ map script gates
  gates_are before after gates many kept given = same_script before after many kept ∙ ap (map script) given

-- ---- the record

same_routers : {G : Type 0} → (after : List (Finished G)) → map (λ (w : Worked G). w.router.number) (map worked_of after) ≡ map number after
same_routers [] = refl
same_routers (e ∷ es) = ap (λ (ns : List ℕ). number e ∷ ns) (same_routers es)

pub record_is : {G : Type 0} → (law : WhatFollowsIsDone) (given : G → List Chore) (plan : Plan) (turns : ℕ) (before after : List (Finished G)) (done : List (Worked G)) (c : CollectorView) (gathered : List WorkerEvent)
    (board : List Made) → IsNetwork plan → map number before ≡ numbers plan.routers → AllByRecursion (λ e. IsFresh given plan e.worker) before → AllByRecursion (HasRooms plan) before
    → length after ≡ length before → first_fault after ≡ None
    → ((i : ℕ) (d : Finished G) → i < length before → IfNone (slice_index_or after i d).fault (Ran given turns (slice_index_or before i d).worker (slice_index_or after i d).worker))
    → done ≡ map worked_of after → IsSorted (all_events done) gathered → AllByRecursion (OffersOf board) after → AllByRecursion (λ o. IsRouter plan.routers (router_of o.offer)) board
    → Pairwise (λ a b. a.stamp < b.stamp) (collected_in board) → made_for c ≡ with_offers (λ s. []) (offers_in board) → AreMembers plan c.members
    → IsRecord given plan turns (passed_by after) done c gathered
record_is law given plan turns before after done c gathered board network numbered fresh rooms many quiet ran is sorted offers known rising made members =
    let z = zipped (λ b a. Ran given turns b.worker a.worker) before after many quiet ran in
    let all : map number after ≡ numbers plan.routers = same_numbers (λ b a. Ran given turns b.worker a.worker) (λ b a r. r.same.number) before after z ∙ numbered in
    let pairs = lanes_are after (subst (AllPairs (λ a b. a < b)) (sym all) network.plan.rising) in
    subst (λ (ws : List (Worked _)). IsSorted (all_events ws) gathered → IsRecord given plan turns (passed_by after) ws c gathered) (sym is)
    (λ so. record {
      routers = same_routers after ∙ all;
      nobody = λ u v absent. nobody after u v (λ k. absent (subst (λ ns. Contains ns u) all k));
      worked = all_worked law given plan turns (passed_by after) before after z fresh rooms pairs;
      sorted = so;
      collects = record {
        offers = collected_in board;
        rising = rising;
        of = offers_of board after offers;
        only = λ u absent. only plan board u absent known;
        made = made ∙ ap (with_offers (λ s. [])) (sym (offers_are board));
      };
      members = members;
    })
    sorted
