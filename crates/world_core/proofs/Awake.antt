-- A router that rests does so until a turn of a peer does something.
use Rattle.std.proofs.Common.{◌≡◌, ◌≢◌, ℕ, zero, suc, ◌+◌, ◌<◌, ◌≤◌, ◌==◌, Bool, true, false, ◌&&◌, cond, List, [], ◌∷◌, ◌++◌, drop, length, map, get_or, refl, ap, sym, ◌∙◌, arith, subst, Option, None, Some}
use Rattle.std.specs.Prelude.{nat_lt, max, Ok, slice_get}
use Rattle.std.specs.List.{flat_map, AllByRecursion, AllPairs, HoldsAt}
use Rattle.std.proofs.lemmas.Bool.{eqb-true, eqb-false}
use Rattle.std.proofs.lemmas.Bool.Decides.{nat_tests}
use Rattle.std.proofs.lemmas.List.{length-append}
use Rattle.std.proofs.lemmas.Option.{get_or_from_slice_get, slice_get_within}
use Rattle.run_model.specs.Network.{alone, puts, takes, offers}
use Rattle.outbox.specs.declared.item.Item.{Item}
use Rattle.ranked_policy.specs.declared.network.NetRouter.{NetRouter}
use Rattle.ranked_policy.specs.Plans.{Plan, IsNetwork, numbers}
use Rattle.snap_marker.specs.Recordings.{RouterOffer}
use Rattle.router_model.specs.declared.refusal.RouterError.TheVariants as error
use Rattle.router_model.specs.Settings.{Setting, is_router, peers}
use Rattle.router_model.specs.Laws.{AnswersAreSteps}
use Rattle.router_model.specs.Step as step
use Rattle.router_model.specs.Step.{RouterEvent, next_offer}
use Rattle.router_model.specs.Calls.{Stamped, Call, Obey, Tick, Put, Take, Handle, Decide, Advertise, answer, stamp_of}
use Rattle.run_model.specs.declared.stamps.TheConstants.{GREATEST_STAMP}
use Rattle.world_core.specs.declared.schedule.Event.{Event}
use Rattle.world_core.specs.declared.schedule.Event.TheVariants as schedule
use Rattle.world_core.specs.declared.schedule.StepFault.TheVariants.{NoSuchRouter, Refused}
use Rattle.world_core.specs.Events.{router_of}
use Rattle.world_core.specs.World.{World, WorldAnswer, Does, Nothing, Stops, of_answer, of_offer, called, taking_of, where_router, where_linked, world_answer, world_after, world_of, onward, played, name_of}
use Rattle.world_core.specs.Orders.{with_peer, turn}
use Rattle.world_core.specs.Views.{WorldView, plain_world, Obeys}
use Rattle.world_core.specs.IdleTurns.{TurnIsIdle, TurnsAreIdle, TurnsAreIdleBeside, Woken}
use Rattle.world_core.proofs.Playing.{doing}
use Rattle.world_core.proofs.Resting.{grows, rests}

-- ---- what an event depends on: its router, and the pipes that lead to it

-- the router is as it was, and so are the pipes that lead to it
abbrev pub IsSpared : World → World → ℕ → Type 0
IsSpared w z b = (z.routers b ≡ w.routers b) × ((a : ℕ) → z.pipes a b ≡ w.pipes a b)

late_offer : (late : Bool) (u stamp : ℕ) (o : RouterOffer) → cond late (Stops (Refused error.StampEnd)) (Does u (offers (record { router = u; offer = o })) stamp) ≡ Nothing → ⊥
late_offer true u stamp o h = absurd cc
late_offer false u stamp o h = absurd cc

no_offer : (u stamp : ℕ) (o : Option RouterOffer) → of_offer u stamp o ≡ Nothing → o ≡ None
no_offer u stamp None h = refl
no_offer u stamp (Some o) h = absurd (late_offer (nat_lt GREATEST_STAMP stamp) u stamp o h)

offer_still : (there : Bool) (u m n : ℕ) (o : Option RouterOffer) → cond there (of_offer u m o) (Stops NoSuchRouter) ≡ Nothing → cond there (of_offer u n o) (Stops NoSuchRouter) ≡ Nothing
offer_still true u m n o h = subst (λ (k : Option RouterOffer). of_offer u n k ≡ Nothing) (sym (no_offer u m o h)) refl
offer_still false u m n o h = h

module _ (g : Setting) where
  called_same : (w z : World) (b : ℕ) (call : Call) → z.routers b ≡ w.routers b → called g z b call ≡ called g w b call
  called_same w z b call same = ap (λ (t : Stamped). of_answer b (stamp_of g b t call) (answer g b t call)) same

  taking_same : (w z : World) (b v : ℕ) (o : Option Item) → z.routers b ≡ w.routers b → taking_of g z b v o ≡ taking_of g w b v o
  taking_same w z b v None same = refl
  taking_same w z b v (Some i) same = called_same w z b (Take v i.stamp i.what) same

  still_nothing : (w z : World) (event : Event) → IsSpared w z (router_of event) → world_answer g w event ≡ Nothing → world_answer g z event ≡ Nothing
  still_nothing w z (schedule.Command u c) s h = ap (where_router g u) (called_same w z u (Obey c) s.0) ∙ h
  still_nothing w z (schedule.Tick u) s h = ap (where_router g u) (called_same w z u Tick s.0) ∙ h
  still_nothing w z (schedule.Put u v) s h = ap (where_linked g u v) (called_same w z u (Put v) s.0) ∙ h
  still_nothing w z (schedule.Take u v) s h =
      ap (where_linked g u v) (taking_same w z u v (slice_get (z.pipes v u) 0) s.0 ∙ ap (λ (items : List Item). taking_of g w u v (slice_get items 0)) (s.1 v)) ∙ h
  still_nothing w z (schedule.Handle u v) s h = ap (where_linked g u v) (called_same w z u (Handle v) s.0) ∙ h
  still_nothing w z (schedule.Decide u) s h = ap (where_router g u) (called_same w z u Decide s.0) ∙ h
  still_nothing w z (schedule.Advertise u) s h = ap (where_router g u) (called_same w z u Advertise s.0) ∙ h
  still_nothing w z (schedule.Offer u) s h =
      ap (λ (t : Stamped). where_router g u (of_offer u (max t.stamp z.board + 1) (next_offer t.router))) s.0
      ∙ offer_still (is_router g u) u (max (w.routers u).stamp w.board + 1) (max (w.routers u).stamp z.board + 1) (next_offer (w.routers u).router) h

  -- events of one router that left the world as it was do so in each that spared it
  idle_by : (w z : World) (x : Event) (xs : List Event) (i j : ℕ) (a : WorldAnswer) → world_answer g w x ≡ a → IsSpared w z (router_of x)
      → (played g w (i + 1) xs ≡ Ok w → played g z (j + 1) xs ≡ Ok z) → onward (world_of g w x i a) (λ next. played g next (i + 1) xs) ≡ Ok w
      → onward (world_of g z x j (world_answer g z x)) (λ next. played g next (j + 1) xs) ≡ Ok z
  idle_by w z x xs i j (Does u e stamp) is s go h =
      let l : length (w.run ++ x ∷ []) ≤ length w.run = grows g xs (world_after g w x u e stamp) w (i + 1) h in
      absurd (omega (arith, l, length-append w.run (x ∷ [])))
  idle_by w z x xs i j Nothing is s go h =
      subst (λ (a : WorldAnswer). onward (world_of g z x j a) (λ next. played g next (j + 1) xs) ≡ Ok z) (sym (still_nothing w z x s is)) (go h)
  idle_by w z x xs i j (Stops fault) is s go h = absurd cc

  idle : (xs : List Event) (w z : World) (b i j : ℕ) → AllByRecursion (λ e. router_of e ≡ b) xs → IsSpared w z b → played g w i xs ≡ Ok w → played g z j xs ≡ Ok z
  idle [] w z b i j of s h = refl
  idle (x ∷ xs) w z b i j of s h =
      idle_by w z x xs i j (world_answer g w x) refl (subst (IsSpared w z) (sym of.0) s) (λ n. idle xs w z b (i + 1) (j + 1) of.1 s n) h

-- ---- what an event of another router leaves as it was

abbrev pub Spares : ℕ → Event → Type 0
Spares b (schedule.Command u c) = u ≢ b
Spares b (schedule.Tick u) = u ≢ b
Spares b (schedule.Put u v) = (u ≢ b) × (v ≢ b)
Spares b (schedule.Take u v) = u ≢ b
Spares b (schedule.Handle u v) = u ≢ b
Spares b (schedule.Decide u) = u ≢ b
Spares b (schedule.Advertise u) = u ≢ b
Spares b (schedule.Offer u) = u ≢ b

unequal_by : (b u : ℕ) (t : Bool) → (b == u) ≡ t → u ≢ b → (b == u) ≡ false
unequal_by b u true e n = absurd (n (sym (eqb-true b u e)))
unequal_by b u false e n = e

unequal : (b u : ℕ) → u ≢ b → (b == u) ≡ false
unequal b u n = unequal_by b u (b == u) refl n

and_false : (c d : Bool) → d ≡ false → (c && d) ≡ false
and_false true d h = h
and_false false d h = refl

another : {A : Type 0} (c : Bool) (x y : A) → c ≡ false → cond c x y ≡ y
another c x y h = rw h refl

module _ (g : Setting) (w : World) (b u stamp : ℕ) (event : Event) where
  stays : (e : RouterEvent) → u ≢ b → (world_after g w event u e stamp).routers b ≡ w.routers b
  stays e n = another (b == u) _ (w.routers b) (unequal b u n)

  spared_after : (e : RouterEvent) → Spares b (name_of u e) → IsSpared w (world_after g w event u e stamp) b
  spared_after (alone (step.Obeys c)) n = (stays (alone (step.Obeys c)) n, λ a. refl)
  spared_after (alone step.Ticks) n = (stays (alone step.Ticks) n, λ a. refl)
  spared_after (alone (step.Handles v)) n = (stays (alone (step.Handles v)) n, λ a. refl)
  spared_after (alone step.Decides) n = (stays (alone step.Decides) n, λ a. refl)
  spared_after (alone (step.Advertises v)) n = (stays (alone (step.Advertises v)) n, λ a. refl)
  spared_after (puts v i) n =
      (stays (puts v i) n.0, λ a. another ((a == u) && (b == v)) (w.pipes a b ++ record { stamp = stamp; what = i } ∷ []) (w.pipes a b) (and_false (a == u) (b == v) (unequal b v n.1)))
  spared_after (takes v i) n = (stays (takes v i) n, λ a. another ((a == v) && (b == u)) (drop 1 (w.pipes a b)) (w.pipes a b) (and_false (a == v) (b == u) (unequal b u n)))
  spared_after (offers made) n = (stays (offers made) n, λ a. refl)

module _ (law : AnswersAreSteps) (g : Setting) (net : IsNetwork g.net) where
  spared_by : (w y : World) (x : Event) (xs : List Event) (i b : ℕ) (a : WorldAnswer) → world_answer g w x ≡ a → Spares b x
      → ((next : World) → played g next (i + 1) xs ≡ Ok y → IsSpared next y b) → onward (world_of g w x i a) (λ next. played g next (i + 1) xs) ≡ Ok y → IsSpared w y b
  spared_by w y x xs i b (Does u e stamp) is n go h =
      let d = doing law g net w x u e stamp is in
      let first = spared_after g w b u stamp x e (subst (Spares b) (sym d.name) n) in
      let rest = go (world_after g w x u e stamp) h in
      (rest.0 ∙ first.0, λ a. rest.1 a ∙ first.1 a)
  spared_by w y x xs i b Nothing is n go h = go w h
  spared_by w y x xs i b (Stops fault) is n go h = absurd cc

  spared : (xs : List Event) (w y : World) (i b : ℕ) → AllByRecursion (Spares b) xs → played g w i xs ≡ Ok y → IsSpared w y b
  spared [] w y i b all h =
      let same : w ≡ y = cc in
      subst (λ (k : World). IsSpared w k b) same (refl, λ a. refl)
  spared (x ∷ xs) w y i b all h = spared_by w y x xs i b (world_answer g w x) refl all.0 (λ next n. spared xs next y (i + 1) b all.1 n) h

-- ---- the events of a turn

all_behind : {A : Type 0} (P : A → Type 0) (xs ys : List A) → AllByRecursion P xs → AllByRecursion P ys → AllByRecursion P (xs ++ ys)
all_behind P [] ys h k = k
all_behind P (x ∷ xs) ys h k = (h.0, all_behind P xs ys h.1 k)

tried_of : (u : ℕ) (vs : List ℕ) → AllByRecursion (λ e. router_of e ≡ u) (flat_map (with_peer u) vs)
tried_of u [] = tt
tried_of u (v ∷ vs) = (refl, (refl, (refl, tried_of u vs)))

turn_of : (net : Plan) (u : ℕ) → AllByRecursion (λ e. router_of e ≡ u) (turn net u)
turn_of net u =
    all_behind (λ e. router_of e ≡ u) (flat_map (with_peer u) (peers net u)) (schedule.Decide u ∷ schedule.Advertise u ∷ schedule.Offer u ∷ []) (tried_of u (peers net u)) (refl, (refl, (refl, tt)))

-- ---- of worlds of the code

-- events that did nothing
pub still_world : (g : Setting) (x y : WorldView) (events : List Event) → played g (plain_world x) 0 events ≡ Ok (plain_world y) → length y.run ≡ length x.run → plain_world y ≡ plain_world x
still_world g x y events h still = rests g events (plain_world x) (plain_world y) 0 h still

rests_same : (g : Setting) (x y : WorldView) (b : ℕ) → y.net ≡ x.net → plain_world y ≡ plain_world x → played g (plain_world x) 0 (turn x.net b) ≡ Ok (plain_world x) → played g (plain_world y) 0 (turn y.net b) ≡ Ok (plain_world y)
rests_same g x y b net same h =
    subst (λ (n : Plan). played g (plain_world y) 0 (turn n b) ≡ Ok (plain_world y)) (sym net) (subst (λ (w : World). played g w 0 (turn x.net b) ≡ Ok w) (sym same) h)

module _ (x y : WorldView) (net : y.net ≡ x.net) where
  -- a turn that did nothing
  pub rests_now : (u : ℕ) → Obeys (Ok tt) x (turn x.net u) y → length y.run ≡ length x.run → TurnIsIdle y u
  rests_now u done still g e ranks =
      let h = done g (e ∙ net) ranks in
      let same = still_world g x y (turn x.net u) h still in
      rests_same g x y u net same (subst (λ (w : World). played g (plain_world x) 0 (turn x.net u) ≡ Ok w) same h)

  pub rests_still : (events : List Event) (b : ℕ) → Obeys (Ok tt) x events y → length y.run ≡ length x.run → TurnIsIdle x b → TurnIsIdle y b
  rests_still events b done still r g e ranks = rests_same g x y b net (still_world g x y events (done g (e ∙ net) ranks) still) (r g (e ∙ net) ranks)

  pub rests_spared : AnswersAreSteps → IsNetwork x.net → (events : List Event) (b : ℕ) → Obeys (Ok tt) x events y → AllByRecursion (Spares b) events → TurnIsIdle x b → TurnIsIdle y b
  rests_spared law is_net events b done spares r g e ranks =
      let there = e ∙ net in
      let s = spared law g (subst IsNetwork (sym there) is_net) events (plain_world x) (plain_world y) 0 b spares (done g there ranks) in
      subst (λ (k : Plan). played g (plain_world y) 0 (turn k b) ≡ Ok (plain_world y)) (sym net) (idle g (turn x.net b) (plain_world x) (plain_world y) b 0 0 (turn_of x.net b) s (r g there ranks))

-- ---- marks

number_is : (x y : WorldView) (i b : ℕ) → y.net ≡ x.net → slice_get (numbers y.net.routers) i ≡ Some b → slice_get (numbers x.net.routers) i ≡ Some b
number_is x y i b net h = subst (λ (n : Plan). slice_get (numbers n.routers) i ≡ Some b) net h

-- while router u has its turn
module _ (x y : WorldView) (u : ℕ) (net : y.net ≡ x.net) where
  -- something of its own was done
  pub beside_own : AnswersAreSteps → IsNetwork x.net → (events : List Event) (marks : List Bool) → ((b : ℕ) → u ≢ b → AllByRecursion (Spares b) events) → Obeys (Ok tt) x events y
      → TurnsAreIdleBeside x u marks → TurnsAreIdleBeside y u marks
  beside_own law is_net events marks spares done was i b mark is =
      let k = was i b mark (number_is x y i b net is) in
      (k.0, rests_spared x y net law is_net events b done (spares b k.0) k.1)

  -- something was put towards router v, which is woken
  pub beside_put : AnswersAreSteps → IsNetwork x.net → (v : ℕ) (old new : List Bool) → Woken x.net v old new → Obeys (Ok tt) x (schedule.Put u v ∷ []) y → TurnsAreIdleBeside x u old → TurnsAreIdleBeside y u new
  beside_put law is_net v old new woken done was i b mark is =
      let here = number_is x y i b net is in
      let left = woken i b mark here in
      let k = was i b left.0 here in
      (k.0, rests_spared x y net law is_net (schedule.Put u v ∷ []) b done ((k.0, left.1), tt) k.1)

  -- nothing was done
  pub beside_still : (events : List Event) (marks : List Bool) → Obeys (Ok tt) x events y → length y.run ≡ length x.run → TurnsAreIdleBeside x u marks → TurnsAreIdleBeside y u marks
  beside_still events marks done still was i b mark is =
      let k = was i b mark (number_is x y i b net is) in
      (k.0, rests_still x y net events b done still k.1)

pub takes_spare : (u v b : ℕ) → u ≢ b → AllByRecursion (Spares b) (schedule.Take u v ∷ schedule.Handle u v ∷ [])
takes_spare u v b n = (n, (n, tt))

pub decides_spare : (u b : ℕ) → u ≢ b → AllByRecursion (Spares b) (schedule.Decide u ∷ schedule.Advertise u ∷ schedule.Offer u ∷ [])
decides_spare u b n = (n, (n, (n, tt)))

apart_by : (ns : List ℕ) (i k u : ℕ) (t s : Bool) → AllPairs (λ a b. a < b) ns → nat_lt i k ≡ t → nat_lt k i ≡ s → i < length ns → k < length ns → get_or ns i u ≡ u → get_or ns k u ≡ u → i ≡ k
apart_by ns i k u true s pairs e f l m p q =
    let less : get_or ns i u < get_or ns k u = pairs i k u (grind (arith, nat_tests, e)) m in
    absurd (omega (arith, less, p, q))
apart_by ns i k u false true pairs e f l m p q =
    let less : get_or ns k u < get_or ns i u = pairs k i u (grind (arith, nat_tests, f)) l in
    absurd (omega (arith, less, p, q))
apart_by ns i k u false false pairs e f l m p q = grind (arith, nat_tests, e, f)

-- a number stands at one place
one_place : (ns : List ℕ) (i k u : ℕ) → AllPairs (λ a b. a < b) ns → slice_get ns i ≡ Some u → slice_get ns k ≡ Some u → i ≡ k
one_place ns i k u pairs p q =
    apart_by ns i k u (nat_lt i k) (nat_lt k i) pairs refl refl (slice_get_within ns i u p) (slice_get_within ns k u q) (get_or_from_slice_get ns i u u p) (get_or_from_slice_get ns k u u q)

-- before the turn of a router without a mark
pub beside_from : (x : WorldView) (u place : ℕ) (marks : List Bool) → IsNetwork x.net → slice_get (numbers x.net.routers) place ≡ Some u → (slice_get marks place ≡ Some true → ⊥) → TurnsAreIdle x marks → TurnsAreIdleBeside x u marks
beside_from x u place marks is_net at none was i b mark is = (
  λ same.
      let i_is = one_place (numbers x.net.routers) i place u is_net.plan.rising (is ∙ ap Some (sym same)) at in
      none (subst (λ (k : ℕ). slice_get marks k ≡ Some true) i_is mark),
  was i b mark is,
)

-- and behind it
pub resting_from : (x : WorldView) (u : ℕ) (marks : List Bool) → TurnsAreIdleBeside x u marks → TurnsAreIdle x marks
resting_from x u marks was i b mark is = (was i b mark is).1

marked_by : (x : WorldView) (u place : ℕ) (old new : List Bool) (i b : ℕ) (t : Bool) → (i == place) ≡ t → slice_get (numbers x.net.routers) place ≡ Some u → TurnIsIdle x u
    → ((other : ℕ) → other ≢ place → slice_get new other ≡ slice_get old other) → TurnsAreIdleBeside x u old → slice_get new i ≡ Some true → slice_get (numbers x.net.routers) i ≡ Some b → TurnIsIdle x b
marked_by x u place old new i b true e at rest others was mark is =
    let i_is : i ≡ place = eqb-true i place e in
    let both : Some u ≡ Some b = sym at ∙ ap (slice_get (numbers x.net.routers)) (sym i_is) ∙ is in
    let same : u ≡ b = cc in
    subst (λ (k : ℕ). TurnIsIdle x k) same rest
marked_by x u place old new i b false e at rest others was mark is = (was i b (sym (others i (eqb-false i place e)) ∙ mark) is).1

-- a turn that did nothing: its router is marked
pub resting_marked : (x : WorldView) (u place : ℕ) (old new : List Bool) → slice_get (numbers x.net.routers) place ≡ Some u → TurnIsIdle x u
    → ((other : ℕ) → other ≢ place → slice_get new other ≡ slice_get old other) → TurnsAreIdleBeside x u old → TurnsAreIdle x new
resting_marked x u place old new at rest others was i b mark is = marked_by x u place old new i b (i == place) refl at rest others was mark is

-- ---- a router that is woken

-- its number stands at its place
numbered : (routers : List NetRouter) (place v : ℕ) → place < length routers → HoldsAt (λ r. r.asn ≡ v) routers place → slice_get (numbers routers) place ≡ Some v
numbered [] place v l holds = absurd (omega arith)
numbered (r ∷ routers) zero v l holds = ap Some (holds r)
numbered (r ∷ routers) (suc place) v l holds = numbered routers place v (omega arith) holds

pub number_at : (routers : List NetRouter) (place v : ℕ) → (place < length routers) × HoldsAt (λ r. r.asn ≡ v) routers place → slice_get (numbers routers) place ≡ Some v
number_at routers place v h = numbered routers place v h.0 h.1

pub read_here : {A : Type 0} (number : A → ℕ) (xs : List A) (i : ℕ) (x : A) → i < length xs → x ≡ get_or xs i x → slice_get (map number xs) i ≡ Some (number x)
read_here number [] i x l is = absurd (omega arith)
read_here number (y ∷ xs) zero x l is = ap (λ k. Some (number k)) (sym is)
read_here number (y ∷ xs) (suc i) x l is = read_here number xs i x (omega arith) is

pub woken_at : (net : Plan) (v place : ℕ) (old new : List Bool) → IsNetwork net → slice_get (numbers net.routers) place ≡ Some v → (slice_get new place ≡ Some true → ⊥)
    → ((other : ℕ) → other ≢ place → slice_get new other ≡ slice_get old other) → Woken net v old new
woken_at net v place old new is_net at here others i b mark is =
    let away : i ≢ place = λ same. here (subst (λ (k : ℕ). slice_get new k ≡ Some true) same mark) in
    (sym (others i away) ∙ mark, λ same. away (one_place (numbers net.routers) i place v is_net.plan.rising (is ∙ ap Some (sym same)) at))

pub none_rests : (x : WorldView) (marks : List Bool) → ((i : ℕ) → slice_get marks i ≡ Some true → ⊥) → TurnsAreIdle x marks
none_rests x marks none i u mark is = absurd (none i mark)
