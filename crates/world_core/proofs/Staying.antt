-- The places of a router and of a link stay as they are while the network does.
use Rattle.std.proofs.Common.{◌≡◌, ℕ, zero, suc, ◌+◌, ◌<◌, nat_eq, Bool, true, false, List, [], ◌∷◌, length, map, refl, ap, sym, subst, ◌∙◌, arith, get_or, None, Some}
use Rattle.std.specs.Prelude.{slice_get, max, ◌||◌, IfSome, Result, Ok, Err}
use Rattle.std.specs.List.{list_any, AllByRecursion}
use Rattle.std.proofs.lemmas.Bool.Decides.{nat_tests}
use Rattle.std.proofs.lemmas.List.Kept.{AllPairs-filter}
use Rattle.std.proofs.lemmas.Option.{get_or_from_slice_get, slice_get_within}
use Rattle.ranked_policy.specs.Plans.{Plan, numbers}
use Rattle.router_model.specs.Settings.{Setting, linked, peers}
use Rattle.router_model.specs.Step.{next_offer}
use Rattle.router_model.specs.Calls.{Obey, Tick, Put, Handle, Decide, Advertise}
use Rattle.router_model.specs.Laws.{LinkedRoutersArePeers}
use Rattle.world_core.specs.declared.inbox.Inbox.{Inbox}
use Rattle.world_core.specs.declared.inbox.Pipe.{Pipe}
use Rattle.world_core.specs.Views.{WorldView, ArePlaced, KnowsBack, IsAt, IsWhole, plain_world, pipes_of}
use Rattle.world_core.specs.declared.schedule.Event.{Event}
use Rattle.world_core.specs.declared.schedule.Event.TheVariants as schedule
use Rattle.world_core.specs.declared.schedule.StepFault.{StepFault}
use Rattle.world_core.specs.World.{WorldAnswer, Stops, of_offer, called, taking_of, where_router, where_linked, world_answer}
use Rattle.world_core.specs.Events.{router_of, peer_of}
use Rattle.world_core.specs.Steps.{StandsAt, LinkAt, IsPlaceOf, FindsLink, IsPlaced, FindsPlaces}
use Rattle.world_core.proofs.Places.{moved, map_same, rising_at, all_here, number_here}
use Rattle.world_core.proofs.Linking.{passes, passes_link}
use Rattle.router_core.specs.Views.{RouterView}
use Rattle.world_core.proofs.Stepping.{known, stands}

-- the pipes to a router are those from its peers
pub peers_here : (x : WorldView) (u i : ℕ) (b : Inbox) → StandsAt x u i → map (λ p. p.peer) (get_or x.inboxes i b).pipes.items ≡ peers x.net u
peers_here x u i b at =
    all_here (λ b. b.router) (λ b. map (λ p. p.peer) b.pipes.items ≡ peers x.net b.router) x.inboxes u i b at.inbox at.whole.pipes
    ∙ ap (peers x.net) (number_here (λ b. b.router) x.inboxes u i b at.inbox)

-- ---- places by what stands there

-- the router at a place
pub stands_here : (x : WorldView) (u i : ℕ) → IsWhole x → slice_get (numbers x.net.routers) i ≡ Some u → StandsAt x u i
stands_here x u i whole is =
    let ns = numbers x.net.routers in
    let inside = slice_get_within ns i u is in
    let at = rising_at ns u i whole.network.plan.rising inside (λ d. get_or_from_slice_get ns i u d is) in
    record {
      whole = whole;
      router = moved (λ n. n) (λ r. r.number) ns x.routers u i (whole.routers ∙ sym (map_same ns)) at;
      inbox = moved (λ n. n) (λ b. b.router) ns x.inboxes u i (whole.inboxes ∙ sym (map_same ns)) at;
      known = λ g e. known g x.net u e (i, inside, get_or_from_slice_get ns i u u is);
    }

or_true : (b : Bool) → (b || true) ≡ true
or_true true = refl
or_true false = refl

is_among : (ns : List ℕ) (v k : ℕ) → IsAt (λ n. n) ns v k → list_any (nat_eq v) ns ≡ true
is_among [] v k h = absurd h
is_among (n ∷ ns) v zero h = (let same : nat_eq v n ≡ true = grind (arith, nat_tests, h) in rw same refl)
is_among (n ∷ ns) v (suc k) h = rw (is_among ns v k h.1) (or_true (nat_eq v n))

-- the pipe at a place leads from the peer at that place
pub link_here : LinkedRoutersArePeers → (x : WorldView) (u v i k : ℕ) → StandsAt x u i → k < length (peers x.net u) → ((d : ℕ) → get_or (peers x.net u) k d ≡ v) → LinkAt x u v i k
link_here law x u v i k at inside is =
    let ns = numbers x.net.routers in
    let ps = peers x.net u in
    let there = rising_at ps v k (AllPairs-filter (λ a b. a < b) (linked x.net u) ns at.whole.network.plan.rising) inside is in
    let joined = passes (linked x.net u) v ns (is_among ps v k there) in
    record {
      here = at;
      pipe = λ b. moved (λ n. n) (λ p. p.peer) ps (get_or x.inboxes i b).pipes.items v k (peers_here x u i b at ∙ sym (map_same ps)) there;
      linked = λ g e a. passes_link g x.net u v a e (at.known g e) (known g x.net v e (law x.net at.whole.network u v joined).other) joined;
    }

pub link_placed : LinkedRoutersArePeers → (x : WorldView) (u v i k : ℕ) → IsWhole x → ArePlaced x.net u v i k → LinkAt x u v i k
link_placed law x u v i k whole at =
    let ps = peers x.net u in
    link_here law x u v i k (stands_here x u i whole at.0) (slice_get_within ps k v at.1) (λ d. get_or_from_slice_get ps k v d at.1)

-- ---- what stands at a place

read_at : {A : Type 0} (number : A → ℕ) (xs : List A) (u i : ℕ) → IsAt number xs u i → slice_get (map number xs) i ≡ Some u
read_at number [] u i h = absurd h
read_at number (x ∷ xs) u zero h = ap Some h
read_at number (x ∷ xs) u (suc i) h = read_at number xs u i h.1

some_of : {A : Type 0} (number : A → ℕ) (xs : List A) (u i : ℕ) → IsAt number xs u i → A
some_of number [] u i h = absurd h
some_of number (x ∷ xs) u i h = x

pub router_placed : (x : WorldView) (u i : ℕ) → StandsAt x u i → slice_get (numbers x.net.routers) i ≡ Some u
router_placed x u i at = ap (λ (ns : List ℕ). slice_get ns i) (sym at.whole.routers) ∙ read_at (λ r. r.number) x.routers u i at.router

placed_link : (x : WorldView) (u v i k : ℕ) → LinkAt x u v i k → ArePlaced x.net u v i k
placed_link x u v i k at =
    let b = some_of (λ b. b.router) x.inboxes u i at.here.inbox in (
      router_placed x u i at.here,
      ap (λ (ns : List ℕ). slice_get ns k) (sym (peers_here x u i b at.here)) ∙ read_at (λ p. p.peer) (get_or x.inboxes i b).pipes.items v k (at.pipe b),
    )

-- the peer stands at that place among the peers of its router
pub peer_placed : (x : WorldView) (u v i k : ℕ) (xr : RouterView) → LinkAt x u v i k → xr ≡ get_or x.routers i xr → slice_get (peers xr.net xr.number) k ≡ Some v
peer_placed x u v i k xr at is =
    let s = stands x u i xr at.here is in
    subst (λ (n : Plan). slice_get (peers n xr.number) k ≡ Some v) (sym s.1) (subst (λ (m : ℕ). slice_get (peers x.net m) k ≡ Some v) (sym s.0) (placed_link x u v i k at).1)

-- where the pipe the other way stands, as the pipe from the peer knows
pub back_placed : (x : WorldView) (u v i k : ℕ) (b : Inbox) (p : Pipe) → LinkAt x u v i k → b ≡ get_or x.inboxes i b → p ≡ get_or b.pipes.items k p → ArePlaced x.net v u p.router p.back
back_placed x u v i k b p at box_is pipe_is =
    let net = x.net in
    let all0 = all_here (λ b. b.router) (λ b. AllByRecursion (KnowsBack net b.router) b.pipes.items) x.inboxes u i b at.here.inbox at.here.whole.backs in
    let all = subst (λ (b : Inbox). AllByRecursion (KnowsBack net b.router) b.pipes.items) (sym box_is) all0 in
    let here = subst (λ (b : Inbox). IsAt (λ p. p.peer) b.pipes.items v k) (sym box_is) (at.pipe b) in
    let known = subst (KnowsBack net b.router) (sym pipe_is) (all_here (λ p. p.peer) (KnowsBack net b.router) b.pipes.items v k p here all) in
    let peer_is : p.peer ≡ v = ap (λ (p : Pipe). p.peer) pipe_is ∙ number_here (λ p. p.peer) b.pipes.items v k p here in
    let router_is : b.router ≡ u = ap (λ (b : Inbox). b.router) box_is ∙ number_here (λ b. b.router) x.inboxes u i b at.here.inbox in
    subst (λ (w : ℕ). ArePlaced net w u p.router p.back) peer_is (subst (λ (w : ℕ). ArePlaced net p.peer w p.router p.back) router_is known)

-- the places of an event that names a peer, and why it has none
stops_linked : (x : WorldView) (event : Event) (v : ℕ) (why : StepFault) → Some v ≡ peer_of event → FindsLink (Err why) x (router_of event) v → (g : Setting) → g.net ≡ x.net → world_answer g (plain_world x) event ≡ Stops why
stops_linked x (schedule.Put u w) v why is h g e = (let same : v ≡ w = cc in let a = called g (plain_world x) u (Put w) in subst (λ (k : ℕ). where_linked g u k a ≡ Stops why) same (h g e a))
stops_linked x (schedule.Take u w) v why is h g e =
    let same : v ≡ w = cc in
    let a = taking_of g (plain_world x) u w (slice_get (pipes_of x.inboxes w u) 0) in subst (λ (k : ℕ). where_linked g u k a ≡ Stops why) same (h g e a)
stops_linked x (schedule.Handle u w) v why is h g e = (let same : v ≡ w = cc in let a = called g (plain_world x) u (Handle w) in subst (λ (k : ℕ). where_linked g u k a ≡ Stops why) same (h g e a))
stops_linked x (schedule.Command u c) v why is h g e = absurd cc
stops_linked x (schedule.Tick u) v why is h g e = absurd cc
stops_linked x (schedule.Decide u) v why is h g e = absurd cc
stops_linked x (schedule.Advertise u) v why is h g e = absurd cc
stops_linked x (schedule.Offer u) v why is h g e = absurd cc

pub finds_linked : (r : Result (ℕ × ℕ) StepFault) (x : WorldView) (event : Event) (v : ℕ) → Some v ≡ peer_of event → FindsLink r x (router_of event) v → FindsPlaces r x event
finds_linked (Ok p) x event v is h =
    let at = placed_link x (router_of event) v p.0 p.1 h in
    (at.0, subst (λ o. IfSome o (λ (w : ℕ). slice_get (peers x.net (router_of event)) p.1 ≡ Some w)) is at.1)
finds_linked (Err why) x event v is h = stops_linked x event v why is h

-- the place of the router of an event that names none
pub placed_alone : (x : WorldView) (event : Event) (i : ℕ) → None ≡ peer_of event → StandsAt x (router_of event) i → IsPlaced x.net event i 0
placed_alone x event i is at = (router_placed x (router_of event) i at, subst (λ o. IfSome o (λ (w : ℕ). slice_get (peers x.net (router_of event)) 0 ≡ Some w)) is tt)

no_router : (x : WorldView) (u : ℕ) (why : StepFault) → IsPlaceOf (Err why) x u → (g : Setting) → g.net ≡ x.net → (a : WorldAnswer) → where_router g u a ≡ Stops why
no_router x u why h g e a = rw (h.1 g e) (ap Stops (sym h.0))

-- and why it has none
pub stops_alone : (x : WorldView) (event : Event) (why : StepFault) → None ≡ peer_of event → IsPlaceOf (Err why) x (router_of event) → (g : Setting) → g.net ≡ x.net → world_answer g (plain_world x) event ≡ Stops why
stops_alone x (schedule.Put u w) why is h g e = absurd cc
stops_alone x (schedule.Take u w) why is h g e = absurd cc
stops_alone x (schedule.Handle u w) why is h g e = absurd cc
stops_alone x (schedule.Command u c) why is h g e = no_router x u why h g e (called g (plain_world x) u (Obey c))
stops_alone x (schedule.Tick u) why is h g e = no_router x u why h g e (called g (plain_world x) u Tick)
stops_alone x (schedule.Decide u) why is h g e = no_router x u why h g e (called g (plain_world x) u Decide)
stops_alone x (schedule.Advertise u) why is h g e = no_router x u why h g e (called g (plain_world x) u Advertise)
stops_alone x (schedule.Offer u) why is h g e =
    let w = plain_world x in
    no_router x u why h g e (of_offer u (max (w.routers u).stamp w.board + 1) (next_offer (w.routers u).router))
