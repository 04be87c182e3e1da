-- What a router did, as a step of the world.
use Rattle.std.proofs.Common.{◌≡◌, ℕ, zero, suc, ◌<◌, ◌==◌, nat_eq, Bool, true, false, cond, List, [], ◌∷◌, ◌++◌, length, refl, ap, sym, ◌∙◌, arith, subst, get_or, set}
use Rattle.std.specs.Prelude.{Result, Ok, Err, ◌||◌}
use Rattle.std.specs.List.{list_any}
use Rattle.std.proofs.Math.Path.{fun_ext}
use Rattle.std.proofs.lemmas.List.{append-nil}
use Rattle.std.proofs.lemmas.Bool.{eqb-true, eq-eqb}
use Rattle.std.proofs.lemmas.Bool.Decides.{nat_tests}
use Rattle.std.proofs.lemmas.Map.Views.{Contains-from_any}
use Rattle.run_model.specs.Network.{alone, puts, takes, offers}
use Rattle.outbox.specs.declared.item.Item.{Item}
use Rattle.snap_marker.specs.Recordings.{MadeOffer}
use Rattle.ranked_policy.specs.Plans.{Plan, IsNetwork, IsRouter, numbers}
use Rattle.router_model.specs.declared.refusal.RouterError.{RouterError}
use Rattle.router_model.specs.declared.refusal.RouterError.TheVariants as error
use Rattle.router_model.specs.declared.refusal.Stepped.{Stepped}
use Rattle.router_model.specs.Settings.{Setting, is_router}
use Rattle.router_model.specs.Laws.{AnswersAreSteps}
use Rattle.router_model.specs.Step.{RouterEvent, after}
use Rattle.router_model.specs.Calls.{Stamped, Call, Obey, Tick, Put, Take, Handle, Decide, Advertise, Answer, Steps, Idle, Refuses, answer, stamp_of, stamped_after, IsEventOf}
use Rattle.router_core.specs.declared.router.call.Call as core
use Rattle.router_core.specs.Calling.{call_of}
use Rattle.router_core.specs.Views.{RouterView, plain_of, IsSame}
use Rattle.world_core.specs.declared.schedule.Event.{Event}
use Rattle.world_core.specs.declared.schedule.StepFault.{StepFault}
use Rattle.world_core.specs.declared.schedule.StepFault.TheVariants.{NoSuchRouter}
use Rattle.world_core.specs.World.{World, WorldAnswer, Stops, Gives, world_answer, of_answer, refused_by, called, where_router, world_after, joined}
use Rattle.world_core.specs.Views.{WorldView, plain_world, routers_of, new_stamped, IsAt, IsWhole, refusal, Entered, Enters}
use Rattle.world_core.specs.Steps.{StandsAt, IsOwn, Asks}
use Rattle.world_core.proofs.Places.{number_here, numbers_set, all_set, all_here, here, set_at}

-- ---- whether a router is there

or_true : (b : Bool) → (b || true) ≡ true
or_true true = refl
or_true false = refl

known_by : (ns : List ℕ) (k u : ℕ) → k < length ns → get_or ns k u ≡ u → list_any (λ n. u == n) ns ≡ true
known_by [] k u l h = absurd (omega arith)
known_by (n ∷ ns) zero u l h = rw (eq-eqb u n (sym h)) refl
known_by (n ∷ ns) (suc k) u l h = rw (known_by ns k u (omega arith) h) (or_true (u == n))

pub known : (g : Setting) (net : Plan) (u : ℕ) → g.net ≡ net → IsRouter net.routers u → is_router g u ≡ true
known g net u e h = rw e (known_by (numbers net.routers) h.0 u h.1 h.2)

is_there : (g : Setting) (u : ℕ) → is_router g u ≡ true → IsRouter g.net.routers u
is_there g u h = Contains-from_any {eq = nat_eq} (λ x y e. grind (arith, nat_tests, e)) u (numbers g.net.routers) h

unknown_by : (g : Setting) (u : ℕ) (b : Bool) → is_router g u ≡ b → (IsRouter g.net.routers u → ⊥) → is_router g u ≡ false
unknown_by g u true e n = absurd (n (is_there g u e))
unknown_by g u false e n = e

pub unknown : (g : Setting) (net : Plan) (u : ℕ) → g.net ≡ net → (IsRouter net.routers u → ⊥) → is_router g u ≡ false
unknown g net u e n = unknown_by g u (is_router g u) refl (subst (λ (k : Plan). IsRouter k.routers u → ⊥) (sym e) n)

-- ---- an answer of a router is one of the world

lift_refusal : (g : Setting) (r : Result Stepped StepFault) (why : RouterError) (w z : World) (event : Event) → r ≡ refusal why → z ≡ w → Gives g r (refused_by why) w event z
lift_refusal g r error.NoSuchPeer w z event h k = (h, k)
lift_refusal g r error.NotOrigin w z event h k = (h, k)
lift_refusal g r (error.OldSnapshot last) w z event h k = (h, k)
lift_refusal g r (error.Blocked v) w z event h k = (h, k)
lift_refusal g r (error.Held v) w z event h k = (h, k)
lift_refusal g r error.StampEnd w z event h k = (h, k)
lift_refusal g r error.EpochEnd w z event h k = (h, k)
lift_refusal g r error.Memory w z event h k = (h, k)

pub lifted : (g : Setting) (r : Result Stepped StepFault) (a : Answer) (w z : World) (event : Event) (u stamp : ℕ) (done : RouterEvent → Type 0) (still : Type 0) → Entered r a done still
    → ((e : RouterEvent) → a ≡ Steps e → done e → z ≡ world_after g w event u e stamp) → (still → z ≡ w) → Gives g r (of_answer u stamp a) w event z
lifted g (Ok s) (Steps e) w z event u stamp done still h go stay = (h.0, go e refl h.1)
lifted g (Err why) (Steps e) w z event u stamp done still h go stay = (h.0, stay h.1)
lifted g r Idle w z event u stamp done still h go stay = (h.0, stay h.1)
lifted g r (Refuses why) w z event u stamp done still h go stay = lift_refusal g r why w z event h.0 (stay h.1)

-- ---- a world by its parts

world : (ℕ → Stamped) → (ℕ → ℕ → List Item) → (ℕ → List MadeOffer) → ℕ → List Event → World
world r p m b n = record { routers = r; pipes = p; made = m; board = b; run = n }

pub same_world : (w z : World) → z.routers ≡ w.routers → z.pipes ≡ w.pipes → z.made ≡ w.made → z.board ≡ w.board → z.run ≡ w.run → z ≡ w
unfolding world
same_world w z r p m b n =
    ap (λ (k : ℕ → Stamped). world k z.pipes z.made z.board z.run) r ∙ ap (λ (k : ℕ → ℕ → List Item). world w.routers k z.made z.board z.run) p
    ∙ ap (λ (k : ℕ → List MadeOffer). world w.routers w.pipes k z.board z.run) m ∙ ap (λ (k : ℕ). world w.routers w.pipes w.made k z.run) b
    ∙ ap (λ (k : List Event). world w.routers w.pipes w.made w.board k) n

pub nothing_made : (made : ℕ → List MadeOffer) → made ≡ joined made []
nothing_made made = fun_ext (λ s. sym (append-nil (made s)))

-- the routers after one of them changed
pub routers_set : (x : WorldView) (u i : ℕ) (y : RouterView) (t : Stamped) → IsAt (λ r. r.number) x.routers u i → y.number ≡ u → plain_of y ≡ t
    → routers_of (record x { routers = set x.routers i y }) ≡ (λ k. cond (k == u) t (routers_of x k))
routers_set x u i y t at e is =
    fun_ext (λ k. set_at (λ r. r.number) plain_of (new_stamped x.net) x.routers u i y k at e ∙ ap (λ (s : Stamped). cond (k == u) s (routers_of x k)) is)

still_by : (f : ℕ → Stamped) (u k : ℕ) (b : Bool) → (k == u) ≡ b → cond b (f u) (f k) ≡ f k
still_by f u k true e = ap f (sym (eqb-true k u e))
still_by f u k false e = refl

pub routers_stay : (x : WorldView) (u i : ℕ) (y : RouterView) → IsAt (λ r. r.number) x.routers u i → y.number ≡ u → plain_of y ≡ routers_of x u
    → routers_of (record x { routers = set x.routers i y }) ≡ routers_of x
routers_stay x u i y at e is =
    routers_set x u i y (routers_of x u) at e is ∙ fun_ext (λ k. still_by (routers_of x) u k (k == u) refl)

-- ---- a call that touches no pipe

abbrev pub Unmoved : RouterEvent → Type 0
Unmoved (alone o) = Unit {0}
Unmoved (puts v i) = ⊥
Unmoved (takes v i) = ⊥
Unmoved (offers made) = ⊥

pub is_own : (c : core.Call) → IsOwn (call_of c)
is_own c = grind arith

unmoved : (call : Call) (e : RouterEvent) → IsOwn call → IsEventOf call e → Unmoved e
unmoved (Obey c) e own is = subst Unmoved (sym is) tt
unmoved Tick e own is = subst Unmoved (sym is) tt
unmoved (Put v) e own is = absurd own
unmoved (Take v stamp what) e own is = absurd own
unmoved (Handle v) e own is = subst Unmoved (sym is) tt
unmoved Decide e own is = subst Unmoved (sym is) tt
unmoved Advertise e own is = subst Unmoved (sym is.1) tt

own_after : (g : Setting) (w z : World) (event : Event) (u stamp : ℕ) (e : RouterEvent) → Unmoved e
    → z.routers ≡ (λ k. cond (k == u) (record { router = after g u (w.routers u).router e; stamp = stamp }) (w.routers k)) → z.pipes ≡ w.pipes → z.made ≡ w.made → z.board ≡ w.board → z.run ≡ w.run ++ event ∷ []
    → z ≡ world_after g w event u e stamp
own_after g w z event u stamp (alone o) un r p m b n = same_world (world_after g w event u (alone o) stamp) z r p (m ∙ nothing_made w.made) b n
own_after g w z event u stamp (puts v i) un r p m b n = absurd un
own_after g w z event u stamp (takes v i) un r p m b n = absurd un
own_after g w z event u stamp (offers made) un r p m b n = absurd un

-- ---- the router at its place

abbrev pub Stands : WorldView → ℕ → ℕ → RouterView → Type 0
Stands x u i xr = (xr.number ≡ u) × (xr.net ≡ x.net) × (routers_of x u ≡ plain_of xr)

pub stands : (x : WorldView) (u i : ℕ) (xr : RouterView) → StandsAt x u i → xr ≡ get_or x.routers i xr → Stands x u i xr
stands x u i xr at is = (
  ap (λ (r : RouterView). r.number) is ∙ number_here (λ r. r.number) x.routers u i xr at.router,
  ap (λ (r : RouterView). r.net) is ∙ all_here (λ r. r.number) (λ r. r.net ≡ x.net) x.routers u i xr at.router at.whole.nets,
  here (λ r. r.number) plain_of (new_stamped x.net) x.routers u i xr at.router ∙ ap plain_of (sym is),
)

pub whole_router : (x : WorldView) (u i : ℕ) (y : RouterView) (run : List Event) → StandsAt x u i → y.number ≡ u → y.net ≡ x.net → IsWhole (record x { routers = set x.routers i y; run = run })
whole_router x u i y run at e n = record {
  network = at.whole.network;
  routers = numbers_set (λ r. r.number) x.routers u i y at.router e ∙ at.whole.routers;
  nets = all_set (λ r. r.number) (λ r. r.net ≡ x.net) x.routers u i y at.router at.whole.nets n;
  inboxes = at.whole.inboxes;
  pipes = at.whole.pipes;
  backs = at.whole.backs;
  members = at.whole.members;
}

pub own_asks : AnswersAreSteps → (x : WorldView) (u i : ℕ) (xr y : RouterView) (event : Event) (call : Call) (run : List Event) (r : Result Stepped StepFault)
    → StandsAt x u i → xr ≡ get_or x.routers i xr → IsOwn call → Enters r xr x.run event call y run → IsSame xr y
    → Asks r x u event call (record x { routers = set x.routers i y; run = run })
own_asks law x u i xr y event call run r at is own enters same g e ranks =
    let s = stands x u i xr at is in
    let num : y.number ≡ u = same.number ∙ s.0 in
    let w = plain_world x in
    let z = plain_world (record x { routers = set x.routers i y; run = run }) in
    let stamp = stamp_of g u (routers_of x u) call in
    let Answers_as : ℕ → Stamped → Type 0 = (λ k t. Entered r (answer g k t call) (λ d. (plain_of y ≡ stamped_after g k t call d) × (run ≡ x.run ++ event ∷ [])) ((plain_of y ≡ t) × (run ≡ x.run))) in
    let entered = subst (λ k. Answers_as k (routers_of x u)) s.0 (subst (Answers_as xr.number) (sym s.2) (enters g (e ∙ sym s.1) ranks)) in
    subst (λ b. Gives g r (cond b (called g w u call) (Stops NoSuchRouter)) w event z) (sym (at.known g e))
    (lifted g r (answer g u (routers_of x u) call) w z event u stamp _ _ entered
    (λ d steps h. own_after g w z event u stamp d (unmoved call d own (law g (subst (λ (k : Plan). IsNetwork k) (sym e) at.whole.network) u (routers_of x u) call d steps).0)
    (routers_set x u i y (stamped_after g u (routers_of x u) call d) at.router num h.0) refl refl refl h.1)
    (λ h. same_world w z (routers_stay x u i y at.router num h.0) refl refl refl h.1))

-- ---- where a link joins the two

pub by_router : (g : Setting) (u : ℕ) (a : WorldAnswer) → is_router g u ≡ true → where_router g u a ≡ a
by_router g u a h = rw h refl

-- an event that is refused leaves the world as it is
pub stays_stopped : (g : Setting) (w : World) (event : Event) (why : StepFault) → world_answer g w event ≡ Stops why → Gives g (Err why) (world_answer g w event) w event w
stays_stopped g w event why h = rw h (refl, refl)
