-- Lists of events that are obeyed one behind the other.
use Rattle.std.proofs.Common.{◌≡◌, ℕ, zero, suc, ◌+◌, ◌<◌, ◌≤◌, arith, List, [], ◌∷◌, ◌++◌, length, map, take, drop, get_or, refl, ap, sym, ◌∙◌, subst, append_assoc, append-nil}
use Rattle.std.specs.Prelude.{Result, Ok, Err}
use Rattle.std.specs.List.{flat_map}
use Rattle.std.proofs.Math.Seq.{take-suc}
use Rattle.std.proofs.lemmas.List.{length-append, flat_map_more, take-append-drop, take_all}
use Rattle.std.proofs.lemmas.Grind.{flat_map-append}
use Rattle.ranked_policy.specs.declared.network.NetRouter.{NetRouter}
use Rattle.ranked_policy.specs.Plans.{numbers}
use Rattle.router_model.specs.declared.refusal.Stepped.{Stepped}
use Rattle.router_model.specs.declared.refusal.Stepped.TheVariants as stepped
use Rattle.router_model.specs.Settings.{Setting}
use Rattle.world_core.specs.declared.schedule.Event.{Event}
use Rattle.world_core.specs.declared.schedule.Event.TheVariants as schedule
use Rattle.world_core.specs.declared.schedule.StepFault.{StepFault}
use Rattle.world_core.specs.World.{World, WorldAnswer, Does, Nothing, Stops, Gives, world_of, onward, played, world_answer, world_after}
use Rattle.world_core.specs.Orders.{StopsAt, repeated}
use Rattle.world_core.specs.Views.{WorldView, plain_world, Answers, Obeys}
use Rattle.world_core.specs.Steps.{IsIdle}
use Rattle.world_core.proofs.Worlds.{played_then, one_more}

-- a schedule that leads on does so from any place
any_by : (g : Setting) (w y : World) (x : Event) (xs : List Event) (i j : ℕ) (a : WorldAnswer) → ((next : World) → played g next (i + 1) xs ≡ Ok y → played g next (j + 1) xs ≡ Ok y)
    → onward (world_of g w x i a) (λ next. played g next (i + 1) xs) ≡ Ok y → onward (world_of g w x j a) (λ next. played g next (j + 1) xs) ≡ Ok y
any_by g w y x xs i j (Does u e stamp) go h = go (world_after g w x u e stamp) h
any_by g w y x xs i j Nothing go h = go w h
any_by g w y x xs i j (Stops fault) go h = absurd cc

pub any_place : (g : Setting) (xs : List Event) (w y : World) (i j : ℕ) → played g w i xs ≡ Ok y → played g w j xs ≡ Ok y
any_place g [] w y i j h = h
any_place g (x ∷ xs) w y i j h = any_by g w y x xs i j (world_answer g w x) (λ next n. any_place g xs next y (i + 1) (j + 1) n) h

pub on_to : (g : Setting) (xs ys : List Event) (w y z : World) → played g w 0 xs ≡ Ok y → played g y 0 ys ≡ Ok z → played g w 0 (xs ++ ys) ≡ Ok z
on_to g xs ys w y z h k = (let t = played_then g xs ys w y 0 h in t.1 ∙ any_place g ys y z 0 t.0 k)

pub stops_behind : (g : Setting) (xs ys : List Event) (w y z : World) (at : ℕ) (why : StepFault) → played g w 0 xs ≡ Ok y → StopsAt g y ys at why z → StopsAt g w (xs ++ ys) (length xs + at) why z
stops_behind g xs ys w y z at why h s = record {
  before = xs ++ s.before;
  event = s.event;
  behind = s.behind;
  parts = ap (λ (k : List Event). xs ++ k) s.parts ∙ sym (append_assoc xs s.before (s.event ∷ s.behind));
  place = length-append xs s.before ∙ ap (λ (n : ℕ). length xs + n) s.place;
  reached = on_to g xs s.before w y z h s.reached;
  refused = s.refused;
}

pub stops_before : (g : Setting) (xs ys : List Event) (w z : World) (at : ℕ) (why : StepFault) → StopsAt g w xs at why z → StopsAt g w (xs ++ ys) at why z
stops_before g xs ys w z at why s = record {
  before = s.before;
  event = s.event;
  behind = s.behind ++ ys;
  parts = ap (λ (k : List Event). k ++ ys) s.parts ∙ append_assoc s.before (s.event ∷ s.behind) ys;
  place = s.place;
  reached = s.reached;
  refused = s.refused;
}

-- ---- of worlds of the code

pub obeys_behind : (x y z : WorldView) (xs ys : List Event) (r : Result (Unit {0}) StepFault) → y.net ≡ x.net → Obeys (Ok tt) x xs y → Obeys r y ys z → Obeys r x (xs ++ ys) z
obeys_behind x y z xs ys (Ok t) same h k g e ranks = on_to g xs ys (plain_world x) (plain_world y) (plain_world z) (h g e ranks) (k g (e ∙ sym same) ranks)
obeys_behind x y z xs ys (Err why) same h k g e ranks =
    let s = k g (e ∙ sym same) ranks in
    (length xs + s.0, stops_behind g xs ys (plain_world x) (plain_world y) (plain_world z) s.0 why (h g e ranks) s.1)

pub obeys_one : (x y : WorldView) (event : Event) (s : Stepped) → Answers (Ok s) x event y → Obeys (Ok tt) x (event ∷ []) y
obeys_one x y event s h g e ranks = one_more g [] event (plain_world x) (plain_world x) (plain_world y) s refl (h g e ranks)

-- a router that has nothing to do alone stays as it is
pub idle_obeys : (x : WorldView) (u : ℕ) → IsIdle x u → Obeys (Ok tt) x (schedule.Decide u ∷ schedule.Advertise u ∷ schedule.Offer u ∷ []) x
idle_obeys x u q =
    obeys_behind x x x (schedule.Decide u ∷ []) (schedule.Advertise u ∷ schedule.Offer u ∷ []) (Ok tt) refl (obeys_one x x (schedule.Decide u) stepped.Nothing q.decide)
    (obeys_behind x x x (schedule.Advertise u ∷ []) (schedule.Offer u ∷ []) (Ok tt) refl (obeys_one x x (schedule.Advertise u) stepped.Nothing q.advertise) (obeys_one x x (schedule.Offer u) stepped.Nothing q.offer))

pub still_is : (g : Setting) (w z : World) (event : Event) (why : StepFault) (a : WorldAnswer) → Gives g (Err why) a w event z → z ≡ w
still_is g w z event why (Does u e stamp) h = h.1
still_is g w z event why Nothing h = h.1
still_is g w z event why (Stops fault) h = h.1

-- ---- one behind what was done

pub obeys_next : (x y z : WorldView) (done one more : List Event) → done ++ one ≡ more → y.net ≡ x.net → Obeys (Ok tt) x done y → Obeys (Ok tt) y one z → Obeys (Ok tt) x more z
obeys_next x y z done one more is same h k = subst (λ (l : List Event). Obeys (Ok tt) x l z) is (obeys_behind x y z done one (Ok tt) same h k)

pub all_done : {A : Type 0} (f : A → List Event) (xs : List A) (i : ℕ) → length xs ≤ i → flat_map f (take i xs) ≡ flat_map f xs
all_done f xs i l = ap (flat_map f) (take_all i xs l)

pub one_done : {A : Type 0} (f : A → List Event) (xs : List A) (i : ℕ) (a : A) → i < length xs → a ≡ get_or xs i a → flat_map f (take i xs) ++ f a ≡ flat_map f (take (i + 1) xs)
one_done f xs i a l is =
    let one : suc i ≡ i + 1 = omega arith in
    flat_map_more f [] (take i xs) a
    ∙ ap (λ k. flat_map f (take i xs ++ k ∷ [])) is
    ∙ ap (flat_map f) (sym (take-suc xs i a l))
    ∙ ap (λ k. flat_map f (take k xs)) one

pub one_among : {A : Type 0} (f : A → List Event) (xs : List A) (i : ℕ) (a : A) → i < length xs → a ≡ get_or xs i a
    → (flat_map f (take i xs) ++ f a) ++ flat_map f (drop (i + 1) xs) ≡ flat_map f xs
one_among f xs i a l is =
    ap (λ k. k ++ flat_map f (drop (i + 1) xs)) (one_done f xs i a l is)
    ∙ sym (flat_map-append f (take (i + 1) xs) (drop (i + 1) xs))
    ∙ ap (flat_map f) (take-append-drop (i + 1) xs)

pub repeated_more : (n k : ℕ) (events : List Event) → repeated n events ++ repeated k events ≡ repeated (n + k) events
repeated_more zero k events = (let none : k ≡ 0 + k = omega arith in ap (λ n. repeated n events) none)
repeated_more (suc n) k events =
    let one : suc (n + k) ≡ suc n + k = omega arith in
    append_assoc events (repeated n events) (repeated k events) ∙ ap (λ l. events ++ l) (repeated_more n k events) ∙ ap (λ m. repeated m events) one

repeated_once : (events : List Event) → repeated 1 events ≡ events
repeated_once events = append-nil events

pub repeated_one : (n : ℕ) (events : List Event) → repeated n events ++ events ≡ repeated (n + 1) events
repeated_one n events = ap (λ k. repeated n events ++ k) (sym (repeated_once events)) ∙ repeated_more n 1 events

pub repeated_among : (n k all : ℕ) (events : List Event) → (n + 1) + k ≡ all → (repeated n events ++ events) ++ repeated k events ≡ repeated all events
repeated_among n k all events is =
    ap (λ l. l ++ repeated k events) (repeated_one n events) ∙ repeated_more (n + 1) k events ∙ ap (λ m. repeated m events) is

pub ticks_are : (routers : List NetRouter) → flat_map (λ r. schedule.Tick r.asn ∷ []) routers ≡ map (λ u. schedule.Tick u) (numbers routers)
ticks_are [] = refl
ticks_are (r ∷ routers) = ap (λ k. schedule.Tick r.asn ∷ k) (ticks_are routers)
