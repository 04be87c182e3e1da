-- What a step keeps of a world that comes out of its own events.
use Rattle.std.proofs.Common.{◌≡◌, ℕ, suc, ◌+◌, ◌<◌, arith, length, take, drop, get_or, ◌++◌, append_assoc, inl, inr, ◌==◌, Bool, true, false, cond, List, [], ◌∷◌, refl, ap, sym, ◌∙◌, subst}
use Rattle.std.specs.List.{AllByRecursion}
use Rattle.std.proofs.Math.Path.{fun_ext}
use Rattle.std.proofs.Math.Seq.{take-suc}
use Rattle.std.proofs.lemmas.List.{take-append-drop, length-take-le}
use Rattle.std.specs.Prelude.{Result, Ok, Err}
use Rattle.router_model.specs.declared.refusal.Stepped.{Stepped}
use Rattle.router_model.specs.Settings.{Setting}
use Rattle.ranked_policy.specs.Plans.{Plan}
use Rattle.router_core.specs.Views.{RouterView, plain_of}
use Rattle.snap_collector.specs.Collector.{CollectorView, made_for}
use Rattle.world_core.specs.declared.inbox.Pipe.{Pipe}
use Rattle.world_core.specs.declared.inbox.Inbox.{Inbox}
use Rattle.world_core.specs.declared.schedule.Event.{Event}
use Rattle.world_core.specs.declared.schedule.StepFault.{StepFault}
use Rattle.world_core.specs.World.{World, new_world, WorldAnswer, Does, Nothing, Stops, Gives, Played, world_of, onward, played, world_answer, world_after, IsReplayed}
use Rattle.world_core.specs.Orders.{IsRefused, StopsAt}
use Rattle.world_core.specs.Keeping.{StepsAreReplayed, PlayedWorldsKeepTheirPromises}
use Rattle.world_core.specs.Views.{WorldView, plain_world, new_stamped, at_number, pipes_of, pipes_to, items_from, IsNewRouter, Opens, ComesOut, Answers, Plays, Reaches, KeepsPromises, IsWhole}
use Rattle.world_core.specs.Steps.{StepsTo}
use Rattle.world_core.proofs.Stepping.{same_world}

keeps : StepsAreReplayed → (g : Setting) (r : Result Stepped StepFault) (a : WorldAnswer) (w z : World) (event : Event) → world_answer g w event ≡ a → Gives g r a w event z → IsReplayed g w → IsReplayed g z
keeps law g (Ok s) (Does u e stamp) w z event is h was = subst (IsReplayed g) (sym h.1) (law g w event u e stamp was is)
keeps law g (Err why) (Does u e stamp) w z event is h was = subst (IsReplayed g) (sym h.1) was
keeps law g r Nothing w z event is h was = subst (IsReplayed g) (sym h.1) was
keeps law g r (Stops fault) w z event is h was = subst (IsReplayed g) (sym h.1) was

pub comes_out : StepsAreReplayed → (x y : WorldView) (event : Event) (r : Result Stepped StepFault) → ComesOut x → y.net ≡ x.net → Answers r x event y → ComesOut y
comes_out law x y event r was same answers g e ranks =
    keeps law g r (world_answer g (plain_world x) event) (plain_world x) (plain_world y) event refl (answers g (e ∙ same) ranks) (was g (e ∙ same) ranks)

-- a step leaves a world
pub stepped : StepsAreReplayed → (x y : WorldView) (event : Event) (r : Result Stepped StepFault) → ComesOut x → StepsTo r x event y → IsWhole y × ComesOut y
stepped law x y event r was left = (left.whole, comes_out law x y event r was left.same left.answers)

pub promises : PlayedWorldsKeepTheirPromises → (x : WorldView) → ComesOut x → KeepsPromises x
promises law x was g e set = law g set x.run (plain_world x) (was g e set.chooses)

-- ---- a world in which nothing was done

pub comes_new : (net : Plan) (x : WorldView) → Opens net x → ComesOut x
comes_new net x h g e ranks = subst (IsReplayed g) (sym (h.1 g (e ∙ h.0))) refl

same_by : {B : Type 0} (b : Bool) (x : B) → cond b x x ≡ x
same_by true x = refl
same_by false x = refl

all_new : (net : Plan) (rs : List RouterView) (u : ℕ) → AllByRecursion (IsNewRouter net) rs → at_number (λ r. r.number) plain_of (new_stamped net) rs u ≡ new_stamped net
all_new net [] u h = refl
all_new net (r ∷ rs) u h = rw (h.0.1, all_new net rs u h.1) (same_by (r.number == u) (new_stamped net))

all_empty : (ps : List Pipe) (a : ℕ) → AllByRecursion (λ p. p.items.items ≡ []) ps → items_from ps a ≡ []
all_empty [] a h = refl
all_empty (p ∷ ps) a h = rw (h.0, all_empty ps a h.1) (same_by (p.peer == a) [])

to_by : (t : Bool) (i : Inbox) (all : List Pipe) (a : ℕ) → items_from i.pipes.items a ≡ [] → items_from all a ≡ [] → items_from (cond t i.pipes.items all) a ≡ []
to_by true i all a h k = h
to_by false i all a h k = k

to_empty : (boxes : List Inbox) (a b : ℕ) → AllByRecursion (λ i. AllByRecursion (λ p. p.items.items ≡ []) i.pipes.items) boxes → pipes_of boxes a b ≡ []
to_empty [] a b h = refl
to_empty (i ∷ boxes) a b h = to_by (i.router == b) i (pipes_to boxes b) a (all_empty i.pipes.items a h.0) (to_empty boxes a b h.1)

pub opened : (net : Plan) (rs : List RouterView) (boxes : List Inbox) (kept : CollectorView) (run : List Event) → run ≡ [] → AllByRecursion (IsNewRouter net) rs
    → AllByRecursion (λ i. AllByRecursion (λ p. p.items.items ≡ []) i.pipes.items) boxes → made_for kept ≡ (λ s. [])
    → Opens net (record { net = net; routers = rs; inboxes = boxes; collector = kept; board = 0; run = run })
opened net rs boxes kept run nothing new empty none = (
  refl,
  λ g e.
      same_world (new_world g) (plain_world (record { net = net; routers = rs; inboxes = boxes; collector = kept; board = 0; run = run }))
      (fun_ext (λ u. all_new net rs u new ∙ ap (λ (n : Plan). new_stamped n) (sym e))) (fun_ext (λ a. fun_ext (λ b. to_empty boxes a b empty))) none refl nothing,
)

-- ---- events in their order

pub step_to : (g : Setting) (y z : World) (event : Event) (at : ℕ) (s : Stepped) (a : WorldAnswer) → Gives g (Ok s) a y event z → world_of g y event at a ≡ Ok z
step_to g y z event at s (Does u e stamp) h = ap Ok (sym h.1)
step_to g y z event at s Nothing h = ap Ok (sym h.1)
step_to g y z event at s (Stops fault) h = (let k = h.0 in absurd cc)

then_by : (g : Setting) (w y : World) (x : Event) (xs ys : List Event) (at : ℕ) (a : WorldAnswer)
    → ((next : World) → played g next (at + 1) xs ≡ Ok y → (k : ℕ) × (played g next (at + 1) (xs ++ ys) ≡ played g y k ys))
    → onward (world_of g w x at a) (λ next. played g next (at + 1) xs) ≡ Ok y
    → (k : ℕ) × (onward (world_of g w x at a) (λ next. played g next (at + 1) (xs ++ ys)) ≡ played g y k ys)
then_by g w y x xs ys at (Does u e stamp) go h = go (world_after g w x u e stamp) h
then_by g w y x xs ys at Nothing go h = go w h
then_by g w y x xs ys at (Stops fault) go h = absurd cc

pub played_then : (g : Setting) (xs ys : List Event) (w y : World) (at : ℕ) → played g w at xs ≡ Ok y → (k : ℕ) × (played g w at (xs ++ ys) ≡ played g y k ys)
played_then g [] ys w y at h =
    let same : w ≡ y = cc in
    (at, ap (λ (k : World). played g k at ys) same)
played_then g (x ∷ xs) ys w y at h = then_by g w y x xs ys at (world_answer g w x) (λ next n. played_then g xs ys next y (at + 1) n) h

pub one_more : (g : Setting) (xs : List Event) (event : Event) (w y z : World) (s : Stepped) → played g w 0 xs ≡ Ok y → Gives g (Ok s) (world_answer g y event) y event z → played g w 0 (xs ++ event ∷ []) ≡ Ok z
one_more g xs event w y z s h gives =
    let t = played_then g xs (event ∷ []) w y 0 h in
    t.1 ∙ ap (λ (r : Played). onward r (λ next. Ok next)) (step_to g y z event t.0 s (world_answer g y event) gives)

pub is_refused : (g : Setting) (y z : World) (event : Event) (why : StepFault) (a : WorldAnswer) → world_answer g y event ≡ a → Gives g (Err why) a y event z → IsRefused g y event why
is_refused g y z event why (Does u e stamp) is h = inr (u, stamp, e, h.0, is)
is_refused g y z event why Nothing is h = (let k = h.0 in absurd cc)
is_refused g y z event why (Stops fault) is h = (let k : why ≡ fault = (let q = h.0 in cc) in inl (is ∙ ap Stops (sym k)))

pub cut_at : (events : List Event) (i : ℕ) (d : Event) → i < length events → events ≡ take i events ++ get_or events i d ∷ drop (suc i) events
cut_at events i d l =
    sym (take-append-drop (suc i) events) ∙ ap (λ (k : List Event). k ++ drop (suc i) events) (take-suc events i d l) ∙ append_assoc (take i events) (get_or events i d ∷ []) (drop (suc i) events)

pub stops_at : (g : Setting) (w y z : World) (events : List Event) (i : ℕ) (event : Event) (why : StepFault) → i < length events → event ≡ get_or events i event → played g w 0 (take i events) ≡ Ok y
    → Gives g (Err why) (world_answer g y event) y event z → StopsAt g w events i why y
stops_at g w y z events i event why l is h gives = record {
  before = take i events;
  event = event;
  behind = drop (suc i) events;
  parts = cut_at events i event l ∙ ap (λ (k : Event). take i events ++ k ∷ drop (suc i) events) (sym is);
  place = length-take-le i events (omega arith);
  reached = h;
  refused = is_refused g y z event why (world_answer g y event) refl gives;
}

-- ---- a schedule that is played

pub reaches_first : (net : Plan) (events : List Event) (x : WorldView) → Opens net x → KeepsPromises x → Reaches net events 0 x
reaches_first net events x opens promised = record { net = opens.0; promises = promised; played = λ g e ranks. ap Ok (sym (opens.1 g e)) }

pub reaches_next : (net : Plan) (events : List Event) (i : ℕ) (event : Event) (x y : WorldView) (s : Stepped) → i < length events → event ≡ get_or events i event → Reaches net events i x
    → Answers (Ok s) x event y → y.net ≡ x.net → KeepsPromises y → Reaches net events (suc i) y
reaches_next net events i event x y s l is was answers same promised = record {
  net = same ∙ was.net;
  promises = promised;
  played = λ g e ranks. ap (played g (new_world g) 0) (take-suc events i event l ∙ ap (λ (k : Event). take i events ++ k ∷ []) (sym is))
      ∙ one_more g (take i events) event (new_world g) (plain_world x) (plain_world y) s (was.played g e ranks) (answers g (e ∙ sym was.net) ranks);
}

pub plays_until : (net : Plan) (events : List Event) (i : ℕ) (event : Event) (x y : WorldView) (why : StepFault) → i < length events → event ≡ get_or events i event → Reaches net events i x
    → Answers (Err why) x event y → Plays (Err (record { at = i; why = why })) net events
plays_until net events i event x y why l is was answers g e ranks =
    inr (plain_world x, stops_at g (new_world g) (plain_world x) (plain_world y) events i event why l is (was.played g e ranks) (answers g (e ∙ sym was.net) ranks))
