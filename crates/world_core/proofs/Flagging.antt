-- Events that are played with a flag for each that is done.
use Rattle.std.proofs.Common.{◌≡◌, ℕ, ◌+◌, ◌<◌, Bool, List, [], ◌∷◌, ◌++◌, length, take, drop, get_or, append_assoc, refl, ap, sym, ◌∙◌, arith, suc, subst, inl, inr, length-append}
use Rattle.std.specs.Prelude.{nat_lt, Ok, Err}
use Rattle.std.proofs.Math.Seq.{take-suc}
use Rattle.std.proofs.lemmas.List.{append-nil, length-take-le}
use Rattle.ranked_policy.specs.Plans.{Plan, IsNetwork, IsRouter}
use Rattle.router_model.specs.declared.refusal.Stepped.TheVariants as stepped
use Rattle.router_model.specs.Laws.{AnswersAreSteps}
use Rattle.router_model.specs.Settings.{Setting, ChoosesByRank}
use Rattle.router_model.specs.Step.{RouterEvent}
use Rattle.router_runs.specs.Existence.{EachNetworkHasASetting}
use Rattle.world_core.specs.declared.schedule.Event.{Event}
use Rattle.world_core.specs.declared.schedule.StepFault.{StepFault}
use Rattle.world_core.specs.declared.schedule.PlayFault.{PlayFault}
use Rattle.world_core.specs.declared.schedule.StepFault.TheVariants.{Memory}
use Rattle.world_core.specs.Events.{router_of}
use Rattle.world_core.specs.Flagging.{Flags, FlagsTo, PlaysOn}
use Rattle.world_core.specs.Orders.{IsPlayed, IsRefused}
use Rattle.world_core.specs.Tested.{test_of, world_next, tested}
use Rattle.world_core.specs.Views.{WorldView, plain_world, routers_of, Opens, Answers}
use Rattle.world_core.specs.World.{World, WorldAnswer, Does, Nothing, Stops, Gives, Played, new_world, world_answer, world_after, world_of, onward, played, name_of}
use Rattle.world_core.proofs.Loops.{tests_more}
use Rattle.world_core.proofs.Playing.{doing, is_there}
use Rattle.world_core.proofs.Worlds.{step_to, played_then, is_refused, cut_at}

-- ---- one event

named_router : (u : ℕ) (e : RouterEvent) → router_of (name_of u e) ≡ u
named_router u e = grind arith

-- the flag of an event that is done
abbrev IsFlag : ℕ → WorldView → Event → Bool → Type 0
IsFlag s x event b = IsRouter x.net.routers (router_of event) → b ≡ nat_lt (routers_of x (router_of event)).router.snapshots.last s

is_flag : AnswersAreSteps → (s : ℕ) (x : WorldView) (event : Event) (b : Bool) → IsNetwork x.net → IsFlag s x event b → (g : Setting) → g.net ≡ x.net
    → (u : ℕ) (e : RouterEvent) (stamp : ℕ) → world_answer g (plain_world x) event ≡ Does u e stamp → b ≡ nat_lt (routers_of x u).router.snapshots.last s
is_flag answers s x event b net flag g same u e stamp is =
    let d = doing answers g (subst IsNetwork (sym same) net) (plain_world x) event u e stamp is in
    let who : router_of event ≡ u = ap router_of (sym d.name) ∙ named_router u e in
    let there : IsRouter x.net.routers u = subst (λ (n : Plan). IsRouter n.routers u) same (is_there answers g u d.known) in
    flag (subst (IsRouter x.net.routers) (sym who) there) ∙ ap (λ k. nat_lt (routers_of x k).router.snapshots.last s) who

did_flag : (g : Setting) (s : ℕ) (w y : World) (event : Event) (flags : List Bool) (b : Bool) (a : WorldAnswer) → Gives g (Ok stepped.Did) a w event y
    → ((u : ℕ) (e : RouterEvent) (stamp : ℕ) → a ≡ Does u e stamp → b ≡ nat_lt (w.routers u).router.snapshots.last s) → flags ++ b ∷ [] ≡ flags ++ test_of g s w a
did_flag g s w y event flags b (Does u e stamp) h flag = ap (λ k. flags ++ k ∷ []) (flag u e stamp refl)
did_flag g s w y event flags b Nothing h flag = (let k = h.0 in absurd cc)
did_flag g s w y event flags b (Stops fault) h flag = (let k = h.0 in absurd cc)

no_flag : (g : Setting) (s : ℕ) (w y : World) (event : Event) (flags : List Bool) (a : WorldAnswer) → Gives g (Ok stepped.Nothing) a w event y → flags ≡ flags ++ test_of g s w a
no_flag g s w y event flags (Does u e stamp) h = (let k = h.0 in absurd cc)
no_flag g s w y event flags Nothing h = sym (append-nil flags)
no_flag g s w y event flags (Stops fault) h = (let k = h.0 in absurd cc)

no_room : (g : Setting) (w y : World) (event : Event) (a : WorldAnswer) → world_answer g w event ≡ a → Gives g (Ok stepped.Did) a w event y → IsRefused g w event Memory
no_room g w y event (Does u e stamp) is h = inr (u, stamp, e, refl, is)
no_room g w y event Nothing is h = (let k = h.0 in absurd cc)
no_room g w y event (Stops fault) is h = (let k = h.0 in absurd cc)

pub flags_did : AnswersAreSteps → (s : ℕ) (x y : WorldView) (event : Event) (flags after : List Bool) (b : Bool) → IsNetwork x.net → IsFlag s x event b → Answers (Ok stepped.Did) x event y → after ≡ flags ++ b ∷ []
    → Flags (Ok tt) s x flags event y after
flags_did answers s x y event flags after b net flag gives is g same ranks =
    let h = gives g same ranks in (
      λ at. step_to g (plain_world x) (plain_world y) event at stepped.Did (world_answer g (plain_world x) event) h,
      is ∙ did_flag g s (plain_world x) (plain_world y) event flags b (world_answer g (plain_world x) event) h (is_flag answers s x event b net flag g same),
    )

pub flags_nothing : (s : ℕ) (x y : WorldView) (event : Event) (flags : List Bool) → Answers (Ok stepped.Nothing) x event y → Flags (Ok tt) s x flags event y flags
flags_nothing s x y event flags gives g same ranks =
    let h = gives g same ranks in (
      λ at. step_to g (plain_world x) (plain_world y) event at stepped.Nothing (world_answer g (plain_world x) event) h,
      no_flag g s (plain_world x) (plain_world y) event flags (world_answer g (plain_world x) event) h,
    )

pub flags_full : (s : ℕ) (x y z : WorldView) (event : Event) (flags after : List Bool) → Answers (Ok stepped.Did) x event y → Flags (Err Memory) s x flags event z after
flags_full s x y z event flags after gives g same ranks = no_room g (plain_world x) (plain_world y) event (world_answer g (plain_world x) event) refl (gives g same ranks)

pub flags_refused : (s : ℕ) (x y z : WorldView) (event : Event) (flags after : List Bool) (why : StepFault) → Answers (Err why) x event y → Flags (Err why) s x flags event z after
flags_refused s x y z event flags after why gives g same ranks =
    is_refused g (plain_world x) (plain_world y) event why (world_answer g (plain_world x) event) refl (gives g same ranks)

-- ---- events in their order

pub flags_first : (net : Plan) (s : ℕ) (x : WorldView) (flags : List Bool) → Opens net x → flags ≡ [] → FlagsTo net [] s x flags
flags_first net s x flags opens is = record { net = opens.0; played = λ g e ranks. ap Ok (sym (opens.1 g e)); tests = λ g e ranks. is }

flags_more : (net : Plan) (events : List Event) (s : ℕ) (event : Event) (x y : WorldView) (flags after : List Bool) → FlagsTo net events s x flags → Flags (Ok tt) s x flags event y after → y.net ≡ x.net
    → FlagsTo net (events ++ event ∷ []) s y after
flags_more net events s event x y flags after was gives same = record {
  net = same ∙ was.net;
  played = λ g e ranks.
      let t = played_then g events (event ∷ []) (new_world g) (plain_world x) 0 (was.played g e ranks) in
      t.1 ∙ ap (λ (r : Played). onward r (λ next. Ok next)) ((gives g (e ∙ sym was.net) ranks).0 t.0);
  tests = λ g e ranks.
      (gives g (e ∙ sym was.net) ranks).1 ∙ ap (λ k. k ++ test_of g s (plain_world x) (world_answer g (plain_world x) event)) (was.tests g e ranks)
      ∙ sym (tests_more g s event events (new_world g) (plain_world x) 0 (was.played g e ranks));
}

-- those before this one of `events` were played behind others
abbrev pub Reached : List Event → ℕ → WorldView → List Bool → ℕ → WorldView → List Bool → Type 0
Reached events s x flags i y after = (net : Plan) (before : List Event) → FlagsTo net before s x flags → FlagsTo net (before ++ take i events) s y after

pub flags_next : (events : List Event) (s : ℕ) (x : WorldView) (flags : List Bool) (i : ℕ) (event : Event) (y z : WorldView) (then after : List Bool) → i < length events → event ≡ get_or events i event
    → Reached events s x flags i y then → Flags (Ok tt) s y then event z after → z.net ≡ y.net → Reached events s x flags (i + 1) z after
flags_next events s x flags i event y z then after l is was gives same net before to =
    let one : suc i ≡ i + 1 = omega arith in
    let more : take i events ++ event ∷ [] ≡ take (i + 1) events = sym (take-suc events i event l ∙ ap (λ (k : Event). take i events ++ k ∷ []) (sym is)) ∙ ap (λ k. take k events) one in
    subst (λ (k : List Event). FlagsTo net k s z after) (append_assoc before (take i events) (event ∷ []) ∙ ap (λ (k : List Event). before ++ k) more)
    (flags_more net (before ++ take i events) s event y z then after (was net before to) gives same)

-- one is refused
pub flags_until : (events : List Event) (s : ℕ) (x : WorldView) (flags : List Bool) (i : ℕ) (event : Event) (y z : WorldView) (then after : List Bool) (why : StepFault) → i < length events → event ≡ get_or events i event
    → Reached events s x flags i y then → Flags (Err why) s y then event z after
    → (net : Plan) (before : List Event) → FlagsTo net before s x flags → (g : Setting) → g.net ≡ net → ChoosesByRank g → IsPlayed g (before ++ events) (Err (record { at = length before + i; why = why }))
flags_until events s x flags i event y z then after why l is was gives net before to g e ranks =
    let here = was net before to in
    let few : length (take i events) ≡ i = length-take-le i events (omega arith) in
    inr (
      plain_world y,
      record {
        before = before ++ take i events;
        event = event;
        behind = drop (suc i) events;
        parts =
            ap (λ (k : List Event). before ++ k) (cut_at events i event l ∙ ap (λ (k : Event). take i events ++ k ∷ drop (suc i) events) (sym is))
            ∙ sym (append_assoc before (take i events) (event ∷ drop (suc i) events));
        place = length-append before (take i events) ∙ ap (λ k. length before + k) few;
        reached = here.played g e ranks;
        refused = gives g (e ∙ sym here.net) ranks;
      },
    )

-- what is refused stays so with others behind it
pub until_behind : (g : Setting) (events more : List Event) (fault : PlayFault) → IsPlayed g events (Err fault) → IsPlayed g (events ++ more) (Err fault)
until_behind g events more fault (inl opening) = inl opening
until_behind g events more fault (inr stops) =
    let k = stops.1 in
    inr (
      stops.0,
      record {
        before = k.before;
        event = k.event;
        behind = k.behind ++ more;
        parts = ap (λ (es : List Event). es ++ more) k.parts ∙ append_assoc k.before (k.event ∷ k.behind) more;
        place = k.place;
        reached = k.reached;
        refused = k.refused;
      },
    )

-- ---- events from a new world, all of them or in two halves

pub refused_alone : (net : Plan) (events : List Event) (s : ℕ) (x y : WorldView) (flags after : List Bool) (fault : PlayFault) → FlagsTo net [] s x flags → PlaysOn (Err fault) s x flags events y after
    → (g : Setting) → g.net ≡ net → ChoosesByRank g → IsPlayed g events (Err fault)
refused_alone net events s x y flags after fault new one g e ranks =
    let none : 0 + fault.at ≡ fault.at = omega arith in
    subst (λ n. IsPlayed g events (Err (record { at = n; why = fault.why }))) none (one net [] new g e ranks)

module _ (net : Plan) (events first later : List Event) (s : ℕ) (x y z : WorldView) (flags then after : List Bool) (parts : events ≡ first ++ later) (new : FlagsTo net [] s x flags) where
  pub both_played : PlaysOn (Ok tt) s x flags first y then → PlaysOn (Ok tt) s y then later z after → FlagsTo net events s z after
  both_played one two = subst (λ (k : List Event). FlagsTo net k s z after) (sym parts) (two net first (one net [] new))

  pub first_refused : (fault : PlayFault) → PlaysOn (Err fault) s x flags first y then → (g : Setting) → g.net ≡ net → ChoosesByRank g → IsPlayed g events (Err fault)
  first_refused fault one g e ranks = subst (λ (k : List Event). IsPlayed g k (Err fault)) (sym parts) (until_behind g first later fault (refused_alone net first s x y flags then fault new one g e ranks))

  pub later_refused : (half : ℕ) (fault : PlayFault) → length first ≡ half → PlaysOn (Ok tt) s x flags first y then → PlaysOn (Err fault) s y then later z after
      → (g : Setting) → g.net ≡ net → ChoosesByRank g → IsPlayed g events (Err (record { at = half + fault.at; why = fault.why }))
  later_refused half fault long one two g e ranks =
      subst (λ (k : List Event). IsPlayed g k (Err (record { at = half + fault.at; why = fault.why }))) (sym parts)
      (subst (λ n. IsPlayed g (first ++ later) (Err (record { at = n + fault.at; why = fault.why }))) long (two net first (one net [] new) g e ranks))

-- ---- a flag for each event that was done

long_at : (g : Setting) (s : ℕ) (x : Event) (xs : List Event) (w end : World) (at : ℕ) (a : WorldAnswer) → ((next : World) → played g next (at + 1) xs ≡ Ok end → length (tested g s next xs) + length next.run ≡ length end.run)
    → onward (world_of g w x at a) (λ next. played g next (at + 1) xs) ≡ Ok end → length (test_of g s w a ++ tested g s (world_next g s w x a) xs) + length w.run ≡ length end.run
long_at g s x xs w end at (Does u e stamp) go h =
    let ih = go (world_after g w x u e stamp) h in
    let long = length-append w.run (x ∷ []) in
    omega arith
long_at g s x xs w end at Nothing go h = go w h
long_at g s x xs w end at (Stops fault) go h = absurd cc

long : (g : Setting) (s : ℕ) (xs : List Event) (w end : World) (at : ℕ) → played g w at xs ≡ Ok end → length (tested g s w xs) + length w.run ≡ length end.run
long g s [] w end at h =
    let same : w ≡ end = cc in
    let none = ap (λ (k : World). length k.run) same in
    omega arith
long g s (x ∷ xs) w end at h = long_at g s x xs w end at (world_answer g w x) (λ next k. long g s xs next end (at + 1) k) h

pub as_long : EachNetworkHasASetting → (net : Plan) (events : List Event) (s : ℕ) (x : WorldView) (flags : List Bool) → IsNetwork net → FlagsTo net events s x flags → length flags ≡ length x.run
as_long have net events s x flags is to =
    let one = have net is in
    let g = one.setting in
    let as_tested = ap (λ (k : List Bool). length k) (to.tests g one.over one.chooses) in
    let is_long = long g s events (new_world g) (plain_world x) 0 (to.played g one.over one.chooses) in
    omega arith
