-- What is said of events that are done one behind the other.
use Rattle.std.proofs.Common.{◌≡◌, ◌≢◌, ℕ, ◌+◌, ◌≤◌, arith, Bool, true, List, [], ◌∷◌, ◌++◌, length, refl, ap, sym, subst, ◌∙◌, inl, inr, Ok, Err, append_assoc, append-nil}
use Rattle.std.specs.Prelude.{Result, OnOk}
use Rattle.std.specs.List.{AllByRecursion}
use Rattle.std.proofs.lemmas.List.{length-append}
use Rattle.ranked_policy.specs.Plans.{IsNetwork}
use Rattle.router_model.specs.declared.refusal.Stepped.TheVariants as stepped
use Rattle.router_model.specs.Settings.{Setting}
use Rattle.router_model.specs.Laws.{AnswersAreSteps}
use Rattle.world_core.specs.declared.schedule.Event.{Event}
use Rattle.world_core.specs.declared.schedule.Event.TheVariants as event
use Rattle.world_core.specs.declared.schedule.StepFault.{StepFault}
use Rattle.world_core.specs.declared.schedule.StepFault.TheVariants.{Memory}
use Rattle.world_core.specs.World.{World, WorldAnswer, Does, Nothing, Stops, Gives, world_answer, world_after, world_of, onward, played}
use Rattle.world_core.specs.Orders.{StopsAt, IsRefused, with_peer}
use Rattle.world_core.specs.IdleTurns.{TurnsAreIdleBeside}
use Rattle.world_core.specs.Steps.{LinkIsIdle, IsIdle}
use Rattle.world_core.specs.Views.{WorldView, plain_world, Answers, Obeys}
use Rattle.world_core.specs.Watching.{Adds, Sayings, StepText, EventsText, WantsOr, HaltsAt, WatchesEvents}
use Rattle.world_core.proofs.Awake.{Spares, beside_own}
use Rattle.world_core.proofs.Orders.{on_to, obeys_behind, obeys_one, idle_obeys, still_is}
use Rattle.world_core.proofs.Resting.{grows}
use Rattle.world_core.proofs.Worlds.{is_refused}

-- a text behind another
pub added : (P Q R : List ℕ → Type 0) (old mid new : List ℕ) → Adds old mid P → Adds mid new Q → ((s t : List ℕ) → P s → Q t → R (s ++ t)) → Adds old new R
added P Q R old mid new a b both = (a.0 ++ b.0, both a.0 b.0 a.1 b.1, b.2 ∙ ap (λ (t : List ℕ). t ++ b.0) a.2 ∙ append_assoc old a.0 b.0)

module _ (Says : Sayings) (g : Setting) where
  behind_by : (a : WorldAnswer) (w y : World) (x : Event) (at : ℕ) (xs ys : List Event) (s t : List ℕ)
      → ((next : World) (r : List ℕ) → played g next (at + 1) xs ≡ Ok y → EventsText Says g next xs r → EventsText Says g next (xs ++ ys) (r ++ t))
      → onward (world_of g w x at a) (λ next. played g next (at + 1) xs) ≡ Ok y
      → StepText Says g w x a (λ next r. EventsText Says g next xs r) s → StepText Says g w x a (λ next r. EventsText Says g next (xs ++ ys) r) (s ++ t)
  behind_by (Does u e stamp) w y x at xs ys s t go h k =
      (k.0, k.1 ++ t, k.2, go (world_after g w x u e stamp) k.1 h k.3, ap (λ (r : List ℕ). r ++ t) k.4 ∙ append_assoc k.0 k.1 t)
  behind_by Nothing w y x at xs ys s t go h k = go w s h k
  behind_by (Stops fault) w y x at xs ys s t go h k = absurd cc

  -- events that are all done, and others
  pub text_behind : (xs ys : List Event) (w y : World) (at : ℕ) (s t : List ℕ) → played g w at xs ≡ Ok y → EventsText Says g w xs s → EventsText Says g y ys t → EventsText Says g w (xs ++ ys) (s ++ t)
  text_behind [] ys w y at s t h none k =
      let same : w ≡ y = cc in
      subst (λ (r : List ℕ). EventsText Says g w ys (r ++ t)) (sym none) (subst (λ (v : World). EventsText Says g v ys t) (sym same) k)
  text_behind (x ∷ xs) ys w y at s t h r k = behind_by (world_answer g w x) w y x at xs ys s t (λ next q l m. text_behind xs ys next y (at + 1) q t l m k) h r

  silent_by : (a : WorldAnswer) (w y : World) (x : Event) (at : ℕ) (xs : List Event) → length y.run ≡ length w.run
      → (played g w (at + 1) xs ≡ Ok y → EventsText Says g w xs [])
      → onward (world_of g w x at a) (λ next. played g next (at + 1) xs) ≡ Ok y → StepText Says g w x a (λ next r. EventsText Says g next xs r) []
  silent_by (Does u e stamp) w y x at xs same go h =
      let l : length (w.run ++ x ∷ []) ≤ length y.run = grows g xs (world_after g w x u e stamp) y (at + 1) h in
      absurd (omega (arith, l, same, length-append w.run (x ∷ [])))
  silent_by Nothing w y x at xs same go h = go h
  silent_by (Stops fault) w y x at xs same go h = absurd cc

  -- nothing is said of events that do nothing
  pub silent : (xs : List Event) (w y : World) (at : ℕ) → played g w at xs ≡ Ok y → length y.run ≡ length w.run → EventsText Says g w xs []
  silent [] w y at h same = refl
  silent (x ∷ xs) w y at h same = silent_by (world_answer g w x) w y x at xs same (λ k. silent xs w y (at + 1) k same) h

  stops_text : (w : World) (x : Event) (xs : List Event) (why : StepFault) → why ≢ Memory → IsRefused g w x why → EventsText Says g w (x ∷ xs) []
  stops_text w x xs why kind (inl is) = subst (λ (a : WorldAnswer). StepText Says g w x a (λ next r. EventsText Says g next xs r) []) (sym is) refl
  stops_text w x xs why kind (inr m) = absurd (kind m.3)

  -- the text up to an event that is refused is that of all
  pub halted_text : (w y : World) (events : List Event) (at : ℕ) (why : StepFault) (t : List ℕ) → why ≢ Memory → (s : StopsAt g w events at why y) → EventsText Says g w s.before t → EventsText Says g w events t
  halted_text w y events at why t kind s k =
      subst (λ (es : List Event). EventsText Says g w es t) (sym s.parts)
      (subst (EventsText Says g w (s.before ++ s.event ∷ s.behind)) (append-nil t) (text_behind s.before (s.event ∷ s.behind) w y 0 t [] s.reached k (stops_text y s.event s.behind why kind s.refused)))

  -- ---- one event

  did : (a : WorldAnswer) (w y : World) (x : Event) (old new : List ℕ) → Gives g (Ok stepped.Did) a w x y → Adds old new (Says w x y)
      → (onward (world_of g w x 0 a) (λ next. Ok next) ≡ Ok y) × Adds old new (StepText Says g w x a (λ next r. r ≡ []))
  did (Does u e stamp) w y x old new h add =
      (ap Ok (sym h.1), (add.0, (add.0, [], subst (λ (v : World). Says w x v add.0) h.1 add.1, refl, sym (append-nil add.0)), add.2))
  did Nothing w y x old new h add = (let k = h.0 in absurd cc)
  did (Stops fault) w y x old new h add = (let k = h.0 in absurd cc)

  idled : (a : WorldAnswer) (w y : World) (x : Event) (old : List ℕ) → Gives g (Ok stepped.Nothing) a w x y
      → (onward (world_of g w x 0 a) (λ next. Ok next) ≡ Ok y) × Adds old old (StepText Says g w x a (λ next r. r ≡ []))
  idled (Does u e stamp) w y x old h = (let k = h.0 in absurd cc)
  idled Nothing w y x old h = (ap Ok (sym h.1), ([], refl, sym (append-nil old)))
  idled (Stops fault) w y x old h = (let k = h.0 in absurd cc)

module _ (Says : Sayings) (may : Bool) where
  pub one_did : (x y : WorldView) (event : Event) (old new : List ℕ) → Answers (Ok stepped.Did) x event y → Adds old new (Says (plain_world x) event (plain_world y)) → WatchesEvents Says may (Ok tt) x (event ∷ []) old y new
  one_did x y event old new h add = λ g e ranks. did Says g (world_answer g (plain_world x) event) (plain_world x) (plain_world y) event old new (h g e ranks) add

  pub one_idled : (x y : WorldView) (event : Event) (old : List ℕ) → Answers (Ok stepped.Nothing) x event y → WatchesEvents Says may (Ok tt) x (event ∷ []) old y old
  one_idled x y event old h = λ g e ranks. idled Says g (world_answer g (plain_world x) event) (plain_world x) (plain_world y) event old (h g e ranks)

  halted : (g : Setting) (w y : World) (event : Event) (why : StepFault) (old : List ℕ) → y ≡ w → IsRefused g w event why → HaltsAt Says g w (event ∷ []) why y old old
  halted g w y event why old same refused = (
    0,
    record { before = []; event = event; behind = []; parts = refl; place = refl; reached = ap Ok (sym same); refused = subst (λ (k : World). IsRefused g k event why) (sym same) refused },
    ([], refl, sym (append-nil old)),
  )

  pub one_refused : (x y : WorldView) (event : Event) (old : List ℕ) (why : StepFault) → Answers (Err why) x event y → WatchesEvents Says may (Err why) x (event ∷ []) old y old
  one_refused x y event old why h = λ g e ranks.
      let w = plain_world x in
      let gives = h g e ranks in
      inr (halted g w (plain_world y) event why old (still_is g w (plain_world y) event why (world_answer g w event) gives) (is_refused g w (plain_world y) event why (world_answer g w event) refl gives))

  pub one_stops : (x : WorldView) (event : Event) (old : List ℕ) (why : StepFault) → ((g : Setting) → g.net ≡ x.net → world_answer g (plain_world x) event ≡ Stops why) → WatchesEvents Says may (Err why) x (event ∷ []) old x old
  one_stops x event old why h = λ g e ranks. inr (halted g (plain_world x) (plain_world x) event why old refl (inl (h g e)))

  -- the watcher wants memory
  pub wanted : (x y : WorldView) (events : List Event) (old new : List ℕ) (why : StepFault) → may ≡ true → why ≡ Memory → WatchesEvents Says may (Err why) x events old y new
  wanted x y events old new why m is = λ g e ranks. inl (m, is)

  pub none_watched : (x : WorldView) (old : List ℕ) → WatchesEvents Says may (Ok tt) x [] old x old
  none_watched x old = λ g e ranks. (refl, ([], refl, sym (append-nil old)))

  -- ---- one behind the other

  -- events behind others, all of them done
  joined : (x y z : WorldView) (es fs : List Event) (old mid new : List ℕ) → y.net ≡ x.net → WatchesEvents Says may (Ok tt) x es old y mid → WatchesEvents Says may (Ok tt) y fs mid z new
      → WatchesEvents Says may (Ok tt) x (es ++ fs) old z new
  joined x y z es fs old mid new same h k = λ g e ranks.
      let wx = plain_world x in
      let wy = plain_world y in
      let a = h g e ranks in
      let b = k g (e ∙ sym same) ranks in (
        on_to g es fs wx wy (plain_world z) a.0 b.0,
        added (EventsText Says g wx es) (EventsText Says g wy fs) (EventsText Says g wx (es ++ fs)) old mid new a.1 b.1 (λ s t p q. text_behind Says g es fs wx wy 0 s t a.0 p q),
      )

  -- events behind others, one of them refused
  halts_by : (g : Setting) (wx wy wz : World) (es fs gs : List Event) (old mid new : List ℕ) (why : StepFault) → played g wx 0 es ≡ Ok wy → Adds old mid (EventsText Says g wx es)
      → WantsOr may why (HaltsAt Says g wy fs why wz mid new) → WantsOr may why (HaltsAt Says g wx ((es ++ fs) ++ gs) why wz old new)
  halts_by g wx wy wz es fs gs old mid new why done add (inl m) = inl m
  halts_by g wx wy wz es fs gs old mid new why done add (inr b) =
      let s = b.1 in
      let all : StopsAt g wx ((es ++ fs) ++ gs) (length es + b.0) why wz = record {
        before = es ++ s.before;
        event = s.event;
        behind = s.behind ++ gs;
        parts =
            append_assoc es fs gs ∙ ap (λ (k : List Event). es ++ (k ++ gs)) s.parts ∙ ap (λ (k : List Event). es ++ k) (append_assoc s.before (s.event ∷ s.behind) gs)
            ∙ sym (append_assoc es s.before (s.event ∷ (s.behind ++ gs)));
        place = length-append es s.before ∙ ap (λ (n : ℕ). length es + n) s.place;
        reached = on_to g es s.before wx wy wz done s.reached;
        refused = s.refused;
      } in
      inr (length es + b.0, all, added (EventsText Says g wx es) (EventsText Says g wy s.before) (EventsText Says g wx (es ++ s.before)) old mid new add b.2 (λ q t p r. text_behind Says g es s.before wx wy 0 q t done p r))

  halts : (x y z : WorldView) (es fs gs : List Event) (old mid new : List ℕ) (why : StepFault) → y.net ≡ x.net → WatchesEvents Says may (Ok tt) x es old y mid → WatchesEvents Says may (Err why) y fs mid z new
      → WatchesEvents Says may (Err why) x ((es ++ fs) ++ gs) old z new
  halts x y z es fs gs old mid new why same h k = λ g e ranks.
      let a = h g e ranks in
      halts_by g (plain_world x) (plain_world y) (plain_world z) es fs gs old mid new why a.0 a.1 (k g (e ∙ sym same) ranks)

  pub watched_next : (x y z : WorldView) (done one more : List Event) (old mid new : List ℕ) → done ++ one ≡ more → y.net ≡ x.net → WatchesEvents Says may (Ok tt) x done old y mid
      → WatchesEvents Says may (Ok tt) y one mid z new → WatchesEvents Says may (Ok tt) x more old z new
  watched_next x y z done one more old mid new is same h k = subst (λ (l : List Event). WatchesEvents Says may (Ok tt) x l old z new) is (joined x y z done one old mid new same h k)

  pub watched_until : (x y z : WorldView) (done one rest all : List Event) (old mid new : List ℕ) (why : StepFault) → (done ++ one) ++ rest ≡ all → y.net ≡ x.net → WatchesEvents Says may (Ok tt) x done old y mid
      → WatchesEvents Says may (Err why) y one mid z new → WatchesEvents Says may (Err why) x all old z new
  watched_until x y z done one rest all old mid new why is same h k =
      subst (λ (l : List Event). WatchesEvents Says may (Err why) x l old z new) is (halts x y z done one rest old mid new why same h k)

  pub watched_behind : (x y z : WorldView) (es fs : List Event) (r : Result (Unit {0}) StepFault) (old mid new : List ℕ) → y.net ≡ x.net → WatchesEvents Says may (Ok tt) x es old y mid
      → WatchesEvents Says may r y fs mid z new → WatchesEvents Says may r x (es ++ fs) old z new
  watched_behind x y z es fs (Ok t) old mid new same h k = joined x y z es fs old mid new same h k
  watched_behind x y z es fs (Err why) old mid new same h k = watched_until x y z es fs [] (es ++ fs) old mid new why (append-nil (es ++ fs)) same h k

  pub watched_before : (x z : WorldView) (es fs : List Event) (why : StepFault) (old new : List ℕ) → WatchesEvents Says may (Err why) x es old z new → WatchesEvents Says may (Err why) x (es ++ fs) old z new
  watched_before x z es fs why old new h = halts x x z [] es fs old old new why refl (none_watched x old) h

  -- ---- what is passed over

  -- nothing is said of events that leave the world as it is
  pub passed_over : (x : WorldView) (events : List Event) (old : List ℕ) → Obeys (Ok tt) x events x → WatchesEvents Says may (Ok tt) x events old x old
  passed_over x events old h = λ g e ranks.
      let k = h g e ranks in
      (k, ([], silent Says g events (plain_world x) (plain_world x) 0 k refl, sym (append-nil old)))

  -- two routers between which nothing is to be done
  pub quiet_over : (x : WorldView) (u v : ℕ) (old : List ℕ) → LinkIsIdle x u v → WatchesEvents Says may (Ok tt) x (with_peer u v) old x old
  quiet_over x u v old q =
      passed_over x (with_peer u v) old
      (obeys_behind x x x (event.Put u v ∷ []) (event.Take u v ∷ event.Handle u v ∷ []) (Ok tt) refl (obeys_one x x (event.Put u v) stepped.Nothing q.put)
      (obeys_behind x x x (event.Take u v ∷ []) (event.Handle u v ∷ []) (Ok tt) refl (obeys_one x x (event.Take u v) stepped.Nothing q.take) (obeys_one x x (event.Handle u v) stepped.Nothing q.handle)))

  -- a router that has nothing to do alone
  pub idle_over : (x : WorldView) (u : ℕ) (old : List ℕ) → IsIdle x u → WatchesEvents Says may (Ok tt) x (event.Decide u ∷ event.Advertise u ∷ event.Offer u ∷ []) old x old
  idle_over x u old q = passed_over x (event.Decide u ∷ event.Advertise u ∷ event.Offer u ∷ []) old (idle_obeys x u q)

  -- ---- who rests

  pub obeyed : (x y : WorldView) (events : List Event) (old new : List ℕ) → WatchesEvents Says may (Ok tt) x events old y new → Obeys (Ok tt) x events y
  obeyed x y events old new h = λ g e ranks. (h g e ranks).0

  -- behind events of one router the others rest as before
  pub own_watched : (x y : WorldView) (u : ℕ) → y.net ≡ x.net → AnswersAreSteps → IsNetwork x.net → (events : List Event) (marks : List Bool) → ((b : ℕ) → u ≢ b → AllByRecursion (Spares b) events)
      → (r : Result (Unit {0}) StepFault) (old new : List ℕ) → WatchesEvents Says may r x events old y new → TurnsAreIdleBeside x u marks → OnOk r (TurnsAreIdleBeside y u marks)
  own_watched x y u net law is_net events marks spares (Ok t) old new done was = beside_own x y u net law is_net events marks spares (obeyed x y events old new done) was
  own_watched x y u net law is_net events marks spares (Err why) old new done was = tt
