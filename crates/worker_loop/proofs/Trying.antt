-- What a router gave, as what its worker tries.
use Rattle.std.proofs.Common.{◌≡◌, ℕ, ◌+◌, ◌<◌, ◌≤◌, length, Bool, true, List, [], ◌∷◌, ◌++◌, refl, ap, sym, ◌∙◌, subst, Option, None, Some, inl, inr, arith}
use Rattle.std.specs.Prelude.{Ok, Err, IfOk, max, nat_lt}
use Rattle.outbox.specs.declared.item.Item.{Item}
use Rattle.outbox.specs.declared.item.What.{What}
use Rattle.run_model.specs.Network.{alone, puts, takes, offers}
use Rattle.snap_marker.specs.Recordings.{RouterOffer, MadeOffer}
use Rattle.router_model.specs.declared.refusal.RouterError.{RouterError}
use Rattle.router_model.specs.declared.refusal.RouterError.TheVariants as error
use Rattle.router_model.specs.declared.refusal.Stepped.TheVariants as stepped
use Rattle.router_model.specs.Settings.{Setting, IsSetting, linked}
use Rattle.router_model.specs.Step.{Own, RouterEvent, Step, next_offer}
use Rattle.router_model.specs.Calls.{Stamped, Call, Put, Take, Answer, Steps, Idle, Refuses, answer, stamp_of, Gives, judged, unless, bars, overflows_at, event_of, offer_made, IsEventOf}
use Rattle.run_model.specs.declared.stamps.TheConstants.{GREATEST_STAMP}
use Rattle.router_model.specs.Laws.{AnswersAreSteps}
use Rattle.router_core.specs.declared.router.call.Call as core
use Rattle.router_core.specs.declared.router.call.Call.TheVariants as own
use Rattle.router_core.specs.Calling.{call_of}
use Rattle.router_core.specs.Views.{Shows}
use Rattle.world_core.specs.declared.schedule.Event.{Event}
use Rattle.world_core.specs.World.{name_of}
use Rattle.worker_loop.specs.Acts.{Act, act_of, Seen, grown, with_offer}
use Rattle.worker_loop.specs.Following.{Calls, Puts, Takes, Offers, OffersOne, is_passed_over, goes_on, acts_by}
use Rattle.worker_loop.specs.Whole.{entry, passing, IsNamedBy}
use Rattle.worker_loop.proofs.Acting.{moves, Rests, does_none, does_alone, does_put, does_take, does_offer, later_call, after_item}

-- ---- refusals

pub if_passed : (why : RouterError) (P : Type 0) → (is_passed_over why ≡ true → P) → IfOk (passing why) (λ _. P)
if_passed error.NoSuchPeer P f = f refl
if_passed error.NotOrigin P f = f refl
if_passed (error.OldSnapshot last) P f = f refl
if_passed (error.Blocked v) P f = f refl
if_passed (error.Held v) P f = f refl
if_passed error.StampEnd P f = tt
if_passed error.EpochEnd P f = tt
if_passed error.Memory P f = tt

-- ---- calls that touch no line

own_alone : (call : core.Call) (e : RouterEvent) → IsEventOf (call_of call) e → (o : Own) × (e ≡ alone o)
own_alone (own.Obey c) e h = (_, h)
own_alone own.Tick e h = (_, h)
own_alone (own.Handle v) e h = (_, h)
own_alone own.Decide e h = (_, h)
own_alone own.Advertise e h = (_, h.1)

did_by : (g : Setting) (u : ℕ) (call : core.Call) (a b : Seen) (event : Event) (r : Answer) → AnswersAreSteps → IsSetting g
    → answer g u a.router (call_of call) ≡ r → Gives g u (Ok stepped.Did) r a.router (call_of call) b.router → Rests a b
    → IsNamedBy event u (call_of call) → b.events ≡ a.events ++ entry b.router.stamp event ∷ []
    → (acts : List Act) × Calls g u (call_of call) a acts b
did_by g u call a b event (Steps e) law set is h rests named noted =
    let l = law g set.network u a.router (call_of call) e is in
    let o = own_alone call e l.0 in
    let stamp : b.router.stamp ≡ stamp_of g u a.router (call_of call) = ap (λ s. s.stamp) h.1 in
    let m = moves g u b.router.stamp a.router b.router (alone o.0) (subst (λ n. a.router.stamp < n) (sym stamp) (later_call g u a.router (call_of call))) tt
    (subst (λ k. Step g u a.router.router k b.router.router) o.1 (subst (λ (y : Stamped). Step g u a.router.router e y.router) (sym h.1) l.1)) in (
      act_of u b.router.stamp b.router.stamp (alone o.0) ∷ [],
      record {
        only = ap (λ (n : ℕ). act_of u n n (alone o.0) ∷ []) stamp
            ∙ ap (λ (k : RouterEvent). acts_by u (stamp_of g u a.router (call_of call)) (Steps k)) (sym o.1)
            ∙ ap (acts_by u (stamp_of g u a.router (call_of call))) (sym is);
        goes_on = ap goes_on is;
        does = does_alone g u b.router.stamp a b o.0 m rests (noted ∙ ap (λ (k : Event). a.events ++ entry b.router.stamp k ∷ []) (named e l.0 ∙ ap (name_of u) o.1));
      },
    )
did_by g u call a b event Idle law set is h rests named noted = (let k = h.0 in absurd cc)
did_by g u call a b event (Refuses why) law set is h rests named noted = (let k = h.0 in absurd cc)

pub call_did : (g : Setting) (u : ℕ) (call : core.Call) (a b : Seen) (event : Event) → AnswersAreSteps → IsSetting g
    → Gives g u (Ok stepped.Did) (answer g u a.router (call_of call)) a.router (call_of call) b.router → Rests a b
    → IsNamedBy event u (call_of call) → b.events ≡ a.events ++ entry b.router.stamp event ∷ []
    → (acts : List Act) × Calls g u (call_of call) a acts b
call_did g u call a b event law set h rests named noted = did_by g u call a b event (answer g u a.router (call_of call)) law set refl h rests named noted

nothing_by : (g : Setting) (u : ℕ) (call : Call) (a b : Seen) (r : Answer) → answer g u a.router call ≡ r
    → Gives g u (Ok stepped.Nothing) r a.router call b.router → Rests a b → b.events ≡ a.events → (acts : List Act) × Calls g u call a acts b
nothing_by g u call a b (Steps e) is h rests events = (let k = h.0 in absurd cc)
nothing_by g u call a b Idle is h rests events =
    ([], record { only = ap (acts_by u (stamp_of g u a.router call)) (sym is); goes_on = ap goes_on is; does = does_none g u a b h.1 rests events })
nothing_by g u call a b (Refuses why) is h rests events = (let k = h.0 in absurd cc)

pub call_nothing : (g : Setting) (u : ℕ) (call : Call) (a b : Seen)
    → Gives g u (Ok stepped.Nothing) (answer g u a.router call) a.router call b.router → Rests a b → b.events ≡ a.events → (acts : List Act) × Calls g u call a acts b
call_nothing g u call a b h rests events = nothing_by g u call a b (answer g u a.router call) refl h rests events

refused_by : (g : Setting) (u : ℕ) (call : Call) (a b : Seen) (why : RouterError) (r : Answer) → answer g u a.router call ≡ r
    → Gives g u (Err why) r a.router call b.router → is_passed_over why ≡ true → Rests a b → b.events ≡ a.events → (acts : List Act) × Calls g u call a acts b
refused_by g u call a b why (Steps e) is h pass rests events = (let m : is_passed_over error.Memory ≡ true = subst (λ w. is_passed_over w ≡ true) h.0 pass in absurd cc)
refused_by g u call a b why Idle is h pass rests events = (let k = h.0 in absurd cc)
refused_by g u call a b why (Refuses other) is h pass rests events =
    let same : why ≡ other = (let k = h.0 in cc) in
    ([], record { only = ap (acts_by u (stamp_of g u a.router call)) (sym is); goes_on = ap goes_on is ∙ ap is_passed_over (sym same) ∙ pass; does = does_none g u a b h.1 rests events })

pub call_refused : (g : Setting) (u : ℕ) (call : Call) (a b : Seen) (why : RouterError)
    → Gives g u (Err why) (answer g u a.router call) a.router call b.router → is_passed_over why ≡ true → Rests a b → b.events ≡ a.events → (acts : List Act) × Calls g u call a acts b
call_refused g u call a b why h pass rests events = refused_by g u call a b why (answer g u a.router call) refl h pass rests events

-- ---- puts

none_by : (g : Setting) (u v s : ℕ) (a b : Seen) (r : Answer) → answer g u a.router (Put v) ≡ r → Shows s (Ok None) r
    → b.router ≡ a.router → Rests a b → b.events ≡ a.events → (acts : List Act) × Puts g u v a acts b
none_by g u v s a b (Steps (puts w i)) is h router rests events = absurd (let k = h in cc)
none_by g u v s a b (Steps (alone e)) is h router rests events = absurd h
none_by g u v s a b (Steps (takes w i)) is h router rests events = absurd h
none_by g u v s a b (Steps (offers o)) is h router rests events = absurd h
none_by g u v s a b Idle is h router rests events =
    ([], record { only = inl (ap (acts_by u (stamp_of g u a.router (Put v))) (sym is)); goes_on = ap goes_on is; does = does_none g u a b router rests events })
none_by g u v s a b (Refuses why) is h router rests events = absurd (let k = h in cc)

pub put_none : (g : Setting) (u v s : ℕ) (a b : Seen) → Shows s (Ok None) (answer g u a.router (Put v))
    → b.router ≡ a.router → Rests a b → b.events ≡ a.events → (acts : List Act) × Puts g u v a acts b
put_none g u v s a b h router rests events = none_by g u v s a b (answer g u a.router (Put v)) refl h router rests events

barred_by : (g : Setting) (u v s : ℕ) (a b : Seen) (why : RouterError) (r : Answer) → answer g u a.router (Put v) ≡ r → Shows s (Err why) r → is_passed_over why ≡ true
    → b.router ≡ a.router → Rests a b → b.events ≡ a.events → (acts : List Act) × Puts g u v a acts b
barred_by g u v s a b why (Steps (puts w i)) is h pass router rests events = (let m : is_passed_over error.Memory ≡ true = subst (λ w. is_passed_over w ≡ true) h pass in absurd cc)
barred_by g u v s a b why (Steps (alone e)) is h pass router rests events = absurd h
barred_by g u v s a b why (Steps (takes w i)) is h pass router rests events = absurd h
barred_by g u v s a b why (Steps (offers o)) is h pass router rests events = absurd h
barred_by g u v s a b why Idle is h pass router rests events = absurd (let k = h in cc)
barred_by g u v s a b why (Refuses other) is h pass router rests events =
    let same : why ≡ other = (let k = h in cc) in
    ([], record { only = inl (ap (acts_by u (stamp_of g u a.router (Put v))) (sym is)); goes_on = ap goes_on is ∙ ap is_passed_over (sym same) ∙ pass; does = does_none g u a b router rests events })

pub put_barred : (g : Setting) (u v s : ℕ) (a b : Seen) (why : RouterError) → Shows s (Err why) (answer g u a.router (Put v)) → is_passed_over why ≡ true
    → b.router ≡ a.router → Rests a b → b.events ≡ a.events → (acts : List Act) × Puts g u v a acts b
put_barred g u v s a b why h pass router rests events = barred_by g u v s a b why (answer g u a.router (Put v)) refl h pass router rests events

full_by : (g : Setting) (u v s : ℕ) (a b : Seen) (item : Item) (r : Answer) → answer g u a.router (Put v) ≡ r → Shows s (Ok (Some item)) r → a.room v ≤ length (a.put v)
    → b.router ≡ a.router → Rests a b → b.events ≡ a.events → (acts : List Act) × Puts g u v a acts b
full_by g u v s a b item (Steps e) is h full router rests events =
    ([], record { only = inr (refl, full); goes_on = ap goes_on is; does = does_none g u a b router rests events })
full_by g u v s a b item Idle is h full router rests events = absurd (let k = h in cc)
full_by g u v s a b item (Refuses why) is h full router rests events = absurd (let k = h in cc)

pub put_full : (g : Setting) (u v s : ℕ) (a b : Seen) (item : Item) → Shows s (Ok (Some item)) (answer g u a.router (Put v)) → a.room v ≤ length (a.put v)
    → b.router ≡ a.router → Rests a b → b.events ≡ a.events → (acts : List Act) × Puts g u v a acts b
put_full g u v s a b item h full router rests events = full_by g u v s a b item (answer g u a.router (Put v)) refl h full router rests events

never_memory : (link : Bool) (event : Option RouterEvent) (ends over : Bool) → judged (unless link error.NoSuchPeer) event ends over ≡ Refuses error.Memory → ⊥
never_memory link event ends over h = grind arith

wanting_by : (g : Setting) (u v s : ℕ) (a b : Seen) (r : Answer) → answer g u a.router (Put v) ≡ r → Shows s (Err error.Memory) r → a.room v ≤ length (a.put v)
    → b.router ≡ a.router → Rests a b → b.events ≡ a.events → (acts : List Act) × Puts g u v a acts b
wanting_by g u v s a b (Steps (puts w i)) is h full router rests events =
    ([], record { only = inr (refl, full); goes_on = ap goes_on is; does = does_none g u a b router rests events })
wanting_by g u v s a b (Steps (alone e)) is h full router rests events = absurd h
wanting_by g u v s a b (Steps (takes w i)) is h full router rests events = absurd h
wanting_by g u v s a b (Steps (offers o)) is h full router rests events = absurd h
wanting_by g u v s a b Idle is h full router rests events = absurd (let k = h in cc)
wanting_by g u v s a b (Refuses other) is h full router rests events =
    let same : other ≡ error.Memory = (let k = h in cc) in
    absurd (never_memory (linked g.net u v) _ _ _ (is ∙ ap Refuses same))

-- memory was wanting for the copy of the item, and the line is full
pub put_wanting : (g : Setting) (u v s : ℕ) (a b : Seen) → Shows s (Err error.Memory) (answer g u a.router (Put v)) → a.room v ≤ length (a.put v)
    → b.router ≡ a.router → Rests a b → b.events ≡ a.events → (acts : List Act) × Puts g u v a acts b
put_wanting g u v s a b h full router rests events = wanting_by g u v s a b (answer g u a.router (Put v)) refl h full router rests events

put_by : (g : Setting) (u v : ℕ) (a b : Seen) (item : Item) (r : Answer) → AnswersAreSteps → IsSetting g → answer g u a.router (Put v) ≡ r
    → Gives g u (Ok stepped.Did) r a.router (Put v) b.router → Shows (a.router.stamp + 1) (Ok (Some item)) r
    → b.put ≡ grown a.put v item → b.taken ≡ a.taken → b.room ≡ a.room → b.made ≡ a.made
    → b.events ≡ a.events ++ entry b.router.stamp (name_of u (puts v item.what)) ∷ []
    → (acts : List Act) × Puts g u v a acts b
put_by g u v a b item (Steps e) law set is h shows put taken room made noted =
    let l = law g set.network u a.router (Put v) e is in
    let i = l.0.0 in
    let same : e ≡ puts v i = l.0.1 in
    let shown = subst (λ k. Shows (a.router.stamp + 1) (Ok (Some item)) (Steps k)) same shows in
    let next : item ≡ record { stamp = a.router.stamp + 1; what = i } = (let q = shown in cc) in
    let what : item.what ≡ i = ap (λ (k : Item). k.what) next in
    let stamp : b.router.stamp ≡ a.router.stamp + 1 = ap (λ (s : Stamped). s.stamp) h.1 in
    let fits : item.stamp ≡ b.router.stamp = ap (λ (k : Item). k.stamp) next ∙ sym stamp in
    let is_e : e ≡ puts v item.what = same ∙ ap (λ (k : What). puts v k) (sym what) in
    let m = moves g u item.stamp a.router b.router (puts v item.what) (subst (λ n. a.router.stamp < n) (sym stamp) (later_call g u a.router (Put v))) fits
    (subst (λ k. Step g u a.router.router k b.router.router) is_e (subst (λ (y : Stamped). Step g u a.router.router e y.router) (sym h.1) l.1)) in (
      act_of u b.router.stamp item.stamp (puts v item.what) ∷ [],
      record {
        only = inl (ap (λ (n : ℕ). act_of u b.router.stamp n (puts v item.what) ∷ []) fits ∙ ap (λ (n : ℕ). act_of u n n (puts v item.what) ∷ []) stamp
            ∙ ap (λ (k : RouterEvent). acts_by u (a.router.stamp + 1) (Steps k)) (sym is_e) ∙ ap (acts_by u (a.router.stamp + 1)) (sym is));
        goes_on = ap goes_on is;
        does = does_put g u v a b item m put taken room made noted;
      },
    )
put_by g u v a b item Idle law set is h shows put taken room made noted = (let k = h.0 in absurd cc)
put_by g u v a b item (Refuses why) law set is h shows put taken room made noted = (let k = h.0 in absurd cc)

pub put_did : (g : Setting) (u v : ℕ) (a b : Seen) (item : Item) → AnswersAreSteps → IsSetting g
    → Gives g u (Ok stepped.Did) (answer g u a.router (Put v)) a.router (Put v) b.router → Shows (a.router.stamp + 1) (Ok (Some item)) (answer g u a.router (Put v))
    → b.put ≡ grown a.put v item → b.taken ≡ a.taken → b.room ≡ a.room → b.made ≡ a.made
    → b.events ≡ a.events ++ entry b.router.stamp (name_of u (puts v item.what)) ∷ []
    → (acts : List Act) × Puts g u v a acts b
put_did g u v a b item law set h shows put taken room made noted = put_by g u v a b item (answer g u a.router (Put v)) law set refl h shows put taken room made noted

-- ---- takes

take_by : (g : Setting) (u v : ℕ) (a b : Seen) (i : Item) (r : Answer) → AnswersAreSteps → IsSetting g → answer g u a.router (Take v i.stamp i.what) ≡ r
    → Gives g u (Ok stepped.Did) r a.router (Take v i.stamp i.what) b.router
    → b.taken ≡ grown a.taken v i → b.put ≡ a.put → b.room ≡ a.room → b.made ≡ a.made
    → b.events ≡ a.events ++ entry b.router.stamp (name_of u (takes v i.what)) ∷ []
    → (acts : List Act) × Takes g u v a acts b
take_by g u v a b i (Steps e) law set is h taken put room made noted =
    let l = law g set.network u a.router (Take v i.stamp i.what) e is in
    let stamp : b.router.stamp ≡ max a.router.stamp i.stamp + 1 = ap (λ (s : Stamped). s.stamp) h.1 in
    let m = moves g u i.stamp a.router b.router (takes v i.what) (subst (λ n. a.router.stamp < n) (sym stamp) (later_call g u a.router (Take v i.stamp i.what)))
    (subst (λ n. i.stamp < n) (sym stamp) (after_item a.router.stamp i.stamp))
    (subst (λ k. Step g u a.router.router k b.router.router) l.0 (subst (λ (y : Stamped). Step g u a.router.router e y.router) (sym h.1) l.1)) in (
      act_of u b.router.stamp i.stamp (takes v i.what) ∷ [],
      record {
        only = inr (i, ap (λ (n : ℕ). act_of u n i.stamp (takes v i.what) ∷ []) stamp);
        does = does_take g u v a b i m taken put room made noted;
      },
    )
take_by g u v a b i Idle law set is h taken put room made noted = (let k = h.0 in absurd cc)
take_by g u v a b i (Refuses why) law set is h taken put room made noted = (let k = h.0 in absurd cc)

pub take_did : (g : Setting) (u v : ℕ) (a b : Seen) (i : Item) → AnswersAreSteps → IsSetting g
    → Gives g u (Ok stepped.Did) (answer g u a.router (Take v i.stamp i.what)) a.router (Take v i.stamp i.what) b.router
    → b.taken ≡ grown a.taken v i → b.put ≡ a.put → b.room ≡ a.room → b.made ≡ a.made
    → b.events ≡ a.events ++ entry b.router.stamp (name_of u (takes v i.what)) ∷ []
    → (acts : List Act) × Takes g u v a acts b
take_did g u v a b i law set h taken put room made noted = take_by g u v a b i (answer g u a.router (Take v i.stamp i.what)) law set refl h taken put room made noted

-- a take is never idle
not_idle : (bar : Option RouterError) (e : RouterEvent) (late over : Bool) → judged bar (Some e) late over ≡ Idle → ⊥
not_idle bar e late over h = grind arith

nothing_taken : (g : Setting) (u v stamp : ℕ) (x y : Stamped) (w : What) (r : Answer) → answer g u x (Take v stamp w) ≡ r
    → Gives g u (Ok stepped.Nothing) r x (Take v stamp w) y → ⊥
nothing_taken g u v stamp x y w (Steps e) is h = (let k = h.0 in cc)
nothing_taken g u v stamp x y w Idle is h =
    not_idle (bars g u x.router (Take v stamp w)) (takes v w) (nat_lt GREATEST_STAMP (stamp_of g u x (Take v stamp w))) (overflows_at g u x.router (event_of g u x.router (Take v stamp w))) is
nothing_taken g u v stamp x y w (Refuses why) is h = (let k = h.0 in cc)

-- ---- offers

offers_one : (u s : ℕ) (next : Option RouterOffer) (o : RouterOffer) → next ≡ Some o → OffersOne u next (act_of u s s (offers (record { router = u; offer = o })) ∷ [])
offers_one u s next o is = subst (λ n. OffersOne u n (act_of u s s (offers (record { router = u; offer = o })) ∷ [])) (sym is) (s, refl)

pub offer_none : (g : Setting) (u : ℕ) (a b : Seen) → next_offer a.router.router ≡ None → b.router ≡ a.router → Rests a b → b.events ≡ a.events → (acts : List Act) × Offers g u a acts b
offer_none g u a b is router rests events =
    ([], record { only = subst (λ n. OffersOne u n []) (sym is) refl; does = does_none g u a b router rests events })

pub offer_did : (g : Setting) (u s : ℕ) (a b : Seen) (o : RouterOffer) → next_offer a.router.router ≡ Some o → a.router.stamp < s → b.router ≡ offer_made a.router s
    → b.put ≡ a.put → b.taken ≡ a.taken → b.room ≡ a.room → b.made ≡ with_offer a.made s (record { router = u; offer = o })
    → b.events ≡ a.events ++ entry s (name_of u (offers (record { router = u; offer = o }))) ∷ []
    → (acts : List Act) × Offers g u a acts b
offer_did g u s a b o is later made_so put taken room made noted =
    let stamp : b.router.stamp ≡ s = ap (λ (x : Stamped). x.stamp) made_so in
    let own : MadeOffer = record { router = u; offer = o } in
    let step : Step g u a.router.router (offers own) b.router.router =
    subst (λ (y : Stamped). Step g u a.router.router (offers own) y.router) (sym made_so) (record { may = (refl, is); numbers = refl; leaves = refl }) in
    let m = moves g u b.router.stamp a.router b.router (offers own) (subst (λ n. a.router.stamp < n) (sym stamp) later) tt step in (
      act_of u b.router.stamp b.router.stamp (offers own) ∷ [],
      record {
        only = offers_one u b.router.stamp (next_offer a.router.router) o is;
        does = does_offer g u b.router.stamp a b own m refl put taken room (made ∙ ap (λ (n : ℕ). with_offer a.made n own) (sym stamp))
            (noted ∙ ap (λ (n : ℕ). a.events ++ entry n (name_of u (offers own)) ∷ []) (sym stamp));
      },
    )
