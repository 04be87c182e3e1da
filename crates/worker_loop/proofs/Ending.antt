-- What ends a worker.
use Rattle.std.proofs.Common.{IfOk, ◌≡◌, ℕ, ◌+◌, ◌<◌, ◌≤◌, arith, Bool, true, false, ◌&&◌, List, [], ◌∷◌, ◌++◌, length, get_or, length-append, refl, ap, sym, ◌∙◌, subst, Option, None, Some}
use Rattle.std.specs.Prelude.{Result, Ok, Err, IsOk, IsErrAnd, OnOk, OnErr, IfErr, nat_lt}
use Rattle.std.proofs.lemmas.Bool.{eq-eqb}
use Rattle.std.specs.List.{Contains}
use Rattle.std.specs.Result.{result_err}
use Rattle.outbox.specs.declared.item.Item.{Item}
use Rattle.outbox.specs.declared.item.What.{What}
use Rattle.run_model.specs.Network.{alone, puts, takes, offers}
use Rattle.run_model.specs.declared.stamps.TheConstants.{GREATEST_STAMP}
use Rattle.router_model.specs.declared.refusal.RouterError.{RouterError}
use Rattle.router_model.specs.declared.refusal.RouterError.TheVariants as error
use Rattle.router_model.specs.Settings.{Setting, IsSetting, linked}
use Rattle.router_model.specs.Step.{RouterEvent}
use Rattle.router_model.specs.Calls.{Stamped, Call, Put, Take, Answer, Steps, Idle, Refuses, answer, stamp_of, Gives, judged, bars, first_of, unless, overflows_at}
use Rattle.router_core.specs.Views.{RouterView, plain_of, Answers, IsSame, Shows, ShowsNext}
use Rattle.worker_loop.specs.declared.worker.WorkerFault.{WorkerFault}
use Rattle.worker_loop.specs.declared.worker.WorkerFault.TheVariants as fault
use Rattle.worker_loop.specs.Acts.{grown}
use Rattle.worker_loop.specs.Whole.{passing}
use Rattle.worker_loop.specs.Ending.{ending, lost}

-- what a growth promises where it was not refused
pub with_room : {T E : Type 0} → (room : Result T E) (P : Type 0) → IsOk room → OnOk room P → P
with_room (Ok x) P is h = h
with_room (Err why) P is h = absurd cc

-- a caller has room for what is refused where it has none
pub has_room : {T E : Type 0} → (room : Result T E) → OnErr room (false ≡ true) → IsOk room
has_room (Ok x) h = refl
has_room (Err why) h = absurd (let k = h in cc)

pub if_err : {T E : Type 0} → (r : Result T E) (P Q : E → Type 0) → ((e : E) → P e → Q e) → IsErrAnd r P → IfErr r Q
if_err (Ok x) P Q f h = tt
if_err (Err e) P Q f h = f e h

pub err_so : {T E : Type 0} → (r : Result T E) (P Q : E → Type 0) → ((e : E) → P e → Q e) → IfErr r P → IfErr r Q
err_so (Ok x) P Q f h = tt
err_so (Err e) P Q f h = f e h

pub ok_so : {T E : Type 0} → (r : Result T E) (P : Type 0) (Q : T → Type 0) → ((x : T) → P → Q x) → OnOk r P → IfOk r Q
ok_so (Ok x) P Q f h = f x h
ok_so (Err e) P Q f h = tt

pub on_err : {T E : Type 0} → (r : Result T E) (P : Type 0) → P → OnErr r P
on_err (Ok x) P h = tt
on_err (Err e) P h = h

if_ended : (r : Result (Unit {0}) WorkerFault) (P : WorkerFault → Type 0) → ((why : WorkerFault) → r ≡ Err why → P why) → IfErr r P
if_ended (Ok x) P f = tt
if_ended (Err why) P f = f why refl

-- ---- calls

ended_by : (g : Setting) (u : ℕ) (call : Call) (x y : Stamped) (why : RouterError) (ends : WorkerFault) (r : Answer) → answer g u x call ≡ r → Gives g u (Err why) r x call y
    → passing why ≡ Err ends → ending (answer g u y call) ≡ Some ends
ended_by g u call x y why ends (Steps e) is h p =
    let wants : fault.Memory ≡ ends = (let q : passing error.Memory ≡ Err ends = subst (λ k. passing k ≡ Err ends) h.0 p in cc) in
    ap (λ (z : Stamped). ending (answer g u z call)) h.1 ∙ ap ending is ∙ ap Some wants
ended_by g u call x y why ends Idle is h p = (let k = h.0 in absurd cc)
ended_by g u call x y why ends (Refuses other) is h p =
    let same : why ≡ other = (let k = h.0 in cc) in
    ap (λ (z : Stamped). ending (answer g u z call)) h.1 ∙ ap ending is ∙ ap (λ k. result_err (passing k)) (sym same) ∙ ap result_err p

pub call_ends : (x y : RouterView) (call : Call) (why : RouterError) → Answers (Err why) x call y → IsSame x y
    → IfErr (passing why) (λ ends. (g : Setting) → g.net ≡ y.net → IsSetting g → ending (answer g y.number (plain_of y) call) ≡ Some ends)
call_ends x y call why h same =
    if_ended (passing why) (λ ends. (g : Setting) → g.net ≡ y.net → IsSetting g → ending (answer g y.number (plain_of y) call) ≡ Some ends)
    (λ ends p g net set.
    subst (λ (n : ℕ). ending (answer g n (plain_of y) call) ≡ Some ends) (sym same.number)
    (ended_by g x.number call (plain_of x) (plain_of y) why ends (answer g x.number (plain_of x) call) refl (h g (net ∙ same.net) set.chooses) p))

-- ---- puts

shown_by : (stamp : ℕ) (why : RouterError) (ends : WorkerFault) (r : Answer) → Shows stamp (Err why) r → passing why ≡ Err ends → ending r ≡ Some ends
shown_by stamp why ends (Steps (puts v i)) h p =
    let wants : fault.Memory ≡ ends = (let q : passing error.Memory ≡ Err ends = subst (λ k. passing k ≡ Err ends) h p in cc) in ap Some wants
shown_by stamp why ends (Steps (alone e)) h p = absurd h
shown_by stamp why ends (Steps (takes v i)) h p = absurd h
shown_by stamp why ends (Steps (offers made)) h p = absurd h
shown_by stamp why ends Idle h p = absurd (let k = h in cc)
shown_by stamp why ends (Refuses other) h p =
    let same : why ≡ other = (let k = h in cc) in ap (λ k. result_err (passing k)) (sym same) ∙ ap result_err p

pub put_ends : (x : RouterView) (v : ℕ) (why : RouterError) → ShowsNext (Err why) x v
    → IfErr (passing why) (λ ends. (g : Setting) → g.net ≡ x.net → IsSetting g → ending (answer g x.number (plain_of x) (Put v)) ≡ Some ends)
put_ends x v why h =
    if_ended (passing why) (λ ends. (g : Setting) → g.net ≡ x.net → IsSetting g → ending (answer g x.number (plain_of x) (Put v)) ≡ Some ends)
    (λ ends p g net set. shown_by (x.stamp + 1) why ends (answer g x.number (plain_of x) (Put v)) (h g net) p)

due_by : (stamp : ℕ) (item : Item) (ends : WorkerFault) (r : Answer) → Shows stamp (Ok (Some item)) r → ends ≡ fault.Memory → ending r ≡ Some ends
due_by stamp item ends (Steps e) h wants = ap Some (sym wants)
due_by stamp item ends Idle h wants = absurd (let k = h in cc)
due_by stamp item ends (Refuses other) h wants = absurd (let k = h in cc)

pub put_wants : (x : RouterView) (v : ℕ) (item : Item) (ends : WorkerFault) → ShowsNext (Ok (Some item)) x v → ends ≡ fault.Memory
    → (g : Setting) → g.net ≡ x.net → IsSetting g → ending (answer g x.number (plain_of x) (Put v)) ≡ Some ends
put_wants x v item ends h wants g net set = due_by (x.stamp + 1) item ends (answer g x.number (plain_of x) (Put v)) (h g net) wants

-- ---- takes

pub taken_last : (f h : ℕ → List Item) (v : ℕ) (x : Item) → h ≡ grown f v x → h v ≡ f v ++ x ∷ []
taken_last f h v x e = ap (λ k. k v) e ∙ rw (eq-eqb v v refl) refl

unbarred : (v : ℕ) (link free : Bool) → (link && free) ≡ true → first_of (unless link error.NoSuchPeer) (unless free (error.Held v)) ≡ None
unbarred v true true h = refl
unbarred v true false h = absurd cc
unbarred v false free h = absurd cc

left_alone : (g : Setting) (u : ℕ) (call : Call) (x y : Stamped) (why : RouterError) (r : Answer) → Gives g u (Err why) r x call y → y ≡ x
left_alone g u call x y why (Steps e) h = h.1
left_alone g u call x y why Idle h = h.1
left_alone g u call x y why (Refuses other) h = h.1

lost_by : (g : Setting) (u : ℕ) (call : Call) (x y : Stamped) (why : RouterError) (e : RouterEvent) (late overflows : Bool) → Gives g u (Err why) (judged None (Some e) late overflows) x call y
    → ending (judged None (Some e) late overflows) ≡ Some (lost why)
lost_by g u call x y why e true overflows h = (let same : why ≡ error.StampEnd = (let k = h.0 in cc) in ap (λ k. Some (lost k)) (sym same))
lost_by g u call x y why e false true h = (let same : why ≡ error.EpochEnd = (let k = h.0 in cc) in ap (λ k. Some (lost k)) (sym same))
lost_by g u call x y why e false false h = ap (λ k. Some (lost k)) (sym h.0)

take_by : (g : Setting) (u v stamp : ℕ) (what : What) (x y : Stamped) (why : RouterError) → bars g u x.router (Take v stamp what) ≡ None
    → Gives g u (Err why) (answer g u x (Take v stamp what)) x (Take v stamp what) y → ending (answer g u x (Take v stamp what)) ≡ Some (lost why)
take_by g u v stamp what x y why free h =
    let late = nat_lt GREATEST_STAMP (stamp_of g u x (Take v stamp what)) in
    let overflows = overflows_at g u x.router (Some (takes v what)) in
    ap (λ (b : Option RouterError). ending (judged b (Some (takes v what)) late overflows)) free
    ∙ lost_by g u (Take v stamp what) x y why (takes v what) late overflows
    (subst (λ (b : Option RouterError). Gives g u (Err why) (judged b (Some (takes v what)) late overflows) x (Take v stamp what) y) free h)

-- an item that the router may take ends it by its stamp, its numbers, or want of memory alone
pub take_ends : (x y : RouterView) (v : ℕ) (item : Item) (why : RouterError) (free : Bool) → (linked x.net x.number v && free) ≡ true
    → ((g : Setting) → bars g x.number (plain_of x).router (Take v item.stamp item.what) ≡ first_of (unless (linked g.net x.number v) error.NoSuchPeer) (unless free (error.Held v)))
    → Answers (Err why) x (Take v item.stamp item.what) y → IsSame x y
    → (g : Setting) → g.net ≡ y.net → IsSetting g → ending (answer g y.number (plain_of y) (Take v item.stamp item.what)) ≡ Some (lost why)
take_ends x y v item why free may barred h same g net set =
    let call : Call = Take v item.stamp item.what in
    let gives = h g (net ∙ same.net) set.chooses in
    let still = left_alone g x.number call (plain_of x) (plain_of y) why (answer g x.number (plain_of x) call) gives in
    subst (λ (n : ℕ). ending (answer g n (plain_of y) call) ≡ Some (lost why)) (sym same.number)
    (ap (λ (z : Stamped). ending (answer g x.number z call)) still
    ∙ take_by g x.number v item.stamp item.what (plain_of x) (plain_of y) why
    (barred g ∙ unbarred v (linked g.net x.number v) free (ap (λ n. linked n x.number v && free) (net ∙ same.net) ∙ may)) gives)

-- ---- peers and chores

pub peer_there : (peers now : List ℕ) (i v : ℕ) → i < length peers → v ≡ get_or peers i v → now ≡ peers → Contains now v
peer_there peers now i v below is same = subst (λ xs. Contains xs v) (sym same) (i, below, sym is)

pub few_given : {A : Type 0} → (before given : List A) (turn turns : ℕ) → given ≡ before → turn ≡ length before → turn < turns → length given < turns
few_given before given turn turns same counted below = (let many : length given ≡ turn = ap length same ∙ sym counted in omega (arith, many, below))

pub last_given : {A : Type 0} → (before given : List A) (last : A) (turn turns : ℕ) → given ≡ before ++ last ∷ [] → turn ≡ length before → turn < turns → length given ≤ turns
last_given before given last turn turns same counted below =
    let many : length given ≡ length before + 1 = ap length same ∙ length-append before (last ∷ []) in omega (arith, many, counted, below)

pub few_is_most : (n turns : ℕ) → n < turns → n ≤ turns
few_is_most n turns below = omega (arith, below)
