-- What a router gave, as what a world gives.
use Rattle.std.proofs.Common.{◌≡◌, ℕ, ◌+◌, ◌<◌, length, get_or, arith, Bool, true, false, List, [], ◌∷◌, ◌++◌, refl, ap, sym, subst, Option, None, Some}
use Rattle.std.specs.Prelude.{Result, Ok, Err, IsOk, OnOk, IfSome, is_some, nat_lt, max, slice_get}
use Rattle.std.specs.Result.{IsErrAnd}
use Rattle.std.proofs.lemmas.Bool.{eq-eqb, false≢true}
use Rattle.run_model.specs.Network.{alone, puts, takes, offers}
use Rattle.outbox.specs.declared.item.What.{What}
use Rattle.outbox.specs.Items.{next_item}
use Rattle.run_model.specs.Offers.{made_of}
use Rattle.snap_marker.specs.Recordings.{RouterOffer}
use Rattle.snap_collector.specs.Collector.{CollectorView, made_for}
use Rattle.outbox.specs.declared.item.Item.{Item}
use Rattle.router_model.specs.declared.refusal.RouterError.{RouterError}
use Rattle.router_model.specs.declared.refusal.Stepped.{Stepped}
use Rattle.router_model.specs.declared.refusal.Stepped.TheVariants as stepped
use Rattle.router_model.specs.Settings.{Setting}
use Rattle.router_model.specs.Step.{RouterEvent, next_offer}
use Rattle.router_model.specs.Calls.{Stamped, Call, Put, Answer, Steps, Idle, Refuses, answer, stamped_after, Gives, judged, put_event, bars, event_of, overflows_at, offer_made}
use Rattle.run_model.specs.declared.stamps.TheConstants.{GREATEST_STAMP}
use Rattle.router_core.specs.Calling.{NeedsRoom}
use Rattle.router_core.specs.Views as core
use Rattle.router_core.specs.Views.{RouterView, plain_of, Shows}
use Rattle.world_core.specs.declared.schedule.Event.{Event}
use Rattle.world_core.specs.World.{of_offer, piped, joined}
use Rattle.world_core.specs.declared.schedule.StepFault.{StepFault}
use Rattle.world_core.specs.declared.schedule.StepFault.TheVariants.{Memory}
use Rattle.world_core.specs.Views.{refusal, answered, logged, DoneOr, Entered, Enters, OffersTo, EntersOffer}

-- ---- what was done, what was nothing, and what was refused

pub did : (g : Setting) (u : ℕ) (a : Answer) (x y : Stamped) (call : Call) (R S : Type 0) → Gives g u (Ok stepped.Did) a x call y → R
    → Entered (Ok stepped.Did) a (λ e. (y ≡ stamped_after g u x call e) × R) S
did g u (Steps e) x y call R S h r = (refl, (h.1, r))
did g u Idle x y call R S h r = (let k = h.0 in absurd cc)
did g u (Refuses why) x y call R S h r = (let k = h.0 in absurd cc)

pub nothing : (g : Setting) (u : ℕ) (a : Answer) (x y : Stamped) (call : Call) (done : RouterEvent → Type 0) (R : Type 0) → Gives g u (Ok stepped.Nothing) a x call y → R
    → Entered (Ok stepped.Nothing) a done ((y ≡ x) × R)
nothing g u (Steps e) x y call done R h r = (let k = h.0 in absurd cc)
nothing g u Idle x y call done R h r = (refl, (h.1, r))
nothing g u (Refuses why) x y call done R h r = (let k = h.0 in absurd cc)

pub refused : (g : Setting) (u : ℕ) (a : Answer) (x y : Stamped) (call : Call) (error : RouterError) (done : RouterEvent → Type 0) (R : Type 0) → Gives g u (Err error) a x call y → R
    → Entered (refusal error) a done ((y ≡ x) × R)
refused g u (Steps e) x y call error done R h r =
    subst (λ k. DoneOr (refusal k) (done e) ((y ≡ x) × R)) (sym h.0) (refl, (h.1, r))
refused g u Idle x y call error done R h r = (let k = h.0 in absurd cc)
refused g u (Refuses why) x y call error done R h r = (let k : error ≡ why = (let q = h.0 in cc) in ap refusal k, (h.1, r))

-- an event joins the run where the call did a step
entered : (g : Setting) (u : ℕ) (a : Answer) (x y : Stamped) (call : Call) (called : Result Stepped RouterError) (event : Event) (run : List Event) → Gives g u called a x call y
    → Entered (answered called) a (λ e. (y ≡ stamped_after g u x call e) × (logged called event run ≡ run ++ event ∷ [])) ((y ≡ x) × (logged called event run ≡ run))
entered g u a x y call (Ok stepped.Did) event run h = did g u a x y call _ _ h refl
entered g u a x y call (Ok stepped.Nothing) event run h = nothing g u a x y call _ _ h refl
entered g u a x y call (Err why) event run h = refused g u a x y call why _ _ h refl

pub enters : (x y : RouterView) (run run_after grown : List Event) (event : Event) (call : Call) (called : Result Stepped RouterError) (r : Result Stepped StepFault) → core.Answers called x call y
    → r ≡ answered called → run_after ≡ logged called event grown → grown ≡ run → Enters r x run event call y run_after
enters x y run run_after grown event call called r answers is joins same = λ g e ranks.
    rw (is, joins, same) (entered g x.number (answer g x.number (plain_of x) call) (plain_of x) (plain_of y) call called event run (answers g e ranks))

-- ---- room for an event

-- what a growth promises where it was not refused
pub with_room : {T E : Type 0} → (room : Result T E) (P : Type 0) → IsOk room → OnOk room P → P
with_room (Ok x) P is h = h
with_room (Err why) P is h = absurd cc

pub has_room : {T E : Type 0} → (called : Result Stepped RouterError) (room : Result T E) (P : Type 0) → NeedsRoom called room → OnOk room P → called ≡ Ok stepped.Did → P
has_room called room P needs fits is = with_room room P (subst (λ (k : Result Stepped RouterError). NeedsRoom k room) is needs) fits

-- ---- a put

put_is : (v : ℕ) (bars : Option RouterError) (o : Option What) (late overflows : Bool) (e : RouterEvent) → judged bars (put_event v o) late overflows ≡ Steps e → (i : What) × (e ≡ puts v i)
put_is v (Some why) o late overflows e h = absurd cc
put_is v None None late overflows e h = absurd cc
put_is v None (Some i) true overflows e h = absurd cc
put_is v None (Some i) false true e h = absurd cc
put_is v None (Some i) false false e h = (i, (let k : puts v i ≡ e = cc in sym k))

put_by : (g : Setting) (u v stamp : ℕ) (a : Answer) (x y : Stamped) (items : List Item) (item : Item) (R S : Type 0) → Gives g u (Ok stepped.Did) a x (Put v) y → Shows stamp (Ok (Some item)) a
    → ((e : RouterEvent) → a ≡ Steps e → (i : What) × (e ≡ puts v i)) → R
    → Entered (Ok stepped.Did) a (λ e. (y ≡ stamped_after g u x (Put v) e) × R × (items ++ item ∷ [] ≡ piped u stamp e u v items)) S
put_by g u v stamp (Steps (puts w i)) x y items item R S h shows is r =
    let p = is (puts w i) refl in
    let same : v ≡ w = (let q = p.1 in cc) in
    let next : item ≡ record { stamp = stamp; what = i } = (let q = shows in cc) in
    (refl, (h.1, r, rw (eq-eqb u u refl, eq-eqb v w same) (ap (λ (k : Item). items ++ k ∷ []) next)))
put_by g u v stamp (Steps (alone e)) x y items item R S h shows is r = absurd shows
put_by g u v stamp (Steps (takes w i)) x y items item R S h shows is r = absurd shows
put_by g u v stamp (Steps (offers made)) x y items item R S h shows is r = absurd shows
put_by g u v stamp Idle x y items item R S h shows is r = (let k = h.0 in absurd cc)
put_by g u v stamp (Refuses why) x y items item R S h shows is r = (let k = h.0 in absurd cc)

pub puts_in : (g : Setting) (u v stamp : ℕ) (x y : Stamped) (items items_after : List Item) (item : Item) (R S : Type 0) → Gives g u (Ok stepped.Did) (answer g u x (Put v)) x (Put v) y
    → Shows stamp (Ok (Some item)) (answer g u x (Put v)) → R → items_after ≡ items ++ item ∷ []
    → Entered (Ok stepped.Did) (answer g u x (Put v)) (λ e. (y ≡ stamped_after g u x (Put v) e) × R × (items_after ≡ piped u stamp e u v items)) S
puts_in g u v stamp x y items items_after item R S h shows r is =
    rw is
    (put_by g u v stamp (answer g u x (Put v)) x y items item R S h shows
    (put_is v (bars g u x.router (Put v)) (next_item g.net.settings.cut (x.router.sides v).outbox) (nat_lt GREATEST_STAMP (x.stamp + 1)) (overflows_at g u x.router (event_of g u x.router (Put v)))) r)

-- ---- an offer

-- of a router with an offer in front, whose stamp fits
module _ (x y : RouterView) (run run_after : List Event) (kept kept_after : CollectorView) (board stamp : ℕ) (event : Event) (at : stamp ≡ max x.stamp board + 1) (late : nat_lt GREATEST_STAMP stamp ≡ false) where
  makes : (m : Option RouterOffer) → is_some m ≡ true → plain_of y ≡ offer_made (plain_of x) stamp → run_after ≡ run ++ event ∷ []
      → IfSome m (λ o. made_for kept_after ≡ joined (made_for kept) (made_of x.number o ∷ [])) → OffersTo (Ok stepped.Did) x run kept board event y run_after kept_after stamp (of_offer x.number (max x.stamp board + 1) m)
  makes None some p q k = absurd (false≢true some)
  makes (Some o) some p q k = rw (sym at, late) (refl, (p, q, k, refl))

  pub makes_offer : is_some (next_offer (plain_of x).router) ≡ true → plain_of y ≡ offer_made (plain_of x) stamp → run_after ≡ run ++ event ∷ []
      → IfSome (next_offer (plain_of x).router) (λ o. made_for kept_after ≡ joined (made_for kept) (made_of x.number o ∷ [])) → EntersOffer (Ok stepped.Did) x run kept board event y run_after kept_after stamp
  makes_offer = makes (next_offer (plain_of x).router)

  wants : (m : Option RouterOffer) → is_some m ≡ true → y ≡ x → run_after ≡ run → kept_after ≡ kept → OffersTo (Err Memory) x run kept board event y run_after kept_after board (of_offer x.number (max x.stamp board + 1) m)
  wants None some p q k = absurd (false≢true some)
  wants (Some o) some p q k = rw (sym at, late) (refl, (ap plain_of p, q, ap made_for k, refl))

  pub wants_memory : (r : Result Stepped StepFault) → IsErrAnd r (λ why. why ≡ Memory) → is_some (next_offer (plain_of x).router) ≡ true → y ≡ x → run_after ≡ run → kept_after ≡ kept
      → EntersOffer r x run kept board event y run_after kept_after board
  wants_memory (Ok s) h some p q k = absurd h
  wants_memory (Err why) h some p q k =
      subst (λ w. EntersOffer (Err w) x run kept board event y run_after kept_after board) (sym h) (wants (next_offer (plain_of x).router) some p q k)

-- ---- a take

pub front_is : (items : List Item) (i : Item) → 0 < length items → i ≡ get_or items 0 i → slice_get items 0 ≡ Some i
front_is [] i some is = absurd (omega arith)
front_is (x ∷ xs) i some is = ap Some (sym is)

pub did_all : (g : Setting) (u : ℕ) (a : Answer) (x y : Stamped) (call : Call) (R U S : Type 0) → Gives g u (Ok stepped.Did) a x call y → R → U
    → Entered (Ok stepped.Did) a (λ e. (y ≡ stamped_after g u x call e) × R × U) S
did_all g u (Steps e) x y call R U S h r k = (refl, (h.1, r, k))
did_all g u Idle x y call R U S h r k = (let q = h.0 in absurd cc)
did_all g u (Refuses why) x y call R U S h r k = (let q = h.0 in absurd cc)

pub nothing_all : (g : Setting) (u : ℕ) (a : Answer) (x y : Stamped) (call : Call) (done : RouterEvent → Type 0) (R U : Type 0) → Gives g u (Ok stepped.Nothing) a x call y → R → U
    → Entered (Ok stepped.Nothing) a done ((y ≡ x) × R × U)
nothing_all g u (Steps e) x y call done R U h r k = (let q = h.0 in absurd cc)
nothing_all g u Idle x y call done R U h r k = (refl, (h.1, r, k))
nothing_all g u (Refuses why) x y call done R U h r k = (let q = h.0 in absurd cc)

pub refused_all : (g : Setting) (u : ℕ) (a : Answer) (x y : Stamped) (call : Call) (error : RouterError) (done : RouterEvent → Type 0) (R U : Type 0) → Gives g u (Err error) a x call y → R → U
    → Entered (refusal error) a done ((y ≡ x) × R × U)
refused_all g u (Steps e) x y call error done R U h r k =
    subst (λ j. DoneOr (refusal j) (done e) ((y ≡ x) × R × U)) (sym h.0) (refl, (h.1, r, k))
refused_all g u Idle x y call error done R U h r k = (let q = h.0 in absurd cc)
refused_all g u (Refuses why) x y call error done R U h r k = (let j : error ≡ why = (let q = h.0 in cc) in ap refusal j, (h.1, r, k))
