-- What a side still has to do, as a number.
use Rattle.std.proofs.Common.{◌≡◌, ◌≢◌, ℕ, ◌+◌, ◌*◌, ◌-◌, ◌≤◌, ◌==◌, Bool, true, false, ◌&&◌, ◌||◌, not, cond, List, [], ◌∷◌, ◌++◌, length, refl, ap, sym, ◌∙◌, arith, inl, inr, Option, None, Some}
use Rattle.std.specs.Prelude.{nat_le, nat_eq, is_some, Result, Err}
use Rattle.std.proofs.lemmas.List.{length-drop}
use Rattle.std.proofs.lemmas.Bool.{cases_order, eq-eqb}
use Rattle.std.proofs.lemmas.Bool.Decides.{nat_tests}
use Rattle.prefix_lanes.specs.Bits.{PrefixView, is_prefix}
use Rattle.bgp_values.specs.declared.messages.TheConstants.{HEADER_LEN}
use Rattle.bgp_values.specs.declared.faults.TheConstants.{MESSAGE_HEADER_ERROR, OPEN_MESSAGE_ERROR}
use Rattle.bgp_codec.specs.declared.fault.Fault.{Fault}
use Rattle.bgp_codec.specs.declared.message.Message.{Message}
use Rattle.bgp_codec.specs.declared.update.Update.{Update}
use Rattle.bgp_codec.specs.declared.rule.Rule.{Rule}
use Rattle.bgp_codec.specs.Header.{header_fault, length_field, HeaderIsItsFront}
use Rattle.bgp_framing.specs.Held.{is_waiting}
use Rattle.rib_tables.specs.Words.{nothing, path_in, last_word, word_after}
use Rattle.ranked_policy.proofs.TestLemmas.{prefix_test}
use Rattle.session_fsm.specs.Table.{SessionView, on_event, on_state}
use Rattle.session_fsm.specs.declared.state.State.{State}
use Rattle.session_fsm.specs.declared.state.State.TheVariants.{Idle, Connect, Active, OpenSent, OpenConfirm, Established}
use Rattle.session_fsm.specs.declared.event.FsmEvent.{FsmEvent}
use Rattle.session_fsm.specs.declared.event.FsmEvent.TheVariants as event
use Rattle.session_fsm.specs.declared.actions.Action.{Action}
use Rattle.session_fsm.specs.declared.actions.Action.TheVariants as action
use Rattle.router_model.specs.Sides as sides
use Rattle.router_model.specs.Sides.{Side, Draft, draft_of, AtHand, apply_once, apply, apply_all, react, draft_message, is_up, is_established, rest_behind, front}
use Rattle.router_model.specs.State.{same_path, telling}
use Rattle.rest_runs.proofs.Rows.{NoDial, IsBrought, brought}
use Rattle.rest_runs.proofs.Drafts.{tall}
use Rattle.rest_runs.proofs.Numbers.{times, times_grows, count, count_most, count_falls}

-- ---- what is not told yet

abbrev pub is_unsaid : (PrefixView → List ℕ) → List Update → PrefixView → Bool
is_unsaid kept sent q = not (same_path (kept q) (path_in (last_word nothing sent q)))

-- how many prefixes are not told, if the session is up
abbrev pub unsaid_in : List PrefixView → (PrefixView → List ℕ) → State → List Update → ℕ
unsaid_in qs kept st sent = cond (is_established st) (count (is_unsaid kept sent) qs) 0

abbrev pub unsaid : List PrefixView → Side → (PrefixView → List ℕ) → ℕ
unsaid qs s kept = unsaid_in qs kept s.session.state (s.sent s.link.epoch)

if_up : (b : Bool) (n m : ℕ) → n ≤ m → cond b n 0 ≤ m
if_up true n m h = h
if_up false n m h = omega arith

pub unsaid_most : (qs : List PrefixView) (s : Side) (kept : PrefixView → List ℕ) → unsaid qs s kept ≤ length qs
unsaid_most qs s kept = if_up (is_established s.session.state) _ (length qs) (count_most (is_unsaid kept (s.sent s.link.epoch)) qs)

-- ---- the weight of a side: an entry that is said has at most 4096 octets, each of which waits, passes and is held

abbrev pub weight : ℕ → List PrefixView → Side → (PrefixView → List ℕ) → ℕ
weight M qs s kept =
    12289 * times (tall M s.session.state s.link.epoch) (length qs) + 12288 * tall M s.session.state s.link.epoch + 12289 * unsaid qs s kept + length s.held

module _ (M : ℕ) (qs : List PrefixView) (kept : PrefixView → List ℕ) where
  -- all but what is held
  abbrev pub load : Side → ℕ
  load s = 12289 * times (tall M s.session.state s.link.epoch) (length qs) + 12288 * tall M s.session.state s.link.epoch + 12289 * unsaid qs s kept

  pub sinks_so : (s t : Side) (said : ℕ) → tall M t.session.state t.link.epoch + said ≤ tall M s.session.state s.link.epoch
      → (tall M t.session.state t.link.epoch ≡ tall M s.session.state s.link.epoch → (t.session.state ≡ s.session.state) × (t.link.epoch ≡ s.link.epoch)) → t.sent ≡ s.sent
      → load t + 12288 * said ≤ load s
  sinks_so s t said falls same sent = elim (cases_order (tall M t.session.state t.link.epoch) (tall M s.session.state s.link.epoch)) [
    | inl equal ↦ (let k = same equal in
        let told : unsaid qs t kept ≡ unsaid qs s kept =
        ap (λ (st : State). unsaid_in qs kept st (t.sent t.link.epoch)) k.0 ∙ ap (λ (us : List Update). unsaid_in qs kept s.session.state us) (ap (λ (h : ℕ → List Update). h t.link.epoch) sent ∙ ap s.sent k.1) in
        omega (arith, falls, equal, told, ap (λ (n : ℕ). times n (length qs)) equal))
    | inr (inl less) ↦ omega (arith, falls, less, unsaid_most qs t kept, times_grows (tall M t.session.state t.link.epoch) (tall M s.session.state s.link.epoch) (length qs) less)
    | inr (inr more) ↦ absurd (omega (arith, falls, more))
  ]

-- ---- an UPDATE that is told

last_more : (us : List Update) (u : Update) (q : PrefixView) (w : _) → last_word w (us ++ u ∷ []) q ≡ word_after (last_word w us q) u q
last_more [] u q w = refl
last_more (v ∷ us) u q w = last_more us u q (word_after w v q)

same_self : (path : List ℕ) → same_path path path ≡ true
same_self [] = refl
same_self (u ∷ us) = (let e : nat_eq u u ≡ true = eq-eqb u u refl in rw (e, same_self us) refl)

module _ (id : ℕ) (p q : PrefixView) where
  told_path : (path : List ℕ) (w : _) (b : Bool) → is_prefix p q ≡ b → path_in (word_after w (telling id p path) q) ≡ cond b path (path_in w)
  told_path [] w true is = rw is refl
  told_path [] w false is = rw is refl
  told_path (v ∷ path) w true is = rw is refl
  told_path (v ∷ path) w false is = rw is refl

-- behind it, its prefix is told, and what was told before still is
module _ (id : ℕ) (kept : PrefixView → List ℕ) (p : PrefixView) (sent : List Update) where
  abbrev sent_more : List Update
  sent_more = sent ++ telling id p (kept p) ∷ []

  word_is : (q : PrefixView) (b : Bool) → is_prefix p q ≡ b → path_in (last_word nothing sent_more q) ≡ cond b (kept p) (path_in (last_word nothing sent q))
  word_is q b is = ap path_in (last_more sent (telling id p (kept p)) q nothing) ∙ told_path id p q (kept p) (last_word nothing sent q) b is

  still_by : (q : PrefixView) (b : Bool) → is_prefix p q ≡ b → is_unsaid kept sent_more q ≡ true → is_unsaid kept sent q ≡ true
  still_by q true is h =
      let same : p ≡ q = (prefix_test p q).0 is in
      let off : is_unsaid kept sent_more q ≡ false = ap (λ (w : List ℕ). not (same_path (kept q) w)) (word_is q true is ∙ ap kept same) ∙ ap not (same_self (kept q)) in
      absurd (let e = sym off ∙ h in cc e)
  still_by q false is h = sym (ap (λ (w : List ℕ). not (same_path (kept q) w)) (word_is q false is)) ∙ h

  pub told_less : (qs : List PrefixView) → Rattle.std.specs.List.find (is_unsaid kept sent) qs ≡ Some p → count (is_unsaid kept sent_more) qs + 1 ≤ count (is_unsaid kept sent) qs
  told_less qs found =
      let own : is_prefix p p ≡ true = (prefix_test p p).1 refl in
      let off : is_unsaid kept sent_more p ≡ false = ap (λ (w : List ℕ). not (same_path (kept p) w)) (word_is p true own) ∙ ap not (same_self (kept p)) in
      count_falls (is_unsaid kept sent_more) (is_unsaid kept sent) qs p (λ q. still_by q (is_prefix p q) refl) off found

-- ---- octets that are handled

-- the states in which octets are held
abbrev pub IsOpen : State → Type 0
IsOpen OpenSent = Unit {0}
IsOpen OpenConfirm = Unit {0}
IsOpen Established = Unit {0}
IsOpen _ = ⊥

abbrev HangsUp : List Action → Type 0
HangsUp [] = ⊥
HangsUp (action.Dial ∷ xs) = HangsUp xs
HangsUp (action.SendOpen ∷ xs) = HangsUp xs
HangsUp (action.SendAlive ∷ xs) = HangsUp xs
HangsUp (action.SendNotice code ∷ xs) = HangsUp xs
HangsUp (action.SendGiven ∷ xs) = HangsUp xs
HangsUp (action.HangUp ∷ xs) = Unit {0}
HangsUp (action.Act ∷ xs) = HangsUp xs
HangsUp (action.Up ∷ xs) = HangsUp xs
HangsUp (action.Down ∷ xs) = HangsUp xs

abbrev IsFault : FsmEvent → Type 0
IsFault event.BgpHeaderErr = Unit {0}
IsFault event.BgpOpenMsgErr = Unit {0}
IsFault event.UpdateMsgErr = Unit {0}
IsFault _ = ⊥

fault_row : (st : State) (s : SessionView) (e : FsmEvent) → IsOpen st → IsFault e → HangsUp (on_state st s e).actions
fault_row OpenSent s e o f = grind (arith, f)
fault_row OpenConfirm s e o f = grind (arith, f)
fault_row Established s e o f = grind (arith, f)
fault_row Idle s e o f = absurd o
fault_row Connect s e o f = absurd o
fault_row Active s e o f = absurd o

fault_drops : (a : Draft) (h : AtHand) → (sides.tells_fault a h).drops ≡ a.drops
fault_drops a sides.NoMessage = refl
fault_drops a (sides.HasFault fault) = refl
fault_drops a (sides.HasUpdate update) = refl

dropped : (o : Message) (h : AtHand) (a : Draft) (xs : List Action) → NoDial xs → a.drops ≡ true → (apply_all o h a xs).drops ≡ true
unfolding apply
dropped o h a [] none is = is
dropped o h a (action.Dial ∷ xs) none is = absurd none
dropped o h a (action.SendOpen ∷ xs) none is = dropped o h (apply_once o h a action.SendOpen) xs none is
dropped o h a (action.SendAlive ∷ xs) none is = dropped o h (apply_once o h a action.SendAlive) xs none is
dropped o h a (action.SendNotice code ∷ xs) none is = dropped o h (apply_once o h a (action.SendNotice code)) xs none is
dropped o h a (action.SendGiven ∷ xs) none is = dropped o h (apply_once o h a action.SendGiven) xs none (fault_drops a h ∙ is)
dropped o h a (action.HangUp ∷ xs) none is = dropped o h (apply_once o h a action.HangUp) xs none refl
dropped o h a (action.Act ∷ xs) none is = dropped o h (apply_once o h a action.Act) xs none is
dropped o h a (action.Up ∷ xs) none is = dropped o h a xs none is
dropped o h a (action.Down ∷ xs) none is = dropped o h (apply_once o h a action.Down) xs none is

drops : (o : Message) (h : AtHand) (a : Draft) (xs : List Action) → NoDial xs → HangsUp xs → (apply_all o h a xs).drops ≡ true
unfolding apply
drops o h a [] none hangs = absurd hangs
drops o h a (action.Dial ∷ xs) none hangs = absurd none
drops o h a (action.SendOpen ∷ xs) none hangs = drops o h (apply_once o h a action.SendOpen) xs none hangs
drops o h a (action.SendAlive ∷ xs) none hangs = drops o h (apply_once o h a action.SendAlive) xs none hangs
drops o h a (action.SendNotice code ∷ xs) none hangs = drops o h (apply_once o h a (action.SendNotice code)) xs none hangs
drops o h a (action.SendGiven ∷ xs) none hangs = drops o h (apply_once o h a action.SendGiven) xs none hangs
drops o h a (action.HangUp ∷ xs) none hangs = dropped o h (apply_once o h a action.HangUp) xs none refl
drops o h a (action.Act ∷ xs) none hangs = drops o h (apply_once o h a action.Act) xs none hangs
drops o h a (action.Up ∷ xs) none hangs = drops o h a xs none hangs
drops o h a (action.Down ∷ xs) none hangs = drops o h (apply_once o h a action.Down) xs none hangs

fault_brought : (e : FsmEvent) → IsFault e → IsBrought e
fault_brought e f = grind (arith, f)

reacts_dropping : (o : Message) (h : AtHand) (a : Draft) (e : FsmEvent) → IsOpen a.session.state → IsFault e → (react o h a e).drops ≡ true
unfolding react
reacts_dropping o h a e op f =
    drops o h (record a { session = (on_event a.session e).session }) (on_event a.session e).actions (brought a.session e (fault_brought e f)).none (fault_row a.session.state a.session e op f)

either_fault : (b : Bool) (e f : FsmEvent) → IsFault e → IsFault f → IsFault (cond b e f)
either_fault true e f x y = x
either_fault false e f x y = y

event_is_fault : (fault : Fault) → IsFault (sides.event_of (Err fault))
event_is_fault fault =
    either_fault (fault.code == MESSAGE_HEADER_ERROR) event.BgpHeaderErr (cond (fault.code == OPEN_MESSAGE_ERROR) event.BgpOpenMsgErr event.UpdateMsgErr) tt
    (either_fault (fault.code == OPEN_MESSAGE_ERROR) event.BgpOpenMsgErr event.UpdateMsgErr tt tt)

waiting_long : (held : List ℕ) → is_waiting held ≡ true → 19 ≤ length held
waiting_long held h = at (nat_le HEADER_LEN (length held)) refl h
  where
    at : (b : Bool) → nat_le HEADER_LEN (length held) ≡ b → (b && (is_some (header_fault held) || nat_le (length_field held) (length held))) ≡ true → 19 ≤ length held
    at true is h = grind (arith, nat_tests, is)
    at false is h = absurd cc

if_dropped : (b : Bool) (xs : List ℕ) → length (cond b [] xs) ≤ length xs
if_dropped true xs = omega arith
if_dropped false xs = omega arith

pub held_less : HeaderIsItsFront → (o : Message) (rule : Rule) (s : Side) → is_waiting s.held ≡ true → (s.held ≢ [] → IsOpen s.session.state)
    → length (cond (draft_message o (front rule s.held) s).drops [] (rest_behind (header_fault s.held) s.held)) + 1 ≤ length s.held
held_less law o rule s waits joined = at (header_fault s.held) refl
  where
    long : 19 ≤ length s.held
    long = waiting_long s.held waits

    at : (f : Option Fault) → header_fault s.held ≡ f
        → length (cond (draft_message o (front rule s.held) s).drops [] (rest_behind (header_fault s.held) s.held)) + 1 ≤ length s.held
    at None is =
        let bounds = (law 19 s.held (omega arith)).bounds is in
        let least : 19 ≤ length_field s.held = bounds.0 in
        let rest : length (rest_behind (header_fault s.held) s.held) ≡ length s.held - length_field s.held = ap (λ (f : Option Fault). length (rest_behind f s.held)) is ∙ length-drop (length_field s.held) s.held in
        omega (arith, long, least, rest, if_dropped (draft_message o (front rule s.held) s).drops (rest_behind (header_fault s.held) s.held))
    at (Some fault) is =
        let some : s.held ≢ [] = (λ e. absurd (omega (arith, long, ap length e))) in
        let read : front rule s.held ≡ Err fault = ap (λ (f : Option Fault). sides.read_front rule f s.held) is in
        let falls : (draft_message o (Err fault) s).drops ≡ true = reacts_dropping o (sides.at_hand (Err fault)) (draft_of s.session s.link) (sides.event_of (Err fault)) (joined some) (event_is_fault fault) in
        let gone : (draft_message o (front rule s.held) s).drops ≡ true = ap (λ (r : Result Message Fault). (draft_message o r s).drops) read ∙ falls in
        let empty = ap (λ (b : Bool). length (cond b [] (rest_behind (header_fault s.held) s.held))) gone in
        omega (arith, long, empty)
