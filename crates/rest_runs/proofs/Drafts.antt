-- What a message of the peer, a dial or a hanging up brings: what is said, in which incarnation the side is then, and
-- that it has less far to go.
use Rattle.std.proofs.Common.{◌≡◌, ℕ, ◌+◌, ◌*◌, ◌-◌, ◌<◌, ◌≤◌, max, ◌==◌, Bool, true, false, ◌&&◌, not, cond, List, [], ◌∷◌, length, refl, ap, sym, ◌∙◌, subst, arith, Option, None, Some}
use Rattle.std.specs.Prelude.{nat_lt, Result}
use Rattle.std.proofs.lemmas.List.{length-append}
use Rattle.std.proofs.lemmas.Bool.Decides.{nat_tests}
use Rattle.bgp_codec.specs.declared.fault.Fault.{Fault}
use Rattle.bgp_codec.specs.declared.message.Message.{Message}
use Rattle.link_epoch.specs.Ends.{LinkView, is_joinable, next_number, dialled, hung_up, number_shut, heard_by, meaning_of, phase_at_dial}
use Rattle.link_epoch.specs.Histories.{JoinsAtItsOwnNumber, OffersAboveTheOwn}
use Rattle.link_epoch.specs.declared.link_end.Phase.TheVariants as phase
use Rattle.link_epoch.specs.declared.link_end.Sign.{Sign}
use Rattle.link_epoch.specs.declared.link_end.Sign.TheVariants as sign
use Rattle.link_epoch.specs.declared.link_end.Heard.{Heard}
use Rattle.link_epoch.specs.declared.link_end.Heard.TheVariants as heard
use Rattle.session_fsm.specs.Table.{SessionView, on_event}
use Rattle.session_fsm.specs.declared.state.State.{State}
use Rattle.session_fsm.specs.declared.state.State.TheVariants.{Connect}
use Rattle.session_fsm.specs.declared.event.FsmEvent.{FsmEvent}
use Rattle.session_fsm.specs.declared.event.FsmEvent.TheVariants as event
use Rattle.session_fsm.specs.declared.actions.Action.{Action}
use Rattle.session_fsm.specs.declared.actions.Action.TheVariants as action
use Rattle.run_model.specs.Links.{Dial, Says, Shut}
use Rattle.router_model.specs.Sides as sides
use Rattle.router_model.specs.Sides.{Side, Draft, draft_of, AtHand, NoMessage, HasFault, HasUpdate, apply_once, apply, apply_all, react, dials, shuts, fits, react_to_sign, draft_sign, draft_message}
use Rattle.rest_runs.proofs.Peaks.{mark_in, crest, crest_append}
use Rattle.rest_runs.proofs.Rows.{height, height_once, voices, NoDial, Falls, brought, read_is_brought, joins, answers}

-- ---- actions without a dial

-- from a draft to another: the session and the incarnation stay, and so many entries are said, none of them a marker
pub record Spoken (a d : Draft) (n : ℕ) : Type 0 where
  pub session : d.session ≡ a.session
  pub epoch : d.link.epoch ≡ a.link.epoch
  pub count : length d.says ≤ length a.says + n
  pub marks : crest mark_in d.says ≤ crest mark_in a.says
  pub overflows : d.overflows ≡ a.overflows

silent : (a : Draft) → Spoken a a 0
silent a = record { session = refl; epoch = refl; count = omega arith; marks = omega arith; overflows = refl }

and_then : (a b d : Draft) (m n : ℕ) → Spoken a b m → Spoken b d n → Spoken a d (m + n)
and_then a b d m n x y = record {
  session = y.session ∙ x.session;
  epoch = y.epoch ∙ x.epoch;
  count = omega (arith, x.count, y.count);
  marks = omega (arith, x.marks, y.marks);
  overflows = y.overflows ∙ x.overflows;
}

and_so : (a b d : Draft) (n : ℕ) → Spoken a b 0 → Spoken b d n → Spoken a d n
and_so a b d n x y = subst (λ (k : ℕ). Spoken a d k) (omega arith) (and_then a b d 0 n x y)

told : (a : Draft) (m : Message) → Spoken a (sides.tells a m) 1
told a m = record {
  session = refl;
  epoch = refl;
  count = omega (arith, length-append a.says (Says a.link.epoch m ∷ []));
  marks = omega (arith, crest_append mark_in a.says (Says a.link.epoch m ∷ []));
  overflows = refl;
}

fault_told : (a : Draft) (h : AtHand) → Spoken a (sides.tells_fault a h) 1
fault_told a NoMessage = record { session = refl; epoch = refl; count = omega arith; marks = omega arith; overflows = refl }
fault_told a (HasFault fault) = told a (sides.notification_of fault)
fault_told a (HasUpdate update) = record { session = refl; epoch = refl; count = omega arith; marks = omega arith; overflows = refl }

shut_by : (a : Draft) (o : Option ℕ) → Spoken a (record (shuts a o) { link = hung_up a.link; drops = true }) 1
shut_by a None = record { session = refl; epoch = refl; count = omega arith; marks = omega arith; overflows = refl }
shut_by a (Some n) = record {
  session = refl;
  epoch = refl;
  count = omega (arith, length-append a.says (Shut n ∷ []));
  marks = omega (arith, crest_append mark_in a.says (Shut n ∷ []));
  overflows = refl;
}

plain : (a d : Draft) → d.session ≡ a.session → d.link ≡ a.link → d.says ≡ a.says → d.overflows ≡ a.overflows → Spoken a d 0
plain a d s l w o = record {
  session = s;
  epoch = ap (λ k. k.epoch) l;
  count = omega (arith, ap length w);
  marks = omega (arith, ap (crest mark_in) w);
  overflows = o;
}

pub spoken : (o : Message) (h : AtHand) (a : Draft) (xs : List Action) → NoDial xs → Spoken a (apply_all o h a xs) (voices xs)
unfolding apply
spoken o h a [] none = silent a
spoken o h a (action.Dial ∷ xs) none = absurd none
spoken o h a (action.SendOpen ∷ xs) none = and_then a (sides.tells a o) _ 1 (voices xs) (told a o) (spoken o h (sides.tells a o) xs none)
spoken o h a (action.SendAlive ∷ xs) none = and_then a (apply_once o h a action.SendAlive) _ 1 (voices xs) (told a _) (spoken o h (apply_once o h a action.SendAlive) xs none)
spoken o h a (action.SendNotice code ∷ xs) none = and_then a (apply_once o h a (action.SendNotice code)) _ 1 (voices xs) (told a _) (spoken o h (apply_once o h a (action.SendNotice code)) xs none)
spoken o h a (action.SendGiven ∷ xs) none = and_then a (apply_once o h a action.SendGiven) _ 1 (voices xs) (fault_told a h) (spoken o h (apply_once o h a action.SendGiven) xs none)
spoken o h a (action.HangUp ∷ xs) none = and_then a (apply_once o h a action.HangUp) _ 1 (voices xs) (shut_by a (number_shut a.link)) (spoken o h (apply_once o h a action.HangUp) xs none)
spoken o h a (action.Act ∷ xs) none = and_so a (apply_once o h a action.Act) _ (voices xs) (plain a _ refl refl refl refl) (spoken o h (apply_once o h a action.Act) xs none)
spoken o h a (action.Up ∷ xs) none = and_so a a _ (voices xs) (silent a) (spoken o h a xs none)
spoken o h a (action.Down ∷ xs) none = and_so a (apply_once o h a action.Down) _ (voices xs) (plain a _ refl refl refl refl) (spoken o h (apply_once o h a action.Down) xs none)

pub reacted : (o : Message) (h : AtHand) (a : Draft) (e : FsmEvent) → NoDial (on_event a.session e).actions
    → Spoken (record a { session = (on_event a.session e).session }) (react o h a e) (voices (on_event a.session e).actions)
unfolding react
reacted o h a e none = spoken o h (record a { session = (on_event a.session e).session }) (on_event a.session e).actions none

-- ---- how far a side has to go

-- M is the greatest incarnation that is ever dialled
abbrev pub tall : ℕ → State → ℕ → ℕ
tall M st n = 10 * (M - n) + 2 * height st

pub record Sinks (M : ℕ) (s : Side) (a : Draft) : Type 0 where
  pub sinks : tall M a.session.state a.link.epoch + length a.says ≤ tall M s.session.state s.link.epoch
  pub same : tall M a.session.state a.link.epoch ≡ tall M s.session.state s.link.epoch → (a.session.state ≡ s.session.state) × (a.link.epoch ≡ s.link.epoch)
  pub low : a.link.epoch ≤ max s.link.epoch M
  pub marks : crest mark_in a.says ≡ 0

-- an event that is met in the side's incarnation
stays_in : (M : ℕ) (s : Side) (l : LinkView) (a : Draft) (n : ℕ) (to : SessionView) → l.epoch ≡ s.link.epoch → Spoken (record (draft_of s.session l) { session = to }) a n
    → 2 * height to.state + n ≤ 2 * height s.session.state → Sinks M s a
stays_in M s l a n to at k falls =
    let high = ap (λ (w : SessionView). height w.state) k.session in
    record {
      sinks = omega (arith, k.count, falls, high, k.epoch, at);
      same = λ e. (height_once a.session.state s.session.state (omega (arith, e, high, k.epoch, at)), k.epoch ∙ at);
      low = omega (arith, k.epoch, at);
      marks = omega (arith, k.marks);
    }

met : (M : ℕ) (o : Message) (h : AtHand) (s : Side) (l : LinkView) (e : FsmEvent) → l.epoch ≡ s.link.epoch → Falls s.session e → Sinks M s (react o h (draft_of s.session l) e)
met M o h s l e at f = stays_in M s l (react o h (draft_of s.session l) e) (voices (on_event s.session e).actions) (on_event s.session e).session at (reacted o h (draft_of s.session l) e f.none) f.falls

-- a message that is handled
pub message_sinks : (M : ℕ) (o : Message) (read : Result Message Fault) (s : Side) → Sinks M s (draft_message o read s)
message_sinks M o read s = met M o (sides.at_hand read) s s.link (sides.event_of read) refl (brought s.session (sides.event_of read) (read_is_brought read))

-- nothing
quiet : (M : ℕ) (s : Side) (l : LinkView) → l.epoch ≡ s.link.epoch → Sinks M s (draft_of s.session l)
quiet M s l at = record { sinks = omega (arith, at); same = λ e. (refl, at); low = omega (arith, at); marks = refl }

-- ---- a sign

pub heard_epoch : (link : LinkView) (x : Sign) → (heard_by link x).epoch ≡ link.epoch
heard_epoch link (sign.Dial n) = at (nat_lt link.heard n)
  where
    at : (b : Bool) → (cond b (record { epoch = link.epoch; heard = n; heard_is_shut = false; phase = phase_at_dial link.phase (n == link.epoch) }) link).epoch ≡ link.epoch
    at true = refl
    at false = refl
heard_epoch link (sign.Shut n) = at (n == link.heard)
  where
    at : (b : Bool) → (cond b (record link { heard_is_shut = true }) link).epoch ≡ link.epoch
    at true = refl
    at false = refl

-- a dial above both numbers is what the next dial takes
record Offers (s l : LinkView) (n : ℕ) : Type 0 where
  epoch : l.epoch ≡ s.epoch
  heard : l.heard ≡ n
  unshut : l.heard_is_shut ≡ false
  above : s.epoch < n

offered : (s : LinkView) (n : ℕ) → s.heard < n → s.epoch < n → Offers s (heard_by s (sign.Dial n)) n
offered s n over above =
    let lower : nat_lt s.heard n ≡ true = grind (arith, nat_tests, over) in
    rw lower (record { epoch = refl; heard = refl; unshut = refl; above = above })

next_is : (s l : LinkView) (n : ℕ) → Offers s l n → next_number l ≡ n
next_is s l n x =
    let above : nat_lt l.epoch l.heard ≡ true = (let low : l.epoch < l.heard = omega (arith, x.epoch, x.heard, x.above) in grind (arith, nat_tests, low)) in
    let test : is_joinable l ≡ true = ap (λ (b : Bool). b && not l.heard_is_shut) above ∙ ap not x.unshut in
    ap (λ (b : Bool). cond b l.heard (max l.epoch l.heard + 1)) test ∙ x.heard

overflow_if : (b : Bool) (c d : Draft) → d.overflows ≡ true → (cond b c d).overflows ≡ false → b ≡ true
overflow_if true c d h k = refl
overflow_if false c d h k = absurd (let e = sym h ∙ k in cc e)

-- the dial in answer
record Dialled (s : Side) (l : LinkView) (n : ℕ) (d : Draft) : Type 0 where
  session : d.session ≡ s.session
  epoch : d.link.epoch ≡ n
  count : length d.says ≡ 1
  marks : crest mark_in d.says ≡ 0

dials_so : (s : Side) (l : LinkView) (n : ℕ) → Offers s.link l n → fits (next_number l) ≡ true → Dialled s l n (dials (draft_of s.session l))
dials_so s l n x ok =
    let is = next_is s.link l n x in
    rw ok (record { session = refl; epoch = is; count = refl; marks = refl })

module _ (M : ℕ) (o : Message) (s : Side) where
  answers_so : (l : LinkView) (n : ℕ) (d : Draft) → Offers s.link l n → Dialled s l n d → n ≤ M → s.link.epoch ≤ M → sides.is_connecting s.session.state ≡ true
      → Sinks M s (react o NoMessage d event.TcpConnectionConfirmed)
  answers_so l n d x k top low is =
      let row = answers d.session (ap (λ (w : SessionView). sides.is_connecting w.state) k.session ∙ is) in
      let r = reacted o NoMessage d event.TcpConnectionConfirmed row.none in
      let high : height (react o NoMessage d event.TcpConnectionConfirmed).session.state ≡ 4 = ap (λ (w : SessionView). height w.state) r.session ∙ ap height row.state in
      record {
        sinks = omega (arith, high, r.count, r.epoch, k.epoch, k.count, row.voices, x.above, top);
        same = λ e. absurd (omega (arith, e, high, r.epoch, k.epoch, x.above, top, tall_most s.session.state));
        low = omega (arith, r.epoch, k.epoch, top);
        marks = omega (arith, r.marks, k.marks);
      }
    where
      tall_most : (st : State) → height st ≤ 5
      tall_most st = grind arith

  module _ (joins_law : JoinsAtItsOwnNumber) (offers_law : OffersAboveTheOwn) (waits : s.link.phase ≡ phase.Offered → s.session.state ≡ Connect) (low : s.link.epoch ≤ M) (z : Sign) where
    abbrev l : LinkView
    l = heard_by s.link z

    answering : (b : Bool) (n : ℕ) → sides.is_connecting s.session.state ≡ b → Offers s.link l n → n ≤ M
        → (cond b (react o NoMessage (dials (draft_of s.session l)) event.TcpConnectionConfirmed) (draft_of s.session l)).overflows ≡ false
        → Sinks M s (cond b (react o NoMessage (dials (draft_of s.session l)) event.TcpConnectionConfirmed) (draft_of s.session l))
    answering false n is x top over = quiet M s l x.epoch
    answering true n is x top over =
        let d : Draft = dials (draft_of s.session l) in
        let ok : fits (next_number l) ≡ true = overflow_if (fits (next_number l)) _ (record (draft_of s.session l) { overflows = true }) refl (undone (fits (next_number l)) over) in
        answers_so l n d x (dials_so s l n x ok) top low is
      where
        undone : (b : Bool) → (react o NoMessage (cond b (record (sides.says_entry (draft_of s.session l) (Dial (next_number l))) { link = dialled l }) (record (draft_of s.session l) { overflows = true })) event.TcpConnectionConfirmed).overflows ≡ false
            → (cond b (record (sides.says_entry (draft_of s.session l) (Dial (next_number l))) { link = dialled l }) (record (draft_of s.session l) { overflows = true })).overflows ≡ false
        undone b h = sym (reacted o NoMessage _ event.TcpConnectionConfirmed (answers _ (kept b ∙ is)).none).overflows ∙ h
          where
            kept : (c : Bool) → sides.is_connecting (cond c (record (sides.says_entry (draft_of s.session l) (Dial (next_number l))) { link = dialled l }) (record (draft_of s.session l) { overflows = true })).session.state ≡ sides.is_connecting s.session.state
            kept true = refl
            kept false = refl

    by : (x : Heard) → meaning_of s.link z ≡ x → ((n : ℕ) → x ≡ heard.Offered n → (n ≤ M) × ((react_to_sign o (draft_of s.session l) x).overflows ≡ false)) → Sinks M s (react_to_sign o (draft_of s.session l) x)
    unfolding react_to_sign
    by heard.Quiet is top = quiet M s l (heard_epoch s.link z)
    by heard.Joined is top =
        let j = (joins_law s.link z).0 is in
        met M o NoMessage s l event.TcpCrAcked (heard_epoch s.link z) (joins s.session (waits j.2))
    by heard.Closed is top = met M o NoMessage s l event.TcpConnectionFails (heard_epoch s.link z) (brought s.session event.TcpConnectionFails tt)
    by (heard.Offered n) is top =
        let j = (offers_law s.link z n).0 is in
        answering (sides.is_connecting s.session.state) n refl (subst (λ (x : Sign). Offers s.link (heard_by s.link x) n) (sym j.0) (offered s.link n j.1 j.2)) (top n refl).0 (top n refl).1

    pub sign_sinks : ((n : ℕ) → meaning_of s.link z ≡ heard.Offered n → (n ≤ M) × ((draft_sign o s z).overflows ≡ false)) → Sinks M s (draft_sign o s z)
    sign_sinks top = by (meaning_of s.link z) refl top
