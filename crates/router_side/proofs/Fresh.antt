-- An event moves a side to a greater incarnation, or its session down: from its way to Established, to Established, to away.
use Rattle.std.proofs.Common.{◌≡◌, ℕ, ◌+◌, ◌<◌, ◌≤◌, ◌==◌, Bool, true, false, cond, ◌&&◌, not, List, [], ◌∷◌, Option, None, Some, refl, sym, ap, subst, ◌∙◌, arith, inl, inr, ◌⊎◌}
use Rattle.std.specs.Prelude.{nat_lt, max}
use Rattle.std.proofs.lemmas.Bool.Decides.{nat_tests}
use Rattle.bgp_codec.specs.declared.message.Message.{Message}
use Rattle.link_epoch.specs.Ends.{LinkView, is_joinable, next_number, number_shut}
use Rattle.link_epoch.specs.declared.link_end.Phase.TheVariants.{Shut}
use Rattle.session_fsm.specs.declared.state.State.{State}
use Rattle.session_fsm.specs.declared.state.State.TheVariants.{Idle, Connect, Active, OpenSent, OpenConfirm, Established}
use Rattle.session_fsm.specs.declared.event.FsmEvent.{FsmEvent}
use Rattle.session_fsm.specs.declared.event.FsmEvent.TheVariants as event
use Rattle.session_fsm.specs.declared.actions.Action.{Action}
use Rattle.session_fsm.specs.declared.actions.Action.TheVariants as action
use Rattle.session_fsm.specs.Table.{SessionView, Outcome, on_state, on_event}
use Rattle.router_model.specs.Sides.{Draft, AtHand, NoMessage, HasFault, HasUpdate, apply_once, react_once, apply, apply_all, react, hangs_up, shuts, tells_fault, fits}
use Rattle.bgp_codec.specs.declared.fault.Fault.{Fault}
use Rattle.bgp_codec.specs.declared.update.Update.{Update}
use Rattle.session_fsm.specs.Timers.{ticked, runs_out}
use Rattle.router_model.specs.Sides.{Side, acted_with, is_established, is_up, draft_of, draft_event, draft_reset, draft_second, expires}
use Rattle.router_side.specs.Freshness.{is_opening, is_away, IsUnsaid, IsFresh, KeepsFresh, SessionsKeepFresh}

abbrev pub rank : State → ℕ
rank Idle = 0
rank Active = 0
rank Established = 1
rank Connect = 2
rank OpenSent = 2
rank OpenConfirm = 2

abbrev pub no_dial : List Action → Bool
no_dial [] = true
no_dial (action.Dial ∷ xs) = false
no_dial (_ ∷ xs) = no_dial xs

abbrev pub hangs : List Action → Bool
hangs [] = false
hangs (action.HangUp ∷ xs) = true
hangs (_ ∷ xs) = hangs xs

abbrev pub acts_in : List Action → Bool
acts_in [] = false
acts_in (action.Act ∷ xs) = true
acts_in (_ ∷ xs) = acts_in xs

-- ---- the table

abbrev pub at : State → SessionView → SessionView
at st a = record a { state = st }

abbrev pub row : State → SessionView → FsmEvent → Outcome
row st a e = on_state st (at st a) e

-- the connection is there, and an OPEN is said
abbrev pub connects : FsmEvent → Bool
connects event.TcpCrAcked = true
connects event.TcpConnectionConfirmed = true
connects _ = false

pub goes_down : (st : State) (a : SessionView) (e : FsmEvent) → no_dial (row st a e).actions ≡ true → (is_away st ≡ true → connects e ≡ false) → rank (row st a e).session.state ≤ rank st
goes_down st a e n k = grind arith

pub goes_away : (st : State) (a : SessionView) (e : FsmEvent) → no_dial (row st a e).actions ≡ true → is_away (row st a e).session.state ≡ true → (hangs (row st a e).actions ≡ true) ⊎ (is_away st ≡ true)
goes_away st a e n k = grind arith

pub dials_from : (st : State) (a : SessionView) (e : FsmEvent) → no_dial (row st a e).actions ≡ false
    → ((row st a e).session.state ≡ Connect) × (((row st a e).actions ≡ action.Dial ∷ []) ⊎ ((row st a e).actions ≡ action.HangUp ∷ action.Dial ∷ []))
dials_from st a e n = grind arith

-- ---- actions that dial nothing

pub record Quiet (a b : Draft) (hung : Bool) : Type 0 where
  pub session : b.session ≡ a.session
  pub epoch : b.link.epoch ≡ a.link.epoch
  pub overflows : b.overflows ≡ a.overflows
  pub phase : hung ≡ true → b.link.phase ≡ Shut
  pub same : hung ≡ false → b.link.phase ≡ a.link.phase

-- a NOTIFICATION told and a Shut change nothing but what is appended
pub given_keeps : {X : Type 0} (f : Draft → X) (a : Draft) (g : AtHand) → ((fault : Fault) → f (tells_fault a (HasFault fault)) ≡ f a) → f (tells_fault a g) ≡ f a
given_keeps {X} f a NoMessage same = refl
given_keeps {X} f a (HasFault fault) same = same fault
given_keeps {X} f a (HasUpdate u) same = refl

pub shuts_keeps : {X : Type 0} (f : Draft → X) (a : Draft) (o : Option ℕ) → ((n : ℕ) → f (shuts a (Some n)) ≡ f a) → f (shuts a o) ≡ f a
shuts_keeps {X} f a None same = refl
shuts_keeps {X} f a (Some n) same = same n

quiet_on : (a b d : Draft) (hung : Bool) → b.session ≡ a.session → b.link ≡ a.link → b.overflows ≡ a.overflows → Quiet b d hung → Quiet a d hung
quiet_on a b d hung s l o q = record {
  session = q.session ∙ s;
  epoch = q.epoch ∙ ap (λ (w : LinkView). w.epoch) l;
  overflows = q.overflows ∙ o;
  phase = q.phase;
  same = λ h. q.same h ∙ ap (λ (w : LinkView). w.phase) l;
}

still_shut : (a d : Draft) (hung : Bool) → a.link.phase ≡ Shut → Quiet a d hung → d.link.phase ≡ Shut
still_shut a d true s q = q.phase refl
still_shut a d false s q = q.same refl ∙ s

pub quiet : (own_open : Message) (g : AtHand) (a : Draft) (xs : List Action) → no_dial xs ≡ true → Quiet a (apply_all own_open g a xs) (hangs xs)
unfolding apply
quiet o g a [] n = record { session = refl; epoch = refl; overflows = refl; phase = λ h. absurd cc; same = λ h. refl }
quiet o g a (action.Dial ∷ xs) n = absurd cc
quiet o g a (action.SendOpen ∷ xs) n = let b = apply_once o g a action.SendOpen in quiet_on a b (apply_all o g b xs) (hangs xs) refl refl refl (quiet o g b xs n)
quiet o g a (action.SendAlive ∷ xs) n = let b = apply_once o g a action.SendAlive in quiet_on a b (apply_all o g b xs) (hangs xs) refl refl refl (quiet o g b xs n)
quiet o g a (action.SendNotice code ∷ xs) n = let b = apply_once o g a (action.SendNotice code) in quiet_on a b (apply_all o g b xs) (hangs xs) refl refl refl (quiet o g b xs n)
quiet o g a (action.SendGiven ∷ xs) n =
    let b = apply_once o g a action.SendGiven in
    quiet_on a b (apply_all o g b xs) (hangs xs) (given_keeps (λ (d : Draft). d.session) a g (λ m. refl)) (given_keeps (λ (d : Draft). d.link) a g (λ m. refl)) (given_keeps (λ (d : Draft). d.overflows) a g (λ m. refl)) (quiet o g b xs n)
quiet o g a (action.HangUp ∷ xs) n =
    let b = hangs_up a in
    let q = quiet o g b xs n in
    record {
      session = q.session ∙ shuts_keeps (λ (d : Draft). d.session) a (number_shut a.link) (λ m. refl);
      epoch = q.epoch;
      overflows = q.overflows ∙ shuts_keeps (λ (d : Draft). d.overflows) a (number_shut a.link) (λ m. refl);
      phase = λ h. still_shut b (apply_all o g b xs) (hangs xs) refl q;
      same = λ h. absurd cc;
    }
quiet o g a (action.Act ∷ xs) n = let b = apply_once o g a action.Act in quiet_on a b (apply_all o g b xs) (hangs xs) refl refl refl (quiet o g b xs n)
quiet o g a (action.Up ∷ xs) n = quiet o g a xs n
quiet o g a (action.Down ∷ xs) n = let b = apply_once o g a action.Down in quiet_on a b (apply_all o g b xs) (hangs xs) refl refl refl (quiet o g b xs n)

-- ---- a dial

number_awaited : (l : LinkView) (b c : Bool) → nat_lt l.epoch l.heard ≡ b → (b && not c) ≡ true → l.epoch < l.heard
number_awaited l true c e h = grind (arith, nat_tests, e)
number_awaited l false c e h = absurd cc

pub number_by : (l : LinkView) (w : Bool) → is_joinable l ≡ w → l.epoch < cond w l.heard (max l.epoch l.heard + 1)
number_by l true e = number_awaited l (nat_lt l.epoch l.heard) l.heard_is_shut refl e
number_by l false e = omega arith

-- a greater incarnation, and a session on its way or up
pub record Dialled (l : LinkView) (a : Draft) : Type 0 where
  pub epoch : l.epoch < a.link.epoch
  pub away : is_away a.session.state ≡ false

dial_by : (o : Message) (g : AtHand) (b : Draft) (f w : Bool) → b.session.state ≡ Connect → fits (next_number b.link) ≡ f → is_joinable b.link ≡ w → (apply o g b action.Dial).overflows ≡ false
    → Dialled b.link (apply o g b action.Dial)
unfolding apply react_once
dial_by o g b true true st ef ew h = record { epoch = rw (ef, ew, st) (number_by b.link true ew); away = rw (ef, ew, st) refl }
dial_by o g b true false st ef ew h = record { epoch = rw (ef, ew) (number_by b.link false ew); away = rw (ef, ew, st) refl }
dial_by o g b false true st ef ew h = (let k = rw (ef, ew, st) at h in absurd cc)
dial_by o g b false false st ef ew h = (let k = rw (ef, ew) at h in absurd cc)

dial_goes : (o : Message) (g : AtHand) (b : Draft) → b.session.state ≡ Connect → (apply o g b action.Dial).overflows ≡ false → Dialled b.link (apply o g b action.Dial)
dial_goes o g b st h = dial_by o g b (fits (next_number b.link)) (is_joinable b.link) st refl refl h

-- ---- an event

pub record Moves (c : State) (l : LinkView) (a : Draft) : Type 0 where
  pub onward : (l.epoch < a.link.epoch) ⊎ ((a.link.epoch ≡ l.epoch) × (rank a.session.state ≤ rank c))
  pub away : is_away a.session.state ≡ true → a.link.phase ≡ Shut

pub moves_dialled : (c : State) (l : LinkView) (a : Draft) → Dialled l a → Moves c l a
moves_dialled c l a d = record { onward = inl d.epoch; away = λ h. (let k = sym d.away ∙ h in absurd cc) }

one_dial : (o : Message) (g : AtHand) (b : Draft) (xs : List Action) → xs ≡ action.Dial ∷ [] → b.session.state ≡ Connect → (apply_all o g b xs).overflows ≡ false → Dialled b.link (apply_all o g b xs)
one_dial o g b xs is st h =
    subst (λ (ys : List Action). Dialled b.link (apply_all o g b ys)) (sym is) (dial_goes o g b st (subst (λ (ys : List Action). (apply_all o g b ys).overflows ≡ false) is h))

hang_first : (o : Message) (g : AtHand) (b : Draft) → apply o g b action.HangUp ≡ hangs_up b
unfolding apply
hang_first o g b = refl

dial_again : (o : Message) (g : AtHand) (b : Draft) (xs : List Action) → xs ≡ action.HangUp ∷ action.Dial ∷ [] → b.session.state ≡ Connect → (apply_all o g b xs).overflows ≡ false → Dialled b.link (apply_all o g b xs)
dial_again o g b xs is st h =
    let both : apply_all o g b xs ≡ apply o g (hangs_up b) action.Dial =
    ap (apply_all o g b) is ∙ ap (λ (w : Draft). apply o g w action.Dial) (hang_first o g b) in
    let up : (hangs_up b).session.state ≡ Connect = ap (λ (w : SessionView). w.state) (shuts_keeps (λ (d : Draft). d.session) b (number_shut b.link) (λ m. refl)) ∙ st in
    let d = dial_goes o g (hangs_up b) up (subst (λ (w : Draft). w.overflows ≡ false) both h) in
    subst (λ (w : Draft). Dialled b.link w) (sym both) (record { epoch = d.epoch; away = d.away })

comes_by : (o : Message) (g : AtHand) (a : Draft) (e : FsmEvent) (b : Bool) → no_dial (on_event a.session e).actions ≡ b → (is_away a.session.state ≡ true → a.link.phase ≡ Shut)
    → (is_away a.session.state ≡ true → connects e ≡ false) → (react o g a e).overflows ≡ false → Moves a.session.state a.link (react o g a e)
unfolding react
comes_by o g a e true n s k h =
    let xs = (on_event a.session e).actions in
    let b = record a { session = (on_event a.session e).session } in
    let q = quiet o g b xs n in
    record {
      onward = inr (q.epoch, subst (λ (w : SessionView). rank w.state ≤ rank a.session.state) (sym q.session) (goes_down a.session.state a.session e n k));
      away = λ w.
          elim (goes_away a.session.state a.session e n (ap (λ (v : SessionView). is_away v.state) (sym q.session) ∙ w)) [
            | inl t ↦ q.phase t
            | inr t ↦ still_shut b (apply_all o g b xs) (hangs xs) (s t) q
          ];
    }
comes_by o g a e false n s k h =
    let xs = (on_event a.session e).actions in
    let b = record a { session = (on_event a.session e).session } in
    let d = dials_from a.session.state a.session e n in
    moves_dialled a.session.state a.link (apply_all o g b xs) (
    elim d.1 [
      | inl t ↦ one_dial o g b xs t d.0 h
      | inr t ↦ dial_again o g b xs t d.0 h
    ])

pub comes_moves : (o : Message) (g : AtHand) (a : Draft) (e : FsmEvent) → (is_away a.session.state ≡ true → a.link.phase ≡ Shut) → (is_away a.session.state ≡ true → connects e ≡ false)
    → (react o g a e).overflows ≡ false → Moves a.session.state a.link (react o g a e)
comes_moves o g a e s k h = comes_by o g a e (no_dial (on_event a.session e).actions) refl s k h

-- ---- what a draft leaves

acted_none : (b : Bool) (e : ℕ) (h : ℕ → List Update) → acted_with b NoMessage e h ≡ h
acted_none true e h = refl
acted_none false e h = refl

rank_opening : (c d : State) → rank c ≤ rank d → is_opening c ≡ true → is_opening d ≡ true
rank_opening c d l h = grind arith

rank_up : (c d : State) → rank c ≤ rank d → is_established c ≡ true → is_established d ≡ false → is_opening d ≡ true
rank_up c d l h k = grind arith

pub not_onward : (s : Side) (a : Draft) → Moves s.session.state s.link a → s.link.epoch ≤ a.link.epoch
not_onward s a m = elim m.onward [ inl t ↦ omega (arith, t) | inr t ↦ omega (arith, t.0) ]

pub unsaid_on : (s : Side) (a : Draft) → IsFresh s → Moves s.session.state s.link a → is_opening a.session.state ≡ true → IsUnsaid s a.link.epoch
unsaid_on s a f m o =
    elim m.onward [
      | inl t ↦ f.later a.link.epoch t
      | inr t ↦ subst (IsUnsaid s) (sym t.0) (f.opening (rank_opening a.session.state s.session.state t.1 o))
    ]

pub unsaid_up : (s : Side) (a : Draft) → IsFresh s → Moves s.session.state s.link a → is_established a.session.state ≡ true → (is_up s ≡ false) ⊎ (s.link.epoch < a.link.epoch) → IsUnsaid s a.link.epoch
unsaid_up s a f m u w =
    elim m.onward [
      | inl t ↦ f.later a.link.epoch t
      | inr t ↦ elim w [
        | inl d ↦ subst (IsUnsaid s) (sym t.0) (f.opening (rank_up a.session.state s.session.state t.1 u d))
        | inr d ↦ absurd (omega (arith, d, t.0))
      ]
    ]

pub keeps_fresh : (s : Side) (a : Draft) → IsFresh s → Moves s.session.state s.link a → KeepsFresh s NoMessage a
keeps_fresh s a f m =
    let same = acted_none a.acts a.link.epoch s.acted in
    record {
      fresh = record {
        later = λ n l. let w = f.later n (let k = not_onward s a m in omega (arith, k, l)) in (ap (λ (h : ℕ → List Update). h n) same ∙ w.0, w.1);
        opening = λ o. let w = unsaid_on s a f m o in (ap (λ (h : ℕ → List Update). h a.link.epoch) same ∙ w.0, w.1);
        away = m.away;
      };
      up = λ u w. unsaid_up s a f m u w;
      onward = not_onward s a m;
    }

-- ---- the events of a side

stop_dials_nothing : (st : State) (a : SessionView) → no_dial (row st a event.ManualStop).actions ≡ true
stop_dials_nothing st a = grind arith

stop_fits : (o : Message) (s : Side) → (draft_event o s event.ManualStop).overflows ≡ false
unfolding react
stop_fits o s =
    let xs = (on_event s.session event.ManualStop).actions in
    let b = record (draft_of s.session s.link) { session = (on_event s.session event.ManualStop).session } in
    (quiet o NoMessage b xs (stop_dials_nothing s.session.state s.session)).overflows

met_moves : (o : Message) (s : Side) (e : FsmEvent) → IsFresh s → connects e ≡ false → (draft_event o s e).overflows ≡ false → Moves s.session.state s.link (draft_event o s e)
met_moves o s e f k h = comes_moves o NoMessage (draft_of s.session s.link) e f.away (λ t. k) h

both_move : (c : State) (l : LinkView) (a b : Draft) → Moves c l a → Moves a.session.state a.link b → Moves c l b
both_move c l a b m n = record {
  onward = elim n.onward [
    | inl t ↦ inl (elim m.onward [ inl u ↦ omega (arith, t, u) | inr u ↦ omega (arith, t, u.0) ])
    | inr t ↦ elim m.onward [ inl u ↦ inl (omega (arith, t.0, u)) | inr u ↦ inr (t.0 ∙ u.0, omega (arith, t.1, u.1)) ]
  ];
  away = n.away;
}

timers_by : (a : SessionView) (b c d f : Bool) (e : FsmEvent) → cond b (Some event.HoldTimerExpires) (cond c (Some event.KeepaliveTimerExpires) (cond d (Some event.ConnectRetryTimerExpires) (cond f (Some event.AutomaticStart) None))) ≡ Some e → connects e ≡ false
timers_by a true c d f e h = (let k : event.HoldTimerExpires ≡ e = cc in ap connects (sym k))
timers_by a false true d f e h = (let k : event.KeepaliveTimerExpires ≡ e = cc in ap connects (sym k))
timers_by a false false true f e h = (let k : event.ConnectRetryTimerExpires ≡ e = cc in ap connects (sym k))
timers_by a false false false true e h = (let k : event.AutomaticStart ≡ e = cc in ap connects (sym k))
timers_by a false false false false e h = absurd cc

second_by : (o : Message) (s : Side) (r : Option FsmEvent) → runs_out s.session ≡ r → IsFresh s → (expires o (draft_of (ticked s.session) s.link) r).overflows ≡ false
    → Moves s.session.state s.link (expires o (draft_of (ticked s.session) s.link) r)
second_by o s None is f h = record { onward = inr (refl, omega arith); away = f.away }
second_by o s (Some e) is f h =
    comes_moves o NoMessage (draft_of (ticked s.session) s.link) e f.away
    (λ t. timers_by s.session (s.session.hold_timer == 1) (s.session.keepalive_timer == 1) (s.session.connect_retry_timer == 1) (s.session.restart_timer == 1) e is) h

pub sessions_keep_fresh : SessionsKeepFresh
sessions_keep_fresh o s f = record {
  start = λ h. keeps_fresh s (draft_event o s event.ManualStart) f (met_moves o s event.ManualStart f refl h);
  stop = keeps_fresh s (draft_event o s event.ManualStop) f (met_moves o s event.ManualStop f refl (stop_fits o s));
  reset = λ h.
      let m = met_moves o s event.ManualStop f refl (stop_fits o s) in
      keeps_fresh s (draft_reset o s) f
      (both_move s.session.state s.link (draft_event o s event.ManualStop) (draft_reset o s) m (comes_moves o NoMessage (draft_event o s event.ManualStop) event.ManualStart m.away (λ t. refl) h));
  second = λ h. keeps_fresh s (draft_second o s) f (second_by o s (runs_out s.session) refl f h);
}
