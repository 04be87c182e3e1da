-- What a step of sessions says: no UPDATE and no marker, and it takes no marker.
use Rattle.std.proofs.Common.{◌≡◌, ℕ, ◌==◌, Bool, true, false, cond, List, [], ◌∷◌, ◌++◌, refl, sym, subst, append_assoc, Option, None, Some, arith}
use Rattle.std.specs.Prelude.{Ok, Result}
use Rattle.bgp_codec.specs.declared.fault.Fault.{Fault}
use Rattle.bgp_codec.specs.declared.message.Message.{Message}
use Rattle.bgp_codec.specs.declared.message.Message.TheVariants.{AliveMsg}
use Rattle.link_epoch.specs.Ends.{next_number, number_shut, heard_by, meaning_of}
use Rattle.link_epoch.specs.declared.link_end.Heard.{Heard}
use Rattle.link_epoch.specs.declared.link_end.Heard.TheVariants as heard
use Rattle.link_epoch.specs.declared.link_end.Sign.{Sign}
use Rattle.link_epoch.specs.declared.link_end.Sign.TheVariants as sign
use Rattle.session_fsm.specs.Table.{on_event}
use Rattle.session_fsm.specs.Timers.{ticked, runs_out}
use Rattle.session_fsm.specs.declared.event.FsmEvent.{FsmEvent}
use Rattle.session_fsm.specs.declared.event.FsmEvent.TheVariants as event
use Rattle.session_fsm.specs.declared.event.FsmEvent.TheVariants.{ManualStart, ManualStop}
use Rattle.session_fsm.specs.declared.actions.Action.{Action}
use Rattle.session_fsm.specs.declared.actions.Action.TheVariants as action
use Rattle.run_model.specs.Links.{Entry, Dial, Says, Mark, Shut}
use Rattle.run_model.specs.Octets.{Passing, Octet, Control, octets_of, passing, OnlyOctets}
use Rattle.run_model.specs.Network.{alone, puts, takes, offers}
use Rattle.router_model.specs.declared.command.Command.TheVariants as command
use Rattle.outbox.specs.declared.item.What.TheVariants as item
use Rattle.router_model.specs.Sides as sides
use Rattle.router_model.specs.Sides.{Side, Draft, AtHand, NoMessage, HasFault, HasUpdate, at_hand, event_of, front, draft_of, notification, fits, apply_once, apply_all_once, apply_all, is_joined_by, dials, shuts, draft_event, expires, draft_sign, draft_message, is_connecting, react, react_once, apply}
use Rattle.router_model.specs.Settings.{Setting, linked}
use Rattle.router_model.specs.State.{Router, rule_of, open_of}
use Rattle.router_model.specs.Messages.{is_update}
use Rattle.router_model.specs.Step.{RouterEvent, Obeys, Ticks, Handles, Decides, Advertises, says, says_where, meets_at, resets_at, second_at, signed_at, handled_at}
use Rattle.router_runs.specs.Runs.{written_in}
use Rattle.router_runs.specs.Acts.{SaysNoUpdate, HasNoMark}

quiet_append : (xs ys : List (Entry Message)) → SaysNoUpdate xs → SaysNoUpdate ys → SaysNoUpdate (xs ++ ys)
quiet_append [] ys p q = q
quiet_append (Dial e ∷ xs) ys p q = quiet_append xs ys p q
quiet_append (Says e m ∷ xs) ys p q = (p.0, quiet_append xs ys p.1 q)
quiet_append (Mark e n ∷ xs) ys p q = absurd p
quiet_append (Shut e ∷ xs) ys p q = quiet_append xs ys p q

quiet_where : (c : Bool) (xs : List (Entry Message)) → SaysNoUpdate xs → SaysNoUpdate (says_where c xs)
quiet_where true xs p = p
quiet_where false xs p = tt

-- ---- drafts

abbrev NoFault : AtHand → Type 0
NoFault NoMessage = Unit {0}
NoFault (HasFault fault) = ⊥
NoFault (HasUpdate u) = Unit {0}

-- ---- drafts

module _ (own_open : Message) (is_open : is_update own_open ≡ false) where
  tells_quiet : (a : Draft) (m : Message) → SaysNoUpdate a.says → is_update m ≡ false → SaysNoUpdate (a.says ++ Says a.link.epoch m ∷ [])
  tells_quiet a m s p = quiet_append a.says (Says a.link.epoch m ∷ []) s (p, tt)

  dials_quiet : (c : Bool) (a : Draft) → fits (next_number a.link) ≡ c → SaysNoUpdate a.says → SaysNoUpdate (dials a).says
  dials_quiet true a is s = rw is (quiet_append a.says (Dial (next_number a.link) ∷ []) s tt)
  dials_quiet false a is s = rw is s

  shuts_quiet : (a : Draft) (n : Option ℕ) → SaysNoUpdate a.says → SaysNoUpdate (shuts a n).says
  shuts_quiet a None s = s
  shuts_quiet a (Some n) s = quiet_append a.says (Shut n ∷ []) s tt

  does_quiet : (g : AtHand) → NoFault g → (a : Draft) → SaysNoUpdate a.says → (x : Action) → SaysNoUpdate (apply_once own_open g a x).says
  does_quiet g n a s action.Dial = dials_quiet (fits (next_number a.link)) a refl s
  does_quiet g n a s action.SendOpen = tells_quiet a own_open s is_open
  does_quiet g n a s action.SendAlive = tells_quiet a AliveMsg s refl
  does_quiet g n a s (action.SendNotice code) = tells_quiet a (notification code) s refl
  does_quiet NoMessage n a s action.SendGiven = s
  does_quiet (HasFault fault) n a s action.SendGiven = absurd n
  does_quiet (HasUpdate u) n a s action.SendGiven = s
  does_quiet g n a s action.HangUp = shuts_quiet a (number_shut a.link) s
  does_quiet g n a s action.Act = s
  does_quiet g n a s action.Up = s
  does_quiet g n a s action.Down = s

  does_all_quiet : (xs : List Action) (g : AtHand) → NoFault g → (a : Draft) → SaysNoUpdate a.says → SaysNoUpdate (apply_all_once own_open g a xs).says
  does_all_quiet [] g n a s = s
  does_all_quiet (x ∷ xs) g n a s = does_all_quiet xs g n (apply_once own_open g a x) (does_quiet g n a s x)

  obeys_quiet : (c : Bool) (x : Action) (g : AtHand) → NoFault g → (a : Draft) → is_joined_by a x ≡ c → SaysNoUpdate a.says → SaysNoUpdate (apply own_open g a x).says
  unfolding apply react_once
  obeys_quiet true x g n a is s =
      rw is (does_all_quiet (on_event (apply_once own_open g a x).session event.TcpCrAcked).actions g n
      (record (apply_once own_open g a x) { session = (on_event (apply_once own_open g a x).session event.TcpCrAcked).session }) (does_quiet g n a s x))
  obeys_quiet false x g n a is s = rw is (does_quiet g n a s x)

  obeys_all_quiet : (xs : List Action) (g : AtHand) → NoFault g → (a : Draft) → SaysNoUpdate a.says → SaysNoUpdate (apply_all own_open g a xs).says
  obeys_all_quiet [] g n a s = s
  obeys_all_quiet (x ∷ xs) g n a s = obeys_all_quiet xs g n (apply own_open g a x) (obeys_quiet (is_joined_by a x) x g n a refl s)

  pub comes_quiet : (g : AtHand) → NoFault g → (a : Draft) (e : FsmEvent) → SaysNoUpdate a.says → SaysNoUpdate (react own_open g a e).says
  unfolding react
  comes_quiet g n a e s = obeys_all_quiet (on_event a.session e).actions g n (record a { session = (on_event a.session e).session }) s

  pub expires_quiet : (a : Draft) (e : Option FsmEvent) → SaysNoUpdate a.says → SaysNoUpdate (expires own_open a e).says
  expires_quiet a None s = s
  expires_quiet a (Some e) s = comes_quiet NoMessage tt a e s

  connecting_quiet : (c : Bool) (a : Draft) → SaysNoUpdate a.says → SaysNoUpdate (cond c (react own_open NoMessage (dials a) event.TcpConnectionConfirmed) a).says
  connecting_quiet true a s = comes_quiet NoMessage tt (dials a) event.TcpConnectionConfirmed (dials_quiet (fits (next_number a.link)) a refl s)
  connecting_quiet false a s = s

  answers_quiet : (a : Draft) (h : Heard) → SaysNoUpdate a.says → SaysNoUpdate (sides.react_to_sign own_open a h).says
  unfolding sides.react_to_sign
  answers_quiet a heard.Quiet s = s
  answers_quiet a heard.Joined s = comes_quiet NoMessage tt a event.TcpCrAcked s
  answers_quiet a (heard.Offered n) s = connecting_quiet (is_connecting a.session.state) a s
  answers_quiet a heard.Closed s = comes_quiet NoMessage tt a event.TcpConnectionFails s

  pub signed_quiet : (s : Side) (x : Sign) → SaysNoUpdate (draft_sign own_open s x).says
  signed_quiet s x = answers_quiet (draft_of s.session (heard_by s.link x)) (meaning_of s.link x) tt

  pub handled_quiet : (s : Side) (m : Message) → SaysNoUpdate (draft_message own_open (Ok m) s).says
  handled_quiet s m = comes_quiet (at_hand (Ok m)) (none m) (draft_of s.session s.link) (event_of (Ok m)) tt
    where
      none : (k : Message) → NoFault (at_hand (Ok k))
      none k = grind arith

-- ---- events of sessions: no marker, no UPDATE told

abbrev pub IsOfSessions : RouterEvent → Type 0
IsOfSessions (alone (Obeys (command.Start w))) = Unit {0}
IsOfSessions (alone (Obeys (command.Stop w))) = Unit {0}
IsOfSessions (alone (Obeys (command.Reset w))) = Unit {0}
IsOfSessions (alone (Obeys command.Restart)) = Unit {0}
IsOfSessions (alone Ticks) = Unit {0}
IsOfSessions (alone (Handles w)) = Unit {0}
IsOfSessions (puts w i) = Unit {0}
IsOfSessions (takes w (item.Dial e)) = Unit {0}
IsOfSessions (takes w (item.Piece e octets)) = Unit {0}
IsOfSessions (takes w (item.Shut e)) = Unit {0}
IsOfSessions _ = ⊥

module _ (g : Setting) (u : ℕ) (x : Router) where
  come : (a : Draft) (e : FsmEvent) → SaysNoUpdate a.says → SaysNoUpdate (react (open_of g.net u) NoMessage a e).says
  come a e s = comes_quiet (open_of g.net u) refl NoMessage tt a e s

  -- what is said to peer v, where what stands in front of octets held is a message
  pub says_quietly : (e : RouterEvent) → IsOfSessions e → ((w : ℕ) → e ≡ alone (Handles w) → (m : Message) × (front (rule_of g.net u w) (x.sides w).held ≡ Ok m)) → (v : ℕ) → SaysNoUpdate (says g u x e v)
  says_quietly (alone (Obeys (command.Start w))) is reads v = quiet_where (v == w) (meets_at g u x w ManualStart).says (come (draft_of (x.sides w).session (x.sides w).link) ManualStart tt)
  says_quietly (alone (Obeys (command.Stop w))) is reads v = quiet_where (v == w) (meets_at g u x w ManualStop).says (come (draft_of (x.sides w).session (x.sides w).link) ManualStop tt)
  says_quietly (alone (Obeys (command.Reset w))) is reads v =
      quiet_where (v == w) (resets_at g u x w).says (come (draft_event (open_of g.net u) (x.sides w) ManualStop) ManualStart (come (draft_of (x.sides w).session (x.sides w).link) ManualStop tt))
  says_quietly (alone (Obeys (command.Originate q))) is reads v = tt
  says_quietly (alone (Obeys (command.Withdraw q))) is reads v = tt
  says_quietly (alone (Obeys (command.Snapshot s))) is reads v = absurd is
  says_quietly (alone (Obeys command.Restart)) is reads v = quiet_where (linked g.net u v) (meets_at g u x v ManualStop).says (come (draft_of (x.sides v).session (x.sides v).link) ManualStop tt)
  says_quietly (alone Ticks) is reads v =
      quiet_where (linked g.net u v) (second_at g u x v).says (expires_quiet (open_of g.net u) refl (draft_of (ticked (x.sides v).session) (x.sides v).link) (runs_out (x.sides v).session) tt)
  says_quietly (alone (Handles w)) is reads v =
      quiet_where (v == w) (handled_at g u x w).says
      (let k = reads w refl in
      subst (λ (r : Result Message Fault). SaysNoUpdate (draft_message (open_of g.net u) r (x.sides w)).says) (sym k.1) (handled_quiet (open_of g.net u) refl (x.sides w) k.0))
  says_quietly (alone Decides) is reads v = tt
  says_quietly (alone (Advertises w)) is reads v = absurd is
  says_quietly (puts w i) is reads v = tt
  says_quietly (takes w (item.Dial e)) is reads v = quiet_where (v == w) (signed_at g u x w (sign.Dial e)).says (signed_quiet (open_of g.net u) refl (x.sides w) (sign.Dial e))
  says_quietly (takes w (item.Piece e octets)) is reads v = tt
  says_quietly (takes w (item.Mark e s)) is reads v = absurd is
  says_quietly (takes w (item.Shut e)) is reads v = quiet_where (v == w) (signed_at g u x w (sign.Shut e)).says (signed_quiet (open_of g.net u) refl (x.sides w) (sign.Shut e))
  says_quietly (offers made) is reads v = tt

-- ---- no marker among what passes

abbrev pub PassesNoMark : List (Passing Message) → Type 0
PassesNoMark [] = Unit {0}
PassesNoMark (Octet e b ∷ xs) = PassesNoMark xs
PassesNoMark (Control (Dial e) ∷ xs) = PassesNoMark xs
PassesNoMark (Control (Says e m) ∷ xs) = PassesNoMark xs
PassesNoMark (Control (Mark e n) ∷ xs) = ⊥
PassesNoMark (Control (Shut e) ∷ xs) = PassesNoMark xs

pub octets_pass_none : (xs ys : List (Passing Message)) → OnlyOctets xs → PassesNoMark ys → PassesNoMark (xs ++ ys)
octets_pass_none [] ys o p = p
octets_pass_none (Octet e b ∷ xs) ys o p = octets_pass_none xs ys o p
octets_pass_none (Control x ∷ xs) ys o p = absurd o

behind_octets : (e : ℕ) (bs : List ℕ) (xs : List (Passing Message)) → PassesNoMark (octets_of e bs ++ xs) → PassesNoMark xs
behind_octets e [] xs p = p
behind_octets e (b ∷ bs) xs p = behind_octets e bs xs p

pub none_passes : (g : Setting) (past : List (Entry Message)) (rest : List (Passing Message)) → PassesNoMark (passing (written_in g) past ++ rest) → HasNoMark past
none_passes g [] rest p = tt
none_passes g (Dial e ∷ past) rest p = none_passes g past rest p
none_passes g (Says e m ∷ past) rest p =
    none_passes g past rest (behind_octets e (written_in g m) (passing (written_in g) past ++ rest) (subst PassesNoMark (append_assoc (octets_of e (written_in g m)) (passing (written_in g) past) rest) p))
none_passes g (Mark e n ∷ past) rest p = absurd p
none_passes g (Shut e ∷ past) rest p = none_passes g past rest p
