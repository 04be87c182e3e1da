-- A draft says no UPDATE.
use Rattle.std.proofs.Common.{◌≡◌, ℕ, ◌==◌, Bool, true, false, ◌&&◌, cond, List, [], ◌∷◌, ◌++◌, refl, ap, sym, ◌∙◌, subst, Option, None, Some}
use Rattle.std.proofs.lemmas.List.{append-nil}
use Rattle.bgp_codec.specs.declared.message.Message.{Message}
use Rattle.bgp_codec.specs.declared.message.Message.TheVariants.{UpdateMsg}
use Rattle.bgp_codec.specs.declared.update.Update.{Update}
use Rattle.link_epoch.specs.Ends.{next_number, number_shut}
use Rattle.link_epoch.specs.declared.link_end.Sign.{Sign}
use Rattle.link_epoch.specs.declared.link_end.Sign.TheVariants as sign
use Rattle.link_epoch.specs.declared.link_end.Heard.{Heard}
use Rattle.link_epoch.specs.declared.link_end.Heard.TheVariants as heard
use Rattle.session_fsm.specs.Table.{on_event}
use Rattle.session_fsm.specs.Timers.{ticked, runs_out}
use Rattle.session_fsm.specs.declared.event.FsmEvent.{FsmEvent}
use Rattle.session_fsm.specs.declared.event.FsmEvent.TheVariants as event
use Rattle.session_fsm.specs.declared.actions.Action.{Action}
use Rattle.session_fsm.specs.declared.actions.Action.TheVariants as action
use Rattle.prefix_lanes.specs.Bits.{PrefixView}
use Rattle.run_model.specs.Links.{Entry, Dial, Says, Mark, Shut, said}
use Rattle.run_model.specs.Network.{alone, puts, takes, offers}
use Rattle.router_model.specs.declared.command.Command.{Command}
use Rattle.router_model.specs.declared.command.Command.TheVariants as command
use Rattle.outbox.specs.declared.item.What.{What}
use Rattle.outbox.specs.declared.item.What.TheVariants as item
use Rattle.router_model.specs.Messages.{updates_in, is_update}
use Rattle.router_model.specs.Sides as sides
use Rattle.router_model.specs.Sides.{Side, Draft, draft_of, AtHand, NoMessage, HasFault, HasUpdate, apply_once, apply_all_once, react_once, is_joined_by, apply, apply_all, react, dials, shuts, fits, is_connecting, expires, draft_event, draft_reset, draft_second, draft_sign, draft_message, carried, told, marked, is_up, front, at_hand, without_front, uses, with_update}
use Rattle.router_model.specs.Settings.{Setting, linked, peers}
use Rattle.router_model.specs.State.{Router, open_of, rule_of, unadvertised}
use Rattle.router_model.specs.Step.{RouterEvent, Obeys, Ticks, Handles, Decides, Advertises, after, says, says_by, says_where, says_update, says_of_taken, says_markers, obeyed, taken, telling_to, telling_of, keeping, heeds, is_greater, records, put_from, meets_at, resets_at, signed_at, second_at, handled_at}
use Rattle.snap_marker.specs.Recordings.{ends_channel}
use Rattle.router_model.specs.Laws.{SentIsWhatIsSaid}
use Rattle.router_model.proofs.MessageLists.{said-append, updates-append, quiet_message}

-- entries without an UPDATE
abbrev pub IsQuiet : List (Entry Message) → Type 0
IsQuiet es = (n : ℕ) → updates_in (said n es) ≡ []

quiet_more : (es : List (Entry Message)) (x : Entry Message) → IsQuiet es → IsQuiet (x ∷ []) → IsQuiet (es ++ x ∷ [])
quiet_more es x h k n = ap updates_in (said-append n es (x ∷ [])) ∙ updates-append (said n es) (said n (x ∷ [])) ∙ ap (λ w. w ++ updates_in (said n (x ∷ []))) (h n) ∙ k n

quiet_tell : (a : Draft) (m : Message) → is_update m ≡ false → IsQuiet a.says → IsQuiet (a.says ++ Says a.link.epoch m ∷ [])
quiet_tell a m quiet h = quiet_more a.says (Says a.link.epoch m) h (λ n. quiet_message n a.link.epoch m [] [] quiet refl)

quiet_dial : (b : Bool) (a : Draft) → IsQuiet a.says → IsQuiet (cond b (a.says ++ Dial (next_number a.link) ∷ []) a.says)
quiet_dial true a h = quiet_more a.says (Dial (next_number a.link)) h (λ n. refl)
quiet_dial false a h = h

says_dial : (b : Bool) (a : Draft) (d e : Draft) → (cond b d e).says ≡ cond b d.says e.says
says_dial true a d e = refl
says_dial false a d e = refl

quiet_shut : (a : Draft) (o : Option ℕ) → IsQuiet a.says → IsQuiet (shuts a o).says
quiet_shut a None h = h
quiet_shut a (Some number) h = quiet_more a.says (Shut number) h (λ n. refl)

quiet_dials : (a : Draft) → IsQuiet a.says → IsQuiet (dials a).says
quiet_dials a h = subst IsQuiet (sym (says_dial (fits (next_number a.link)) a _ _)) (quiet_dial (fits (next_number a.link)) a h)

quiet_does : (o : Message) (g : AtHand) (a : Draft) (x : Action) → is_update o ≡ false → IsQuiet a.says → IsQuiet (apply_once o g a x).says
quiet_does o g a action.Dial q h = quiet_dials a h
quiet_does o g a action.SendOpen q h = quiet_tell a o q h
quiet_does o g a action.SendAlive q h = quiet_tell a _ refl h
quiet_does o g a (action.SendNotice code) q h = quiet_tell a _ refl h
quiet_does o NoMessage a action.SendGiven q h = h
quiet_does o (HasFault fault) a action.SendGiven q h = quiet_tell a _ refl h
quiet_does o (HasUpdate update) a action.SendGiven q h = h
quiet_does o g a action.HangUp q h = quiet_shut a (number_shut a.link) h
quiet_does o g a action.Act q h = h
quiet_does o g a action.Up q h = h
quiet_does o g a action.Down q h = h

quiet_does_all : (o : Message) (g : AtHand) (a : Draft) (xs : List Action) → is_update o ≡ false → IsQuiet a.says → IsQuiet (apply_all_once o g a xs).says
quiet_does_all o g a [] q h = h
quiet_does_all o g a (x ∷ xs) q h = quiet_does_all o g (apply_once o g a x) xs q (quiet_does o g a x q h)

quiet_meets : (o : Message) (g : AtHand) (a : Draft) (e : FsmEvent) → is_update o ≡ false → IsQuiet a.says → IsQuiet (react_once o g a e).says
unfolding react_once
quiet_meets o g a e q h = quiet_does_all o g (record a { session = (on_event a.session e).session }) (on_event a.session e).actions q h

either : (b : Bool) (d e : Draft) → IsQuiet d.says → IsQuiet e.says → IsQuiet (cond b d e).says
either true d e h k = h
either false d e h k = k

quiet_obeys : (o : Message) (g : AtHand) (a : Draft) (x : Action) → is_update o ≡ false → IsQuiet a.says → IsQuiet (apply o g a x).says
unfolding apply
quiet_obeys o g a x q h =
    either (is_joined_by a x) (react_once o g (apply_once o g a x) event.TcpCrAcked) (apply_once o g a x) (quiet_meets o g (apply_once o g a x) event.TcpCrAcked q (quiet_does o g a x q h)) (quiet_does o g a x q h)

quiet_obeys_all : (o : Message) (g : AtHand) (a : Draft) (xs : List Action) → is_update o ≡ false → IsQuiet a.says → IsQuiet (apply_all o g a xs).says
quiet_obeys_all o g a [] q h = h
quiet_obeys_all o g a (x ∷ xs) q h = quiet_obeys_all o g (apply o g a x) xs q (quiet_obeys o g a x q h)

pub quiet_comes : (o : Message) (g : AtHand) (a : Draft) (e : FsmEvent) → is_update o ≡ false → IsQuiet a.says → IsQuiet (react o g a e).says
unfolding react
quiet_comes o g a e q h = quiet_obeys_all o g (record a { session = (on_event a.session e).session }) (on_event a.session e).actions q h

quiet_expires : (o : Message) (a : Draft) (e : Option FsmEvent) → is_update o ≡ false → IsQuiet a.says → IsQuiet (expires o a e).says
quiet_expires o a None q h = h
quiet_expires o a (Some e) q h = quiet_comes o NoMessage a e q h

quiet_answers : (o : Message) (a : Draft) (x : Heard) → is_update o ≡ false → IsQuiet a.says → IsQuiet (sides.react_to_sign o a x).says
unfolding sides.react_to_sign
quiet_answers o a heard.Quiet q h = h
quiet_answers o a heard.Joined q h = quiet_comes o NoMessage a event.TcpCrAcked q h
quiet_answers o a (heard.Offered number) q h =
    either (is_connecting a.session.state) (react o NoMessage (dials a) event.TcpConnectionConfirmed) a (quiet_comes o NoMessage (dials a) event.TcpConnectionConfirmed q (quiet_dials a h)) h
quiet_answers o a heard.Closed q h = quiet_comes o NoMessage a event.TcpConnectionFails q h

-- ---- case by case

one : (b : Bool) (n : ℕ) (h : AtHand) (s : Side) (a : Draft) → IsQuiet a.says → (cond b (carried h s a) s).sent n ≡ s.sent n ++ updates_in (said n (says_where b a.says))
one true n h s a q = sym (ap (λ w. s.sent n ++ w) (q n) ∙ append-nil (s.sent n))
one false n h s a q = sym (append-nil (s.sent n))

behind_front : (b : Bool) (n : ℕ) (h : AtHand) (s : Side) (a : Draft) → IsQuiet a.says
    → (cond b (carried h (cond b (without_front s) s) a) (cond b (without_front s) s)).sent n ≡ s.sent n ++ updates_in (said n (says_where b a.says))
behind_front true n h s a q = sym (ap (λ w. s.sent n ++ w) (q n) ∙ append-nil (s.sent n))
behind_front false n h s a q = sym (append-nil (s.sent n))

marker : (b : Bool) (n number e : ℕ) (s : Side) → (cond b (marked number s) s).sent n ≡ s.sent n ++ updates_in (said n (says_where b (Mark e number ∷ [])))
marker true n number e s = sym (append-nil (s.sent n))
marker false n number e s = sym (append-nil (s.sent n))

fed_one : (b c : Bool) (n : ℕ) (s : Side) (octets : List ℕ) → (cond b (cond c (record s { held = s.held ++ octets }) s) s).sent n ≡ s.sent n
fed_one true true n s octets = refl
fed_one true false n s octets = refl
fed_one false c n s octets = refl

put_one : (b : Bool) (n : ℕ) (s : Side) (i : What) → (cond b (put_from s i) s).sent n ≡ s.sent n
put_one true n s i = refl
put_one false n s i = refl

sent_one : (b : Bool) (n : ℕ) (s : Side) (u : Update) → (n == s.link.epoch) ≡ b → (told s u).sent n ≡ s.sent n ++ updates_in (said n (Says s.link.epoch (UpdateMsg u) ∷ []))
sent_one true n s u e = rw e refl
sent_one false n s u e = rw e (sym (append-nil (s.sent n)))

told_one : (b : Bool) (n : ℕ) (s : Side) (u : Update) → (cond b (told s u) s).sent n ≡ s.sent n ++ updates_in (said n (says_where b (Says s.link.epoch (UpdateMsg u) ∷ [])))
told_one true n s u = sent_one (n == s.link.epoch) n s u refl
told_one false n s u = sym (append-nil (s.sent n))

nothing_told : (b : Bool) (n : ℕ) (xs : List Update) → xs ≡ xs ++ updates_in (said n (says_where b []))
nothing_told true n xs = sym (append-nil xs)
nothing_told false n xs = sym (append-nil xs)

by_telling : (g : Setting) (u v w n : ℕ) (x : Router) (q : Option PrefixView)
    → ((telling_to x w q (telling_of g u x)).sides v).sent n ≡ (x.sides v).sent n ++ updates_in (said n (says_where (v == w) (says_update g u x v q)))
by_telling g u v w n x None = nothing_told (v == w) n ((x.sides v).sent n)
by_telling g u v w n x (Some q) = told_one (v == w) n (x.sides v) (telling_of g u x q)

by_marker : (g : Setting) (u v w s n : ℕ) (x : Router) (b c : Bool)
    → ((cond b (cond c (records g u x s (Some w)) (record x { snapshots = ends_channel (peers g.net u) w s x.snapshots.unfinished x.snapshots })) x).sides v).sent n
    ≡ (x.sides v).sent n ++ updates_in (said n (says_where (b && c) (says_markers g u x s v)))
by_marker g u v w s n x true true = marker (linked g.net u v && is_up (x.sides v)) n s (x.sides v).link.epoch (x.sides v)
by_marker g u v w s n x true false = sym (append-nil ((x.sides v).sent n))
by_marker g u v w s n x false c = sym (append-nil ((x.sides v).sent n))

same : (xs ys : List Update) → ys ≡ xs → ys ≡ xs ++ []
same xs ys e = e ∙ sym (append-nil xs)

keeps : (x : Router) (q : Option PrefixView) (path : PrefixView → List ℕ) (v n : ℕ) → ((keeping x q path).sides v).sent n ≡ (x.sides v).sent n
keeps x None path v n = refl
keeps x (Some q) path v n = refl

by_command : (g : Setting) (u v n : ℕ) (x : Router) (c : Command) → ((obeyed g u x c).sides v).sent n ≡ (x.sides v).sent n ++ updates_in (said n (says_by g u x c v))
by_command g u v n x (command.Start w) = one (v == w) n NoMessage (x.sides v) (meets_at g u x w event.ManualStart) (quiet_comes (open_of g.net u) NoMessage _ event.ManualStart refl (λ k. refl))
by_command g u v n x (command.Stop w) = one (v == w) n NoMessage (x.sides v) (meets_at g u x w event.ManualStop) (quiet_comes (open_of g.net u) NoMessage _ event.ManualStop refl (λ k. refl))
by_command g u v n x (command.Reset w) =
    one (v == w) n NoMessage (x.sides v) (resets_at g u x w) (quiet_comes (open_of g.net u) NoMessage (meets_at g u x w event.ManualStop) event.ManualStart refl (quiet_comes (open_of g.net u) NoMessage _ event.ManualStop refl (λ k. refl)))
by_command g u v n x (command.Originate q) = same ((x.sides v).sent n) ((x.sides v).sent n) refl
by_command g u v n x (command.Withdraw q) = same ((x.sides v).sent n) ((x.sides v).sent n) refl
by_command g u v n x (command.Snapshot s) = marker (linked g.net u v && is_up (x.sides v)) n s (x.sides v).link.epoch (x.sides v)
by_command g u v n x command.Restart = one (linked g.net u v) n NoMessage (x.sides v) (meets_at g u x v event.ManualStop) (quiet_comes (open_of g.net u) NoMessage _ event.ManualStop refl (λ k. refl))

quiet_signed : (g : Setting) (u w : ℕ) (x : Router) (s : Sign) → IsQuiet (signed_at g u x w s).says
quiet_signed g u w x s = quiet_answers (open_of g.net u) _ _ refl (λ k. refl)

by_item : (g : Setting) (u v w n : ℕ) (x : Router) (i : What) → ((taken g u x w i).sides v).sent n ≡ (x.sides v).sent n ++ updates_in (said n (says_of_taken g u x w i v))
by_item g u v w n x (item.Dial e) = one (v == w) n NoMessage (x.sides v) (signed_at g u x w (sign.Dial e)) (quiet_signed g u w x (sign.Dial e))
by_item g u v w n x (item.Piece e octets) = same ((x.sides v).sent n) _ (fed_one (v == w) (uses (x.sides v).link e) n (x.sides v) octets)
by_item g u v w n x (item.Mark e s) = by_marker g u v w s n x (heeds g u x w e) (is_greater x s)
by_item g u v w n x (item.Shut e) = one (v == w) n NoMessage (x.sides v) (signed_at g u x w (sign.Shut e)) (quiet_signed g u w x (sign.Shut e))

by_event : (g : Setting) (u v n : ℕ) (x : Router) (e : RouterEvent) → ((after g u x e).sides v).sent n ≡ (x.sides v).sent n ++ updates_in (said n (says g u x e v))
by_event g u v n x (alone (Obeys c)) = by_command g u v n x c
by_event g u v n x (alone Ticks) = one (linked g.net u v) n NoMessage (x.sides v) (second_at g u x v) (quiet_expires (open_of g.net u) (draft_of (ticked (x.sides v).session) (x.sides v).link) (runs_out (x.sides v).session) refl (λ k. refl))
by_event g u v n x (alone (Handles w)) =
    behind_front (v == w) n (at_hand (front (rule_of g.net u w) (x.sides w).held)) (x.sides v) (handled_at g u x w) (quiet_comes (open_of g.net u) _ _ _ refl (λ k. refl))
by_event g u v n x (alone Decides) = same ((x.sides v).sent n) _ (keeps x _ _ v n)
by_event g u v n x (alone (Advertises w)) = by_telling g u v w n x (unadvertised g u x w)
by_event g u v n x (puts w i) = same ((x.sides v).sent n) _ (put_one (v == w) n (x.sides v) i)
by_event g u v n x (takes w i) = by_item g u v w n x i
by_event g u v n x (offers o) = same ((x.sides v).sent n) ((x.sides v).sent n) refl

pub sent_is_said : SentIsWhatIsSaid
sent_is_said g u v n x y e step = subst (λ z. (z.sides v).sent n ≡ (x.sides v).sent n ++ updates_in (said n (says g u x e v))) (sym step.leaves) (by_event g u v n x e)
