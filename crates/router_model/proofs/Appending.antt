-- What a step appends, case by case.
use Rattle.std.proofs.Common.{◌≡◌, ℕ, ◌==◌, Bool, true, false, ◌&&◌, cond, List, [], ◌∷◌, ◌++◌, length, drop, refl, ap, sym, ◌∙◌, arith, subst, Option, None, Some}
use Rattle.std.specs.Prelude.{if◌then◌else◌}
use Rattle.std.proofs.lemmas.List.{append-nil}
use Rattle.std.proofs.lemmas.Bool.Decides.{nat_tests}
use Rattle.std.proofs.Math.Seq.{drop-append_seam}
use mathlib.Core.List.{IsPrefix}
use Rattle.prefix_lanes.specs.Bits.{PrefixView}
use Rattle.bgp_codec.specs.declared.message.Message.{Message}
use Rattle.bgp_codec.specs.declared.message.Message.TheVariants.{UpdateMsg}
use Rattle.bgp_codec.specs.declared.update.Update.{Update}
use Rattle.bgp_codec.specs.Spelling.{written}
use Rattle.run_model.specs.Links.{Entry, Says, Mark}
use Rattle.session_fsm.specs.declared.event.FsmEvent.TheVariants.{ManualStart, ManualStop}
use Rattle.link_epoch.specs.declared.link_end.Sign.TheVariants as sign
use Rattle.run_model.specs.Octets.{Passing, passing}
use Rattle.run_model.specs.Network.{alone, puts, takes, offers, put_towards}
use Rattle.outbox.specs.Items.{passes}
use Rattle.router_model.specs.declared.command.Command.{Command}
use Rattle.router_model.specs.declared.command.Command.TheVariants as command
use Rattle.outbox.specs.declared.item.What.{What}
use Rattle.outbox.specs.declared.item.What.TheVariants as item
use Rattle.router_model.specs.Sides.{Side, Draft, AtHand, NoMessage, at_hand, front, carried, marked, told, uses, is_up, without_front}
use Rattle.router_model.specs.Settings.{Setting, linked, peers}
use Rattle.router_model.specs.State.{Router, rule_of, unadvertised, undecided, best_path}
use Rattle.router_model.specs.Step.{RouterEvent, Obeys, Ticks, Handles, Decides, Advertises, May, after, says, says_by, says_where, says_update, says_of_taken, says_markers, obeyed, taken, telling_to, telling_of, heeds, is_greater, put_from, keeping, records, meets_at, resets_at, signed_at, second_at, handled_at}
use Rattle.snap_marker.specs.Recordings.{ends_channel}
use Rattle.router_model.specs.Laws.{all_passes, StepsAppendWhatTheySay}

-- a side whose draft is carried out, or is not
one : (b : Bool) (h : AtHand) (s : Side) (a : Draft) → (cond b (carried h s a) s).outbox ≡ s.outbox ++ passing (written s.width) (says_where b a.says)
one true h s a = refl
one false h s a = sym (append-nil s.outbox)

behind_front : (b : Bool) (h : AtHand) (s t : Side) (a : Draft) → t.outbox ≡ s.outbox → t.width ≡ s.width
    → (cond b (carried h (cond b t s) a) (cond b t s)).outbox ≡ s.outbox ++ passing (written s.width) (says_where b a.says)
behind_front true h s t a e w = ap (λ k. t.outbox ++ passing (written k) a.says) w ∙ ap (λ o. o ++ passing (written s.width) a.says) e
behind_front false h s t a e w = sym (append-nil s.outbox)

marker : (b : Bool) (number : ℕ) (s : Side) (x : Entry Message) → (marked number s).outbox ≡ s.outbox ++ passing (written s.width) (x ∷ [])
    → (cond b (marked number s) s).outbox ≡ s.outbox ++ passing (written s.width) (says_where b (x ∷ []))
marker true number s x e = e
marker false number s x e = sym (append-nil s.outbox)

unchanged : (s t : Side) → t.outbox ≡ s.outbox → t.outbox ≡ s.outbox ++ []
unchanged s t e = e ∙ sym (append-nil s.outbox)

fed_keeps : (b : Bool) (s : Side) (octets : List ℕ) → (cond b (record s { held = s.held ++ octets }) s).outbox ≡ s.outbox
fed_keeps true s octets = refl
fed_keeps false s octets = refl

at_fed : (b c : Bool) (s : Side) (octets : List ℕ) → (cond b (cond c (record s { held = s.held ++ octets }) s) s).outbox ≡ s.outbox
at_fed true c s octets = fed_keeps c s octets
at_fed false c s octets = refl

swapped : (v w : ℕ) → (v == w) ≡ (w == v)
swapped v w = grind (arith, nat_tests)

put_says_nothing : (b : Bool) → says_where b [] ≡ []
put_says_nothing true = refl
put_says_nothing false = refl

-- what is put stood in front
put_one : (b : Bool) (i : What) (s : Side) (rest : List (Passing Message)) → passes i ++ rest ≡ s.outbox
    → all_passes (if b then i ∷ [] else []) ++ (cond b (put_from s i) s).outbox ≡ s.outbox ++ []
put_one true i s rest e =
    let gone : drop (length (passes i)) s.outbox ≡ rest = subst (λ o. drop (length (passes i)) o ≡ rest) e (drop-append_seam (passes i) rest) in
    rw (append-nil, append-nil, gone) e
put_one false i s rest e = sym (append-nil s.outbox)

put_at : (b : Bool) (v w : ℕ) (i : What) (x : Router) → (v == w) ≡ b → IsPrefix (passes i) (x.sides w).outbox
    → all_passes (if b then i ∷ [] else []) ++ (cond b (put_from (x.sides v) i) (x.sides v)).outbox ≡ (x.sides v).outbox ++ []
put_at true v w i x e h =
    let same : w ≡ v = grind (arith, nat_tests, e) in
    put_one true i (x.sides v) h.0 (subst (λ k. passes i ++ h.0 ≡ (x.sides k).outbox) same h.1)
put_at false v w i x e h = sym (append-nil (x.sides v).outbox)

told_one : (b : Bool) (s : Side) (u : Update) → (cond b (told s u) s).outbox ≡ s.outbox ++ passing (written s.width) (says_where b (Says s.link.epoch (UpdateMsg u) ∷ []))
told_one true s u = refl
told_one false s u = sym (append-nil s.outbox)

by_command : (g : Setting) (u v : ℕ) (x : Router) (c : Command)
    → ((obeyed g u x c).sides v).outbox ≡ (x.sides v).outbox ++ passing (written (x.sides v).width) (says_by g u x c v)
by_command g u v x (command.Start w) = one (v == w) NoMessage (x.sides v) (meets_at g u x w ManualStart)
by_command g u v x (command.Stop w) = one (v == w) NoMessage (x.sides v) (meets_at g u x w ManualStop)
by_command g u v x (command.Reset w) = one (v == w) NoMessage (x.sides v) (resets_at g u x w)
by_command g u v x (command.Originate q) = sym (append-nil (x.sides v).outbox)
by_command g u v x (command.Withdraw q) = sym (append-nil (x.sides v).outbox)
by_command g u v x (command.Snapshot s) = marker (linked g.net u v && is_up (x.sides v)) s (x.sides v) (Mark (x.sides v).link.epoch s) refl
by_command g u v x command.Restart = one (linked g.net u v) NoMessage (x.sides v) (meets_at g u x v ManualStop)

by_marker : (g : Setting) (u v w s : ℕ) (x : Router) (b c : Bool)
    → ((cond b (cond c (records g u x s (Some w)) (record x { snapshots = ends_channel (peers g.net u) w s x.snapshots.unfinished x.snapshots })) x).sides v).outbox
    ≡ (x.sides v).outbox ++ passing (written (x.sides v).width) (says_where (b && c) (says_markers g u x s v))
by_marker g u v w s x true true = marker (linked g.net u v && is_up (x.sides v)) s (x.sides v) (Mark (x.sides v).link.epoch s) refl
by_marker g u v w s x true false = sym (append-nil (x.sides v).outbox)
by_marker g u v w s x false c = sym (append-nil (x.sides v).outbox)

by_item : (g : Setting) (u v w : ℕ) (x : Router) (i : What)
    → ((taken g u x w i).sides v).outbox ≡ (x.sides v).outbox ++ passing (written (x.sides v).width) (says_of_taken g u x w i v)
by_item g u v w x (item.Dial e) = one (v == w) NoMessage (x.sides v) (signed_at g u x w (sign.Dial e))
by_item g u v w x (item.Piece e octets) = at_fed (v == w) (uses (x.sides v).link e) (x.sides v) octets ∙ sym (append-nil (x.sides v).outbox)
by_item g u v w x (item.Mark e s) = by_marker g u v w s x (heeds g u x w e) (is_greater x s)
by_item g u v w x (item.Shut e) = one (v == w) NoMessage (x.sides v) (signed_at g u x w (sign.Shut e))

by_telling : (g : Setting) (u v w : ℕ) (x : Router) (q : Option PrefixView)
    → ((telling_to x w q (telling_of g u x)).sides v).outbox ≡ (x.sides v).outbox ++ passing (written (x.sides v).width) (says_where (v == w) (says_update g u x v q))
by_telling g u v w x None = sym (ap (λ es. (x.sides v).outbox ++ passing (written (x.sides v).width) es) (put_says_nothing (v == w)) ∙ append-nil (x.sides v).outbox)
by_telling g u v w x (Some q) = told_one (v == w) (x.sides v) (telling_of g u x q)

keeps_sides : (x : Router) (q : Option PrefixView) (path : PrefixView → List ℕ) (v : ℕ) → ((keeping x q path).sides v).outbox ≡ (x.sides v).outbox ++ []
keeps_sides x None path v = sym (append-nil (x.sides v).outbox)
keeps_sides x (Some q) path v = sym (append-nil (x.sides v).outbox)

by_event : (g : Setting) (u v : ℕ) (x : Router) (e : RouterEvent) → May g u x e
    → all_passes (put_towards v e) ++ ((after g u x e).sides v).outbox ≡ (x.sides v).outbox ++ passing (written (x.sides v).width) (says g u x e v)
by_event g u v x (alone (Obeys c)) may = by_command g u v x c
by_event g u v x (alone Ticks) may = one (linked g.net u v) NoMessage (x.sides v) (second_at g u x v)
by_event g u v x (alone (Handles w)) may = behind_front (v == w) (at_hand (front (rule_of g.net u w) (x.sides w).held)) (x.sides v) (without_front (x.sides v)) (handled_at g u x w) refl refl
by_event g u v x (alone Decides) may = keeps_sides x (undecided g u x) (best_path g u x) v
by_event g u v x (alone (Advertises w)) may = by_telling g u v w x (unadvertised g u x w)
by_event g u v x (puts w i) may =
    subst (λ b. all_passes (if b then i ∷ [] else []) ++ (cond (v == w) (put_from (x.sides v) i) (x.sides v)).outbox ≡ (x.sides v).outbox ++ [])
    (swapped v w) (put_at (v == w) v w i x refl may.2)
by_event g u v x (takes w i) may = by_item g u v w x i
by_event g u v x (offers o) may = sym (append-nil (x.sides v).outbox)

pub steps_append : StepsAppendWhatTheySay
steps_append g u v x y e step =
    subst (λ z. all_passes (put_towards v e) ++ (z.sides v).outbox ≡ (x.sides v).outbox ++ passing (written (x.sides v).width) (says g u x e v)) (sym step.leaves) (by_event g u v x e step.may)
