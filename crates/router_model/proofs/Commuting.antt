-- A put may change places with each event that puts nothing in its direction.
use Rattle.std.proofs.Common.{◌≡◌, ℕ, ◌==◌, Bool, true, false, ◌&&◌, cond, List, [], ◌∷◌, ◌++◌, length, drop, refl, ap, sym, ◌∙◌, arith, append_assoc, subst, Option, None, Some}
use Rattle.std.specs.Prelude.{if◌then◌else◌}
use Rattle.std.proofs.lemmas.List.{append-nil}
use Rattle.std.proofs.lemmas.Bool.Decides.{nat_tests}
use Rattle.std.proofs.Math.Path.{fun_ext}
use Rattle.std.proofs.Math.Seq.{drop-append_seam}
use mathlib.Core.List.{IsPrefix}
use Rattle.prefix_lanes.specs.Bits.{PrefixView}
use Rattle.bgp_codec.specs.declared.message.Message.{Message}
use Rattle.bgp_codec.specs.Spelling.{written}
use Rattle.session_fsm.specs.declared.event.FsmEvent.TheVariants.{ManualStart, ManualStop}
use Rattle.link_epoch.specs.declared.link_end.Sign.TheVariants as sign
use Rattle.run_model.specs.Links.{Mark}
use Rattle.run_model.specs.Octets.{Passing, passing}
use Rattle.run_model.specs.Network.{alone, puts, takes, offers, put_towards}
use Rattle.outbox.specs.Items.{passes}
use Rattle.outbox.specs.declared.item.What.{What}
use Rattle.outbox.specs.declared.item.What.TheVariants as item
use Rattle.snap_marker.specs.Recordings.{Snapshots, ends_channel}
use Rattle.router_model.specs.declared.command.Command.TheVariants as command
use Rattle.router_model.specs.Settings.{Setting, linked, peers}
use Rattle.router_model.specs.Sides.{Side, Draft, AtHand, NoMessage, at_hand, front, carried, marked, told, uses, is_up, without_front}
use Rattle.router_model.specs.State.{Router, rule_of, unadvertised, undecided, best_path}
use Rattle.router_model.specs.Step.{RouterEvent, Obeys, Ticks, Handles, Decides, Advertises, May, Step, after, overflows, says, says_where, says_update, says_markers, moved, all_moved, with_side, telling_to, telling_of, heeds, is_greater, put_from, keeping, records, meets_at, resets_at, signed_at, second_at, handled_at}
use Rattle.router_model.specs.Laws.{RouterPutsCommute, PutsLeaveWhatIsSaid}

-- a router with other outboxes: nothing else of it changes
abbrev pub with_outboxes : Router → (ℕ → List (Passing Message)) → Router
with_outboxes x o = record x { sides = λ y. record (x.sides y) { outbox = o y } }

same_outboxes : (x : Router) (o p : ℕ → List (Passing Message)) → ((y : ℕ) → o y ≡ p y) → with_outboxes x o ≡ with_outboxes x p
same_outboxes x o p h = ap (with_outboxes x) (fun_ext h)

same_sides : (x : Router) (s t : ℕ → Side) → ((y : ℕ) → s y ≡ t y) → record x { sides = s } ≡ record x { sides = t }
same_sides x s t h = ap (λ k. record x { sides = k }) (fun_ext h)

nothing_more : (x : Router) (o : ℕ → List (Passing Message)) → with_outboxes x o ≡ with_outboxes x (λ y. o y ++ [])
nothing_more x o = same_outboxes x o (λ y. o y ++ []) (λ y. sym (append-nil (o y)))

-- ---- side by side

abbrev out : Side → List (Passing Message) → Side
out s o = record s { outbox = o }

nothing_out : (s : Side) (o : List (Passing Message)) → out s o ≡ out s (o ++ [])
nothing_out s o = ap (out s) (sym (append-nil o))

carry_one : (b : Bool) (h : AtHand) (s : Side) (o : List (Passing Message)) (a : Draft)
    → cond b (carried h (out s o) a) (out s o) ≡ out (cond b (carried h s a) s) (o ++ passing (written s.width) (says_where b a.says))
carry_one true h s o a = refl
carry_one false h s o a = nothing_out s o

handle_one : (b : Bool) (h : AtHand) (s : Side) (o : List (Passing Message)) (a : Draft)
    → cond b (carried h (cond b (without_front (out s o)) (out s o)) a) (cond b (without_front (out s o)) (out s o))
    ≡ out (cond b (carried h (cond b (without_front s) s) a) (cond b (without_front s) s)) (o ++ passing (written s.width) (says_where b a.says))
handle_one true h s o a = refl
handle_one false h s o a = nothing_out s o

mark_one : (b : Bool) (n e : ℕ) (s : Side) (o : List (Passing Message)) → s.link.epoch ≡ e
    → cond b (marked n (out s o)) (out s o) ≡ out (cond b (marked n s) s) (o ++ passing (written s.width) (says_where b (Mark e n ∷ [])))
mark_one true n e s o is = rw is refl
mark_one false n e s o is = nothing_out s o

feed_one : (b c : Bool) (s : Side) (o : List (Passing Message)) (octets : List ℕ)
    → cond b (cond c (record (out s o) { held = s.held ++ octets }) (out s o)) (out s o) ≡ out (cond b (cond c (record s { held = s.held ++ octets }) s) s) (o ++ [])
feed_one true true s o octets = nothing_out (record s { held = s.held ++ octets }) o
feed_one true false s o octets = nothing_out s o
feed_one false c s o octets = nothing_out s o

put_one : (b : Bool) (s : Side) (o : List (Passing Message)) (i : What)
    → cond b (put_from (out s o) i) (out s o) ≡ out (cond b (put_from s i) s) (cond b (drop (length (passes i)) o) o)
put_one true s o i = refl
put_one false s o i = refl

-- ---- what an event leaves, whatever waits

module _ (g : Setting) (u : ℕ) (x : Router) where
  -- an outbox after an event
  abbrev pub outbox_by : RouterEvent → ℕ → List (Passing Message) → List (Passing Message)
  outbox_by (alone e) y o = o ++ passing (written (x.sides y).width) (says g u x (alone e) y)
  outbox_by (puts w j) y o = cond (y == w) (drop (length (passes j)) o) o
  outbox_by (takes w j) y o = o ++ passing (written (x.sides y).width) (says g u x (takes w j) y)
  outbox_by (offers made) y o = o ++ passing (written (x.sides y).width) (says g u x (offers made) y)

  moved_with : (o : ℕ → List (Passing Message)) (v : ℕ) (h : AtHand) (a : Draft)
      → moved (with_outboxes x o) v h a ≡ with_outboxes (moved x v h a) (λ y. o y ++ passing (written (x.sides y).width) (says_where (y == v) a.says))
  moved_with o v h a =
      same_sides (moved x v h a) _ _ (λ y. carry_one (y == v) h (x.sides y) (o y) a)

  handled_with : (o : ℕ → List (Passing Message)) (v : ℕ) (h : AtHand) (a : Draft)
      → moved (with_side (with_outboxes x o) v without_front) v h a ≡ with_outboxes (moved (with_side x v without_front) v h a) (λ y. o y ++ passing (written (x.sides y).width) (says_where (y == v) a.says))
  handled_with o v h a =
      same_sides (moved (with_side x v without_front) v h a) _ _ (λ y. handle_one (y == v) h (x.sides y) (o y) a)

  all_moved_with : (o : ℕ → List (Passing Message)) (drafts : ℕ → Draft)
      → all_moved g u (with_outboxes x o) drafts ≡ with_outboxes (all_moved g u x drafts) (λ y. o y ++ passing (written (x.sides y).width) (says_where (linked g.net u y) (drafts y).says))
  all_moved_with o drafts =
      same_sides (all_moved g u x drafts) _ _ (λ y. carry_one (linked g.net u y) NoMessage (x.sides y) (o y) (drafts y))

  records_with : (o : ℕ → List (Passing Message)) (s : ℕ) (first : Option ℕ)
      → records g u (with_outboxes x o) s first ≡ with_outboxes (records g u x s first) (λ y. o y ++ passing (written (x.sides y).width) (says_markers g u x s y))
  records_with o s first =
      same_sides (records g u x s first) _ _ (λ y. mark_one (linked g.net u y && is_up (x.sides y)) s (x.sides y).link.epoch (x.sides y) (o y) refl)

  marked_with : (o : ℕ → List (Passing Message)) (v s : ℕ) (b c : Bool) (n : Snapshots)
      → cond b (cond c (records g u (with_outboxes x o) s (Some v)) (record (with_outboxes x o) { snapshots = n })) (with_outboxes x o)
      ≡ with_outboxes (cond b (cond c (records g u x s (Some v)) (record x { snapshots = n })) x) (λ y. o y ++ passing (written (x.sides y).width) (says_where (b && c) (says_markers g u x s y)))
  marked_with o v s true true n = records_with o s (Some v)
  marked_with o v s true false n = nothing_more (record x { snapshots = n }) o
  marked_with o v s false c n = nothing_more x o

  keeping_with : (o : ℕ → List (Passing Message)) (q : Option PrefixView) (path : PrefixView → List ℕ) → keeping (with_outboxes x o) q path ≡ with_outboxes (keeping x q path) (λ y. o y ++ [])
  keeping_with o None path = nothing_more x o
  keeping_with o (Some q) path = nothing_more (keeping x (Some q) path) o

  tell_one : (b : Bool) (q : PrefixView) (y : ℕ) (o : List (Passing Message))
      → cond b (told (out (x.sides y) o) (telling_of g u x q)) (out (x.sides y) o) ≡ out (cond b (told (x.sides y) (telling_of g u x q)) (x.sides y)) (o ++ passing (written (x.sides y).width) (says_where b (says_update g u x y (Some q))))
  tell_one true q y o = refl
  tell_one false q y o = nothing_out (x.sides y) o

  no_telling : (b : Bool) (y : ℕ) (o : List (Passing Message)) → o ≡ o ++ passing (written (x.sides y).width) (says_where b (says_update g u x y None))
  no_telling true y o = sym (append-nil o)
  no_telling false y o = sym (append-nil o)

  telling_with : (o : ℕ → List (Passing Message)) (w : ℕ) (q : Option PrefixView)
      → telling_to (with_outboxes x o) w q (telling_of g u x) ≡ with_outboxes (telling_to x w q (telling_of g u x)) (λ y. o y ++ passing (written (x.sides y).width) (says_where (y == w) (says_update g u x y q)))
  telling_with o w None = same_outboxes x o _ (λ y. no_telling (y == w) y (o y))
  telling_with o w (Some q) = same_sides (telling_to x w (Some q) (telling_of g u x)) _ _ (λ y. tell_one (y == w) q y (o y))

  pub after_with : (e : RouterEvent) (o : ℕ → List (Passing Message)) → after g u (with_outboxes x o) e ≡ with_outboxes (after g u x e) (λ y. outbox_by e y (o y))
  after_with (alone (Obeys (command.Start v))) o = moved_with o v NoMessage (meets_at g u x v ManualStart)
  after_with (alone (Obeys (command.Stop v))) o = moved_with o v NoMessage (meets_at g u x v ManualStop)
  after_with (alone (Obeys (command.Reset v))) o = moved_with o v NoMessage (resets_at g u x v)
  after_with (alone (Obeys (command.Originate q))) o = nothing_more (after g u x (alone (Obeys (command.Originate q)))) o
  after_with (alone (Obeys (command.Withdraw q))) o = nothing_more (after g u x (alone (Obeys (command.Withdraw q)))) o
  after_with (alone (Obeys (command.Snapshot s))) o = records_with o s None
  after_with (alone (Obeys command.Restart)) o =
      ap (λ (r : Router). record r { kept = λ q. []; originated = λ q. false }) (all_moved_with o (λ v. meets_at g u x v ManualStop))
  after_with (alone Ticks) o = all_moved_with o (second_at g u x)
  after_with (alone (Handles v)) o = handled_with o v (at_hand (front (rule_of g.net u v) (x.sides v).held)) (handled_at g u x v)
  after_with (alone Decides) o = keeping_with o (undecided g u x) (best_path g u x)
  after_with (alone (Advertises w)) o = telling_with o w (unadvertised g u x w)
  after_with (puts w j) o = same_sides x _ _ (λ y. put_one (y == w) (x.sides y) (o y) j)
  after_with (takes w (item.Dial e)) o = moved_with o w NoMessage (signed_at g u x w (sign.Dial e))
  after_with (takes w (item.Piece e octets)) o = same_sides x _ _ (λ y. feed_one (y == w) (uses (x.sides y).link e) (x.sides y) (o y) octets)
  after_with (takes w (item.Mark e s)) o = marked_with o w s (heeds g u x w e) (is_greater x s) (ends_channel (peers g.net u) w s x.snapshots.unfinished x.snapshots)
  after_with (takes w (item.Shut e)) o = moved_with o w NoMessage (signed_at g u x w (sign.Shut e))
  after_with (offers made) o = nothing_more (after g u x (offers made)) o

  -- no other event looks at what waits

  pub said_with : (e : RouterEvent) (o : ℕ → List (Passing Message)) (w : ℕ) → says g u (with_outboxes x o) e w ≡ says g u x e w
  said_with (alone (Obeys (command.Start v))) o w = refl
  said_with (alone (Obeys (command.Stop v))) o w = refl
  said_with (alone (Obeys (command.Reset v))) o w = refl
  said_with (alone (Obeys (command.Originate q))) o w = refl
  said_with (alone (Obeys (command.Withdraw q))) o w = refl
  said_with (alone (Obeys (command.Snapshot s))) o w = refl
  said_with (alone (Obeys command.Restart)) o w = refl
  said_with (alone Ticks) o w = refl
  said_with (alone (Handles v)) o w = refl
  said_with (alone Decides) o w = refl
  said_with (alone (Advertises v)) o w = ap (says_where (w == v)) (update_with (unadvertised g u x v))
    where
      update_with : (q : Option PrefixView) → says_update g u (with_outboxes x o) w q ≡ says_update g u x w q
      update_with None = refl
      update_with (Some q) = refl
  said_with (puts v j) o w = refl
  said_with (takes v (item.Dial e)) o w = refl
  said_with (takes v (item.Piece e octets)) o w = refl
  said_with (takes v (item.Mark e s)) o w = refl
  said_with (takes v (item.Shut e)) o w = refl
  said_with (offers made) o w = refl

  overflows_with : (e : RouterEvent) (o : ℕ → List (Passing Message)) → overflows g u (with_outboxes x o) e ≡ overflows g u x e
  overflows_with e o = grind arith

  not_towards : (b : Bool) (j : What) → (if b then j ∷ [] else []) ≡ [] → b ≡ false
  not_towards true j h = absurd cc
  not_towards false j h = refl

  may_with : (v : ℕ) (e : RouterEvent) (o : ℕ → List (Passing Message)) → put_towards v e ≡ [] → ((y : ℕ) → (y == v) ≡ false → o y ≡ (x.sides y).outbox) → May g u x e → May g u (with_outboxes x o) e
  may_with v (alone (Obeys (command.Start w))) o none same m = m
  may_with v (alone (Obeys (command.Stop w))) o none same m = m
  may_with v (alone (Obeys (command.Reset w))) o none same m = m
  may_with v (alone (Obeys (command.Originate q))) o none same m = m
  may_with v (alone (Obeys (command.Withdraw q))) o none same m = m
  may_with v (alone (Obeys (command.Snapshot s))) o none same m = m
  may_with v (alone (Obeys command.Restart)) o none same m = m
  may_with v (alone Ticks) o none same m = m
  may_with v (alone (Handles w)) o none same m = m
  may_with v (alone Decides) o none same m = m
  may_with v (alone (Advertises w)) o none same m = m
  may_with v (puts w j) o none same m = (m.0, m.1, subst (IsPrefix (passes j)) (sym (same w (not_towards (w == v) j none))) m.2)
  may_with v (takes w j) o none same m = m
  may_with v (offers made) o none same m = m

  -- ---- the put

  put_is : (v : ℕ) (i : What) → after g u x (puts v i) ≡ with_outboxes x (λ y. cond (y == v) (drop (length (passes i)) (x.sides y).outbox) (x.sides y).outbox)
  put_is v i = same_sides x _ _ (λ y. at (y == v) (x.sides y))
    where
      at : (b : Bool) (s : Side) → cond b (put_from s i) s ≡ out s (cond b (drop (length (passes i)) s.outbox) s.outbox)
      at true s = refl
      at false s = refl

  outbox_of : (e : RouterEvent) (y : ℕ) → ((after g u x e).sides y).outbox ≡ outbox_by e y (x.sides y).outbox
  outbox_of e y = ap (λ (r : Router). (r.sides y).outbox) (after_with e (λ w. (x.sides w).outbox))

  other_way : (v w : ℕ) → (w == v) ≡ false → (v == w) ≡ false
  other_way v w h = grind (arith, nat_tests)

  -- what stands in front stays there, and what is dropped is the same
  front_stays : (v : ℕ) (e : RouterEvent) (p o : List (Passing Message)) → put_towards v e ≡ [] → IsPrefix p o → IsPrefix p (outbox_by e v o)
  front_stays v (alone e) p o none h = (h.0 ++ passing (written (x.sides v).width) (says g u x (alone e) v), sym (append_assoc p h.0 (passing (written (x.sides v).width) (says g u x (alone e) v))) ∙ ap (λ k. k ++ passing (written (x.sides v).width) (says g u x (alone e) v)) h.1)
  front_stays v (puts w j) p o none h = (let k = other_way v w (not_towards (w == v) j none) in rw k h)
  front_stays v (takes w j) p o none h = (h.0 ++ passing (written (x.sides v).width) (says g u x (takes w j) v), sym (append_assoc p h.0 (passing (written (x.sides v).width) (says g u x (takes w j) v))) ∙ ap (λ k. k ++ passing (written (x.sides v).width) (says g u x (takes w j) v)) h.1)
  front_stays v (offers made) p o none h = (h.0 ++ [], sym (append_assoc p h.0 []) ∙ ap (λ k. k ++ []) h.1)

  drop_behind : (p o more : List (Passing Message)) → IsPrefix p o → drop (length p) (o ++ more) ≡ drop (length p) o ++ more
  drop_behind p o more h =
      subst (λ k. drop (length p) (k ++ more) ≡ drop (length p) k ++ more) h.1
      (ap (drop (length p)) (append_assoc p h.0 more) ∙ drop-append_seam p (h.0 ++ more) ∙ ap (λ k. k ++ more) (sym (drop-append_seam p h.0)))

  drop_stays : (v : ℕ) (e : RouterEvent) (p o : List (Passing Message)) → put_towards v e ≡ [] → IsPrefix p o → drop (length p) (outbox_by e v o) ≡ outbox_by e v (drop (length p) o)
  drop_stays v (alone e) p o none h = drop_behind p o (passing (written (x.sides v).width) (says g u x (alone e) v)) h
  drop_stays v (puts w j) p o none h = (let k = other_way v w (not_towards (w == v) j none) in rw k refl)
  drop_stays v (takes w j) p o none h = drop_behind p o (passing (written (x.sides v).width) (says g u x (takes w j) v)) h
  drop_stays v (offers made) p o none h = drop_behind p o [] h

  -- ---- the exchange, both ways

  module _ (v : ℕ) (i : What) (e : RouterEvent) (none : put_towards v e ≡ []) (may : May g u x e) (fits : overflows g u x e ≡ false) (can : May g u x (puts v i)) where
    waits_else : (y : ℕ) → (y == v) ≡ false → cond (y == v) (drop (length (passes i)) (x.sides y).outbox) (x.sides y).outbox ≡ (x.sides y).outbox
    waits_else y h = rw h refl

    behind : Step g u (after g u x e) (puts v i) (after g u (after g u x e) (puts v i))
    behind = record {
      may = (can.0, can.1, subst (IsPrefix (passes i)) (sym (outbox_of e v)) (front_stays v e (passes i) (x.sides v).outbox none can.2));
      numbers = refl;
      leaves = refl;
    }

    one_outbox : (w : ℕ) (b : Bool) → (w == v) ≡ b → cond b (drop (length (passes i)) ((after g u x e).sides w).outbox) ((after g u x e).sides w).outbox
        ≡ outbox_by e w (cond b (drop (length (passes i)) (x.sides w).outbox) (x.sides w).outbox)
    one_outbox w true h =
        let same : w ≡ v = grind (arith, nat_tests, h) in
        subst (λ k. drop (length (passes i)) ((after g u x e).sides k).outbox ≡ outbox_by e k (drop (length (passes i)) (x.sides k).outbox)) (sym same)
        (ap (drop (length (passes i))) (outbox_of e v) ∙ drop_stays v e (passes i) (x.sides v).outbox none can.2)
    one_outbox w false h = outbox_of e w

    alike : after g u (after g u x e) (puts v i) ≡ after g u (after g u x (puts v i)) e
    alike =
        same_sides (after g u x e) _ _ (λ w. side w (w == v) refl)
        ∙ sym (ap (λ (z : Router). after g u z e) (put_is v i) ∙ after_with e (λ y. cond (y == v) (drop (length (passes i)) (x.sides y).outbox) (x.sides y).outbox))
      where
        side : (w : ℕ) (b : Bool) → (w == v) ≡ b → cond b (put_from ((after g u x e).sides w) i) ((after g u x e).sides w)
            ≡ out ((after g u x e).sides w) (outbox_by e w (cond b (drop (length (passes i)) (x.sides w).outbox) (x.sides w).outbox))
        side w true h = ap (out ((after g u x e).sides w)) (one_outbox w true h)
        side w false h = ap (out ((after g u x e).sides w)) (one_outbox w false h)

    before : Step g u (after g u x (puts v i)) e (after g u (after g u x e) (puts v i))
    before = record {
      may = subst (λ (z : Router). May g u z e) (sym (put_is v i)) (may_with v e (λ y. cond (y == v) (drop (length (passes i)) (x.sides y).outbox) (x.sides y).outbox) none waits_else may);
      numbers = ap (λ (z : Router). overflows g u z e) (put_is v i) ∙ overflows_with e (λ y. cond (y == v) (drop (length (passes i)) (x.sides y).outbox) (x.sides y).outbox) ∙ fits;
      leaves = alike;
    }

pub puts_commute : RouterPutsCommute
puts_commute g = record {
  one = λ u v i x first second a b. a.leaves ∙ sym b.leaves;
  commute = λ u v i e x done put none d p. (
    after g u (after g u x e) (puts v i),
    subst (λ (k : Router). Step g u k (puts v i) (after g u (after g u x e) (puts v i))) (sym d.leaves) (behind g u x v i e none d.may d.numbers p.may),
    subst (λ (k : Router). Step g u k e (after g u (after g u x e) (puts v i))) (sym p.leaves) (before g u x v i e none d.may d.numbers p.may),
  );
}

pub puts_leave_what_is_said : PutsLeaveWhatIsSaid
puts_leave_what_is_said g u v i x y p e w =
    ap (λ (k : Router). says g u k e w) (p.leaves ∙ put_is g u x v i) ∙ said_with g u x e (λ y. cond (y == v) (drop (length (passes i)) (x.sides y).outbox) (x.sides y).outbox) w
