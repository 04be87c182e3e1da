-- What the steps of a router do to its recordings.
use Rattle.std.proofs.Common.{◌≡◌, ℕ, ◌==◌, ◌<◌, ◌≤◌, Bool, true, false, ◌&&◌, cond, List, [], ◌∷◌, ◌++◌, refl, ap, sym, ◌∙◌, arith, subst, Option, None, Some, inl, inr}
use Rattle.std.specs.Prelude.{drop, not}
use Rattle.std.specs.List.{find, list_any}
use mathlib.Core.Logic.{◌⊎◌}
use Rattle.std.proofs.lemmas.Bool.Decides.{nat_tests}
use Rattle.prefix_lanes.specs.Bits.{PrefixView}
use Rattle.bgp_codec.specs.declared.message.Message.{Message}
use Rattle.bgp_codec.specs.declared.message.Message.TheVariants.{UpdateMsg}
use Rattle.bgp_codec.specs.declared.update.Update.{Update}
use Rattle.session_fsm.specs.declared.event.FsmEvent.TheVariants.{ManualStart, ManualStop}
use Rattle.link_epoch.specs.declared.link_end.Sign.TheVariants as sign
use Rattle.run_model.specs.Network.{alone, puts, takes, offers}
use Rattle.run_model.specs.Offers.{Finished, Lost, Cause, NotUp, Closed, Superseded, IsIn}
use Rattle.outbox.specs.declared.item.What.TheVariants as item
use Rattle.snap_marker.specs.Recordings.{RouterPart, RouterOffer, Recording, Snapshots, queueing, closed, lost, lost_at, joins_channel, with_message, goes_on, ends_channel, superseded, begins_or_is_lost, begun}
use Rattle.router_model.specs.declared.command.Command.TheVariants as command
use Rattle.router_model.specs.Settings.{Setting, peers}
use Rattle.router_model.specs.Sides.{AtHand, NoMessage, HasFault, HasUpdate, at_hand, front, is_up}
use Rattle.router_model.specs.State.{Router, rule_of, undecided, unadvertised, best_path}
use Rattle.router_model.specs.Step.{RouterEvent, Obeys, Ticks, Handles, Decides, Advertises, May, after, seen, close_at, first_close, keeping, telling_to, telling_of, records, recording_of, is_greater, heeds, meets_at, resets_at, second_at, signed_at, handled_at}
use Rattle.router_model.specs.Recording.{IsRecording, IsNext, GoesOn, RecordingsGoOn}

-- ---- lists of offers

in_either : (z : RouterOffer) (xs ys : List RouterOffer) → IsIn z (xs ++ ys) → IsIn z xs ⊎ IsIn z ys
in_either z [] ys h = inr h
in_either z (x ∷ xs) ys (inl h) = inl (inl h)
in_either z (x ∷ xs) ys (inr h) = elim (in_either z xs ys h) [
  | inl k ↦ inl (inr k)
  | inr k ↦ inr k
]

-- no part among them
abbrev NoPart : List RouterOffer → Type 0
NoPart xs = (k : ℕ) (part : RouterPart) → IsIn (Finished k part) xs → ⊥

lost_no_part : (o : Option Recording) (v e : ℕ) (c : Cause) → NoPart (lost o v e c)
lost_no_part None v e c k part h = h
lost_no_part (Some r) v e c k part (inl h) = absurd cc
lost_no_part (Some r) v e c k part (inr h) = h

lost_at_no_part : (s : ℕ) (incarnation : ℕ → ℕ) (c : Cause) (o : Option ℕ) → NoPart (lost_at s incarnation c o)
lost_at_no_part s incarnation c None k part h = h
lost_at_no_part s incarnation c (Some v) k part (inl h) = absurd cc
lost_at_no_part s incarnation c (Some v) k part (inr h) = h

superseded_no_part : (peers : List ℕ) (incarnation : ℕ → ℕ) (o : Option Recording) → NoPart (superseded peers incarnation o)
superseded_no_part peers incarnation None k part h = h
superseded_no_part peers incarnation (Some r) k part h = lost_at_no_part r.number incarnation Superseded (find r.waits peers) k part h

-- parts of a queue with more behind it, which are no parts
abbrev QueuedFrom : Snapshots → Snapshots → Type 0
QueuedFrom x y = (k : ℕ) (part : RouterPart) → IsIn (Finished k part) y.queue → IsIn (Finished k part) x.queue

with_no_part : (xs ys : List RouterOffer) → NoPart ys → (k : ℕ) (part : RouterPart) → IsIn (Finished k part) (xs ++ ys) → IsIn (Finished k part) xs
with_no_part xs ys none k part h = elim (in_either (Finished k part) xs ys h) [
  | inl j ↦ j
  | inr j ↦ absurd (none k part j)
]

-- ---- changes of a recording

not_recording : (y : Snapshots) (k : ℕ) → y.unfinished ≡ None → IsRecording y k → ⊥
not_recording y k none r = (let no : None ≡ Some r.0 = sym none ∙ r.1 in cc no)

stays : (x : Snapshots) → GoesOn x x
stays x = record { rises = omega arith; records = λ k r. inl r; finishes = λ k part h. inl h }

ends : (x y : Snapshots) → x.last ≤ y.last → y.unfinished ≡ None → QueuedFrom x y → GoesOn x y
ends x y low none from = record { rises = low; records = λ k r. absurd (not_recording y k none r); finishes = λ k part h. inl (from k part h) }

close_goes : (x : Snapshots) (c : Option (ℕ × ℕ)) → GoesOn x (closed c x)
close_goes x None = stays x
close_goes x (Some c) = ends x (closed (Some c) x) (omega arith) refl (with_no_part x.queue (lost x.unfinished c.0 c.1 Closed) (lost_no_part x.unfinished c.0 c.1 Closed))

-- an UPDATE joins a channel: the number is the same
record Alike (m n : Snapshots) : Type 0 where
  last : n.last ≡ m.last
  queue : n.queue ≡ m.queue
  records : (k : ℕ) → IsRecording n k → IsRecording m k
  none : m.unfinished ≡ None → n.unfinished ≡ None

joins_number : (w k : ℕ) (m : Message) (o : Option Recording) → (r : Recording) × (joins_channel w m o ≡ Some r) × (r.number ≡ k) → (r : Recording) × (o ≡ Some r) × (r.number ≡ k)
joins_number w k m None r = absurd (let no = r.1 in cc no)
joins_number w k m (Some r0) r = (r0, refl, number (r0.waits w) r.0 r.1 ∙ r.2)
  where
    number : (b : Bool) (r1 : Recording) → Some (cond b (record r0 { part = with_message w m r0.part }) r0) ≡ Some r1 → r0.number ≡ r1.number
    number true r1 h = (let e : record r0 { part = with_message w m r0.part } ≡ r1 = cc h in ap (λ (i : Recording). i.number) e)
    number false r1 h = (let e : r0 ≡ r1 = cc h in ap (λ (i : Recording). i.number) e)

seen_alike : (b : Bool) (h : AtHand) (w : ℕ) (m : Snapshots) → Alike m (seen b h w m)
seen_alike true (HasUpdate update) w m = record { last = refl; queue = refl; records = λ k r. joins_number w k (UpdateMsg update) m.unfinished r; none = λ none. ap (joins_channel w (UpdateMsg update)) none }
seen_alike true NoMessage w m = record { last = refl; queue = refl; records = λ k r. r; none = λ none. none }
seen_alike true (HasFault fault) w m = record { last = refl; queue = refl; records = λ k r. r; none = λ none. none }
seen_alike false h w m = record { last = refl; queue = refl; records = λ k r. r; none = λ none. none }

next_alike : (x m n : Snapshots) (k : ℕ) → n.last ≡ m.last → IsNext x m k → IsNext x n k
next_alike x m n k same (inl r) = inl r
next_alike x m n k same (inr p) = inr (p.0, subst (λ i. k ≤ i) (sym same) p.1)

alike_goes : (x m n : Snapshots) → GoesOn x m → Alike m n → GoesOn x n
alike_goes x m n g a = record {
  rises = subst (λ i. x.last ≤ i) (sym a.last) g.rises;
  records = λ k r. next_alike x m n k a.last (g.records k (a.records k r));
  finishes = λ k part h. elim (g.finishes k part (subst (IsIn (Finished k part)) a.queue h)) [
    | inl j ↦ inl j
    | inr j ↦ inr (next_alike x m n k a.last j.0, a.none j.1)
  ];
}

-- a recording goes on, or its part is queued
abbrev offer_of : ℕ → RouterPart → RouterOffer
offer_of k part = Finished k part

part_number : (k : ℕ) (part : RouterPart) (n : ℕ) (p : RouterPart) → offer_of k part ≡ offer_of n p → k ≡ n
part_number k part n p h = cc h

goes : (x m : Snapshots) (peers : List ℕ) (r : Recording) → x.last ≤ m.last → QueuedFrom x m → (IsRecording x r.number ⊎ (x.last < r.number) × (r.number ≤ m.last)) → GoesOn x (goes_on peers r m)
goes x m peers r low from next = at (list_any r.waits peers)
  where
    at : (b : Bool) → GoesOn x (cond b (record m { unfinished = Some r }) (queueing (record m { unfinished = None }) (Finished r.number r.part ∷ [])))
    at true = record {
      rises = low;
      records = λ k j. (let is : r ≡ j.0 = (let e = j.1 in cc e) in let number : r.number ≡ k = ap (λ (i : Recording). i.number) is ∙ j.2 in
          subst (λ i. IsRecording x i ⊎ (x.last < i) × (i ≤ m.last)) number next);
      finishes = λ k part h. inl (from k part h);
    }
    at false = record {
      rises = low;
      records = λ k j. absurd (let e = j.1 in cc e);
      finishes = λ k part h. elim (in_either (Finished k part) m.queue (Finished r.number r.part ∷ []) h) [
        | inl j ↦ inl (from k part j)
        | inr (inl j) ↦ inr (subst (λ i. IsRecording x i ⊎ (x.last < i) × (i ≤ m.last)) (sym (part_number k part r.number r.part j)) next, refl)
        | inr (inr j) ↦ absurd j
      ];
    }

ends_goes : (x : Snapshots) (peers : List ℕ) (v s : ℕ) → GoesOn x (ends_channel peers v s x.unfinished x)
ends_goes x peers v s = at x.unfinished refl
  where
    ending : (r : Recording) (b : Bool) → x.unfinished ≡ Some r → GoesOn x (cond b (goes_on peers (record r { waits = λ y. cond (y == v) false (r.waits y) }) x) x)
    ending r true h = goes x x peers (record r { waits = λ y. cond (y == v) false (r.waits y) }) (omega arith) (λ k part j. j) (inl (r, h, refl))
    ending r false h = stays x

    at : (o : Option Recording) → x.unfinished ≡ o → GoesOn x (ends_channel peers v s o x)
    at None h = stays x
    at (Some r) h = ending r ((r.number == s) && r.waits v) h

begun_goes : (x : Snapshots) (peers : List ℕ) (up : ℕ → Bool) (r : Recording) → x.last < r.number → GoesOn x (begun peers up r x)
begun_goes x peers up r low = at (find (λ v. not (up v)) peers)
  where
    at : (o : Option ℕ) → GoesOn x (begins_or_is_lost peers o r (queueing (record x { last = r.number; unfinished = None }) (superseded peers r.part.incarnation x.unfinished)))
    at None =
        goes x (queueing (record x { last = r.number; unfinished = None }) (superseded peers r.part.incarnation x.unfinished)) peers r (omega (arith, low))
        (with_no_part x.queue (superseded peers r.part.incarnation x.unfinished) (superseded_no_part peers r.part.incarnation x.unfinished)) (inr (low, omega arith))
    at (Some v) =
        ends x (begins_or_is_lost peers (Some v) r (queueing (record x { last = r.number; unfinished = None }) (superseded peers r.part.incarnation x.unfinished))) (omega (arith, low)) refl
        (λ k part h. with_no_part x.queue (superseded peers r.part.incarnation x.unfinished) (superseded_no_part peers r.part.incarnation x.unfinished) k part
        (with_no_part (x.queue ++ superseded peers r.part.incarnation x.unfinished) (Lost r.number v (r.part.incarnation v) NotUp ∷ []) (one_lost r.number v (r.part.incarnation v)) k part h))
      where
        one_lost : (s v e : ℕ) → (k : ℕ) (part : RouterPart) → IsIn (Finished k part) (Lost s v e NotUp ∷ []) → ⊥
        one_lost s v e k part (inl h) = absurd cc
        one_lost s v e k part (inr h) = h

-- ---- event by event

module _ (g : Setting) (u : ℕ) (x : Router) where
  greater : (n : ℕ) → is_greater x n ≡ true → x.snapshots.last < n
  greater n h = grind (arith, nat_tests, h)

  records_goes : (n : ℕ) (first : Option ℕ) → is_greater x n ≡ true → GoesOn x.snapshots (records g u x n first).snapshots
  records_goes n first h = begun_goes x.snapshots (peers g.net u) (λ v. is_up (x.sides v)) (recording_of g u x n first) (greater n h)

  marks_goes : (w n : ℕ) (b c : Bool) → is_greater x n ≡ c → GoesOn x.snapshots (cond b (cond c (records g u x n (Some w)) (record x { snapshots = ends_channel (peers g.net u) w n x.snapshots.unfinished x.snapshots })) x).snapshots
  marks_goes w n true true h = records_goes n (Some w) h
  marks_goes w n true false h = ends_goes x.snapshots (peers g.net u) w n
  marks_goes w n false c h = stays x.snapshots

  moved_goes : (w : ℕ) (b : Bool) (h : AtHand) (c : Option (ℕ × ℕ)) → GoesOn x.snapshots (seen b h w (closed c x.snapshots))
  moved_goes w b h c = alike_goes x.snapshots (closed c x.snapshots) (seen b h w (closed c x.snapshots)) (close_goes x.snapshots c) (seen_alike b h w (closed c x.snapshots))

  kept_goes : (q : Option PrefixView) (path : PrefixView → List ℕ) → GoesOn x.snapshots (keeping x q path).snapshots
  kept_goes None path = stays x.snapshots
  kept_goes (Some q) path = stays x.snapshots

  told_goes : (w : ℕ) (q : Option PrefixView) (update : PrefixView → Update) → GoesOn x.snapshots (telling_to x w q update).snapshots
  told_goes w None update = stays x.snapshots
  told_goes w (Some q) update = stays x.snapshots

  -- the offers that are left were there
  left_in : (k : ℕ) (part : RouterPart) (queue : List RouterOffer) → IsIn (Finished k part) (drop 1 queue) → IsIn (Finished k part) queue
  left_in k part [] h = h
  left_in k part (o ∷ queue) h = inr h

  goes_after : (e : RouterEvent) → May g u x e → GoesOn x.snapshots (after g u x e).snapshots
  goes_after (alone (Obeys (command.Start w))) may = moved_goes w (meets_at g u x w ManualStart).acts NoMessage (close_at w (meets_at g u x w ManualStart).left)
  goes_after (alone (Obeys (command.Stop w))) may = moved_goes w (meets_at g u x w ManualStop).acts NoMessage (close_at w (meets_at g u x w ManualStop).left)
  goes_after (alone (Obeys (command.Reset w))) may = moved_goes w (resets_at g u x w).acts NoMessage (close_at w (resets_at g u x w).left)
  goes_after (alone (Obeys (command.Originate q))) may = stays x.snapshots
  goes_after (alone (Obeys (command.Withdraw q))) may = stays x.snapshots
  goes_after (alone (Obeys (command.Snapshot n))) may = records_goes n None may
  goes_after (alone (Obeys command.Restart)) may = close_goes x.snapshots (first_close (peers g.net u) (λ w. meets_at g u x w ManualStop))
  goes_after (alone Ticks) may = close_goes x.snapshots (first_close (peers g.net u) (second_at g u x))
  goes_after (alone (Handles w)) may = moved_goes w (handled_at g u x w).acts (at_hand (front (rule_of g.net u w) (x.sides w).held)) (close_at w (handled_at g u x w).left)
  goes_after (alone Decides) may = kept_goes (undecided g u x) (best_path g u x)
  goes_after (alone (Advertises w)) may = told_goes w (unadvertised g u x w) (telling_of g u x)
  goes_after (puts w i) may = stays x.snapshots
  goes_after (takes w (item.Dial n)) may = moved_goes w (signed_at g u x w (sign.Dial n)).acts NoMessage (close_at w (signed_at g u x w (sign.Dial n)).left)
  goes_after (takes w (item.Piece n octets)) may = stays x.snapshots
  goes_after (takes w (item.Mark n k)) may = marks_goes w k (heeds g u x w n) (is_greater x k) refl
  goes_after (takes w (item.Shut n)) may = moved_goes w (signed_at g u x w (sign.Shut n)).acts NoMessage (close_at w (signed_at g u x w (sign.Shut n)).left)
  goes_after (offers made) may = record { rises = omega arith; records = λ k r. inl r; finishes = λ k part h. inl (left_in k part x.snapshots.queue h) }

pub recordings_go_on : RecordingsGoOn
recordings_go_on g u x y e step = subst (λ (k : Router). GoesOn x.snapshots k.snapshots) (sym step.leaves) (goes_after g u x e step.may)
