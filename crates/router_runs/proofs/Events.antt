-- Each event of a router, on its side towards one peer.
use Rattle.std.proofs.Common.{◌≡◌, ℕ, ◌==◌, Bool, true, false, ◌&&◌, cond, List, [], ◌∷◌, ◌++◌, refl, ap, sym, ◌∙◌, subst, Option, None, Some, inl, inr, ◌⊎◌}
use Rattle.std.specs.Prelude.{Ok, Result, if◌then◌else◌}
use Rattle.std.specs.List.{find}
use mathlib.Core.List.{IsPrefix}
use Rattle.std.proofs.lemmas.List.{append-nil}
use Rattle.prefix_lanes.specs.Bits.{PrefixView}
use Rattle.bgp_codec.specs.declared.message.Message.{Message}
use Rattle.bgp_codec.specs.declared.message.Message.TheVariants.{OpenMsg, UpdateMsg}
use Rattle.bgp_codec.specs.declared.fault.Fault.{Fault}
use Rattle.bgp_codec.specs.declared.open.Open.{Open}
use Rattle.bgp_codec.specs.declared.update.Update.{Update}
use Rattle.bgp_codec.specs.Header.{header_fault}
use Rattle.bgp_framing.specs.Held.{is_waiting}
use Rattle.link_epoch.specs.declared.link_end.Sign.TheVariants as sign
use Rattle.session_fsm.specs.declared.event.FsmEvent.TheVariants.{ManualStart, ManualStop}
use Rattle.ranked_policy.specs.Plans.{IsNetwork}
use Rattle.run_model.specs.Links.{Dial, Says, Mark, Shut, End}
use Rattle.run_model.specs.Octets.{Passing, Control, octets_of, passing}
use Rattle.run_model.specs.Network.{alone, puts, takes, offers, taken_from}
use Rattle.router_model.specs.declared.command.Command.{Command}
use Rattle.router_model.specs.declared.command.Command.TheVariants as command
use Rattle.outbox.specs.declared.item.What.{What}
use Rattle.outbox.specs.declared.item.What.TheVariants as item
use Rattle.router_model.specs.Sides.{rest_behind, Side, Draft, AtHand, NoMessage, at_hand, front, carried, draft_message, without_front, fed, uses, told, marked, is_up}
use Rattle.snap_marker.specs.Recordings.{ends_channel}
use Rattle.router_model.specs.Settings.{identifier, Setting, linked, peers, prefixes}
use Rattle.router_model.specs.State.{Router, rule_of, unadvertised, undecided, best_path, is_unadvertised, asn_field, params_of}
use Rattle.router_model.specs.Step.{overflows_taking, RouterEvent, Obeys, Ticks, Handles, Decides, Advertises, May, after, says, says_where, says_update, says_by, says_of_taken, overflows, overflows_by, meets_at, resets_at, second_at, signed_at, handled_at, heeds, is_greater, records, keeping, telling_to, telling_of, put_from, obeyed, taken}
use Rattle.outbox.specs.Items.{passes}
use Rattle.router_model.specs.Laws.{all_passes}
use Rattle.router_runs.specs.Runs.{written_in}
use Rattle.router_runs.specs.Reading.{sides_after, model_side, phase_of, state_of}
use Rattle.router_runs.specs.Doing.{Stands, Does, Row}
use Rattle.router_runs.specs.Kept.{Advances}
use Rattle.router_runs.proofs.Doing.{no_event, then_does}
use Rattle.router_runs.proofs.Rows.{own_event}
use Rattle.router_runs.proofs.Resetting.{reset_event}
use Rattle.router_runs.proofs.Handling.{handled_event}
use Rattle.router_runs.proofs.Signing.{dial_event, shut_event, mark_taken, mark_event, told_event}
use Rattle.router_runs.proofs.Stepping.{Before, own_end, same_number, swapped, plus_nothing, idles, where_row, by_does, stop_event, second_event, Ready, decides, ready, then_takes, where_taken}
use Rattle.router_runs.proofs.Octets.{fed_same, found, front_ok, rest_ok, cleared, holds_handled, holds_piece}
use Rattle.router_runs.proofs.Parting.{none_passes}
use Rattle.router_runs.proofs.Lower.{Laws}

module _ (laws : Laws) where
  -- ---- a message is handled

  -- what stands in front reads as a message
  pub front_reads : (g : Setting) (u v : ℕ) (s : Side) (before : List (Passing Message)) (a b : End Message) → Before laws g v s before a b → IsPrefix before (passing (written_in g) b.appended) → is_waiting s.held ≡ true
      → (m : Message) × (front (rule_of g.net u v) s.held ≡ Ok m)
  front_reads g u v s before a b x is waits = elim (decides laws s.link.phase) [
    | inr n ↦ absurd (let none : is_waiting s.held ≡ false = ap is_waiting (x.holds.apart n) in cc (waits, none))
    | inl j ↦ (
        let there : IsPrefix (passing (written_in g) a.taken ++ octets_of s.link.epoch s.held) (passing (written_in g) b.appended) =
        subst (λ w. IsPrefix w (passing (written_in g) b.appended)) (x.holds.passed ∙ ap (λ w. passing (written_in g) a.taken ++ w) (x.holds.joined j)) is in
        let f = found laws g v s.link.epoch s.held a.taken b.appended x.stands.mine.front x.good there waits in
        (f.message, ap (front (rule_of g.net u v)) f.is ∙ front_ok laws g u v f.message f.rest f.good))
  ]

  handles : (g : Setting) (u v : ℕ) (o : Open) (s : Side) (before : List (Passing Message)) (a b : End Message) → Before laws g v s before a b → IsPrefix before (passing (written_in g) b.appended) → is_waiting s.held ≡ true
      → Advances g s (carried (at_hand (front (rule_of g.net u v) s.held)) (without_front s) (draft_message (OpenMsg o) (front (rule_of g.net u v) s.held) s)) (draft_message (OpenMsg o) (front (rule_of g.net u v) s.held) s).says before [] a b
  handles g u v o s before a b x is waits = elim (decides laws s.link.phase) [
    | inr n ↦ absurd (let none : is_waiting s.held ≡ false = ap is_waiting (x.holds.apart n) in cc (waits, none))
    | inl j ↦ (
        let there : IsPrefix (passing (written_in g) a.taken ++ octets_of s.link.epoch s.held) (passing (written_in g) b.appended) =
        subst (λ w. IsPrefix w (passing (written_in g) b.appended)) (x.holds.passed ∙ ap (λ w. passing (written_in g) a.taken ++ w) (x.holds.joined j)) is in
        let f = found laws g v s.link.epoch s.held a.taken b.appended x.stands.mine.front x.good there waits in
        let m : Message = f.message in
        let reads : front (rule_of g.net u v) s.held ≡ Ok m = ap (front (rule_of g.net u v)) f.is ∙ front_ok laws g u v m f.rest f.good in
        let left : (without_front s).held ≡ f.rest = ap (λ (w : List ℕ). rest_behind (header_fault w) w) f.is ∙ rest_ok laws g v m f.rest f.good in
        let h = handled_event laws m o s a b x.stands j f.next in
        subst (λ (r : Result Message Fault). Advances g s (carried (at_hand r) (without_front s) (draft_message (OpenMsg o) r s)) (draft_message (OpenMsg o) r s).says before [] a b) (sym reads)
        (record {
          past = Says s.link.epoch m ∷ [];
          does = h.does;
          holds = plus_nothing laws g (carried (at_hand (Ok m)) (without_front s) (draft_message (OpenMsg o) (Ok m) s)) before (sides_after (model_side s a) h.does.events).end (holds_handled laws g s m (draft_message (OpenMsg o) (Ok m) s) f.rest before a b x.holds j f.is left h);
        }))
  ]

  where_handled : (g : Setting) (v : ℕ) (c : Bool) (h : AtHand) (s : Side) (d : Draft) (before : List (Passing Message)) (a b : End Message) → Before laws g v s before a b → (c ≡ true → Advances g s (carried h (without_front s) d) d.says before [] a b)
      → Advances g s (cond c (carried h (cond c (without_front s) s) d) (cond c (without_front s) s)) (says_where c d.says) before [] a b
  where_handled g v true h s d before a b x next = next refl
  where_handled g v false h s d before a b x next = idles laws g v s s before a b x refl refl refl refl refl

  -- ---- markers, and an UPDATE told

  up_by : (p q : Bool) → (p && q) ≡ true → q ≡ true
  up_by true q h = h
  up_by false q h = absurd (cc h)

  where_marked : (c : Bool) (n : ℕ) (s : Side) (a b : End Message) → (c ≡ true → is_up s ≡ true) → Stands s a b → Does s (cond c (marked n s) s) (says_where c (Mark s.link.epoch n ∷ [])) [] a b
  where_marked true n s a b up x = mark_event laws s n a b x (up refl)
  where_marked false n s a b up x = no_event laws s s a b x refl refl refl refl

  marked_keeps : (c : Bool) (n : ℕ) (s : Side) → ((cond c (marked n s) s).link ≡ s.link) × ((cond c (marked n s) s).held ≡ s.held)
  marked_keeps true n s = (refl, refl)
  marked_keeps false n s = (refl, refl)

  marks : (g : Setting) (v : ℕ) (c : Bool) (n : ℕ) (s : Side) (before : List (Passing Message)) (a b : End Message) → (c ≡ true → is_up s ≡ true) → Before laws g v s before a b
      → Advances g s (cond c (marked n s) s) (says_where c (Mark s.link.epoch n ∷ [])) before [] a b
  marks g v c n s before a b up x =
      by_does laws g v s (cond c (marked n s) s) (says_where c (Mark s.link.epoch n ∷ [])) before a b x (sym (marked_keeps c n s).0) (sym (marked_keeps c n s).1) (where_marked c n s a b up x.stands)

  -- a router that begins by a marker, or not, seen from one side
  pub marked_side : (g : Setting) (u v w n : ℕ) (x : Router) (p q : Bool)
      → ((cond p (cond q (records g u x n (Some w)) (record x { snapshots = ends_channel (peers g.net u) w n x.snapshots.unfinished x.snapshots })) x).sides v ≡ cond (p && q) (cond (linked g.net u v && is_up (x.sides v)) (marked n (x.sides v)) (x.sides v)) (x.sides v))
  marked_side g u v w n x true true = refl
  marked_side g u v w n x true false = refl
  marked_side g u v w n x false q = refl

  marker_does : (p c : Bool) (n : ℕ) (s : Side) (a b : End Message) → (c ≡ true → is_up s ≡ true) → Stands s a b → Does s (cond p (cond c (marked n s) s) s) (says_where p (says_where c (Mark s.link.epoch n ∷ []))) [] a b
  marker_does true c n s a b up x = where_marked c n s a b up x
  marker_does false c n s a b up x = no_event laws s s a b x refl refl refl refl

  marker_keeps : (p c : Bool) (n : ℕ) (s : Side) → ((cond p (cond c (marked n s) s) s).link ≡ s.link) × ((cond p (cond c (marked n s) s) s).held ≡ s.held)
  marker_keeps true c n s = marked_keeps c n s
  marker_keeps false c n s = (refl, refl)

  -- the marker is taken from this peer, or from another
  takes_marker : (g : Setting) (v : ℕ) (t p c : Bool) (e n : ℕ) (s : Side) (before : List (Passing Message)) (a b : End Message) → (c ≡ true → is_up s ≡ true) → (k : Before laws g v s before a b) → (t ≡ true → Ready laws g s (Mark e n) k.holds.rest a b)
      → Advances g s (cond p (cond c (marked n s) s) s) (says_where p (says_where c (Mark s.link.epoch n ∷ []))) before (all_passes (if t then item.Mark e n ∷ [] else [])) a b
  takes_marker g v true p c e n s before a b up k there =
      let r = there refl in
      then_takes laws g v s (cond p (cond c (marked n s) s) s) before a b (Mark e n) (says_where p (says_where c (Mark s.link.epoch n ∷ []))) k r refl ((marker_keeps p c n s).1 ∙ r.none)
      (λ z y next. then_does laws s s (cond p (cond c (marked n s) s) s) [] (Mark e n ∷ []) (says_where p (says_where c (Mark s.link.epoch n ∷ []))) [] z b (inl refl) (mark_taken laws s e n z b y next) (λ z' appends takes y'. marker_does p c n s z' b up y'))
  takes_marker g v false p c e n s before a b up k there =
      by_does laws g v s (cond p (cond c (marked n s) s) s) (says_where p (says_where c (Mark s.link.epoch n ∷ []))) before a b k (sym (marker_keeps p c n s).0) (sym (marker_keeps p c n s).1) (marker_does p c n s a b up k.stands)

  pub untold_up : (l c : Bool) (f : Option PrefixView) (q : PrefixView) → cond (l && c) f None ≡ Some q → c ≡ true
  untold_up true true f q h = refl
  untold_up true false f q h = absurd (cc h)
  untold_up false c f q h = absurd (cc h)

  -- an UPDATE is told, to this peer or to another
  told_to : (g : Setting) (v : ℕ) (c : Bool) (u : Update) (s : Side) (before : List (Passing Message)) (a b : End Message) → Before laws g v s before a b → (c ≡ true → is_up s ≡ true)
      → Advances g s (cond c (told s u) s) (says_where c (Says s.link.epoch (UpdateMsg u) ∷ [])) before [] a b
  told_to g v true u s before a b x up = by_does laws g v s (told s u) (Says s.link.epoch (UpdateMsg u) ∷ []) before a b x refl refl (told_event laws s u a b x.stands (up refl))
  told_to g v false u s before a b x up = idles laws g v s s before a b x refl refl refl refl refl

  none_said : (c : Bool) → says_where c [] ≡ []
  none_said true = refl
  none_said false = refl

  advertises : (g : Setting) (u v w : ℕ) (x : Router) (q : Option PrefixView) (before : List (Passing Message)) (a b : End Message) → Before laws g v (x.sides v) before a b → ((p : PrefixView) → q ≡ Some p → is_up (x.sides w) ≡ true)
      → Advances g (x.sides v) ((telling_to x w q (telling_of g u x)).sides v) (says_where (v == w) (says_update g u x v q)) before [] a b
  advertises g u v w x None before a b k up = subst (λ n. Advances g (x.sides v) (x.sides v) n before [] a b) (sym (none_said (v == w))) (idles laws g v (x.sides v) (x.sides v) before a b k refl refl refl refl refl)
  advertises g u v w x (Some q) before a b k up =
      told_to g v (v == w) (telling_of g u x q) (x.sides v) before a b k (λ h. ap (λ i. is_up (x.sides i)) (same_number laws v w h) ∙ up q refl)

  -- ---- octets, and puts

  feeds : (g : Setting) (v : ℕ) (c : Bool) (e : ℕ) (octets : List ℕ) (s : Side) (before : List (Passing Message)) (a b : End Message) → Before laws g v s before a b → is_waiting s.held ≡ false ⊎ (c ≡ false)
      → IsPrefix (before ++ all_passes (if c then item.Piece e octets ∷ [] else [])) (passing (written_in g) b.appended)
      → Advances g s (cond c (fed s e octets) s) [] before (all_passes (if c then item.Piece e octets ∷ [] else [])) a b
  feeds g v false e octets s before a b x waits is = idles laws g v s s before a b x refl refl refl refl refl
  feeds g v true e octets s before a b x waits is =
      let quiet : is_waiting s.held ≡ false = elim waits [ inl h ↦ h | inr h ↦ absurd (cc h) ] in
      let there : IsPrefix (before ++ octets_of e octets) (passing (written_in g) b.appended) = subst (λ w. IsPrefix (before ++ w) (passing (written_in g) b.appended)) (append-nil (octets_of e octets)) is in
      let l = fed_same laws (uses s.link e) s octets in
      let m = fed_more (uses s.link e) s octets in
      let d : Does s (fed s e octets) [] [] a b = no_event laws s (fed s e octets) a b x.stands (ap state_of (sym m.0)) (sym l.0) (sym m.1) (sym m.2) in
      let h = holds_piece laws g v s e octets before a b x.stands (own_end laws s a b x.own x.stands) (λ j. x.stands.reads.phase ∙ ap phase_of j) x.good quiet x.holds there in
      record {
        past = [];
        does = d;
        holds = record {
          rest = h.rest;
          only = h.only;
          passed = ap (λ w. before ++ w) (append-nil (octets_of e octets)) ∙ (h.passed ∙ ap (λ i. passing (written_in g) i ++ h.rest) (sym (d.takes ∙ append-nil a.taken)));
          joined = h.joined;
          apart = h.apart;
        };
      }
    where
      fed_more : (k : Bool) (r : Side) (os : List ℕ) → (((cond k (record r { held = r.held ++ os }) r).session.state ≡ r.session.state) × ((cond k (record r { held = r.held ++ os }) r).acted ≡ r.acted) × ((cond k (record r { held = r.held ++ os }) r).sent ≡ r.sent))
      fed_more true r os = (refl, refl, refl)
      fed_more false r os = (refl, refl, refl)

  puts_one : (g : Setting) (v : ℕ) (c : Bool) (i : What) (s : Side) (before : List (Passing Message)) (a b : End Message) → Before laws g v s before a b → Advances g s (cond c (put_from s i) s) [] before [] a b
  puts_one g v true i s before a b x = idles laws g v s (put_from s i) before a b x refl refl refl refl refl
  puts_one g v false i s before a b x = idles laws g v s s before a b x refl refl refl refl refl

  pub keeps_sides : (x : Router) (q : Option PrefixView) (path : PrefixView → List ℕ) (v : ℕ) → (keeping x q path).sides v ≡ x.sides v
  keeps_sides x None path v = refl
  keeps_sides x (Some q) path v = refl

  -- ---- each event

  abbrev own_open : Setting → ℕ → Open
  own_open g u = record { asn = asn_field u; hold = g.net.settings.hold; id = identifier g.net.routers u; params = params_of g.net.settings.width u }

  -- a peer of the same number
  at_peer : (P : ℕ → Type 0) (v w : ℕ) → (v == w) ≡ true → P v → P w
  at_peer P v w h x = subst P (same_number laws v w h) x

  module _ (g : Setting) (net : IsNetwork g.net) (u v : ℕ) (x : Router) (before : List (Passing Message)) (a b : End Message) (linked_v : linked g.net u v ≡ true) (k : Before laws g v (x.sides v) before a b) where
    commanded : (c : Command) → overflows_by g u x c ≡ false → IsPrefix before (passing (written_in g) b.appended) → Advances g (x.sides v) ((obeyed g u x c).sides v) (says_by g u x c v) before [] a b
    commanded (command.Start w) over is =
        where_row laws g v (v == w) (x.sides v) (meets_at g u x w ManualStart) before a b k is
        (λ h. at_peer (λ i. (meets_at g u x i ManualStart).overflows ≡ false → Row (x.sides v) NoMessage (meets_at g u x i ManualStart) a b) v w h (λ fits'. own_event laws ManualStart tt (own_open g u) (x.sides v) a b k.stands fits') over)
    commanded (command.Stop w) over is =
        where_row laws g v (v == w) (x.sides v) (meets_at g u x w ManualStop) before a b k is
        (λ h. at_peer (λ i. Row (x.sides v) NoMessage (meets_at g u x i ManualStop) a b) v w h (stop_event laws (own_open g u) (x.sides v) a b k.stands))
    commanded (command.Reset w) over is =
        where_row laws g v (v == w) (x.sides v) (resets_at g u x w) before a b k is
        (λ h. at_peer (λ i. (resets_at g u x i).overflows ≡ false → Row (x.sides v) NoMessage (resets_at g u x i) a b) v w h (λ fits'. reset_event laws (own_open g u) (x.sides v) a b k.stands k.own fits') over)
    commanded (command.Originate q) over is = idles laws g v (x.sides v) (x.sides v) before a b k refl refl refl refl refl
    commanded (command.Withdraw q) over is = idles laws g v (x.sides v) (x.sides v) before a b k refl refl refl refl refl
    commanded (command.Snapshot s) over is = marks g v (linked g.net u v && is_up (x.sides v)) s (x.sides v) before a b (λ h. up_by (linked g.net u v) (is_up (x.sides v)) h) k
    commanded command.Restart over is =
        where_row laws g v (linked g.net u v) (x.sides v) (meets_at g u x v ManualStop) before a b k is (λ h. stop_event laws (own_open g u) (x.sides v) a b k.stands)

    -- items
    items : (w : ℕ) (i : What) → is_waiting (x.sides w).held ≡ false → overflows_taking g u x w i ≡ false → IsPrefix (before ++ all_passes (if v == w then i ∷ [] else [])) (passing (written_in g) b.appended)
        → Advances g (x.sides v) ((taken g u x w i).sides v) (says_of_taken g u x w i v) before (all_passes (if v == w then i ∷ [] else [])) a b
    items w (item.Dial e) waits over is =
        where_taken laws g v (v == w) (item.Dial e) (Dial e) (x.sides v) (carried NoMessage (x.sides v) (signed_at g u x w (sign.Dial e))) (signed_at g u x w (sign.Dial e)).says before a b refl k
        (λ h. at_peer
        (λ i. (signed_at g u x i (sign.Dial e)).overflows ≡ false → is_waiting (x.sides i).held ≡ false → Advances g (x.sides v) (carried NoMessage (x.sides v) (signed_at g u x i (sign.Dial e))) (signed_at g u x i (sign.Dial e)).says before (Control (Dial e) ∷ []) a b)
        v w h
        (λ fits' quiet.
        (let r = ready laws g v (x.sides v) before a b (Dial e) k quiet (there (v == w) h (item.Dial e) is) in
        then_takes laws g v (x.sides v) (carried NoMessage (x.sides v) (signed_at g u x v (sign.Dial e))) before a b (Dial e) (signed_at g u x v (sign.Dial e)).says k r refl (cleared laws (signed_at g u x v (sign.Dial e)).drops (x.sides v).held r.none)
        (λ c y next. dial_event laws (own_open g u) (x.sides v) e c b y next fits'))) over waits)
      where
        there : (c : Bool) → c ≡ true → (i : What) → IsPrefix (before ++ all_passes (if c then i ∷ [] else [])) (passing (written_in g) b.appended) → IsPrefix (before ++ passes i) (passing (written_in g) b.appended)
        there true h i p = subst (λ l. IsPrefix (before ++ l) (passing (written_in g) b.appended)) (append-nil (passes i)) p
        there false h i p = absurd (cc h)
    items w (item.Piece e octets) waits over is =
        feeds g v (v == w) e octets (x.sides v) before a b k (by_test (v == w) refl) is
      where
        by_test : (c : Bool) → (v == w) ≡ c → is_waiting (x.sides v).held ≡ false ⊎ (c ≡ false)
        by_test true h = inl (ap (λ i. is_waiting (x.sides i).held) (same_number laws v w h) ∙ waits)
        by_test false h = inr refl
    items w (item.Mark e s) waits over is =
        subst (λ (t : Side). Advances g (x.sides v) t (says_of_taken g u x w (item.Mark e s) v) before (all_passes (if v == w then item.Mark e s ∷ [] else [])) a b) (sym (marked_side g u v w s x (heeds g u x w e) (is_greater x s)))
        (takes_marker g v (v == w) (heeds g u x w e && is_greater x s) (linked g.net u v && is_up (x.sides v)) e s (x.sides v) before a b (λ h. up_by (linked g.net u v) (is_up (x.sides v)) h) k
        (λ h. at_peer (λ i. is_waiting (x.sides i).held ≡ false → Ready laws g (x.sides v) (Mark e s) k.holds.rest a b) v w h (λ quiet. ready laws g v (x.sides v) before a b (Mark e s) k quiet (there (v == w) h (item.Mark e s) is)) waits))
      where
        there : (c : Bool) → c ≡ true → (i : What) → IsPrefix (before ++ all_passes (if c then i ∷ [] else [])) (passing (written_in g) b.appended) → IsPrefix (before ++ passes i) (passing (written_in g) b.appended)
        there true h i p = subst (λ l. IsPrefix (before ++ l) (passing (written_in g) b.appended)) (append-nil (passes i)) p
        there false h i p = absurd (cc h)
    items w (item.Shut e) waits over is =
        where_taken laws g v (v == w) (item.Shut e) (Shut e) (x.sides v) (carried NoMessage (x.sides v) (signed_at g u x w (sign.Shut e))) (signed_at g u x w (sign.Shut e)).says before a b refl k
        (λ h. at_peer
        (λ i. is_waiting (x.sides i).held ≡ false → Advances g (x.sides v) (carried NoMessage (x.sides v) (signed_at g u x i (sign.Shut e))) (signed_at g u x i (sign.Shut e)).says before (Control (Shut e) ∷ []) a b)
        v w h
        (λ quiet.
        (let r = ready laws g v (x.sides v) before a b (Shut e) k quiet (there (v == w) h (item.Shut e) is) in
        then_takes laws g v (x.sides v) (carried NoMessage (x.sides v) (signed_at g u x v (sign.Shut e))) before a b (Shut e) (signed_at g u x v (sign.Shut e)).says k r refl (cleared laws (signed_at g u x v (sign.Shut e)).drops (x.sides v).held r.none)
        (λ c y next. shut_event laws (own_open g u) (x.sides v) e c b (own_end laws (x.sides v) c b k.own y) y next))) waits)
      where
        there : (c : Bool) → c ≡ true → (i : What) → IsPrefix (before ++ all_passes (if c then i ∷ [] else [])) (passing (written_in g) b.appended) → IsPrefix (before ++ passes i) (passing (written_in g) b.appended)
        there true h i p = subst (λ l. IsPrefix (before ++ l) (passing (written_in g) b.appended)) (append-nil (passes i)) p
        there false h i p = absurd (cc h)

    alone_is : IsPrefix (before ++ []) (passing (written_in g) b.appended) → IsPrefix before (passing (written_in g) b.appended)
    alone_is is = subst (λ w. IsPrefix w (passing (written_in g) b.appended)) (append-nil before) is

    -- what the event leaves of the side is a step of it
    pub step_side : (e : RouterEvent) → May g u x e → overflows g u x e ≡ false → IsPrefix (before ++ all_passes (taken_from v e)) (passing (written_in g) b.appended)
        → Advances g (x.sides v) ((after g u x e).sides v) (says g u x e v) before (all_passes (taken_from v e)) a b
    step_side (alone (Obeys c)) may over is = commanded c over (alone_is is)
    step_side (alone Ticks) may over is =
        where_row laws g v (linked g.net u v) (x.sides v) (second_at g u x v) before a b k (alone_is is)
        (λ h. second_event laws (own_open g u) (x.sides v) a b k.stands
        (none_passes (λ i. (second_at g u x i).overflows) (peers g.net u) v over (laws.links g.net net u v linked_v).peer))
    step_side (alone (Handles w)) may over is =
        where_handled g v (v == w) (at_hand (front (rule_of g.net u w) (x.sides w).held)) (x.sides v) (handled_at g u x w) before a b k
        (λ h. at_peer
        (λ i. is_waiting (x.sides i).held ≡ true → Advances g (x.sides v) (carried (at_hand (front (rule_of g.net u i) (x.sides i).held)) (without_front (x.sides v)) (handled_at g u x i)) (handled_at g u x i).says before [] a b)
        v w h (λ waits. handles g u v (own_open g u) (x.sides v) before a b k (alone_is is) waits) may.1)
    step_side (alone Decides) may over is =
        subst (λ (t : Side). Advances g (x.sides v) t [] before [] a b) (sym (keeps_sides x (undecided g u x) (best_path g u x) v)) (idles laws g v (x.sides v) (x.sides v) before a b k refl refl refl refl refl)
    step_side (alone (Advertises w)) may over is =
        advertises g u v w x (unadvertised g u x w) before a b k (λ p h. untold_up (linked g.net u w) (is_up (x.sides w)) (find (is_unadvertised g u x w) (prefixes g)) p h)
    step_side (puts w i) may over is = puts_one g v (v == w) i (x.sides v) before a b k
    step_side (takes w i) may over is =
        let turn : all_passes (if v == w then i ∷ [] else []) ≡ all_passes (if w == v then i ∷ [] else []) = ap (λ c. all_passes (if c then i ∷ [] else [])) (swapped laws v w) in
        subst (λ l. Advances g (x.sides v) ((taken g u x w i).sides v) (says_of_taken g u x w i v) before l a b) turn
        (items w i may.1 over (subst (λ l. IsPrefix (before ++ l) (passing (written_in g) b.appended)) (sym turn) is))
    step_side (offers made) may over is = idles laws g v (x.sides v) (x.sides v) before a b k refl refl refl refl refl
