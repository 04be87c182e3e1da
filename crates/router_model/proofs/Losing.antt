-- A step in which a session leaves Established loses the recording.
use Rattle.std.proofs.Common.{◌≡◌, ℕ, suc, ◌==◌, ◌<◌, nat_eq, Bool, true, false, ◌&&◌, ◌||◌, cond, List, [], ◌∷◌, ◌++◌, filter, refl, ap, sym, ◌∙◌, arith, subst, Option, None, Some}
use Rattle.std.specs.List.{list_any, All, AllPairs, AllByRecursion}
use Rattle.std.proofs.lemmas.Bool.Decides.{nat_tests}
use Rattle.std.proofs.lemmas.List.Elements.{recursion_from_All}
use Rattle.std.proofs.lemmas.List.Kept.{AllPairs-filter}
use Rattle.prefix_lanes.specs.Bits.{PrefixView}
use Rattle.bgp_codec.specs.declared.update.Update.{Update}
use Rattle.session_fsm.specs.declared.event.FsmEvent.TheVariants.{ManualStart, ManualStop}
use Rattle.link_epoch.specs.declared.link_end.Sign.TheVariants as sign
use Rattle.ranked_policy.specs.Plans.{IsNetwork, numbers}
use Rattle.run_model.specs.Network.{alone, puts, takes, offers}
use Rattle.run_model.specs.Offers.{Lost, Closed}
use Rattle.outbox.specs.declared.item.What.{What}
use Rattle.outbox.specs.declared.item.What.TheVariants as item
use Rattle.snap_marker.specs.Recordings.{Snapshots, closed, lost, joins_channel, ends_channel}
use Rattle.router_model.specs.declared.command.Command.TheVariants as command
use Rattle.router_model.specs.Settings.{Setting, linked, peers}
use Rattle.router_model.specs.Sides.{Side, Draft, AtHand, NoMessage, HasFault, HasUpdate, carried, told, marked, uses, front, at_hand, event_of, without_front, is_up, is_established}
use Rattle.router_model.specs.State.{Router, open_of, rule_of, undecided, unadvertised, best_path}
use Rattle.router_model.specs.Step.{RouterEvent, Obeys, Ticks, Handles, Decides, Advertises, after, seen, close_at, or_first, first_close, keeping, telling_to, telling_of, put_from, records, is_greater, heeds, meets_at, resets_at, second_at, signed_at, handled_at}
use Rattle.router_model.specs.Recording.{IsRecording, LeavingLosesTheRecording, left_of}
use Rattle.router_model.proofs.Leaving.{met_left, handled_left, second_left, signed_left, reset_left}
use Rattle.router_model.proofs.Peers.{is_peer, stays}

-- ---- what a close does to a recording

Loses : Snapshots → Snapshots → (v e s : ℕ) → Type 0
Loses n m v e s = (m.queue ≡ n.queue ++ Lost s v e Closed ∷ []) × (m.unfinished ≡ None)

closes : (n : Snapshots) (v e s : ℕ) → IsRecording n s → Loses n (closed (Some (v, e)) n) v e s
unfolding Loses
closes n v e s r = (ap (λ k. n.queue ++ lost k v e Closed) r.1 ∙ ap (λ k. n.queue ++ Lost k v e Closed ∷ []) r.2, refl)

seen_loses : (b : Bool) (h : AtHand) (w : ℕ) (n m : Snapshots) (v e s : ℕ) → Loses n m v e s → Loses n (seen b h w m) v e s
unfolding Loses
seen_loses true (HasUpdate update) w n m v e s l = (l.0, ap (joins_channel w _) l.1)
seen_loses true NoMessage w n m v e s l = l
seen_loses true (HasFault fault) w n m v e s l = l
seen_loses false h w n m v e s l = l

close_loses : (n : Snapshots) (c : Option (ℕ × ℕ)) (v e s : ℕ) → IsRecording n s → c ≡ Some (v, e) → Loses n (closed c n) v e s
close_loses n c v e s r is = subst (λ k. Loses n (closed k n) v e s) (sym is) (closes n v e s r)

same_number : (v w : ℕ) → (v == w) ≡ true → v ≡ w
same_number v w h = grind (arith, nat_tests, h)

one_loses : (x : Router) (v w s : ℕ) (h : AtHand) (a : Draft) → IsRecording x.snapshots s → (v == w) ≡ true → a.left ≡ Some (x.sides w).link.epoch
    → Loses x.snapshots (seen a.acts h w (closed (close_at w a.left) x.snapshots)) v (x.sides v).link.epoch s
one_loses x v w s h a r is left =
    let same = same_number v w is in
    subst (λ k. Loses x.snapshots (seen a.acts h w (closed (close_at w a.left) x.snapshots)) k (x.sides k).link.epoch s) (sym same)
    (seen_loses a.acts h w x.snapshots (closed (close_at w a.left) x.snapshots) w (x.sides w).link.epoch s
    (close_loses x.snapshots (close_at w a.left) w (x.sides w).link.epoch s r (ap (close_at w) left)))

-- ---- which side left

by_equation : (l : Option ℕ) (b c : Bool) (e : ℕ) → l ≡ left_of b c e → b ≡ true → c ≡ false → l ≡ Some e
by_equation l true false e h p q = h
by_equation l true true e h p q = absurd cc
by_equation l false c e h p q = absurd cc

where_down : (c : Bool) (s t : Side) → is_up s ≡ true → is_up (cond c t s) ≡ false → (c ≡ true) × (is_up t ≡ false)
where_down true s t up down = (refl, down)
where_down false s t up down = absurd cc

handled_down : (c : Bool) (h : AtHand) (s : Side) (a : Draft) → is_up s ≡ true → is_up (cond c (carried h (cond c (without_front s) s) a) (cond c (without_front s) s)) ≡ false → (c ≡ true) × (is_established a.session.state ≡ false)
handled_down true h s a up down = (refl, down)
handled_down false h s a up down = absurd cc

still_up : (s t : Side) → is_up t ≡ is_up s → is_up s ≡ true → is_up t ≡ false → ⊥
still_up s t same up down = (let no : true ≡ false = sym up ∙ (sym same ∙ down) in cc no)

marked_up : (c : Bool) (n : ℕ) (s : Side) → is_up (cond c (marked n s) s) ≡ is_up s
marked_up true n s = refl
marked_up false n s = refl

told_up : (c : Bool) (s : Side) (update : Update) → is_up (cond c (told s update) s) ≡ is_up s
told_up true s update = refl
told_up false s update = refl

put_up : (c : Bool) (s : Side) (i : What) → is_up (cond c (put_from s i) s) ≡ is_up s
put_up true s i = refl
put_up false s i = refl

fed_up : (b c : Bool) (s : Side) (octets : List ℕ) → is_up (cond b (cond c (record s { held = s.held ++ octets }) s) s) ≡ is_up s
fed_up true true s octets = refl
fed_up true false s octets = refl
fed_up false c s octets = refl

kept_up : (x : Router) (q : Option PrefixView) (path : PrefixView → List ℕ) (v : ℕ) → is_up ((keeping x q path).sides v) ≡ is_up (x.sides v)
kept_up x None path v = refl
kept_up x (Some q) path v = refl

telling_up : (x : Router) (w : ℕ) (q : Option PrefixView) (update : PrefixView → Update) (v : ℕ) → is_up ((telling_to x w q update).sides v) ≡ is_up (x.sides v)
telling_up x w None update v = refl
telling_up x w (Some q) update v = told_up (v == w) (x.sides v) (update q)

-- ---- the first of several peers

number_is_itself : (x : ℕ) → nat_eq x x ≡ true
number_is_itself x = grind (arith, nat_tests)

or_behind : (b c : Bool) → c ≡ true → (b || c) ≡ true
or_behind true c h = refl
or_behind false c h = h

pairs_head : (x : ℕ) (xs : List ℕ) → AllPairs (λ a b. a < b) (x ∷ xs) → All (λ y. x < y) xs
pairs_head x xs pairs k d l = pairs 0 (suc k) d (omega arith) (omega (arith, l))

pairs_tail : (x : ℕ) (xs : List ℕ) → AllPairs (λ a b. a < b) (x ∷ xs) → AllPairs (λ a b. a < b) xs
pairs_tail x xs pairs i j d l m = pairs (suc i) (suc j) d (omega (arith, l)) (omega (arith, m))

above_at : (x w y : ℕ) (xs : List ℕ) (b : Bool) → nat_eq w y ≡ b → (b || list_any (nat_eq w) xs) ≡ true → x < y → (list_any (nat_eq w) xs ≡ true → x < w) → x < w
above_at x w y xs true e h l f = (let same : w ≡ y = grind (arith, nat_tests, e) in omega (arith, same, l))
above_at x w y xs false e h l f = f h

above : (x w : ℕ) (xs : List ℕ) → AllByRecursion (λ y. x < y) xs → list_any (nat_eq w) xs ≡ true → x < w
above x w [] a h = absurd cc
above x w (y ∷ ys) a h = above_at x w y ys (nat_eq w y) refl h a.0 (above x w ys a.1)

first_is : (vs : List ℕ) (drafts : ℕ → Draft) (v e : ℕ) → AllPairs (λ a b. a < b) vs → list_any (nat_eq v) vs ≡ true → (drafts v).left ≡ Some e
    → ((w : ℕ) → list_any (nat_eq w) vs ≡ true → w < v → (drafts w).left ≡ None) → first_close vs drafts ≡ Some (v, e)
first_is [] drafts v e rising member left none = absurd cc
first_is (x ∷ xs) drafts v e rising member left none =
    at (nat_eq v x) refl member
    (λ m. first_is xs drafts v e (pairs_tail x xs rising) m left (λ w k l. none w (or_behind (nat_eq w x) (list_any (nat_eq w) xs) k) l))
  where
    at : (b : Bool) → nat_eq v x ≡ b → (b || list_any (nat_eq v) xs) ≡ true → (list_any (nat_eq v) xs ≡ true → first_close xs drafts ≡ Some (v, e))
        → or_first (close_at x (drafts x).left) (first_close xs drafts) ≡ Some (v, e)
    at true h m later =
        let same : x ≡ v = (let k = same_number v x h in sym k) in
        subst (λ i. or_first (close_at i (drafts i).left) (first_close xs drafts) ≡ Some (v, e)) (sym same) (ap (λ l. or_first (close_at v l) (first_close xs drafts)) left)
    at false h m later =
        let low = above x v xs (recursion_from_All (λ y. x < y) xs (pairs_head x xs rising)) m in
        let here : (nat_eq x x || list_any (nat_eq x) xs) ≡ true = ap (λ c. c || list_any (nat_eq x) xs) (number_is_itself x) in
        ap (λ l. or_first (close_at x l) (first_close xs drafts)) (none x here low) ∙ later m

passes_at : (q : ℕ → Bool) (w x : ℕ) (xs : List ℕ) (c b : Bool) → q x ≡ c → nat_eq w x ≡ b → (list_any (nat_eq w) (filter q xs) ≡ true → q w ≡ true) → list_any (nat_eq w) (cond c (x ∷ filter q xs) (filter q xs)) ≡ true → q w ≡ true
passes_at q w x xs true true h k f m = (let same : w ≡ x = same_number w x k in ap q same ∙ h)
passes_at q w x xs true false h k f m = f (rw k at m)
passes_at q w x xs false b h k f m = f m

passes : (q : ℕ → Bool) (w : ℕ) (xs : List ℕ) → list_any (nat_eq w) (filter q xs) ≡ true → q w ≡ true
passes q w [] m = absurd cc
passes q w (x ∷ xs) m = passes_at q w x xs (q x) (nat_eq w x) refl refl (passes q w xs) m

-- ---- event by event

module _ (g : Setting) (net : IsNetwork g.net) (u v s : ℕ) (x : Router) (r : IsRecording x.snapshots s) (link : linked g.net u v ≡ true) (up : is_up (x.sides v) ≡ true) where
  moved_loses : (w : ℕ) (h : AtHand) (a : Draft) → a.left ≡ left_of (is_up (x.sides w)) (is_established a.session.state) (x.sides w).link.epoch
      → is_up (cond (v == w) (carried h (x.sides v) a) (x.sides v)) ≡ false
      → Loses x.snapshots (seen a.acts h w (closed (close_at w a.left) x.snapshots)) v (x.sides v).link.epoch s
  moved_loses w h a left down =
      let d = where_down (v == w) (x.sides v) (carried h (x.sides v) a) up down in
      let here : is_up (x.sides w) ≡ true = subst (λ i. is_up (x.sides i) ≡ true) (same_number v w d.0) up in
      one_loses x v w s h a r d.0 (by_equation a.left (is_up (x.sides w)) (is_established a.session.state) (x.sides w).link.epoch left here d.1)

  all_loses : (drafts : ℕ → Draft) → ((w : ℕ) → (drafts w).left ≡ left_of (is_up (x.sides w)) (is_established (drafts w).session.state) (x.sides w).link.epoch)
      → is_up (cond (linked g.net u v) (carried NoMessage (x.sides v) (drafts v)) (x.sides v)) ≡ false
      → ((w : ℕ) → w < v → linked g.net u w ≡ true → is_up (x.sides w) ≡ true → is_up (cond (linked g.net u w) (carried NoMessage (x.sides w) (drafts w)) (x.sides w)) ≡ true)
      → Loses x.snapshots (closed (first_close (peers g.net u) drafts) x.snapshots) v (x.sides v).link.epoch s
  all_loses drafts left down least =
      let d = where_down (linked g.net u v) (x.sides v) (carried NoMessage (x.sides v) (drafts v)) up down in
      let here = by_equation (drafts v).left (is_up (x.sides v)) (is_established (drafts v).session.state) (x.sides v).link.epoch (left v) up d.1 in
      let rising : AllPairs (λ a b. a < b) (peers g.net u) = AllPairs-filter (λ a b. a < b) (linked g.net u) (numbers g.net.routers) net.plan.rising in
      let member = stays (linked g.net u) v (numbers g.net.routers) link (is_peer g net u v link) in
      close_loses x.snapshots (first_close (peers g.net u) drafts) v (x.sides v).link.epoch s r
      (first_is (peers g.net u) drafts v (x.sides v).link.epoch rising member here (λ w m low. lower w (passes (linked g.net u) w (numbers g.net.routers) m) low (is_up (x.sides w)) refl))
    where
      lower : (w : ℕ) → linked g.net u w ≡ true → w < v → (b : Bool) → is_up (x.sides w) ≡ b → (drafts w).left ≡ None
      lower w near low true is =
          let there : is_established (drafts w).session.state ≡ true = (let k = least w low near is in rw near at k) in
          left w ∙ (ap (λ b. left_of b (is_established (drafts w).session.state) (x.sides w).link.epoch) is ∙ ap (λ b. left_of true b (x.sides w).link.epoch) there)
      lower w near low false is = left w ∙ ap (λ b. left_of b (is_established (drafts w).session.state) (x.sides w).link.epoch) is

  loses : (e : RouterEvent) → is_up ((after g u x e).sides v) ≡ false
      → ((w : ℕ) → w < v → linked g.net u w ≡ true → is_up (x.sides w) ≡ true → is_up ((after g u x e).sides w) ≡ true)
      → Loses x.snapshots (after g u x e).snapshots v (x.sides v).link.epoch s
  loses (alone (Obeys (command.Start w))) down least = moved_loses w NoMessage (meets_at g u x w ManualStart) (met_left (open_of g.net u) (x.sides w) ManualStart) down
  loses (alone (Obeys (command.Stop w))) down least = moved_loses w NoMessage (meets_at g u x w ManualStop) (met_left (open_of g.net u) (x.sides w) ManualStop) down
  loses (alone (Obeys (command.Reset w))) down least =
      let d = where_down (v == w) (x.sides v) (carried NoMessage (x.sides v) (resets_at g u x w)) up down in
      let here : is_up (x.sides w) ≡ true = subst (λ i. is_up (x.sides i) ≡ true) (same_number v w d.0) up in
      one_loses x v w s NoMessage (resets_at g u x w) r d.0 (reset_left (open_of g.net u) (x.sides w) here)
  loses (alone (Obeys (command.Originate q))) down least = absurd (still_up (x.sides v) (x.sides v) refl up down)
  loses (alone (Obeys (command.Withdraw q))) down least = absurd (still_up (x.sides v) (x.sides v) refl up down)
  loses (alone (Obeys (command.Snapshot n))) down least =
      absurd (still_up (x.sides v) ((records g u x n None).sides v) (marked_up (linked g.net u v && is_up (x.sides v)) n (x.sides v)) up down)
  loses (alone (Obeys command.Restart)) down least = all_loses (λ w. meets_at g u x w ManualStop) (λ w. met_left (open_of g.net u) (x.sides w) ManualStop) down least
  loses (alone Ticks) down least = all_loses (second_at g u x) (λ w. second_left (open_of g.net u) (x.sides w)) down least
  loses (alone (Handles w)) down least =
      let d = handled_down (v == w) (at_hand (front (rule_of g.net u w) (x.sides w).held)) (x.sides v) (handled_at g u x w) up down in
      let here : is_up (x.sides w) ≡ true = subst (λ i. is_up (x.sides i) ≡ true) (same_number v w d.0) up in
      one_loses x v w s (at_hand (front (rule_of g.net u w) (x.sides w).held)) (handled_at g u x w) r d.0
      (by_equation (handled_at g u x w).left (is_up (x.sides w)) (is_established (handled_at g u x w).session.state) (x.sides w).link.epoch
      (handled_left (open_of g.net u) (at_hand (front (rule_of g.net u w) (x.sides w).held)) (x.sides w) (event_of (front (rule_of g.net u w) (x.sides w).held))) here d.1)
  loses (alone Decides) down least = absurd (still_up (x.sides v) ((after g u x (alone Decides)).sides v) (kept_up x (undecided g u x) (best_path g u x) v) up down)
  loses (alone (Advertises w)) down least = absurd (still_up (x.sides v) ((after g u x (alone (Advertises w))).sides v) (telling_up x w (unadvertised g u x w) (telling_of g u x) v) up down)
  loses (puts w i) down least = absurd (still_up (x.sides v) ((after g u x (puts w i)).sides v) (put_up (v == w) (x.sides v) i) up down)
  loses (takes w (item.Dial n)) down least = moved_loses w NoMessage (signed_at g u x w (sign.Dial n)) (signed_left (open_of g.net u) (x.sides w) (sign.Dial n)) down
  loses (takes w (item.Piece n octets)) down least =
      absurd (still_up (x.sides v) ((after g u x (takes w (item.Piece n octets))).sides v) (fed_up (v == w) (uses (x.sides v).link n) (x.sides v) octets) up down)
  loses (takes w (item.Mark n k)) down least =
      absurd (still_up (x.sides v) ((after g u x (takes w (item.Mark n k))).sides v)
      (marking_up (heeds g u x w n) (is_greater x k) (ends_channel (peers g.net u) w k x.snapshots.unfinished x.snapshots)) up down)
    where
      marking_up : (b c : Bool) (m : Snapshots) → is_up ((cond b (cond c (records g u x k (Some w)) (record x { snapshots = m })) x).sides v) ≡ is_up (x.sides v)
      marking_up true true m = marked_up (linked g.net u v && is_up (x.sides v)) k (x.sides v)
      marking_up true false m = refl
      marking_up false c m = refl
  loses (takes w (item.Shut n)) down least = moved_loses w NoMessage (signed_at g u x w (sign.Shut n)) (signed_left (open_of g.net u) (x.sides w) (sign.Shut n)) down
  loses (offers made) down least = absurd (still_up (x.sides v) (x.sides v) refl up down)

pub leaving_loses : LeavingLosesTheRecording
unfolding Loses
leaving_loses g net u v s x y e step r l =
    let down : is_up ((after g u x e).sides v) ≡ false = ap (λ (k : Router). is_up (k.sides v)) (sym step.leaves) ∙ l.is in
    subst (λ (k : Router). Loses x.snapshots k.snapshots v (x.sides v).link.epoch s) (sym step.leaves)
    (loses g net u v s x r l.linked_peer l.was e down (λ w low near is. ap (λ (k : Router). is_up (k.sides w)) (sym step.leaves) ∙ l.least w low near is))
