-- Each event of a router's sessions, as events of the laws of runs.
use Rattle.std.proofs.Common.{◌≡◌, ℕ, ◌==◌, nat_eq, Bool, true, false, ◌&&◌, ◌||◌, not, cond, List, [], ◌∷◌, ◌++◌, refl, ap, sym, ◌∙◌, arith, Option, None, Some, inl, inr}
use Rattle.std.specs.Prelude.{map, if◌then◌else◌, Ok}
use Rattle.std.specs.List.{list_any}
use mathlib.Core.List.{IsPrefix}
use Rattle.std.proofs.lemmas.List.{append-nil}
use Rattle.std.proofs.lemmas.Bool.Decides.{nat_tests}
use Rattle.bgp_codec.specs.declared.message.Message.{Message}
use Rattle.bgp_codec.specs.declared.message.Message.TheVariants.{UpdateMsg}
use Rattle.bgp_codec.specs.declared.update.Update.{Update}
use Rattle.link_epoch.specs.declared.link_end.Sign.TheVariants as sign
use Rattle.session_fsm.specs.declared.event.FsmEvent.TheVariants.{ManualStart, ManualStop}
use Rattle.ranked_policy.specs.Plans.{IsNetwork}
use Rattle.run_model.specs.Links.{Entry, End}
use Rattle.run_model.specs.Octets.{Passing, octets_of, passing}
use Rattle.run_model.specs.Network.{alone, puts, takes, offers, taken_from}
use Rattle.router_model.specs.declared.command.Command.TheVariants as command
use Rattle.outbox.specs.declared.item.What.{What}
use Rattle.outbox.specs.declared.item.What.TheVariants as item
use Rattle.outbox.specs.Items.{passes}
use Rattle.snap_marker.specs.Recordings.{Recording, Snapshots, closed, joins_channel, with_message}
use Rattle.run_model.specs.Routes.{Command, router_after}
use Rattle.router_model.specs.Settings.{Setting, linked, peers, identifier}
use Rattle.router_model.specs.Sides.{Side, Draft, AtHand, NoMessage, HasFault, HasUpdate, at_hand, event_of, front, carried, acted_with, without_front, fed, uses, is_up, is_established}
use Rattle.router_model.specs.State.{Router, rule_of, open_of, asn_field, params_of}
use Rattle.router_model.specs.Laws.{all_passes}
use Rattle.router_model.specs.Recording.{left_of}
use Rattle.router_model.specs.Step.{RouterEvent, Obeys, Ticks, Handles, Decides, Advertises, May, after, says, overflows, moved, all_moved, seen, with_side, put_from, close_at, first_close, or_first, meets_at, resets_at, second_at, signed_at, handled_at}
use Rattle.router_runs.specs.Runs.{written_in}
use Rattle.router_runs.specs.Model.{network_of}
use Rattle.router_runs.specs.Snapshots.{IsCommand}
use Rattle.router_runs.specs.Mirrors.{ModelRouter, ModelEvent, is_table_command, ReadsRouter}
use Rattle.router_runs.proofs.Stepping.{Before, same_number}
use Rattle.router_runs.proofs.Events.{step_side}
use Rattle.router_runs.proofs.Resetting.{reset_down}
use Rattle.router_runs.proofs.Quieting.{IsOfSessions, says_quietly, PassesNoMark, octets_pass_none}
use Rattle.router_runs.proofs.Octets.{only_octets}
use Rattle.router_runs.proofs.Using.{Hears}
use Rattle.router_runs.proofs.Turning.{MayTurn, first_left}
use Rattle.router_runs.proofs.Hearing.{HearsIn, HearsAll, HearsUpdates, one_first}
use Rattle.router_runs.proofs.Locally.{LocalStep, sessions_step, snapshots_like, peer_linked}
use Rattle.router_runs.proofs.Going.{then_goes, one_goes}
use Rattle.router_runs.proofs.Lower.{Laws}

-- ---- what is heard

no_more : (c : Bool) (ms : List Message) → ms ≡ ms ++ cond c (map UpdateMsg []) []
no_more true ms = sym (append-nil ms)
no_more false ms = sym (append-nil ms)

quiet_heard : (z : Snapshots) → HearsUpdates (λ v. []) z z
quiet_heard z = record { last = refl; queue = refl; unfinished = at z.unfinished }
  where
    at : (o : Option Recording) → HearsAll (λ v. []) o o
    at None = tt
    at (Some r) = record { number = refl; waits = refl; kept = refl; originated = refl; incarnation = refl; pending = refl; channel = λ v. no_more (r.waits v) (r.part.channel v) }

seen_none : (b : Bool) (w : ℕ) (z : Snapshots) → HearsUpdates (λ v. []) z (seen b NoMessage w z)
seen_none true w z = quiet_heard z
seen_none false w z = quiet_heard z

abbrev heard_at : Bool → AtHand → ℕ → ℕ → List Update
heard_at true (HasUpdate i) w v = cond (v == w) (i ∷ []) []
heard_at true NoMessage w v = []
heard_at true (HasFault fault) w v = []
heard_at false h w v = []

joins_one : (w : ℕ) (i : Update) (r : Recording) → HearsIn (λ v. cond (v == w) (i ∷ []) []) r (cond (r.waits w) (record r { part = with_message w (UpdateMsg i) r.part }) r)
joins_one w i r = at (r.waits w) refl
  where
    one : (b c : Bool) (v : ℕ) → (v == w) ≡ b → r.waits w ≡ true → r.waits v ≡ c → cond b (r.part.channel v ++ UpdateMsg i ∷ []) (r.part.channel v) ≡ r.part.channel v ++ cond c (map UpdateMsg (cond b (i ∷ []) [])) []
    one true true v is waits here = refl
    one true false v is waits here = absurd (let same : v ≡ w = grind (arith, nat_tests, is) in let k : r.waits v ≡ true = ap r.waits same ∙ waits in cc (k, here))
    one false true v is waits here = sym (append-nil (r.part.channel v))
    one false false v is waits here = sym (append-nil (r.part.channel v))

    none : (b c : Bool) (v : ℕ) → (v == w) ≡ b → r.waits w ≡ false → r.waits v ≡ c → r.part.channel v ≡ r.part.channel v ++ cond c (map UpdateMsg (cond b (i ∷ []) [])) []
    none true true v is waits here = absurd (let same : v ≡ w = grind (arith, nat_tests, is) in let k : r.waits v ≡ false = ap r.waits same ∙ waits in cc (k, here))
    none true false v is waits here = sym (append-nil (r.part.channel v))
    none false true v is waits here = sym (append-nil (r.part.channel v))
    none false false v is waits here = sym (append-nil (r.part.channel v))

    at : (c : Bool) → r.waits w ≡ c → HearsIn (λ v. cond (v == w) (i ∷ []) []) r (cond c (record r { part = with_message w (UpdateMsg i) r.part }) r)
    at true waits = record { number = refl; waits = refl; kept = refl; originated = refl; incarnation = refl; pending = refl; channel = λ v. one (v == w) (r.waits v) v refl waits refl }
    at false waits = record { number = refl; waits = refl; kept = refl; originated = refl; incarnation = refl; pending = refl; channel = λ v. none (v == w) (r.waits v) v refl waits refl }

seen_one : (b : Bool) (h : AtHand) (w : ℕ) (z : Snapshots) → HearsUpdates (heard_at b h w) z (seen b h w z)
seen_one true (HasUpdate i) w z = record { last = refl; queue = refl; unfinished = at z.unfinished }
  where
    at : (o : Option Recording) → HearsAll (λ v. cond (v == w) (i ∷ []) []) o (joins_channel w (UpdateMsg i) o)
    at None = tt
    at (Some r) = joins_one w i r
seen_one true NoMessage w z = quiet_heard z
seen_one true (HasFault fault) w z = quiet_heard z
seen_one false h w z = quiet_heard z

-- by one side
hears_none : (c b : Bool) (s : Side) (d : Draft) → d.acts ≡ b → Hears s (cond c (carried NoMessage s d) s) []
hears_none true true s d is = inl (refl, λ e. ap (λ k. acted_with k NoMessage d.link.epoch s.acted e) is)
hears_none true false s d is = inl (refl, λ e. ap (λ k. acted_with k NoMessage d.link.epoch s.acted e) is)
hears_none false b s d is = inl (refl, λ e. refl)

hears_at : (b : Bool) (h : AtHand) (w v : ℕ) (c : Bool) (s : Side) (d : Draft) → (v == w) ≡ c → d.acts ≡ b → Hears s (cond c (carried h (cond c (without_front s) s) d) (cond c (without_front s) s)) (heard_at b h w v)
hears_at true (HasUpdate i) w v true s d is acts = inr (i, d.link.epoch, ap (λ k. cond k (i ∷ []) []) is, λ e. ap (λ k. acted_with k (HasUpdate i) d.link.epoch s.acted e) acts)
hears_at true (HasUpdate i) w v false s d is acts = inl (ap (λ k. cond k (i ∷ []) []) is, λ e. refl)
hears_at true NoMessage w v true s d is acts = inl (refl, λ e. ap (λ k. acted_with k NoMessage d.link.epoch s.acted e) acts)
hears_at true NoMessage w v false s d is acts = inl (refl, λ e. refl)
hears_at true (HasFault f) w v true s d is acts = inl (refl, λ e. ap (λ k. acted_with k (HasFault f) d.link.epoch s.acted e) acts)
hears_at true (HasFault f) w v false s d is acts = inl (refl, λ e. refl)
hears_at false h w v true s d is acts = inl (refl, λ e. ap (λ k. acted_with k h d.link.epoch s.acted e) acts)
hears_at false h w v false s d is acts = inl (refl, λ e. refl)

-- ---- no marker comes

unmarked_if : (c : Bool) (i : What) → PassesNoMark (passes i ++ []) → PassesNoMark (all_passes (if c then i ∷ [] else []))
unmarked_if true i p = p
unmarked_if false i p = tt

unmarked : (v : ℕ) (e : RouterEvent) → IsOfSessions e → (laws : Laws) → PassesNoMark (all_passes (taken_from v e))
unmarked v (takes w (item.Dial e)) is laws = unmarked_if (w == v) (item.Dial e) tt
unmarked v (takes w (item.Piece e octets)) is laws = unmarked_if (w == v) (item.Piece e octets) (octets_pass_none (octets_of e octets) [] (only_octets laws e octets) tt)
unmarked v (takes w (item.Mark e s)) is laws = absurd is
unmarked v (takes w (item.Shut e)) is laws = unmarked_if (w == v) (item.Shut e) tt
unmarked v (alone o) is laws = tt
unmarked v (puts w i) is laws = tt
unmarked v (offers made) is laws = tt

-- ---- what is left

up_one : (c : Bool) (h : AtHand) (s : Side) (d : Draft) → is_up (cond c (carried h s d) s) ≡ cond c (is_established d.session.state) (is_up s)
up_one true h s d = refl
up_one false h s d = refl

up_handled : (c : Bool) (h : AtHand) (s : Side) (d : Draft) → is_up (cond c (carried h (cond c (without_front s) s) d) (cond c (without_front s) s)) ≡ cond c (is_established d.session.state) (is_up s)
up_handled true h s d = refl
up_handled false h s d = refl

none_left : (b : Bool) (e : ℕ) → left_of b b e ≡ None
none_left true e = refl
none_left false e = refl

first_same : (vs : List ℕ) (drafts : ℕ → Draft) (left : ℕ → Option ℕ) → ((v : ℕ) → list_any (nat_eq v) vs ≡ true → (drafts v).left ≡ left v) → first_left vs left ≡ first_close vs drafts
first_same [] drafts left h = refl
first_same (v ∷ vs) drafts left h =
    let hit : nat_eq v v ≡ true = grind (arith, nat_tests) in
    let here : (nat_eq v v || list_any (nat_eq v) vs) ≡ true = ap (λ c. c || list_any (nat_eq v) vs) hit in
    ap (λ l. or_first (close_at v l) (first_left vs left)) (sym (h v here)) ∙ ap (λ k. or_first (close_at v (drafts v).left) k) (first_same vs drafts left (λ w k. h w (behind (nat_eq w v) (list_any (nat_eq w) vs) k)))
  where
    behind : (b c : Bool) → c ≡ true → (b || c) ≡ true
    behind true c h = refl
    behind false c h = h

closed_last : (c : Option (ℕ × ℕ)) (z : Snapshots) → (closed c z).last ≡ z.last
closed_last None z = refl
closed_last (Some c) z = refl

module _ (laws : Laws) (g : Setting) (net : IsNetwork g.net) (u : ℕ) (far : ℕ → End Message) (Still : Type 0) (x : Router) (before : ℕ → List (Passing Message)) (n : ModelRouter)
    (known : (v : ℕ) → linked g.net u v ≡ true → Before laws g v (x.sides v) (before v) (n.recorder.ends v) (far v)) (reads : ReadsRouter g u x n) where
  here : (w : ℕ) → (w == w) ≡ true
  here w = grind (arith, nat_tests)

  peer_of : (v : ℕ) → linked g.net u v ≡ true → list_any (nat_eq v) (peers g.net u) ≡ true
  peer_of v near = (laws.links g.net net u v near).peer

  -- one side changes
  one_left : (w : ℕ) → linked g.net u w ≡ true → (b : Bool) (l : Option ℕ) (y : Router) → l ≡ left_of (is_up (x.sides w)) b (x.sides w).link.epoch → ((v : ℕ) → is_up (y.sides v) ≡ cond (v == w) b (is_up (x.sides v)))
      → first_left (peers g.net u) (λ v. left_of (is_up (x.sides v)) (is_up (y.sides v)) (x.sides v).link.epoch) ≡ close_at w l
  one_left w near b l y left up =
      one_first (peers g.net u) (λ v. left_of (is_up (x.sides v)) (is_up (y.sides v)) (x.sides v).link.epoch) w (peer_of w near)
      (λ v off. (let miss : (v == w) ≡ false = grind (arith, nat_tests, off) in
      ap (λ k. left_of (is_up (x.sides v)) k (x.sides v).link.epoch) (up v ∙ ap (λ c. cond c b (is_up (x.sides v))) miss) ∙ none_left (is_up (x.sides v)) (x.sides v).link.epoch))
      ∙ ap (close_at w) (ap (λ k. left_of (is_up (x.sides w)) k (x.sides w).link.epoch) (up w ∙ ap (λ c. cond c b (is_up (x.sides w))) (here w)) ∙ sym left)

  abbrev Turning : (y : Router) (new : ℕ → List (Entry Message)) (items : ℕ → List (Passing Message)) (us : ℕ → List Update) → Type 0
  Turning y new items us = (v : ℕ) → linked g.net u v ≡ true → MayTurn laws g u far Still v (x.sides v) (y.sides v) (new v) (before v) (items v) (us v) (n.recorder.ends v)

  moved_step : (w : ℕ) → linked g.net u w ≡ true → (d : Draft) → d.left ≡ left_of (is_up (x.sides w)) (is_established d.session.state) (x.sides w).link.epoch → (new : ℕ → List (Entry Message)) (items : ℕ → List (Passing Message))
      → Turning (moved x w NoMessage d) new items (λ v. []) → LocalStep laws g net u far Still 0 x (moved x w NoMessage d) new before items n
  moved_step w near d left new items may =
      sessions_step laws g net u far Still x (moved x w NoMessage d) new before items (λ v. []) n may refl refl (close_at w d.left)
      (one_left w near (is_established d.session.state) d.left (moved x w NoMessage d) left (λ v. up_one (v == w) NoMessage (x.sides v) d)) (seen_none d.acts w (closed (close_at w d.left) x.snapshots)) reads

  all_step : (drafts : ℕ → Draft) → ((v : ℕ) → (drafts v).left ≡ left_of (is_up (x.sides v)) (is_established (drafts v).session.state) (x.sides v).link.epoch) → (new : ℕ → List (Entry Message)) (items : ℕ → List (Passing Message))
      → Turning (all_moved g u x drafts) new items (λ v. []) → LocalStep laws g net u far Still 0 x (all_moved g u x drafts) new before items n
  all_step drafts left new items may =
      sessions_step laws g net u far Still x (all_moved g u x drafts) new before items (λ v. []) n may refl refl (first_close (peers g.net u) drafts)
      (first_same (peers g.net u) drafts (λ v. left_of (is_up (x.sides v)) (is_up ((all_moved g u x drafts).sides v)) (x.sides v).link.epoch)
      (λ v m. left v ∙ ap (λ k. left_of (is_up (x.sides v)) k (x.sides v).link.epoch) (sym (up_one (linked g.net u v) NoMessage (x.sides v) (drafts v) ∙ ap (λ c. cond c (is_established (drafts v).session.state) (is_up (x.sides v))) (peer_linked g u v m)))))
      (quiet_heard (closed (first_close (peers g.net u) drafts) x.snapshots)) reads

  -- one side changes, and no session
  side_step : (w : ℕ) → linked g.net u w ≡ true → (change : Side → Side) → ((s : Side) → is_up (change s) ≡ is_up s) → (new : ℕ → List (Entry Message)) (items : ℕ → List (Passing Message))
      → Turning (with_side x w change) new items (λ v. []) → LocalStep laws g net u far Still 0 x (with_side x w change) new before items n
  side_step w near change same new items may =
      sessions_step laws g net u far Still x (with_side x w change) new before items (λ v. []) n may refl refl None
      (one_left w near (is_up (x.sides w)) None (with_side x w change) (sym (none_left (is_up (x.sides w)) (x.sides w).link.epoch)) (λ v. up_at v (v == w) refl)) (quiet_heard x.snapshots) reads
    where
      up_at : (v : ℕ) (c : Bool) → (v == w) ≡ c → is_up (cond c (change (x.sides v)) (x.sides v)) ≡ cond c (is_up (x.sides w)) (is_up (x.sides v))
      up_at v true is = same (x.sides v) ∙ ap (λ i. is_up (x.sides i)) (same_number laws v w is)
      up_at v false is = refl

  module _ (e : RouterEvent) (is : IsOfSessions e) (may : May g u x e) (fits : overflows g u x e ≡ false) (front_reads : (w : ℕ) → e ≡ alone (Handles w) → (m : Message) × (front (rule_of g.net u w) (x.sides w).held ≡ Ok m))
      (comes : (v : ℕ) → linked g.net u v ≡ true → IsPrefix (before v ++ all_passes (taken_from v e)) (passing (written_in g) (far v).appended))
      (still : Still → (v : ℕ) → linked g.net u v ≡ true → is_up (x.sides v) ≡ true → is_up ((after g u x e).sides v) ≡ true) where
    lost_none : (b c : Bool) → (b ≡ true → c ≡ true) → (b && not c) ≡ false
    lost_none true true h = refl
    lost_none true false h = absurd (let k = h refl in cc k)
    lost_none false c h = refl

    turning : (us : ℕ → List Update) → ((v : ℕ) → linked g.net u v ≡ true → Hears (x.sides v) ((after g u x e).sides v) (us v))
        → Turning (after g u x e) (says g u x e) (λ v. all_passes (taken_from v e)) us
    turning us hears v near =
        let k = known v near in
        record {
          apart = (laws.links g.net net u v near).apart;
          stands = k.stands;
          holds = k.holds;
          advances = step_side laws g net u v x (before v) (n.recorder.ends v) (far v) near k e may fits (comes v near);
          quiet = says_quietly g u x e is front_reads v;
          unmarked = unmarked v e is laws;
          hears = hears v near;
          still = λ s. lost_none (is_up (x.sides v)) (is_up ((after g u x e).sides v)) (still s v near);
        }

  -- ---- each event

  hears_side : (c : Bool) (s t : Side) → t.acted ≡ s.acted → Hears s (cond c t s) []
  hears_side true s t same = inl (refl, λ e. ap (λ f. f e) same)
  hears_side false s t same = inl (refl, λ e. refl)

  fed_up : (c : Bool) (s : Side) (octets : List ℕ) → is_up (cond c (record s { held = s.held ++ octets }) s) ≡ is_up s
  fed_up true s octets = refl
  fed_up false s octets = refl

  fed_acted : (c : Bool) (s : Side) (octets : List ℕ) → (cond c (record s { held = s.held ++ octets }) s).acted ≡ s.acted
  fed_acted true s octets = refl
  fed_acted false s octets = refl

  abbrev Stays : RouterEvent → Type 0
  Stays e = Still → (v : ℕ) → linked g.net u v ≡ true → is_up (x.sides v) ≡ true → is_up ((after g u x e).sides v) ≡ true

  abbrev Comes : RouterEvent → Type 0
  Comes e = (v : ℕ) → linked g.net u v ≡ true → IsPrefix (before v ++ all_passes (taken_from v e)) (passing (written_in g) (far v).appended)

  abbrev Fronts : RouterEvent → Type 0
  Fronts e = (w : ℕ) → e ≡ alone (Handles w) → (m : Message) × (front (rule_of g.net u w) (x.sides w).held ≡ Ok m)

  abbrev StepOf : RouterEvent → Type 0
  StepOf e = LocalStep laws g net u far Still (is_table_command e) x (after g u x e) (says g u x e) before (λ v. all_passes (taken_from v e)) n

  handles_step : (w : ℕ) → (may : May g u x (alone (Handles w))) → Fronts (alone (Handles w)) → Comes (alone (Handles w)) → Stays (alone (Handles w)) → StepOf (alone (Handles w))
  handles_step w may fronts comes still =
      let h : AtHand = at_hand (front (rule_of g.net u w) (x.sides w).held) in
      let d : Draft = handled_at g u x w in
      let e : RouterEvent = alone (Handles w) in
      sessions_step laws g net u far Still x (after g u x e) (says g u x e) before (λ v. all_passes (taken_from v e)) (heard_at d.acts h w) n
      (turning e tt may refl fronts comes still (heard_at d.acts h w) (λ v near. hears_at d.acts h w v (v == w) (x.sides v) d refl refl))
      refl refl (close_at w d.left)
      (one_left w may.0 (is_established d.session.state) d.left (after g u x e) ((laws.left (open_of g.net u) (x.sides w)).handled_by h (event_of (front (rule_of g.net u w) (x.sides w).held))) (λ v. up_handled (v == w) h (x.sides v) d))
      (seen_one d.acts h w (closed (close_at w d.left) x.snapshots)) reads

  reset_left : (w : ℕ) → linked g.net u w ≡ true → (resets_at g u x w).overflows ≡ false → (resets_at g u x w).left ≡ left_of (is_up (x.sides w)) (is_established (resets_at g u x w).session.state) (x.sides w).link.epoch
  reset_left w near fits =
      let down : is_established (resets_at g u x w).session.state ≡ false =
      reset_down laws (record { asn = asn_field u; hold = g.net.settings.hold; id = identifier g.net.routers u; params = params_of g.net.settings.width u }) (x.sides w) (n.recorder.ends w) (far w) (known w near).stands fits in
      (laws.left (open_of g.net u) (x.sides w)).reset_is ∙ ap (λ b. left_of (is_up (x.sides w)) b (x.sides w).link.epoch) (sym down)

  abbrev Stopped : Type 0
  Stopped = LocalStep laws g net u far Still 0 x (all_moved g u x (λ v. meets_at g u x v ManualStop)) (says g u x (alone (Obeys command.Restart))) before (λ v. []) n

  restart_step : Comes (alone (Obeys command.Restart)) → Stays (alone (Obeys command.Restart)) → (Still → ⊥) → StepOf (alone (Obeys command.Restart))
  restart_step comes still loud =
      let e : RouterEvent = alone (Obeys command.Restart) in
      let drafts : ℕ → Draft = λ v. meets_at g u x v ManualStop in
      let t = all_step drafts (λ v. (laws.left (open_of g.net u) (x.sides v)).met_by ManualStop) (says g u x e) (λ v. all_passes (taken_from v e))
      (turning e tt tt refl (λ w k. absurd (cc k)) comes still (λ v. []) (λ v near. hears_none (linked g.net u v) (drafts v).acts (x.sides v) (drafts v) refl)) in
      let m : ModelRouter = t.m in
      let forget : ModelEvent = Command (λ q. false) (λ q. []) in
      let k : ModelRouter = router_after (network_of g) u m forget in
      record {
        m = k;
        offers = t.offers ++ [];
        goes = then_goes g u far Still n m k t.offers [] t.goes (one_goes g u far Still m forget [] (inr refl) refl (λ s c h is. elim h [ inl still' ↦ absurd (loud still') | inr free ↦ absurd (let z = sym free ∙ is in cc z) ]))
            (λ s h. elim h [ inl still' ↦ absurd (loud still') | inr free ↦ inr (free_on t s free) ]);
        turned = t.turned;
        reads = record { kept = refl; originated = refl; snapshots = snapshots_like g u (after g u x e).snapshots m k refl refl refl t.reads.snapshots };
        queue = t.queue ∙ ap (λ l. x.snapshots.queue ++ l) (sym (append-nil t.offers));
        recorded = record { kept = t.recorded.kept; new = λ i c is. inl (new_on t i c is); recorded = t.recorded.recorded };
        unmarked = t.unmarked;
      }
    where
      same_last : x.snapshots.last ≡ (all_moved g u x (λ v. meets_at g u x v ManualStop)).snapshots.last
      same_last = sym (closed_last (first_close (peers g.net u) (λ v. meets_at g u x v ManualStop)) x.snapshots)

      new_on : (t : Stopped) (k : ℕ) (c : ℕ → End Message) → t.m.recorder.copy k ≡ Some c → (n.recorder.copy k ≡ Some c) × (t.m.kept_at k ≡ n.kept_at k) × (t.m.originated_at k ≡ n.originated_at k)
      new_on t k c h = elim (t.recorded.new k c h) [
        | inl old ↦ old
        | inr new ↦ absurd (let low = new.0 in let high = new.1 in let same = same_last in omega (arith, low, high, same))
      ]

      free_on : (t : Stopped) (s : ℕ) → n.recorder.copy s ≡ None → t.m.recorder.copy s ≡ None
      free_on t s free = at (t.m.recorder.copy s) refl
        where
          at : (o : Option (ℕ → End Message)) → t.m.recorder.copy s ≡ o → o ≡ None
          at None h = refl
          at (Some c) h = absurd (let z = sym free ∙ (new_on t s c h).0 in cc z)

  -- a step of sessions, whichever
  pub session_step : (e : RouterEvent) → IsOfSessions e → May g u x e → overflows g u x e ≡ false → Fronts e → Comes e → Stays e → (Still → IsCommand e → ⊥) → StepOf e
  session_step (alone (Obeys (command.Start w))) is may fits fronts comes still loud =
      let d : Draft = meets_at g u x w ManualStart in
      let e : RouterEvent = alone (Obeys (command.Start w)) in
      moved_step w may d ((laws.left (open_of g.net u) (x.sides w)).met_by ManualStart) (says g u x e) (λ v. all_passes (taken_from v e))
      (turning e is may fits fronts comes still (λ v. []) (λ v near. hears_none (v == w) d.acts (x.sides v) d refl))
  session_step (alone (Obeys (command.Stop w))) is may fits fronts comes still loud =
      let d : Draft = meets_at g u x w ManualStop in
      let e : RouterEvent = alone (Obeys (command.Stop w)) in
      moved_step w may d ((laws.left (open_of g.net u) (x.sides w)).met_by ManualStop) (says g u x e) (λ v. all_passes (taken_from v e))
      (turning e is may fits fronts comes still (λ v. []) (λ v near. hears_none (v == w) d.acts (x.sides v) d refl))
  session_step (alone (Obeys (command.Reset w))) is may fits fronts comes still loud =
      let d : Draft = resets_at g u x w in
      let e : RouterEvent = alone (Obeys (command.Reset w)) in
      moved_step w may d (reset_left w may fits) (says g u x e) (λ v. all_passes (taken_from v e))
      (turning e is may fits fronts comes still (λ v. []) (λ v near. hears_none (v == w) d.acts (x.sides v) d refl))
  session_step (alone (Obeys (command.Originate q))) is may fits fronts comes still loud = absurd is
  session_step (alone (Obeys (command.Withdraw q))) is may fits fronts comes still loud = absurd is
  session_step (alone (Obeys (command.Snapshot s))) is may fits fronts comes still loud = absurd is
  session_step (alone (Obeys command.Restart)) is may fits fronts comes still loud = restart_step comes still (λ s. loud s tt)
  session_step (alone Ticks) is may fits fronts comes still loud =
      let drafts : ℕ → Draft = second_at g u x in
      let e : RouterEvent = alone Ticks in
      all_step drafts (λ v. (laws.left (open_of g.net u) (x.sides v)).second_is) (says g u x e) (λ v. all_passes (taken_from v e))
      (turning e is may fits fronts comes still (λ v. []) (λ v near. hears_none (linked g.net u v) (drafts v).acts (x.sides v) (drafts v) refl))
  session_step (alone (Handles w)) is may fits fronts comes still loud = handles_step w may fronts comes still
  session_step (alone Decides) is may fits fronts comes still loud = absurd is
  session_step (alone (Advertises w)) is may fits fronts comes still loud = absurd is
  session_step (puts w i) is may fits fronts comes still loud =
      let e : RouterEvent = puts w i in
      side_step w may.0 (λ s. put_from s i) (λ s. refl) (says g u x e) (λ v. all_passes (taken_from v e)) (turning e is may fits fronts comes still (λ v. []) (λ v near. hears_side (v == w) (x.sides v) (put_from (x.sides v) i) refl))
  session_step (takes w (item.Dial k)) is may fits fronts comes still loud =
      let d : Draft = signed_at g u x w (sign.Dial k) in
      let e : RouterEvent = takes w (item.Dial k) in
      moved_step w may.0 d ((laws.left (open_of g.net u) (x.sides w)).signed_by (sign.Dial k)) (says g u x e) (λ v. all_passes (taken_from v e))
      (turning e is may fits fronts comes still (λ v. []) (λ v near. hears_none (v == w) d.acts (x.sides v) d refl))
  session_step (takes w (item.Piece k octets)) is may fits fronts comes still loud =
      let e : RouterEvent = takes w (item.Piece k octets) in
      side_step w may.0 (λ s. fed s k octets) (λ s. fed_up (uses s.link k) s octets) (says g u x e) (λ v. all_passes (taken_from v e))
      (turning e is may fits fronts comes still (λ v. []) (λ v near. hears_side (v == w) (x.sides v) (fed (x.sides v) k octets) (fed_acted (uses (x.sides v).link k) (x.sides v) octets)))
  session_step (takes w (item.Mark k s)) is may fits fronts comes still loud = absurd is
  session_step (takes w (item.Shut k)) is may fits fronts comes still loud =
      let d : Draft = signed_at g u x w (sign.Shut k) in
      let e : RouterEvent = takes w (item.Shut k) in
      moved_step w may.0 d ((laws.left (open_of g.net u) (x.sides w)).signed_by (sign.Shut k)) (says g u x e) (λ v. all_passes (taken_from v e))
      (turning e is may fits fronts comes still (λ v. []) (λ v near. hears_none (v == w) d.acts (x.sides v) d refl))
  session_step (offers made) is may fits fronts comes still loud = absurd is
