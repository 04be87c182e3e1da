-- What each step of a router says, and the paths that it keeps.
use Rattle.std.proofs.Common.{◌≡◌, ℕ, suc, ◌≤◌, ◌==◌, Bool, true, false, ◌&&◌, cond, List, [], ◌∷◌, ◌++◌, refl, ap, sym, ◌∙◌, subst, arith, Option, None, Some, inl, inr}
use Rattle.std.specs.Prelude.{Ok, map, Result}
use Rattle.std.specs.List.{AllByRecursion, find}
use Rattle.prefix_lanes.specs.Bits.{PrefixView, is_prefix}
use Rattle.bgp_codec.specs.declared.fault.Fault.{Fault}
use Rattle.bgp_values.specs.Ranges.{greatest_asn}
use Rattle.bgp_codec.specs.declared.message.Message.{Message}
use Rattle.bgp_codec.specs.declared.message.Message.TheVariants.{OpenMsg, UpdateMsg, NoticeMsg, AliveMsg}
use Rattle.bgp_codec.specs.declared.update.Update.{Update}
use Rattle.link_epoch.specs.Ends.{next_number, number_shut, heard_by, meaning_of}
use Rattle.link_epoch.specs.declared.link_end.Heard.{Heard}
use Rattle.link_epoch.specs.declared.link_end.Heard.TheVariants as heard
use Rattle.link_epoch.specs.declared.link_end.Sign.{Sign}
use Rattle.link_epoch.specs.declared.link_end.Sign.TheVariants as sign
use Rattle.session_fsm.specs.Table.{on_event}
use Rattle.session_fsm.specs.Timers.{ticked, runs_out}
use Rattle.session_fsm.specs.declared.event.FsmEvent.{FsmEvent}
use Rattle.session_fsm.specs.declared.event.FsmEvent.TheVariants as event
use Rattle.session_fsm.specs.declared.event.FsmEvent.TheVariants.{ManualStart, ManualStop}
use Rattle.session_fsm.specs.declared.actions.Action.{Action}
use Rattle.session_fsm.specs.declared.actions.Action.TheVariants as action
use Rattle.ranked_policy.specs.declared.network.Origin.{Origin}
use Rattle.ranked_policy.specs.Plans.{IsNamed}
use Rattle.ranked_policy.specs.Policies.{Table}
use Rattle.rib_tables.specs.declared.word.Word.{Word}
use Rattle.rib_tables.specs.Words.{announced_word, nothing, path_in, lists, word_after, last_word}
use Rattle.stable_paths.specs.Stable.{Problem, IsBest, own_path}
use Rattle.run_model.specs.Links.{Entry, Dial, Says, Mark, Shut, said}
use Rattle.run_model.specs.Octets.{AllGood}
use Rattle.run_model.specs.Network.{alone, puts, takes, offers}
use Rattle.router_model.specs.declared.command.Command.{Command}
use Rattle.router_model.specs.declared.command.Command.TheVariants as command
use Rattle.outbox.specs.declared.item.What.TheVariants as item
use Rattle.router_model.specs.Sides as sides
use Rattle.router_model.specs.Sides.{Side, Draft, AtHand, NoMessage, HasFault, HasUpdate, at_hand, event_of, front, draft_of, notification, fits, apply_once, apply_all_once, apply_all, is_joined_by, dials, shuts, draft_event, draft_reset, draft_second, expires, draft_sign, draft_message, is_connecting, is_up, react, react_once, apply}
use Rattle.router_model.specs.Settings.{peers, Setting, linked, prefixes, identifier}
use Rattle.router_model.specs.State.{Router, rule_of, open_of, telling, best_path, undecided, unadvertised, is_undecided, is_unadvertised}
use Rattle.router_model.specs.Step.{RouterEvent, Obeys, Ticks, Handles, Decides, Advertises, after, says, says_where, says_by, says_update, says_markers, keeping, telling_to, telling_of, heeds, is_greater, records, meets_at, resets_at, second_at, signed_at, handled_at}
use Rattle.snap_marker.specs.Recordings.{ends_channel}
use Rattle.router_model.specs.Messages.{updates_in}
use Rattle.router_runs.specs.Said.{MayKeep, IsToldBy, IsSaid, NumbersFit}
use Rattle.router_runs.proofs.Lower.{Laws}

module _ (laws : Laws) where
  -- ---- lists of entries

  pub good_append : (P : Message → Type 0) (xs ys : List (Entry Message)) → AllGood P xs → AllGood P ys → AllGood P (xs ++ ys)
  good_append P [] ys p q = q
  good_append P (Dial e ∷ xs) ys p q = good_append P xs ys p q
  good_append P (Says e m ∷ xs) ys p q = (p.0, good_append P xs ys p.1 q)
  good_append P (Mark e n ∷ xs) ys p q = good_append P xs ys p q
  good_append P (Shut e ∷ xs) ys p q = good_append P xs ys p q

  pub good_each : (P Q : Message → Type 0) (xs : List (Entry Message)) → ((m : Message) → P m → Q m) → AllGood P xs → AllGood Q xs
  good_each P Q [] f p = tt
  good_each P Q (Dial e ∷ xs) f p = good_each P Q xs f p
  good_each P Q (Says e m ∷ xs) f p = (f m p.0, good_each P Q xs f p.1)
  good_each P Q (Mark e n ∷ xs) f p = good_each P Q xs f p
  good_each P Q (Shut e ∷ xs) f p = good_each P Q xs f p

  good_where : (P : Message → Type 0) (c : Bool) (xs : List (Entry Message)) → (c ≡ true → AllGood P xs) → AllGood P (says_where c xs)
  good_where P true xs p = p refl
  good_where P false xs p = tt

  abbrev NoFault : AtHand → Type 0
  NoFault NoMessage = Unit {0}
  NoFault (HasFault fault) = ⊥
  NoFault (HasUpdate u) = Unit {0}

  -- ---- drafts

  module _ (P : Message → Type 0) (own_open : Message) (is_open : P own_open) (is_alive : P AliveMsg) (is_notice : (code : ℕ) → P (notification code)) where
    tells_said : (a : Draft) (m : Message) → AllGood P a.says → P m → AllGood P (a.says ++ Says a.link.epoch m ∷ [])
    tells_said a m s p = good_append P a.says (Says a.link.epoch m ∷ []) s (p, tt)

    dials_said : (c : Bool) (a : Draft) → fits (next_number a.link) ≡ c → AllGood P a.says → AllGood P (dials a).says
    dials_said true a is s = rw is (good_append P a.says (Dial (next_number a.link) ∷ []) s tt)
    dials_said false a is s = rw is s

    shuts_said : (a : Draft) (n : Option ℕ) → AllGood P a.says → AllGood P (shuts a n).says
    shuts_said a None s = s
    shuts_said a (Some n) s = good_append P a.says (Shut n ∷ []) s tt

    does_said : (g : AtHand) → NoFault g → (a : Draft) → AllGood P a.says → (x : Action) → AllGood P (apply_once own_open g a x).says
    does_said g n a s action.Dial = dials_said (fits (next_number a.link)) a refl s
    does_said g n a s action.SendOpen = tells_said a own_open s is_open
    does_said g n a s action.SendAlive = tells_said a AliveMsg s is_alive
    does_said g n a s (action.SendNotice code) = tells_said a (notification code) s (is_notice code)
    does_said NoMessage n a s action.SendGiven = s
    does_said (HasFault fault) n a s action.SendGiven = absurd n
    does_said (HasUpdate u) n a s action.SendGiven = s
    does_said g n a s action.HangUp = shuts_said a (number_shut a.link) s
    does_said g n a s action.Act = s
    does_said g n a s action.Up = s
    does_said g n a s action.Down = s

    does_all_said : (xs : List Action) (g : AtHand) → NoFault g → (a : Draft) → AllGood P a.says → AllGood P (apply_all_once own_open g a xs).says
    does_all_said [] g n a s = s
    does_all_said (x ∷ xs) g n a s = does_all_said xs g n (apply_once own_open g a x) (does_said g n a s x)

    obeys_said : (c : Bool) (x : Action) (g : AtHand) → NoFault g → (a : Draft) → is_joined_by a x ≡ c → AllGood P a.says → AllGood P (apply own_open g a x).says
    unfolding apply react_once
    obeys_said true x g n a is s =
        rw is (does_all_said (on_event (apply_once own_open g a x).session event.TcpCrAcked).actions g n
        (record (apply_once own_open g a x) { session = (on_event (apply_once own_open g a x).session event.TcpCrAcked).session }) (does_said g n a s x))
    obeys_said false x g n a is s = rw is (does_said g n a s x)

    obeys_all_said : (xs : List Action) (g : AtHand) → NoFault g → (a : Draft) → AllGood P a.says → AllGood P (apply_all own_open g a xs).says
    obeys_all_said [] g n a s = s
    obeys_all_said (x ∷ xs) g n a s = obeys_all_said xs g n (apply own_open g a x) (obeys_said (is_joined_by a x) x g n a refl s)

    pub comes_said : (g : AtHand) → NoFault g → (a : Draft) (e : FsmEvent) → AllGood P a.says → AllGood P (react own_open g a e).says
    unfolding react
    comes_said g n a e s = obeys_all_said (on_event a.session e).actions g n (record a { session = (on_event a.session e).session }) s

    pub expires_said : (a : Draft) (e : Option FsmEvent) → AllGood P a.says → AllGood P (expires own_open a e).says
    expires_said a None s = s
    expires_said a (Some e) s = comes_said NoMessage tt a e s

    connecting_said : (c : Bool) (a : Draft) → AllGood P a.says → AllGood P (cond c (react own_open NoMessage (dials a) event.TcpConnectionConfirmed) a).says
    connecting_said true a s = comes_said NoMessage tt (dials a) event.TcpConnectionConfirmed (dials_said (fits (next_number a.link)) a refl s)
    connecting_said false a s = s

    answers_said : (a : Draft) (h : Heard) → AllGood P a.says → AllGood P (sides.react_to_sign own_open a h).says
    unfolding sides.react_to_sign
    answers_said a heard.Quiet s = s
    answers_said a heard.Joined s = comes_said NoMessage tt a event.TcpCrAcked s
    answers_said a (heard.Offered n) s = connecting_said (is_connecting a.session.state) a s
    answers_said a heard.Closed s = comes_said NoMessage tt a event.TcpConnectionFails s

    pub signed_said : (s : Side) (x : Sign) → AllGood P (draft_sign own_open s x).says
    signed_said s x = answers_said (draft_of s.session (heard_by s.link x)) (meaning_of s.link x) tt

    pub handled_said : (s : Side) (m : Message) → AllGood P (draft_message own_open (Ok m) s).says
    handled_said s m = comes_said (at_hand (Ok m)) (none m) (draft_of s.session s.link) (event_of (Ok m)) tt
      where
        none : (k : Message) → NoFault (at_hand (Ok k))
        none k = grind arith

  -- ---- prefixes that are named

  find_in : (p : PrefixView → Bool) (os : List Origin) (q : PrefixView) → find p (map (λ o. o.prefix) os) ≡ Some q → IsNamed os q
  find_in p [] q h = absurd (cc h)
  find_in p (o ∷ os) q h = here (p o.prefix) h (λ k. find_in p os q k)
    where
      here : (c : Bool) → cond c (Some o.prefix) (find p (map (λ i. i.prefix) os)) ≡ Some q → (find p (map (λ i. i.prefix) os) ≡ Some q → IsNamed os q) → IsNamed (o ∷ os) q
      here true k rest = (0, o, omega arith, refl, cc k)
      here false k rest = (let r = rest k in (suc r.0, r.1, (let l = r.2 in omega (arith, l)), r.3, r.4))

  -- ---- steps

  module _ (g : Setting) (u : ℕ) (x : Router) where
    comes_good : (a : Draft) (e : FsmEvent) → AllGood (IsSaid g u) a.says → AllGood (IsSaid g u) (react (open_of g.net u) NoMessage a e).says
    comes_good a e s = comes_said (IsSaid g u) (open_of g.net u) refl tt (λ c. refl) NoMessage tt a e s

    signed_good : (w : ℕ) (i : Sign) → AllGood (IsSaid g u) (signed_at g u x w i).says
    signed_good w i = signed_said (IsSaid g u) (open_of g.net u) refl tt (λ c. refl) (x.sides w) i

    commanded : (c : Command) (v : ℕ) → AllGood (IsSaid g u) (says_by g u x c v)
    commanded (command.Start w) v = good_where (IsSaid g u) (v == w) (meets_at g u x w ManualStart).says (λ h. comes_good (draft_of (x.sides w).session (x.sides w).link) ManualStart tt)
    commanded (command.Stop w) v = good_where (IsSaid g u) (v == w) (meets_at g u x w ManualStop).says (λ h. comes_good (draft_of (x.sides w).session (x.sides w).link) ManualStop tt)
    commanded (command.Reset w) v =
        good_where (IsSaid g u) (v == w) (resets_at g u x w).says (λ h. comes_good (draft_event (open_of g.net u) (x.sides w) ManualStop) ManualStart (comes_good (draft_of (x.sides w).session (x.sides w).link) ManualStop tt))
    commanded (command.Originate q) v = tt
    commanded (command.Withdraw q) v = tt
    commanded (command.Snapshot s) v = good_where (IsSaid g u) (linked g.net u v && is_up (x.sides v)) (Mark (x.sides v).link.epoch s ∷ []) (λ h. tt)
    commanded command.Restart v = good_where (IsSaid g u) (linked g.net u v) (meets_at g u x v ManualStop).says (λ h. comes_good (draft_of (x.sides v).session (x.sides v).link) ManualStop tt)

    named_by : (w : ℕ) (c : Bool) (q : PrefixView) → cond c (find (is_unadvertised g u x w) (prefixes g)) None ≡ Some q → IsNamed g.net.origins q
    named_by w true q h = find_in (is_unadvertised g u x w) g.net.origins q h
    named_by w false q h = absurd (cc h)

    updated : (w v : ℕ) (q : Option PrefixView) → unadvertised g u x w ≡ q → ((p : PrefixView) → MayKeep g u (x.kept p)) → AllGood (IsSaid g u) (says_update g u x v q)
    updated w v None is keeps = tt
    updated w v (Some q) is keeps = ((q, x.kept q, named_by w (linked g.net u w && is_up (x.sides w)) q is, keeps q, refl), tt)

    -- what is said to peer v, where what stands in front of octets held is a message, and kept paths may be kept
    pub step_said : (e : RouterEvent) → ((w : ℕ) → e ≡ alone (Handles w) → (m : Message) × (front (rule_of g.net u w) (x.sides w).held ≡ Ok m)) → ((q : PrefixView) → MayKeep g u (x.kept q)) → (v : ℕ) → AllGood (IsSaid g u) (says g u x e v)
    step_said (alone (Obeys c)) reads keeps v = commanded c v
    step_said (alone Ticks) reads keeps v =
        good_where (IsSaid g u) (linked g.net u v) (second_at g u x v).says
        (λ h. expires_said (IsSaid g u) (open_of g.net u) refl tt (λ c. refl) (draft_of (ticked (x.sides v).session) (x.sides v).link) (runs_out (x.sides v).session) tt)
    step_said (alone (Handles w)) reads keeps v =
        good_where (IsSaid g u) (v == w) (handled_at g u x w).says
        (λ h. (let k = reads w refl in
        subst (λ (r : Result Message Fault). AllGood (IsSaid g u) (draft_message (open_of g.net u) r (x.sides w)).says) (sym k.1) (handled_said (IsSaid g u) (open_of g.net u) refl tt (λ c. refl) (x.sides w) k.0)))
    step_said (alone Decides) reads keeps v = tt
    step_said (alone (Advertises w)) reads keeps v = good_where (IsSaid g u) (v == w) (says_update g u x v (unadvertised g u x w)) (λ h. updated w v (unadvertised g u x w) refl keeps)
    step_said (puts w i) reads keeps v = tt
    step_said (takes w (item.Dial e)) reads keeps v = good_where (IsSaid g u) (v == w) (signed_at g u x w (sign.Dial e)).says (λ h. signed_good w (sign.Dial e))
    step_said (takes w (item.Piece e octets)) reads keeps v = tt
    step_said (takes w (item.Mark e s)) reads keeps v =
        good_where (IsSaid g u) (heeds g u x w e && is_greater x s) (says_markers g u x s v) (λ h. good_where (IsSaid g u) (linked g.net u v && is_up (x.sides v)) (Mark (x.sides v).link.epoch s ∷ []) (λ k. tt))
    step_said (takes w (item.Shut e)) reads keeps v = good_where (IsSaid g u) (v == w) (signed_at g u x w (sign.Shut e)).says (λ h. signed_good w (sign.Shut e))
    step_said (offers made) reads keeps v = tt

    -- ---- kept paths

    named_undecided : (q : PrefixView) → undecided g u x ≡ Some q → IsNamed g.net.origins q
    named_undecided q h = find_in (is_undecided g u x) g.net.origins q h

    decided : (q : Option PrefixView) → ((p : PrefixView) → q ≡ Some p → MayKeep g u (best_path g u x p)) → ((p : PrefixView) → MayKeep g u (x.kept p)) → (p : PrefixView) → MayKeep g u ((keeping x q (best_path g u x)).kept p)
    decided None new keeps p = keeps p
    decided (Some q) new keeps p = by_test (is_prefix q p)
      where
        by_test : (c : Bool) → MayKeep g u (cond c (best_path g u x q) (x.kept p))
        by_test true = new q refl
        by_test false = keeps p

    told_keeps : (w : ℕ) (q : Option PrefixView) (p : PrefixView) → (telling_to x w q (telling_of g u x)).kept p ≡ x.kept p
    told_keeps w None p = refl
    told_keeps w (Some q) p = refl

    marked_keeps : (c d : Bool) (w s : ℕ) (y : Router) → y.kept ≡ x.kept → (cond c (cond d (records g u x s (Some w)) y) x).kept ≡ x.kept
    marked_keeps true true w s y is = refl
    marked_keeps true false w s y is = is
    marked_keeps false d w s y is = refl

    pub step_keeps : (e : RouterEvent) → ((q : PrefixView) → IsNamed g.net.origins q → MayKeep g u (best_path g u x q)) → ((p : PrefixView) → MayKeep g u (x.kept p)) → (p : PrefixView) → MayKeep g u ((after g u x e).kept p)
    step_keeps (alone (Obeys (command.Start w))) new keeps p = keeps p
    step_keeps (alone (Obeys (command.Stop w))) new keeps p = keeps p
    step_keeps (alone (Obeys (command.Reset w))) new keeps p = keeps p
    step_keeps (alone (Obeys (command.Originate q))) new keeps p = keeps p
    step_keeps (alone (Obeys (command.Withdraw q))) new keeps p = keeps p
    step_keeps (alone (Obeys (command.Snapshot s))) new keeps p = keeps p
    step_keeps (alone (Obeys command.Restart)) new keeps p = inl refl
    step_keeps (alone Ticks) new keeps p = keeps p
    step_keeps (alone (Handles w)) new keeps p = keeps p
    step_keeps (alone Decides) new keeps p = decided (undecided g u x) (λ q h. new q (named_undecided q h)) keeps p
    step_keeps (alone (Advertises w)) new keeps p = subst (MayKeep g u) (sym (told_keeps w (unadvertised g u x w) p)) (keeps p)
    step_keeps (puts w i) new keeps p = keeps p
    step_keeps (takes w (item.Dial e)) new keeps p = keeps p
    step_keeps (takes w (item.Piece e octets)) new keeps p = keeps p
    step_keeps (takes w (item.Mark e s)) new keeps p =
        subst (λ (f : PrefixView → List ℕ). MayKeep g u (f p)) (sym (marked_keeps (heeds g u x w e) (is_greater x s) w s (record x { snapshots = ends_channel (peers g.net u) w s x.snapshots.unfinished x.snapshots }) refl)) (keeps p)
    step_keeps (takes w (item.Shut e)) new keeps p = keeps p
    step_keeps (offers made) new keeps p = keeps p

  -- ---- the best path, given small paths of the peers

  own_kept : (g : Setting) (c : Bool) (u : ℕ) → u ≤ greatest_asn g.net.settings.width → MayKeep g u (cond c (u ∷ []) [])
  own_kept g true u small = inr (record { begins = ([], refl); short = omega arith; small = (small, tt) })
  own_kept g false u small = inl refl

  pub best_kept : (g : Setting) (p : Problem) (words : ℕ → List ℕ) (u : ℕ) (path : List ℕ) → u ≤ greatest_asn g.net.settings.width → ((v : ℕ) → NumbersFit g (words v)) → IsBest p words u path → MayKeep g u path
  best_kept g p words u path small all best =
      let t : Table = best.0 in
      let number : t.router ≡ u = best.1.0 in
      elim best.2 [
        | inl own ↦ subst (MayKeep g u) (sym (own.1 ∙ ap (own_path p) number)) (own_kept g p.originated u small)
        | inr other ↦ elim other.1 [
          | inl first ↦ elim first.choice.permitted [
            | inl origin ↦ absurd (other.0 origin.0)
            | inr best_path ↦
                let rest = words first.choice.peer in
                let is : path ≡ u ∷ rest = first.choice.goes_on ∙ ap (λ r. best.0.router ∷ r) first.choice.heard.1 ∙ ap (λ i. i ∷ rest) number in
                inr (record { begins = (rest, is); short = best_path.1.short; small = subst (NumbersFit g) (sym is) (small, all first.choice.peer) })
          ]
          | inr none ↦ inl none.0
        ]
      ]

  -- ---- words heard

  keep_small : (g : Setting) (v : ℕ) (path : List ℕ) → MayKeep g v path → NumbersFit g path
  keep_small g v path (inl none) = subst (NumbersFit g) (sym none) tt
  keep_small g v path (inr fine) = fine.small

  small_cond : (g : Setting) (c : Bool) (a b : Word) → NumbersFit g (path_in a) → NumbersFit g (path_in b) → NumbersFit g (path_in (cond c a b))
  small_cond g true a b p q = p
  small_cond g false a b p q = q

  told_small : (g : Setting) (id : ℕ) (q p : PrefixView) (path : List ℕ) (w : Word) → NumbersFit g path → NumbersFit g (path_in w) → NumbersFit g (path_in (word_after w (telling id q path) p))
  told_small g id q p [] w small was = small_cond g (lists (q ∷ []) p) nothing w tt was
  told_small g id q p (v ∷ path) w small was = small_cond g (lists (q ∷ []) p) (announced_word (telling id q (v ∷ path)).attrs) w small was

  pub words_small : (g : Setting) (v : ℕ) (us : List Update) (w : Word) (p : PrefixView) → AllByRecursion (IsToldBy g v) us → NumbersFit g (path_in w) → NumbersFit g (path_in (last_word w us p))
  words_small g v [] w p all was = was
  words_small g v (u ∷ us) w p all was =
      let t = all.0 in
      words_small g v us (word_after w u p) p all.1
      (subst (λ (i : Update). NumbersFit g (path_in (word_after w i p))) (sym t.4) (told_small g (identifier g.net.routers v) t.0 p t.1 w (keep_small g v t.1 t.3) was))

  told_in : (c : Bool) (g : Setting) (u : ℕ) (m : Message) (ms : List Message) → IsSaid g u m → AllByRecursion (IsToldBy g u) (updates_in ms) → AllByRecursion (IsToldBy g u) (updates_in (cond c (m ∷ ms) ms))
  told_in false g u m ms s all = all
  told_in true g u (OpenMsg o) ms s all = all
  told_in true g u (UpdateMsg x) ms s all = (s, all)
  told_in true g u (NoticeMsg n) ms s all = all
  told_in true g u AliveMsg ms s all = all

  pub updates_told : (g : Setting) (u e : ℕ) (xs : List (Entry Message)) → AllGood (IsSaid g u) xs → AllByRecursion (IsToldBy g u) (updates_in (said e xs))
  updates_told g u e [] s = tt
  updates_told g u e (Dial f ∷ xs) s = updates_told g u e xs s
  updates_told g u e (Says f m ∷ xs) s = told_in (e == f) g u m (said e xs) s.0 (updates_told g u e xs s.1)
  updates_told g u e (Mark f n ∷ xs) s = updates_told g u e xs s
  updates_told g u e (Shut f ∷ xs) s = updates_told g u e xs s

  pub told_front : (g : Setting) (u : ℕ) (xs ys : List Update) → AllByRecursion (IsToldBy g u) (xs ++ ys) → AllByRecursion (IsToldBy g u) xs
  told_front g u [] ys all = tt
  told_front g u (x ∷ xs) ys all = (all.0, told_front g u xs ys all.1)
