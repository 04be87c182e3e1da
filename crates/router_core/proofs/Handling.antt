-- A message or a fault that is handled: the tables stay those of the sides.
use Rattle.std.proofs.Common.{◌≡◌, ℕ, ◌<◌, ◌≤◌, ◌==◌, ◌++◌, ◌∷◌, [], Bool, true, false, cond, List, map, Option, None, Some, refl, sym, ap, ◌∙◌, subst, arith, inl, inr}
use Rattle.std.specs.Prelude.{nat_eq, ◌⊎◌, Result, Ok, Err, IfOk, IfSome}
use Rattle.std.specs.List.{list_any, Contains, AllByRecursion}
use Rattle.std.proofs.lemmas.Bool.{eq-eqb, eqb-true, eqb-false}
use Rattle.std.proofs.lemmas.List.Folds.{Any-from_list_any, list_any-from_Any}
use Rattle.std.proofs.lemmas.Bool.Decides.{nat_tests}
use Rattle.prefix_lanes.specs.Bits.{PrefixView, is_prefix}
use Rattle.bgp_codec.specs.declared.message.Message.{Message}
use Rattle.bgp_codec.specs.declared.message.Message.TheVariants.{OpenMsg, UpdateMsg, NoticeMsg, AliveMsg}
use Rattle.bgp_codec.specs.declared.fault.Fault.{Fault}
use Rattle.bgp_codec.specs.declared.rule.Rule.{Rule}
use Rattle.bgp_codec.specs.declared.path.Segment.{Segment}
use Rattle.bgp_codec.specs.declared.path.SegmentKind.{SegmentKind}
use Rattle.bgp_codec.specs.declared.path.SegmentKind.TheVariants.{AsSet, AsSequence}
use Rattle.bgp_values.specs.declared.width.Width.{Width}
use Rattle.bgp_codec.specs.AsNumbers.{AsnFits}
use Rattle.bgp_codec.specs.Updates.{SegmentFits}
use Rattle.bgp_codec.specs.Spelling.{IsWritable}
use Rattle.bgp_codec.specs.declared.update.Update.{Update}
use Rattle.ranked_policy.specs.declared.network.Origin.{Origin}
use Rattle.ranked_policy.specs.Plans.{Plan, IsNamed}
use Rattle.rib_tables.specs.declared.word.Word.{Word}
use Rattle.rib_tables.specs.Words.{nothing, lists, segment_word, segments_word, path_word, announced_word, last_word, word_after}
use Rattle.rib_tables.specs.Tables.{Applies, word_of}
use Rattle.rib_tables.specs.Owners.{RibView, HearsUpdate}
use Rattle.rib_tables.specs.Promises.{WordFollows}
use Rattle.snap_marker.specs.declared.part.Part.{Part}
use Rattle.snap_marker.specs.declared.part.Channel.{Channel}
use Rattle.snap_marker.specs.Parts.{IsOver, IsLink, leads_to, peers_of}
use Rattle.snap_marker.specs.Recordings.{Snapshots}
use Rattle.router_model.specs.Sides.{Side, AtHand, NoMessage, HasFault, HasUpdate, Draft, acted_with, with_update, carried, at_hand, front, without_front, draft_message, is_up, is_established}
use Rattle.router_model.specs.State.{rule_of}
use Rattle.router_model.specs.Step.{seen}
use Rattle.router_side.specs.Freshness.{IsFresh, ComesUpUnsaid, ActsWhereUp, HandlingKeepsFresh}
use Rattle.router_side.specs.SideOf.{side}
use Rattle.router_core.specs.declared.peers.Peer.{Peer}
use Rattle.router_core.specs.Views.{RouterView, IsSound, Follows, IsPathWord, listed}
use Rattle.router_core.specs.Following.{Followed, standing}
use Rattle.router_core.specs.Handling.{update_acted, seen_where, Hears, HandlesFront}
use Rattle.router_core.proofs.Naming.{is_prefix-true, is_prefix-from}
use Rattle.router_core.proofs.PeerLemmas.{listed_any}
use Rattle.router_core.proofs.Following.{Leaves, IsShort, leaves_same, leaves_heard, leaves_then, leaves, all_sent, all_heard, follows_by}
use Rattle.router_core.proofs.Carrying.{Changes, Tracks, is_followed, has_width}

-- ---- the links of what is recorded

equal_is : (a b : ℕ) → (a == b) ≡ nat_eq a b
equal_is a b = grind (arith, nat_tests)

leads_any : (v : ℕ) (cs : List Channel) → leads_to v cs ≡ list_any (nat_eq v) (peers_of cs)
leads_any v [] = refl
leads_any v (c ∷ cs) = rw (equal_is v c.peer, leads_any v cs) refl

self_first : (v : ℕ) → list_any (nat_eq v) (v ∷ []) ≡ true
self_first v = (let same : nat_eq v v ≡ true = grind (arith, nat_tests) in rw same refl)

-- what is over the same peers has a link to the same
pub link_on : (o n : Option Part) (v : ℕ) → ((vs : List ℕ) → IsOver vs o → IsOver vs n) → IsLink o v → IsLink n v
link_on o None v over l = tt
link_on None (Some q) v over l = leads_any v q.channels.items ∙ ap (list_any (nat_eq v)) (over (v ∷ []) tt) ∙ self_first v
link_on (Some p) (Some q) v over l =
    leads_any v q.channels.items ∙ ap (list_any (nat_eq v)) (over (peers_of p.channels.items) refl) ∙ sym (leads_any v p.channels.items) ∙ l

-- what is over the peers of a router has a link to each
pub link_of : (o : Option Part) (v : ℕ) (ps : List Peer) (vs : List ℕ) → map (λ p. p.number) ps ≡ vs → IsOver vs o → listed v ps ≡ true → IsLink o v
link_of None v ps vs e over l = tt
link_of (Some p) v ps vs e over l = leads_any v p.channels.items ∙ ap (list_any (nat_eq v)) (over ∙ sym e) ∙ sym (listed_any v ps) ∙ l

clash : true ≡ false → ⊥
clash e = absurd cc

-- ---- the UPDATE that is acted on

pub seen_is : (b : Bool) (h : AtHand) (v : ℕ) (x : Snapshots) → seen_where v (update_acted b h) x ≡ seen b h v x
seen_is b h v x = grind arith

last_on : (w : Word) (us : List Update) (u : Update) (q : PrefixView) → last_word w (us ++ u ∷ []) q ≡ word_after (last_word w us q) u q
last_on w [] u q = refl
last_on w (x ∷ us) u q = last_on (word_after w x q) us u q

leaves_hearing : (old new : RibView) (v : ℕ) (o : Option Update) → Hears old new v o → Leaves old new v
leaves_hearing old new v None e = subst (λ (t : RibView). Leaves old t v) (sym e) (leaves_same old v)
leaves_hearing old new v (Some u) h = leaves_heard old new v u h

sent_hearing : (old new : RibView) (v : ℕ) (o : Option Update) → Hears old new v o → (y : ℕ) (q : PrefixView) → word_of new.sent y q ≡ word_of old.sent y q
sent_hearing old new v None e y q = ap (λ (t : RibView). word_of t.sent y q) e
sent_hearing old new v (Some u) h y q = ap (λ (t : RibView). word_of t.sent y q) h.rest

-- ---- the numbers of what was read fit its width

abbrev IsShortAt : Width → AtHand → Type 0
IsShortAt width NoMessage = Unit {0}
IsShortAt width (HasFault fault) = Unit {0}
IsShortAt width (HasUpdate u) = IsShort width (announced_word u.attrs)

segment_short : (width : Width) (kind : SegmentKind) (numbers : List ℕ) → AllByRecursion (AsnFits width) numbers → IsShort width (segment_word kind numbers)
segment_short width AsSequence numbers h = h
segment_short width AsSet numbers h = tt

segments_short : (width : Width) (ss : List Segment) → AllByRecursion (SegmentFits width) ss → IsShort width (segments_word ss)
segments_short width [] h = tt
segments_short width (s ∷ []) h = segment_short width s.kind s.numbers h.0.1.1
segments_short width (s ∷ t ∷ rest) h = tt

path_short : (width : Width) (o : Option (List Segment)) → IfSome o (AllByRecursion (SegmentFits width)) → IsShort width (path_word o)
path_short width None h = tt
path_short width (Some ss) h = segments_short width ss h

short_at : (rule : Rule) (m : Result Message Fault) → IfOk m (IsWritable rule) → IsShortAt rule.width (at_hand m)
short_at rule (Ok (OpenMsg o)) h = tt
short_at rule (Ok (UpdateMsg u)) h = path_short rule.width u.attrs.path h.attrs.path
short_at rule (Ok (NoticeMsg n)) h = tt
short_at rule (Ok AliveMsg) h = tt
short_at rule (Err fault) h = tt

short_after : (width : Width) (b d : Bool) (announced word : Word) → IsShort width announced → IsShort width word → IsShort width (cond b announced (cond d nothing word))
short_after width true d announced word a w = a
short_after width false true announced word a w = tt
short_after width false false announced word a w = w

-- ---- what the network names

abbrev names_it : PrefixView → Origin → Bool
names_it q o = is_prefix o.prefix q

named_by : (origins : List Origin) (q : PrefixView) (b : Bool) → list_any (names_it q) origins ≡ b → IsNamed origins q ⊎ (IsNamed origins q → ⊥)
named_by origins q true e = inl (let found = Any-from_list_any (names_it q) origins e in (found.0, found.1, found.2, found.3, is_prefix-true found.1.prefix q found.4))
named_by origins q false e =
    inr (λ found. clash (sym (list_any-from_Any (names_it q) origins (found.0, found.1, found.2, found.3, is_prefix-from found.1.prefix q found.4)) ∙ e))

module _ (word_follows : WordFollows) (width : Width) (old new : RibView) (v : ℕ) (u : Update) (h : HearsUpdate old new v u) (announced : IsShort width (announced_word u.attrs))
    (short : (y : ℕ) (q : PrefixView) → IsShort width (word_of old.heard y q)) where
  short_there : (q : PrefixView) → IsShort width (word_of new.heard v q)
  short_there q =
      elim (named_by old.net.origins q (list_any (names_it q) old.net.origins) refl) [
        | inl named ↦
            subst (IsShort width) (sym (word_follows old.net.origins old.heard new.heard v u h.words q named))
            (short_after width (lists u.nlri q) (lists u.withdrawn q) (announced_word u.attrs) (word_of old.heard v q) announced (short v q))
        | inr other ↦ subst (IsShort width) (sym (h.words.unnamed q other)) (short v q)
      ]

  short_update : (y : ℕ) (q : PrefixView) (b : Bool) → (y == v) ≡ b → IsShort width (word_of new.heard y q)
  short_update y q true e = subst (λ n. IsShort width (word_of new.heard n q)) (sym (eqb-true y v e)) (short_there q)
  short_update y q false e = subst (IsShort width) (sym (h.words.others y q (eqb-false y v e))) (short y q)

short_hearing : WordFollows → (width : Width) (old new : RibView) (v : ℕ) (b : Bool) (h : AtHand) → Hears old new v (update_acted b h) → IsShortAt width h
    → ((y : ℕ) (q : PrefixView) → IsShort width (word_of old.heard y q)) → (y : ℕ) (q : PrefixView) → IsShort width (word_of new.heard y q)
short_hearing law width old new v b NoMessage e a short y q = subst (λ (t : RibView). IsShort width (word_of t.heard y q)) (sym e) (short y q)
short_hearing law width old new v b (HasFault fault) e a short y q = subst (λ (t : RibView). IsShort width (word_of t.heard y q)) (sym e) (short y q)
short_hearing law width old new v true (HasUpdate u) h a short y q = short_update law width old new v u h a short y q (y == v) refl
short_hearing law width old new v false (HasUpdate u) e a short y q = subst (λ (t : RibView). IsShort width (word_of t.heard y q)) (sym e) (short y q)

module _ (word_follows : WordFollows) (origins : List Origin) (v : ℕ) (s : Side) (e : ℕ) where
  history_on : (u : Update) → e ≡ s.link.epoch → with_update s.acted e u s.link.epoch ≡ s.acted s.link.epoch ++ u ∷ []
  history_on u same = rw (eq-eqb s.link.epoch e (sym same)) refl

  follows_update : (old new : RibView) (u : Update) → is_up s ≡ true → e ≡ s.link.epoch → old.net.origins ≡ origins → HearsUpdate old new v u → Follows origins old v s
      → Follows origins new v (record s { acted = with_update s.acted e u })
  follows_update old new u up same net h f =
      let applies = subst (λ (os : List Origin). Applies os old.heard new.heard v u) net h.words in
      record {
        up = ((λ k. f.up.0 (subst (λ (t : RibView). Contains t.established v) h.rest k)), (λ k. subst (λ (t : RibView). Contains t.established v) (sym h.rest) (f.up.1 k)));
        heard = λ q k.
            word_follows origins old.heard new.heard v u applies q k ∙ ap (λ w. word_after w u q) (f.heard q k)
            ∙ rw up (sym (last_on nothing (s.acted s.link.epoch) u q) ∙ ap (λ us. last_word nothing us q) (sym (history_on u same)));
        told = λ q k. ap (λ (t : RibView). word_of t.sent v q) h.rest ∙ f.told q k;
      }

  follows_as : (old new : RibView) → new ≡ old → Follows origins old v s → Follows origins new v s
  follows_as old new same f = subst (λ (t : RibView). Follows origins t v s) (sym same) f

  follows_hearing : (old new : RibView) (b : Bool) (h : AtHand) → (b ≡ true → (is_up s ≡ true) × (e ≡ s.link.epoch)) → old.net.origins ≡ origins → Hears old new v (update_acted b h)
      → Follows origins old v s → Follows origins new v (record s { acted = acted_with b h e s.acted })
  follows_hearing old new true NoMessage up net k f = follows_as old new k f
  follows_hearing old new true (HasFault fault) up net k f = follows_as old new k f
  follows_hearing old new true (HasUpdate u) up net k f = follows_update old new u (up refl).0 (up refl).1 net k f
  follows_hearing old new false NoMessage up net k f = follows_as old new k f
  follows_hearing old new false (HasFault fault) up net k f = follows_as old new k f
  follows_hearing old new false (HasUpdate u) up net k f = follows_as old new k f

-- ---- a front that is handled

module _ (s : Side) (h : AtHand) (a : Draft) (up : ComesUpUnsaid s a) (acts : ActsWhereUp s a) where
  unsaid_by : (b : Bool) → a.acts ≡ b → is_established a.session.state ≡ true → (is_up s ≡ false) ⊎ (s.link.epoch < a.link.epoch)
      → (acted_with b h a.link.epoch s.acted a.link.epoch ≡ []) × (s.sent a.link.epoch ≡ [])
  unsaid_by true e t d =
      let k = acts e in
      elim d [
        | inl n ↦ absurd (clash (sym k.0 ∙ n))
        | inr l ↦ absurd (omega (arith, l, k.2))
      ]
  unsaid_by false e t d = up t d

module _ (word_follows : WordFollows) (r : RouterView) (v i : ℕ) (p q : Peer) (c : Changes r v i p q) (sound : IsSound r) (t : RibView) (x y : Snapshots) where
  tracks_draft : (h : AtHand) (a : Draft) (between : RibView) → side q.side ≡ carried h (without_front (side p.side)) a → Hears r.tables between v (update_acted a.acts h)
      → Followed between t v (standing (side p.side)) (standing (side q.side)) → IsFresh (carried h (without_front (side p.side)) a) → ComesUpUnsaid (side p.side) a
      → (side p.side).link.epoch ≤ a.link.epoch → ActsWhereUp (side p.side) a → IsShortAt r.net.settings.width h → Tracks r v q t
  tracks_draft h a between is hears f fresh up onward acts short =
      let s = side p.side in
      let z = carried h (without_front s) a in
      let l : Side = record s { acted = acted_with a.acts h a.link.epoch s.acted } in
      let on : Followed between t v (standing s) (standing z) = subst (λ (w : Side). Followed between t v (standing s) (standing w)) is f in
      let before = leaves_hearing r.tables between v (update_acted a.acts h) hears in
      let heard = follows_hearing word_follows r.net.origins v s a.link.epoch r.tables between a.acts h (λ k. let w = acts k in (w.0, w.2)) (ap (λ (n : Plan). n.origins) sound.tabled.net) hears (is_followed r v i p q c sound) in
      record {
        leaves = leaves_then r.tables between t v before (leaves between t v (standing s) (standing (side q.side)) f);
        follows =
            subst (Follows r.net.origins t v) (sym is)
            (follows_by r.net.origins v l z refl refl between t (is_up l) (is_up z) refl refl onward (λ k d. unsaid_by s h a up acts a.acts refl k d) heard on);
        fresh = subst IsFresh (sym is) fresh;
        width = ap (λ (y : Side). y.width) is ∙ has_width r v i p q c sound;
        short = all_heard (IsShort r.net.settings.width) tt between t v (standing s) (standing (side q.side)) f (short_hearing word_follows r.net.settings.width r.tables between v a.acts h hears short sound.tabled.short);
        sent = all_sent IsPathWord refl between t v (standing s) (standing (side q.side)) f (λ w k. subst IsPathWord (sym (sent_hearing r.tables between v (update_acted a.acts h) hears w k)) (sound.tabled.sent w k));
      }

  pub tracks_handled : HandlingKeepsFresh r.own_open (front (rule_of r.net r.number v) (side p.side).held) (side p.side) → HandlesFront r.own_open (rule_of r.net r.number v) v (side p.side) (side q.side) r.tables t x y → Tracks r v q t
  tracks_handled k h =
      let s = side p.side in
      let m = front (rule_of r.net r.number v) s.held in
      let d = draft_message r.own_open m s in
      let back : d ≡ h.draft = sym h.draft_is in
      tracks_draft h.hand h.draft h.between h.side h.hears h.follows
      (subst (λ (w : AtHand). IsFresh (carried w (without_front s) h.draft)) (sym h.hand_is) (subst (λ (a : Draft). IsFresh (carried (at_hand m) (without_front s) a)) back k.fresh))
      (subst (λ (a : Draft). ComesUpUnsaid s a) back k.up)
      (subst (λ (a : Draft). s.link.epoch ≤ a.link.epoch) back k.onward)
      (subst (λ (a : Draft). ActsWhereUp s a) back k.acts)
      (subst (IsShortAt r.net.settings.width) (sym h.hand_is) (short_at (rule_of r.net r.number v) m h.writable))

  pub leaves_handled : HandlesFront r.own_open (rule_of r.net r.number v) v (side p.side) (side q.side) r.tables t x y → Leaves r.tables t v
  leaves_handled h =
      leaves_then r.tables h.between t v (leaves_hearing r.tables h.between v (update_acted h.draft.acts h.hand) h.hears) (leaves h.between t v (standing (side p.side)) (standing (side q.side)) h.follows)
