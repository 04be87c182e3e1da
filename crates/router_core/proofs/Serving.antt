-- A put, and a front that is handled, as steps of the router.
use Rattle.std.proofs.Common.{◌≡◌, ℕ, ◌+◌, Bool, true, false, [], Option, None, Some, refl, ap, sym, ◌∙◌, subst, get_or}
use Rattle.std.specs.Prelude.{nat_lt, is_some, Result, Ok, Err}
use Rattle.bgp_codec.specs.declared.rule.Rule.{Rule}
use Rattle.bgp_framing.specs.Held.{is_waiting}
use Rattle.run_model.specs.Network.{alone}
use Rattle.outbox.specs.declared.item.What.{What}
use Rattle.outbox.specs.declared.item.Item.{Item}
use Rattle.outbox.specs.Items.{next_item, left_behind}
use Rattle.router_core.specs.declared.peers.Peer.{Peer}
use Rattle.router_model.specs.declared.refusal.RouterError.{RouterError}
use Rattle.router_model.specs.declared.refusal.RouterError.TheVariants as error
use Rattle.router_model.specs.declared.refusal.Stepped.{Stepped}
use Rattle.router_model.specs.declared.refusal.Stepped.TheVariants as stepped
use Rattle.router_model.specs.Sides.{Side, AtHand, Draft, carried, at_hand, front, without_front, draft_message}
use Rattle.router_side.specs.SideOf.{side, put_next}
use Rattle.router_model.specs.State.{open_of, rule_of}
use Rattle.rib_tables.specs.Owners.{RibView}
use Rattle.snap_marker.specs.Recordings.{closed}
use Rattle.snap_marker.specs.Parts.{MarkView, snapshots_of}
use Rattle.router_model.specs.Step.{Handles, put_from, moved, seen, close_at, with_side}
use Rattle.router_core.proofs.Following.{Leaves}
use Rattle.router_model.specs.Calls.{Stamped, Put, Handle, Gives, answer, judged, unless, if_so, put_event, overflows_at}
use Rattle.run_model.specs.declared.stamps.TheConstants.{GREATEST_STAMP}
use Rattle.router_side.specs.SideOf.{side_opening}
use Rattle.ranked_policy.specs.Plans.{Plan}
use Rattle.router_model.specs.Settings.{Setting, linked}
use Rattle.router_core.specs.Views.{RouterView, sides_of, listed, IsAt, config_of, plain_of, IsSound, Shows, HasNext}
use Rattle.router_core.specs.Calling.{no_step}
use Rattle.router_core.proofs.NoStep.{gives_no_step}
use Rattle.router_core.proofs.PeerLemmas.{side_here}
use Rattle.router_core.proofs.Carrying.{Changes, IsOf, with_peer, becomes, fronts, drafted, is_linked}

some_is : (n : Option What) → is_some n ≡ true → (i : What) × (n ≡ Some i)
some_is None h = absurd cc
some_is (Some i) h = (i, refl)

none_is : (n : Option What) → is_some n ≡ false → n ≡ None
none_is None h = refl
none_is (Some i) h = absurd cc

module _ (g : Setting) (r : RouterView) (v i : ℕ) (p : Peer) (of : IsOf g r) (at : IsAt r.peers v i) (here : p ≡ get_or r.peers i p) (l : listed v r.peers ≡ true) where
  stands : sides_of r v ≡ side p.side
  stands = side_here (side_opening (config_of r.net) r.net.settings.width) r.peers v i p at ∙ ap (λ (w : Peer). side w.side) (sym here)

  -- ---- a put

  next_there : next_item g.net.settings.cut (sides_of r v).outbox ≡ next_item r.net.settings.cut (side p.side).outbox
  next_there = ap (λ (s : Side). next_item g.net.settings.cut s.outbox) stands ∙ ap (λ (n : ℕ). next_item n (side p.side).outbox) of.cut

  abbrev Puts : Result Stepped RouterError → Stamped → Bool → Option What → Bool → Type 0
  Puts res y t n late = Gives g r.number res (judged (unless t error.NoSuchPeer) (put_event v n) late (overflows_at g r.number (plain_of r).router (put_event v n))) (plain_of r) (Put v) y

  put_is : (res : Result Stepped RouterError) (y : Stamped) (n : Option What) (late : Bool) → next_item r.net.settings.cut (side p.side).outbox ≡ n → nat_lt GREATEST_STAMP (r.stamp + 1) ≡ late → Puts res y true n late
      → Gives g r.number res (answer g r.number (plain_of r) (Put v)) (plain_of r) (Put v) y
  put_is res y n late is at_stamp h =
      subst (λ (t : Bool). Puts res y t (next_item g.net.settings.cut (sides_of r v).outbox) (nat_lt GREATEST_STAMP (r.stamp + 1))) (sym (is_linked g r v true of l))
      (subst (λ (w : Option What). Puts res y true w (nat_lt GREATEST_STAMP (r.stamp + 1))) (sym (next_there ∙ is))
      (subst (λ (b : Bool). Puts res y true n b) (sym at_stamp) h))

  pub puts_nothing : is_some (next_item r.net.settings.cut (side p.side).outbox) ≡ false → Gives g r.number (Ok stepped.Nothing) (answer g r.number (plain_of r) (Put v)) (plain_of r) (Put v) (plain_of r)
  puts_nothing h = put_is (Ok stepped.Nothing) (plain_of r) None (nat_lt GREATEST_STAMP (r.stamp + 1)) (none_is (next_item r.net.settings.cut (side p.side).outbox) h) refl (refl, refl)

  pub puts_item : (q : Peer) → Changes r v i p q → side q.side ≡ put_next (side p.side) r.net.settings.cut → is_some (next_item r.net.settings.cut (side p.side).outbox) ≡ true
      → nat_lt GREATEST_STAMP (r.stamp + 1) ≡ false
      → Gives g r.number (Ok stepped.Did) (answer g r.number (plain_of r) (Put v)) (plain_of r) (Put v) (plain_of (with_peer r i q r.tables r.marks (r.stamp + 1)))
  puts_item q c is h late =
      let n = some_is (next_item r.net.settings.cut (side p.side).outbox) h in
      let put : side q.side ≡ put_from (side p.side) n.0 = is ∙ ap (λ (w : Option What). record (side p.side) { outbox = left_behind w (side p.side).outbox }) n.1 in
      put_is (Ok stepped.Did) (plain_of (with_peer r i q r.tables r.marks (r.stamp + 1))) (Some n.0) false n.1 late (refl, becomes r v i p q c (r.stamp + 1) (λ s. put_from s n.0) put)

  -- ---- a front that is handled

  abbrev Hands : Result Stepped RouterError → Stamped → Bool → Bool → Bool → Type 0
  Hands res y t b late = Gives g r.number res (judged (unless t error.NoSuchPeer) (if_so b (alone (Handles v))) late (overflows_at g r.number (plain_of r).router (if_so b (alone (Handles v))))) (plain_of r) (Handle v) y

  hand_is : (res : Result Stepped RouterError) (y : Stamped) (b late : Bool) → is_waiting (side p.side).held ≡ b → nat_lt GREATEST_STAMP (r.stamp + 1) ≡ late → Hands res y true b late
      → Gives g r.number res (answer g r.number (plain_of r) (Handle v)) (plain_of r) (Handle v) y
  hand_is res y b late is at_stamp h =
      subst (λ (t : Bool). Hands res y t (is_waiting (sides_of r v).held) (nat_lt GREATEST_STAMP (r.stamp + 1))) (sym (is_linked g r v true of l))
      (subst (λ (w : Bool). Hands res y true w (nat_lt GREATEST_STAMP (r.stamp + 1))) (sym (ap (λ (s : Side). is_waiting s.held) stands ∙ is))
      (subst (λ (w : Bool). Hands res y true b w) (sym at_stamp) h))

  pub hands_nothing : is_waiting (side p.side).held ≡ false → Gives g r.number (Ok stepped.Nothing) (answer g r.number (plain_of r) (Handle v)) (plain_of r) (Handle v) (plain_of r)
  hands_nothing h = hand_is (Ok stepped.Nothing) (plain_of r) false (nat_lt GREATEST_STAMP (r.stamp + 1)) h refl (refl, refl)

  pub hands_no_step : is_waiting (side p.side).held ≡ true → Gives g r.number (Err (no_step r.stamp)) (answer g r.number (plain_of r) (Handle v)) (plain_of r) (Handle v) (plain_of r)
  hands_no_step h =
      let late = nat_lt GREATEST_STAMP (r.stamp + 1) in
      hand_is (Err (no_step r.stamp)) (plain_of r) true late h refl (gives_no_step g r.number late (plain_of r) (Handle v) (alone (Handles v)))

  pub hands_refused : (y : Stamped) → y ≡ plain_of r → is_waiting (side p.side).held ≡ true → nat_lt GREATEST_STAMP (r.stamp + 1) ≡ false
      → Gives g r.number (Err error.Memory) (answer g r.number (plain_of r) (Handle v)) (plain_of r) (Handle v) y
  hands_refused y same h late = hand_is (Err error.Memory) y true false h late (refl, same)

  pub hands_front : (q : Peer) (c : Changes r v i p q) (t : RibView) (m : MarkView) (h : AtHand) (a : Draft) → h ≡ at_hand (front (rule_of r.net r.number v) (side p.side).held)
      → a ≡ draft_message r.own_open (front (rule_of r.net r.number v) (side p.side).held) (side p.side) → side q.side ≡ carried h (without_front (side p.side)) a → Leaves r.tables t v
      → snapshots_of m ≡ seen a.acts h v (closed (close_at v a.left) (snapshots_of r.marks)) → is_waiting (side p.side).held ≡ true → nat_lt GREATEST_STAMP (r.stamp + 1) ≡ false
      → Gives g r.number (Ok stepped.Did) (answer g r.number (plain_of r) (Handle v)) (plain_of r) (Handle v) (plain_of (with_peer r i q t m (r.stamp + 1)))
  hands_front q c t m h a eh ea is l x w late =
      let n = front (rule_of g.net r.number v) (sides_of r v).held in
      let b = draft_message (open_of g.net r.number) n (sides_of r v) in
      let same : a ≡ b =
      drafted g r v i p (λ o s. draft_message o (front (rule_of g.net r.number v) s.held) s) a of at here (ea ∙ ap (λ (k : Rule). draft_message r.own_open (front k (side p.side).held) (side p.side)) (sym (of.rule v))) in
      let hand : h ≡ at_hand n = eh ∙ ap (λ (k : Rule). at_hand (front k (side p.side).held)) (sym (of.rule v)) ∙ ap (λ (s : Side). at_hand (front (rule_of g.net r.number v) s.held)) (sym stands) in
      let done = fronts r v i p q c t m (r.stamp + 1) h a is l x in
      hand_is (Ok stepped.Did) (plain_of (with_peer r i q t m (r.stamp + 1))) true false w late (
        refl,
        done ∙ ap (λ (k : AtHand). record { router = moved (with_side (plain_of r).router v without_front) v k a; stamp = r.stamp + 1 }) hand
            ∙ ap (λ (d : Draft). record { router = moved (with_side (plain_of r).router v without_front) v (at_hand n) d; stamp = r.stamp + 1 }) same,
      )

-- ---- what is put next, shown

abbrev pub Seen : ℕ → Setting → RouterView → ℕ → Result (Option Item) RouterError → Bool → Option What → Bool → Type 0
Seen stamp g r v res t n late = Shows stamp res (judged (unless t error.NoSuchPeer) (put_event v n) late (overflows_at g r.number (plain_of r).router (put_event v n)))

-- an item that is shown can be put
pub can_put : (stamp : ℕ) (g : Setting) (r : RouterView) (v : ℕ) (next : Item) (t : Bool) (n : Option What) (late : Bool) → Seen stamp g r v (Ok (Some next)) t n late
    → (t ≡ true) × (is_some n ≡ true) × (late ≡ false)
can_put stamp g r v next true (Some i) false h = (refl, refl, refl)
can_put stamp g r v next true (Some i) true h = absurd cc
can_put stamp g r v next true None late h = absurd cc
can_put stamp g r v next false n late h = absurd cc

abbrev any_setting : RouterView → Setting
any_setting r = record { net = r.net; best = λ u q originated words. [] }

-- the same, of a router that shows an item
pub has_next : (r : RouterView) (v : ℕ) → IsSound r → HasNext r v
    → (listed v r.peers ≡ true) × (is_some (next_item r.net.settings.cut (sides_of r v).outbox) ≡ true) × (nat_lt GREATEST_STAMP (r.stamp + 1) ≡ false)
has_next r v s h =
    let can = can_put (r.stamp + 1) (any_setting r) r v h.0 (linked r.net r.number v) (next_item r.net.settings.cut (sides_of r v).outbox) (nat_lt GREATEST_STAMP (r.stamp + 1)) (h.1 (any_setting r) refl) in
    (s.links v ∙ can.0, can.1, can.2)

-- what is put next towards a peer, by its place
pub item_here : (r : RouterView) (v i : ℕ) (p : Peer) → IsAt r.peers v i → p ≡ get_or r.peers i p → next_item r.net.settings.cut (side p.side).outbox ≡ next_item r.net.settings.cut (sides_of r v).outbox
item_here r v i p at here =
    ap (λ (s : Side). next_item r.net.settings.cut s.outbox) (ap (λ (w : Peer). side w.side) here ∙ sym (side_here (side_opening (config_of r.net) r.net.settings.width) r.peers v i p at))

-- towards what is no peer nothing is put
pub shows_no_peer : (g : Setting) (r : RouterView) (v : ℕ) → g.net ≡ r.net → linked r.net r.number v ≡ false → Shows (r.stamp + 1) (Err error.NoSuchPeer) (answer g r.number (plain_of r) (Put v))
shows_no_peer g r v e l =
    let n = next_item g.net.settings.cut (sides_of r v).outbox in
    subst (λ (b : Bool). Seen (r.stamp + 1) g r v (Err error.NoSuchPeer) b n (nat_lt GREATEST_STAMP (r.stamp + 1))) (sym (ap (λ (k : Plan). linked k r.number v) e ∙ l)) refl

module _ (g : Setting) (r : RouterView) (v : ℕ) (of : IsOf g r) where
  seen_is : (res : Result (Option Item) RouterError) (t : Bool) (n : Option What) (late : Bool) → listed v r.peers ≡ t → next_item r.net.settings.cut (sides_of r v).outbox ≡ n
      → nat_lt GREATEST_STAMP (r.stamp + 1) ≡ late → Seen (r.stamp + 1) g r v res t n late → Shows (r.stamp + 1) res (answer g r.number (plain_of r) (Put v))
  seen_is res t n late l is at_stamp h =
      subst (λ (b : Bool). Seen (r.stamp + 1) g r v res b (next_item g.net.settings.cut (sides_of r v).outbox) (nat_lt GREATEST_STAMP (r.stamp + 1))) (sym (is_linked g r v t of l))
      (subst (λ (w : Option What). Seen (r.stamp + 1) g r v res t w (nat_lt GREATEST_STAMP (r.stamp + 1))) (sym (ap (λ (k : ℕ). next_item k (sides_of r v).outbox) of.cut ∙ is))
      (subst (λ (b : Bool). Seen (r.stamp + 1) g r v res t n b) (sym at_stamp) h))

  module _ (i : ℕ) (p : Peer) (at : IsAt r.peers v i) (here : p ≡ get_or r.peers i p) (l : listed v r.peers ≡ true) where
    waits : next_item r.net.settings.cut (sides_of r v).outbox ≡ next_item r.net.settings.cut (side p.side).outbox
    waits = ap (λ (s : Side). next_item r.net.settings.cut s.outbox) (side_here (side_opening (config_of r.net) r.net.settings.width) r.peers v i p at ∙ ap (λ (w : Peer). side w.side) (sym here))

    pub shows_nothing : is_some (next_item r.net.settings.cut (side p.side).outbox) ≡ false → Shows (r.stamp + 1) (Ok None) (answer g r.number (plain_of r) (Put v))
    shows_nothing h = seen_is (Ok None) true None (nat_lt GREATEST_STAMP (r.stamp + 1)) l (waits ∙ none_is (next_item r.net.settings.cut (side p.side).outbox) h) refl refl

    pub shows_late : is_some (next_item r.net.settings.cut (side p.side).outbox) ≡ true → nat_lt GREATEST_STAMP (r.stamp + 1) ≡ true
        → Shows (r.stamp + 1) (Err error.StampEnd) (answer g r.number (plain_of r) (Put v))
    shows_late h late = let n = some_is (next_item r.net.settings.cut (side p.side).outbox) h in seen_is (Err error.StampEnd) true (Some n.0) true l (waits ∙ n.1) late refl

    pub shows_item : (what : What) → Some what ≡ next_item r.net.settings.cut (side p.side).outbox → nat_lt GREATEST_STAMP (r.stamp + 1) ≡ false
        → Shows (r.stamp + 1) (Ok (Some (record { stamp = r.stamp + 1; what = what }))) (answer g r.number (plain_of r) (Put v))
    shows_item what is late = seen_is (Ok (Some (record { stamp = r.stamp + 1; what = what }))) true (Some what) false l (waits ∙ sym is) late refl

    pub shows_memory : is_some (next_item r.net.settings.cut (side p.side).outbox) ≡ true → nat_lt GREATEST_STAMP (r.stamp + 1) ≡ false
        → Shows (r.stamp + 1) (Err error.Memory) (answer g r.number (plain_of r) (Put v))
    shows_memory h late = let n = some_is (next_item r.net.settings.cut (side p.side).outbox) h in seen_is (Err error.Memory) true (Some n.0) false l (waits ∙ n.1) late refl
