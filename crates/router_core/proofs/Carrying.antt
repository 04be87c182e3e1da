-- A draft that is carried out for one peer, as a step of the router.
use Rattle.std.proofs.Common.{◌≡◌, ℕ, ◌≤◌, ◌<◌, Bool, true, false, cond, ◌==◌, List, None, Some, refl, ap, sym, ◌∙◌, subst, get_or, set}
use Rattle.std.proofs.Math.Path.{fun_ext}
use Rattle.std.specs.Prelude.{◌+◌, nat_lt, Result, Ok, Err}
use Rattle.bgp_codec.specs.declared.message.Message.{Message}
use Rattle.run_model.specs.Network.{alone}
use Rattle.ranked_policy.specs.Plans.{Plan}
use Rattle.std.proofs.lemmas.Bool.{eqb-true, eqb-false}
use Rattle.prefix_lanes.specs.Bits.{PrefixView}
use Rattle.bgp_codec.specs.declared.update.Update.{Update}
use Rattle.session_fsm.specs.Table.{SessionView}
use Rattle.link_epoch.specs.Ends.{LinkView}
use Rattle.rib_tables.specs.Words.{lists}
use Rattle.rib_tables.specs.Tables.{Paths, word_of, path_of}
use Rattle.rib_tables.specs.Owners.{RibView}
use Rattle.snap_marker.specs.Recordings.{Snapshots, closed}
use Rattle.snap_marker.specs.Parts.{MarkView, snapshots_of, IsOver, AreOf}
use Rattle.router_side.specs.Freshness.{IsFresh, KeepsFresh, is_opening, is_away}
use Rattle.router_core.specs.Following.{Followed, standing}
use Rattle.router_core.proofs.Following.{Leaves, IsShort, leaves_same, leaves, all_sent, all_heard, follows_there, follows_alike, follows_by}
use Rattle.router_model.specs.declared.command.Command.{Command}
use Rattle.router_model.specs.declared.refusal.RouterError.{RouterError}
use Rattle.router_model.specs.declared.refusal.RouterError.TheVariants as error
use Rattle.router_model.specs.declared.refusal.Stepped.{Stepped}
use Rattle.router_model.specs.declared.refusal.Stepped.TheVariants as stepped
use Rattle.router_model.specs.Settings.{Setting, linked, peers}
use Rattle.router_model.specs.Sides.{Side, AtHand, NoMessage, Draft, carried, acted_with, is_up, without_front}
use Rattle.router_model.specs.State.{open_of, rule_of}
use Rattle.router_model.specs.Step.{RouterEvent, Obeys, with_side, moved, seen, close_at}
use Rattle.router_model.specs.Calls.{Stamped, Call, Obey, Gives, answer, judged, unless, stamped_after}
use Rattle.run_model.specs.declared.stamps.TheConstants.{GREATEST_STAMP}
use Rattle.router_side.specs.SideOf.{side, side_opening}
use Rattle.router_core.specs.declared.peers.Peer.{Peer}
use Rattle.router_core.specs.Views.{RouterView, IsSound, IsTabled, IsMarked, IsTellable, IsPathWord, Follows, side_at, sides_of, listed, IsAt, config_of, plain_of, Ends}
use Rattle.router_core.proofs.PeerLemmas.{side_here, number_here, is_listed, set_here, set_there, listed_set, numbers_set, sides_set, changed, unchanged}

nothing_acted : (b : Bool) (e : ℕ) (us : ℕ → List Update) → acted_with b NoMessage e us ≡ us
nothing_acted true e us = refl
nothing_acted false e us = refl

pub nothing_seen : (b : Bool) (v : ℕ) (x y : Snapshots) → y ≡ x → y ≡ seen b NoMessage v x
nothing_seen true v x y e = e
nothing_seen false v x y e = e

pub fresh_alike : (s z : Side) → z.session.state ≡ s.session.state → z.link ≡ s.link → z.acted ≡ s.acted → z.sent ≡ s.sent → IsFresh s → IsFresh z
fresh_alike s z state l a b f =
    let epoch = ap (λ (y : LinkView). y.epoch) l in
    record {
      later = λ n h. let k = f.later n (subst (λ e. e < n) epoch h) in (ap (λ (us : ℕ → List Update). us n) a ∙ k.0, ap (λ (us : ℕ → List Update). us n) b ∙ k.1);
      opening = λ h. let k = f.opening (sym (ap is_opening state) ∙ h) in
          (ap (λ (us : ℕ → List Update). us z.link.epoch) a ∙ ap s.acted epoch ∙ k.0, ap (λ (us : ℕ → List Update). us z.link.epoch) b ∙ ap s.sent epoch ∙ k.1);
      away = λ h. ap (λ (y : LinkView). y.phase) l ∙ f.away (sym (ap is_away state) ∙ h);
    }

twice_by : (b : Bool) (s : Side) (h : AtHand) (a : Draft) → cond b (carried h (without_front s) a) s ≡ cond b (carried h (cond b (without_front s) s) a) (cond b (without_front s) s)
twice_by true s h a = refl
twice_by false s h a = refl

abbrev twice : (ℕ → Side) → ℕ → AtHand → Draft → ℕ → Side
twice sides v h a = λ y. cond (y == v) (carried h (cond (y == v) (without_front (sides y)) (sides y)) a) (cond (y == v) (without_front (sides y)) (sides y))

twice_changed : (sides : ℕ → Side) (v : ℕ) (h : AtHand) (a : Draft) → changed sides v (λ s. carried h (without_front s) a) ≡ twice sides v h a
twice_changed sides v h a = fun_ext (λ y. twice_by (y == v) (sides y) h a)

-- ---- the peer at the place of a number changes, the tables, what is recorded, and the stamp

abbrev pub with_peer : RouterView → ℕ → Peer → RibView → MarkView → ℕ → RouterView
with_peer r i q t m stamp = record { net = r.net; number = r.number; own_open = r.own_open; peers = set r.peers i q; tables = t; marks = m; stamp = stamp }

-- the peer at this place is q in place of p
pub record Changes (r : RouterView) (v i : ℕ) (p q : Peer) : Type 0 where
  pub place : IsAt r.peers v i
  pub here : p ≡ get_or r.peers i p
  pub number : q.number ≡ p.number

-- the tables are still those of the sides
pub record Tracks (r : RouterView) (v : ℕ) (q : Peer) (t : RibView) : Type 0 where
  pub leaves : Leaves r.tables t v
  pub follows : Follows r.net.origins t v (side q.side)
  pub fresh : IsFresh (side q.side)
  pub width : (side q.side).width ≡ r.net.settings.width
  pub sent : (y : ℕ) (x : PrefixView) → IsPathWord (word_of t.sent y x)
  pub short : (y : ℕ) (x : PrefixView) → IsShort r.net.settings.width (word_of t.heard y x)

-- and what is recorded is this router's
pub record Records (r : RouterView) (m : MarkView) : Type 0 where
  pub over : (vs : List ℕ) → IsOver vs r.marks.unfinished → IsOver vs m.unfinished
  pub router : (u : ℕ) → AreOf u r.marks → AreOf u m

pub records_same : (r : RouterView) → Records r r.marks
records_same r = record { over = λ vs h. h; router = λ u h. h }

module _ (r : RouterView) (v i : ℕ) (p q : Peer) (c : Changes r v i p q) where
  named : q.number ≡ v
  named = c.number ∙ ap (λ (w : Peer). w.number) c.here ∙ number_here r.peers v i p c.place

  pub found : side p.side ≡ sides_of r v
  found = ap (λ (w : Peer). side w.side) c.here ∙ sym (side_here (side_opening (config_of r.net) r.net.settings.width) r.peers v i p c.place)

  -- what is known of its side
  pub is_peer : IsSound r → linked r.net r.number v ≡ true
  is_peer s = sym (s.links v) ∙ is_listed r.peers v i c.place

  pub is_fresh : IsSound r → IsFresh (side p.side)
  is_fresh s = subst IsFresh (sym found) (s.tabled.fresh v)

  pub has_width : IsSound r → (side p.side).width ≡ r.net.settings.width
  has_width s = ap (λ (y : Side). y.width) found ∙ s.tabled.width v

  pub is_followed : IsSound r → Follows r.net.origins r.tables v (side p.side)
  is_followed s = subst (Follows r.net.origins r.tables v) (sym found) (s.tabled.peers v (is_peer s))

  module _ (t : RibView) (m : MarkView) (stamp : ℕ) where
    follows_at : IsSound r → Tracks r v q t → (y : ℕ) (b : Bool) → (y == v) ≡ b → linked r.net r.number y ≡ true → Follows r.net.origins t y (sides_of (with_peer r i q t m stamp) y)
    follows_at s k y true e l =
        let same : y ≡ v = eqb-true y v e in
        subst (λ n. Follows r.net.origins t n (side_at (side_opening (config_of r.net) r.net.settings.width) (set r.peers i q) n)) (sym same)
        (subst (Follows r.net.origins t v) (sym (set_here (side_opening (config_of r.net) r.net.settings.width) r.peers v i q c.place named)) k.follows)
    follows_at s k y false e l =
        let other = eqb-false y v e in
        subst (Follows r.net.origins t y) (sym (set_there (side_opening (config_of r.net) r.net.settings.width) r.peers v i q y c.place named other))
        (follows_there r.net.origins r.tables t v y (sides_of r y) k.leaves other (s.tabled.peers y l))

    fresh_at : IsSound r → Tracks r v q t → (y : ℕ) (b : Bool) → (y == v) ≡ b → IsFresh (sides_of (with_peer r i q t m stamp) y)
    fresh_at s k y true e =
        let same : y ≡ v = eqb-true y v e in
        subst (λ n. IsFresh (side_at (side_opening (config_of r.net) r.net.settings.width) (set r.peers i q) n)) (sym same)
        (subst IsFresh (sym (set_here (side_opening (config_of r.net) r.net.settings.width) r.peers v i q c.place named)) k.fresh)
    fresh_at s k y false e =
        subst IsFresh (sym (set_there (side_opening (config_of r.net) r.net.settings.width) r.peers v i q y c.place named (eqb-false y v e))) (s.tabled.fresh y)

    width_at : IsSound r → Tracks r v q t → (y : ℕ) (b : Bool) → (y == v) ≡ b → (sides_of (with_peer r i q t m stamp) y).width ≡ r.net.settings.width
    width_at s k y true e =
        ap (λ n. (side_at (side_opening (config_of r.net) r.net.settings.width) (set r.peers i q) n).width) (eqb-true y v e)
        ∙ ap (λ (s : Side). s.width) (set_here (side_opening (config_of r.net) r.net.settings.width) r.peers v i q c.place named) ∙ k.width
    width_at s k y false e =
        ap (λ (s : Side). s.width) (set_there (side_opening (config_of r.net) r.net.settings.width) r.peers v i q y c.place named (eqb-false y v e)) ∙ s.tabled.width y

    tabled : IsSound r → Tracks r v q t → IsTabled (with_peer r i q t m stamp)
    tabled s k = record {
      net = k.leaves.net ∙ s.tabled.net;
      router = k.leaves.router ∙ s.tabled.router;
      peers = λ y l. follows_at s k y (y == v) refl l;
      fresh = λ y. fresh_at s k y (y == v) refl;
      width = λ y. width_at s k y (y == v) refl;
      sent = k.sent;
      short = k.short;
      kept = λ x n. ap (λ (ps : Paths). path_of ps x) k.leaves.kept ∙ s.tabled.kept x n;
      tellable = λ x. subst (λ (ps : Paths). IsTellable r.net.settings.width (path_of ps x)) (sym k.leaves.kept) (s.tabled.tellable x);
      originated = λ x h. s.tabled.originated x (ap (λ (ps : List PrefixView). lists ps x) (sym k.leaves.originated) ∙ h);
    }

    marked : IsSound r → Records r m → IsMarked (with_peer r i q t m stamp)
    marked s k =
        let own = k.router r.number (record { unfinished = s.marked.unfinished; queue = s.marked.queue }) in
        record { over = k.over (peers r.net r.number) s.marked.over; unfinished = own.unfinished; queue = own.queue }

    -- it is still what a router of the code is
    pub stays : IsSound r → stamp ≤ GREATEST_STAMP → Tracks r v q t → Records r m → IsSound (with_peer r i q t m stamp)
    stays s l k n = record {
      network = s.network;
      router = s.router;
      numbers = numbers_set r.peers v i q c.place named ∙ s.numbers;
      links = λ w. listed_set r.peers v i q c.place named w ∙ s.links w;
      own_open = s.own_open;
      sayable = s.sayable;
      stamp = l;
      tabled = tabled s k;
      marked = marked s n;
    }

    sides_now : (f : Side → Side) → side q.side ≡ f (side p.side) → sides_of (with_peer r i q t m stamp) ≡ changed (sides_of r) v f
    sides_now f is = sides_set (side_opening (config_of r.net) r.net.settings.width) r.peers v i q f c.place named (is ∙ ap f found)

    -- the plain router, by its sides, tables and recording
    plain_by : (sides : ℕ → Side) (x : Snapshots) → sides_of (with_peer r i q t m stamp) ≡ sides → Leaves r.tables t v → snapshots_of m ≡ x
        → plain_of (with_peer r i q t m stamp) ≡ record { router = record (plain_of r).router { sides = sides; snapshots = x }; stamp = stamp }
    plain_by sides x es l ex =
        ap (λ (y : ℕ → Side). record { router = record { sides = y; kept = path_of t.kept; originated = lists t.originated; snapshots = snapshots_of m }; stamp = stamp }) es
        ∙ ap (λ (ps : Paths). record { router = record { sides = sides; kept = path_of ps; originated = lists t.originated; snapshots = snapshots_of m }; stamp = stamp }) l.kept
        ∙ ap (λ (ps : List PrefixView). record { router = record { sides = sides; kept = path_of r.tables.kept; originated = lists ps; snapshots = snapshots_of m }; stamp = stamp }) l.originated
        ∙ ap (λ (y : Snapshots). record { router = record { sides = sides; kept = path_of r.tables.kept; originated = lists r.tables.originated; snapshots = y }; stamp = stamp }) ex

    -- it carries a draft out
    pub moves : (h : AtHand) (a : Draft) → side q.side ≡ carried h (side p.side) a → Leaves r.tables t v
        → snapshots_of m ≡ seen a.acts h v (closed (close_at v a.left) (snapshots_of r.marks))
        → plain_of (with_peer r i q t m stamp) ≡ record { router = moved (plain_of r).router v h a; stamp = stamp }
    moves h a is l x = plain_by (changed (sides_of r) v (λ s. carried h s a)) (seen a.acts h v (closed (close_at v a.left) (snapshots_of r.marks))) (sides_now (λ s. carried h s a) is) l x

    -- its front is taken away, and a draft carried out
    pub fronts : (h : AtHand) (a : Draft) → side q.side ≡ carried h (without_front (side p.side)) a → Leaves r.tables t v
        → snapshots_of m ≡ seen a.acts h v (closed (close_at v a.left) (snapshots_of r.marks))
        → plain_of (with_peer r i q t m stamp) ≡ record { router = moved (with_side (plain_of r).router v without_front) v h a; stamp = stamp }
    fronts h a is l x =
        plain_by (twice (sides_of r) v h a) (seen a.acts h v (closed (close_at v a.left) (snapshots_of r.marks)))
        (sides_now (λ s. carried h (without_front s) a) is ∙ twice_changed (sides_of r) v h a) l x

  -- it changes by a function, and all else stays
  pub becomes : (stamp : ℕ) (f : Side → Side) → side q.side ≡ f (side p.side) → plain_of (with_peer r i q r.tables r.marks stamp) ≡ record { router = with_side (plain_of r).router v f; stamp = stamp }
  becomes stamp f is = plain_by r.tables r.marks stamp (changed (sides_of r) v f) (snapshots_of r.marks) (sides_now r.tables r.marks stamp f is) (leaves_same r.tables v) refl

  -- it is what it was
  pub kept : (m : MarkView) → side q.side ≡ side p.side → snapshots_of m ≡ snapshots_of r.marks → plain_of (with_peer r i q r.tables m r.stamp) ≡ plain_of r
  kept m is x = plain_by r.tables m r.stamp (sides_of r) (snapshots_of r.marks) (sides_now r.tables m r.stamp (λ s. s) is ∙ unchanged (sides_of r) v) (leaves_same r.tables v) x

  -- octets that are held or wait to be put are nothing to the tables
  pub tracks_alike : IsSound r → (side q.side).session ≡ (side p.side).session → (side q.side).link ≡ (side p.side).link → (side q.side).acted ≡ (side p.side).acted → (side q.side).sent ≡ (side p.side).sent
      → (side q.side).width ≡ (side p.side).width → Tracks r v q r.tables
  tracks_alike s x l a b w =
      let state = ap (λ (y : SessionView). y.state) x in
      record {
        leaves = leaves_same r.tables v;
        follows = follows_alike r.net.origins r.tables v (side p.side) (side q.side) state l a b (is_followed s);
        fresh = fresh_alike (side p.side) (side q.side) state l a b (is_fresh s);
        width = w ∙ has_width s;
        sent = s.tabled.sent;
        short = s.tabled.short;
      }

  -- a draft without an UPDATE is carried out, and the tables follow its session
  pub tracks_moved : IsSound r → (a : Draft) (t : RibView) → KeepsFresh (sides_of r v) NoMessage a → side q.side ≡ carried NoMessage (side p.side) a
      → Followed r.tables t v (standing (side p.side)) (standing (side q.side)) → Tracks r v q t
  tracks_moved s a t k is f =
      let z = carried NoMessage (side p.side) a in
      let h = subst (λ (y : Side). KeepsFresh y NoMessage a) (sym found) k in
      let on : Followed r.tables t v (standing (side p.side)) (standing z) = subst (λ (y : Side). Followed r.tables t v (standing (side p.side)) (standing y)) is f in
      let none = nothing_acted a.acts a.link.epoch (side p.side).acted in
      record {
        leaves = leaves r.tables t v (standing (side p.side)) (standing (side q.side)) f;
        follows =
            subst (Follows r.net.origins t v) (sym is)
            (follows_by r.net.origins v (side p.side) z none refl r.tables t (is_up (side p.side)) (is_up z) refl refl h.onward
            (λ up b. let n = h.up up b in (ap (λ (us : ℕ → List Update). us a.link.epoch) none ∙ n.0, n.1)) (is_followed s) on);
        fresh = subst IsFresh (sym is) h.fresh;
        width = ap (λ (y : Side). y.width) is ∙ has_width s;
        sent = all_sent IsPathWord refl r.tables t v (standing (side p.side)) (standing (side q.side)) f s.tabled.sent;
        short = all_heard (IsShort r.net.settings.width) tt r.tables t v (standing (side p.side)) (standing (side q.side)) f s.tabled.short;
      }

-- ---- a router in a setting of its network

pub record IsOf (g : Setting) (r : RouterView) : Type 0 where
  pub links : (v : ℕ) → listed v r.peers ≡ linked g.net r.number v
  pub own_open : r.own_open ≡ open_of g.net r.number
  pub cut : g.net.settings.cut ≡ r.net.settings.cut
  pub rule : (v : ℕ) → rule_of g.net r.number v ≡ rule_of r.net r.number v

pub of_sound : (g : Setting) (r : RouterView) → IsSound r → g.net ≡ r.net → IsOf g r
of_sound g r s e = record {
  links = λ v. s.links v ∙ ap (λ (n : Plan). linked n r.number v) (sym e);
  own_open = s.own_open ∙ ap (λ (n : Plan). open_of n r.number) (sym e);
  cut = ap (λ (n : Plan). n.settings.cut) e;
  rule = λ v. ap (λ (n : Plan). rule_of n r.number v) e;
}

-- how a call ends, by the two tests
pub ends_did : (s o : Bool) (x z y : Stamped) → s ≡ false → o ≡ false → y ≡ z → Ends s o (Ok stepped.Did) x z y
ends_did s o x z y e f is = rw (e, f) (refl, is)

pub ends_memory : (s o : Bool) (x z y : Stamped) → s ≡ false → o ≡ false → y ≡ x → Ends s o (Err error.Memory) x z y
ends_memory s o x z y e f is = rw (e, f) (refl, is)

pub ends_give : (g : Setting) (u : ℕ) (s o : Bool) (r : Result Stepped RouterError) (x y z : Stamped) (call : Call) (e : RouterEvent) → stamped_after g u x call e ≡ z → Ends s o r x z y
    → Gives g u r (judged None (Some e) s o) x call y
ends_give g u true o r x y z call e is h = h
ends_give g u false true r x y z call e is h = h
ends_give g u false false r x y z call e is h = rw is h

-- what the code drafts of a peer's side is what the definitions draft of it
pub drafted : (g : Setting) (r : RouterView) (v i : ℕ) (p : Peer) (F : Message → Side → Draft) (a : Draft) → IsOf g r → IsAt r.peers v i → p ≡ get_or r.peers i p
    → a ≡ F r.own_open (side p.side) → a ≡ F (open_of g.net r.number) (sides_of r v)
drafted g r v i p F a of at here made =
    let s : side p.side ≡ sides_of r v = ap (λ (w : Peer). side w.side) here ∙ sym (side_here (side_opening (config_of r.net) r.net.settings.width) r.peers v i p at) in
    made ∙ ap (λ (m : Message). F m (side p.side)) of.own_open ∙ ap (F (open_of g.net r.number)) s

-- and it keeps histories fresh where the definitions' does
pub keeps_here : (r : RouterView) (v i : ℕ) (p : Peer) → IsAt r.peers v i → p ≡ get_or r.peers i p → IsSound r → (a b : Draft) → a ≡ b
    → (IsFresh (side p.side) → KeepsFresh (side p.side) NoMessage b) → KeepsFresh (sides_of r v) NoMessage a
keeps_here r v i p at here s a b e k =
    let f : side p.side ≡ sides_of r v = ap (λ (w : Peer). side w.side) here ∙ sym (side_here (side_opening (config_of r.net) r.net.settings.width) r.peers v i p at) in
    subst (λ (y : Side). KeepsFresh y NoMessage a) f (subst (KeepsFresh (side p.side) NoMessage) (sym e) (k (subst IsFresh (sym f) (s.tabled.fresh v))))

-- a call whose event is the draft of one side, carried out
pub one_step : (g : Setting) (r : RouterView) (y : Stamped) (v : ℕ) (h : AtHand) (a b : Draft) (stamp : ℕ) (call : Call) (e : RouterEvent) (res : Result Stepped RouterError) (o : Draft → Bool) → a ≡ b
    → stamped_after g r.number (plain_of r) call e ≡ record { router = moved (plain_of r).router v h b; stamp = stamp }
    → Ends (nat_lt GREATEST_STAMP stamp) (o a) res (plain_of r) (record { router = moved (plain_of r).router v h a; stamp = stamp }) y
    → Gives g r.number res (judged None (Some e) (nat_lt GREATEST_STAMP stamp) (o b)) (plain_of r) call y
one_step g r y v h a b stamp call e res o same is ends =
    ends_give g r.number (nat_lt GREATEST_STAMP stamp) (o b) res (plain_of r) y (record { router = moved (plain_of r).router v h b; stamp = stamp }) call e is
    (subst (λ (w : Draft). Ends (nat_lt GREATEST_STAMP stamp) (o w) res (plain_of r) (record { router = moved (plain_of r).router v h w; stamp = stamp }) y) same ends)

-- the first test of a call: whether the peer is linked
pub is_linked : (g : Setting) (r : RouterView) (v : ℕ) (b : Bool) → IsOf g r → listed v r.peers ≡ b → linked g.net r.number v ≡ b
is_linked g r v b of l = sym (of.links v) ∙ l

module _ (g : Setting) (r : RouterView) (y : Stamped) (v i : ℕ) (p : Peer) (a : Draft) (res : Result Stepped RouterError) (of : IsOf g r) (at : IsAt r.peers v i) (here : p ≡ get_or r.peers i p)
    (l : listed v r.peers ≡ true) where
  abbrev pub Ended : Bool → ℕ → Type 0
  Ended o stamp = Ends (nat_lt GREATEST_STAMP stamp) o res (plain_of r) (record { router = moved (plain_of r).router v NoMessage a; stamp = stamp }) y

  -- a command to a session, by what it drafts and by whether that may dial
  pub commanded : (c : Command) (F : Message → Side → Draft) (o : Draft → Bool)
      → answer g r.number (plain_of r) (Obey c) ≡ judged (unless (linked g.net r.number v) error.NoSuchPeer) (Some (alone (Obeys c))) (nat_lt GREATEST_STAMP (r.stamp + 1)) (o (F (open_of g.net r.number) (sides_of r v)))
      → stamped_after g r.number (plain_of r) (Obey c) (alone (Obeys c)) ≡ record { router = moved (plain_of r).router v NoMessage (F (open_of g.net r.number) (sides_of r v)); stamp = r.stamp + 1 }
      → a ≡ F r.own_open (side p.side) → Ended (o a) (r.stamp + 1) → Gives g r.number res (answer g r.number (plain_of r) (Obey c)) (plain_of r) (Obey c) y
  commanded c F o answers after made ends =
      let b = F (open_of g.net r.number) (sides_of r v) in
      rw (answers, is_linked g r v true of l)
      (one_step g r y v NoMessage a b (r.stamp + 1) (Obey c) (alone (Obeys c)) res o (drafted g r v i p F a of at here made) after ends)
