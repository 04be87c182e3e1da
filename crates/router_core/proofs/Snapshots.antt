-- A snapshot that is recorded, as a step of the router.
use Rattle.std.proofs.Common.{◌≡◌, ℕ, ◌≤◌, ◌==◌, Bool, true, false, not, cond, ◌&&◌, List, [], ◌∷◌, Option, None, Some, refl, sym, ap, ◌∙◌}
use Rattle.std.proofs.lemmas.Bool.{eqb-true}
use Rattle.std.specs.List.{find}
use Rattle.std.proofs.Math.Path.{fun_ext}
use Rattle.bgp_codec.specs.declared.message.Message.{Message}
use Rattle.prefix_lanes.specs.Bits.{PrefixView}
use Rattle.ranked_policy.specs.Plans.{Plan}
use Rattle.rib_tables.specs.Promises.{BestOverWords}
use Rattle.stable_paths.specs.Promises.{OneBest}
use Rattle.snap_marker.specs.declared.part.Part.{Part}
use Rattle.snap_marker.specs.Parts.{MarkView, snapshots_of, peers_of, epoch_in, channel_in, waits_for_marker, kept_in, originated_in, part_of, IsOver, AreOf}
use Rattle.snap_marker.specs.Parts as parts
use Rattle.snap_marker.specs.Recordings.{RouterPart, Recording, Snapshots, begun_at, begun}
use Rattle.router_model.specs.Laws.{LinkedRoutersArePeers}
use Rattle.router_model.specs.Settings.{Setting, linked, peers}
use Rattle.router_model.specs.Sides.{Side, marked, is_up}
use Rattle.router_model.specs.State.{Router, is_pending}
use Rattle.router_model.specs.Step.{awaits_marker, recorded_part, recording_of, records}
use Rattle.run_model.specs.declared.stamps.TheConstants.{GREATEST_STAMP}
use Rattle.router_side.specs.SideOf.{side_opening}
use Rattle.router_core.specs.declared.peers.Peer.{Peer}
use Rattle.router_core.specs.Views.{RouterView, IsSound, side_at, sides_of, listed, config_of, plain_of}
use Rattle.router_core.specs.Recorded.{Become, marked_if_up, IsPart, IsPeer, down_in}
use Rattle.router_core.proofs.Carrying.{fresh_alike}
use Rattle.router_core.proofs.Following.{follows_alike}
use Rattle.router_core.proofs.Choosing.{Chooses}
use Rattle.router_core.proofs.Pending.{pending_is}
use Rattle.router_core.proofs.Recording.{kept_as, own_as, peers_as, epochs_as, waits_as, channels_as, rises, down_is, become_numbers, become_listed, become_sides, marked_sides}

-- ---- peers whose sides change in what waits to be put and in their timers alone

pub record Alike (f : Side → Side) : Type 0 where
  pub state : (s : Side) → (f s).session.state ≡ s.session.state
  pub link : (s : Side) → (f s).link ≡ s.link
  pub acted : (s : Side) → (f s).acted ≡ s.acted
  pub sent : (s : Side) → (f s).sent ≡ s.sent
  pub width : (s : Side) → (f s).width ≡ s.width

pub same_alike : Alike (λ s. s)
same_alike = record { state = λ s. refl; link = λ s. refl; acted = λ s. refl; sent = λ s. refl; width = λ s. refl }

by_up : {X : Type 0} (get : Side → X) (s : ℕ) → ((x : Side) → get (marked s x) ≡ get x) → (x : Side) (b : Bool) → is_up x ≡ b → get (cond b (marked s x) x) ≡ get x
by_up get s h x true e = h x
by_up get s h x false e = refl

pub marked_alike : (s : ℕ) → Alike (marked_if_up s)
marked_alike s = record {
  state = λ x. by_up (λ y. y.session.state) s (λ y. refl) x (is_up x) refl;
  link = λ x. by_up (λ y. y.link) s (λ y. refl) x (is_up x) refl;
  acted = λ x. by_up (λ y. y.acted) s (λ y. refl) x (is_up x) refl;
  sent = λ x. by_up (λ y. y.sent) s (λ y. refl) x (is_up x) refl;
  width = λ x. by_up (λ y. y.width) s (λ y. refl) x (is_up x) refl;
}

abbrev pub with_peers : RouterView → List Peer → MarkView → ℕ → RouterView
with_peers r qs m stamp = record { net = r.net; number = r.number; own_open = r.own_open; peers = qs; tables = r.tables; marks = m; stamp = stamp }

-- what is recorded is still the router's, over its links
pub record Marks (r : RouterView) (m : MarkView) : Type 0 where
  pub over : IsOver (peers r.net r.number) m.unfinished
  pub own : AreOf r.number m

module _ (r : RouterView) (qs : List Peer) (m : MarkView) (stamp : ℕ) (f : Side → Side) (al : Alike f) (b : Become f r.peers qs) where
  abbrev none : Side
  none = side_opening (config_of r.net) r.net.settings.width

  by_listed : {X : Type 0} (get : Side → X) → ((s : Side) → get (f s) ≡ get s) → (v : ℕ) (c : Bool) → get (cond c (f (sides_of r v)) (sides_of r v)) ≡ get (sides_of r v)
  by_listed get h v true = h (sides_of r v)
  by_listed get h v false = refl

  same_at : {X : Type 0} (get : Side → X) → ((s : Side) → get (f s) ≡ get s) → (v : ℕ) → get (side_at none qs v) ≡ get (sides_of r v)
  same_at get h v = ap get (become_sides f none r.peers qs b v) ∙ by_listed get h v (listed v r.peers)

  pub stays_sound : IsSound r → stamp ≤ GREATEST_STAMP → Marks r m → IsSound (with_peers r qs m stamp)
  stays_sound s few k =
      let t = s.tabled in
      record {
        network = s.network;
        router = s.router;
        numbers = become_numbers f r.peers qs b ∙ s.numbers;
        links = λ v. become_listed f r.peers qs b v ∙ s.links v;
        own_open = s.own_open;
        sayable = s.sayable;
        stamp = few;
        tabled = record {
          net = t.net;
          router = t.router;
          peers = λ v l. follows_alike r.net.origins r.tables v (sides_of r v) (side_at none qs v) (same_at (λ y. y.session.state) al.state v) (same_at (λ y. y.link) al.link v) (same_at (λ y. y.acted) al.acted v)
              (same_at (λ y. y.sent) al.sent v) (t.peers v l);
          fresh = λ v. fresh_alike (sides_of r v) (side_at none qs v) (same_at (λ y. y.session.state) al.state v) (same_at (λ y. y.link) al.link v) (same_at (λ y. y.acted) al.acted v)
              (same_at (λ y. y.sent) al.sent v) (t.fresh v);
          width = λ v. same_at (λ y. y.width) al.width v ∙ t.width v;
          short = t.short;
          sent = t.sent;
          kept = t.kept;
          tellable = t.tellable;
          originated = t.originated;
        };
        marked = record { over = k.over; unfinished = k.own.unfinished; queue = k.own.queue };
      }

-- nothing changed but the room
pub same_sides : (r : RouterView) (qs : List Peer) → Become (λ s. s) r.peers qs → sides_of (with_peers r qs r.marks r.stamp) ≡ sides_of r
same_sides r qs b =
    fun_ext (λ v. become_sides (λ s. s) (side_opening (config_of r.net) r.net.settings.width) r.peers qs b v ∙ either (listed v r.peers) (sides_of r v))
  where
    either : (c : Bool) (s : Side) → cond c s s ≡ s
    either true s = refl
    either false s = refl

pub same_plain : (r : RouterView) (qs : List Peer) (m : MarkView) → Become (λ s. s) r.peers qs → snapshots_of m ≡ snapshots_of r.marks → plain_of (with_peers r qs m r.stamp) ≡ plain_of r
same_plain r qs m b x =
    ap (λ (s : ℕ → Side). record { router = record (plain_of r).router { sides = s; snapshots = snapshots_of m }; stamp = r.stamp }) (same_sides r qs b)
    ∙ ap (λ (y : Snapshots). record { router = record (plain_of r).router { snapshots = y }; stamp = r.stamp }) x

become_then : (f : Side → Side) (ps qs rs : List Peer) → Become (λ s. s) ps qs → Become f qs rs → Become f ps rs
become_then f [] [] [] h k = tt
become_then f [] [] (x ∷ rs) h k = absurd k
become_then f [] (q ∷ qs) rs h k = absurd h
become_then f (p ∷ ps) [] rs h k = absurd h
become_then f (p ∷ ps) (q ∷ qs) [] h k = absurd k
become_then f (p ∷ ps) (q ∷ qs) (x ∷ rs) h k = (k.0 ∙ h.0, k.1 ∙ ap f h.1, become_then f ps qs rs h.2 k.2)

pub marked_then : (s : ℕ) (ps qs rs : List Peer) → Become (λ x. x) ps qs → Become (marked_if_up s) qs rs → Become (marked_if_up s) ps rs
marked_then s = become_then (marked_if_up s)

-- ---- what is recorded

module _ (over : BestOverWords) (one : OneBest) (law : LinkedRoutersArePeers) (g : Setting) (r : RouterView) (c : Chooses g r) (s : ℕ) (first : Option ℕ) (is_peer : IsPeer r.peers first)
    (p : Part) (k : IsPart r.net.origins r.tables r.peers r.number s first p) where
  abbrev pub x : Router
  x = (plain_of r).router

  kept_same : kept_in p.kept.items ≡ x.kept
  kept_same = ap kept_in k.kept ∙ kept_as r.net.origins r.tables.kept c.sound.tabled.kept

  own_same : originated_in p.originated.items ≡ x.originated
  own_same = ap originated_in k.originated ∙ own_as r.net.origins r.tables.originated c.sound.tabled.originated

  epochs_same : epoch_in p.channels.items ≡ (λ (v : ℕ). (x.sides v).link.epoch)
  epochs_same = fun_ext (λ v. epochs_as (side_opening (config_of r.net) r.net.settings.width) first p.channels.items r.peers refl k.channels v)

  channels_same : channel_in p.channels.items ≡ (λ (v : ℕ). [])
  channels_same = fun_ext (λ v. channels_as first p.channels.items r.peers k.channels v)

  pending_same : p.pending ≡ is_pending g r.number x
  pending_same = pending_is over one law g r c p.pending k.some k.none

  pub part_same : part_of p ≡ recorded_part g r.number x
  part_same =
      ap (λ (a : PrefixView → List ℕ). record (part_of p) { kept = a }) kept_same
      ∙ ap (λ (a : PrefixView → Bool). record (part_of p) { kept = x.kept; originated = a }) own_same
      ∙ ap (λ (a : ℕ → ℕ). record (part_of p) { kept = x.kept; originated = x.originated; incarnation = a }) epochs_same
      ∙ ap (λ (a : Bool). record (part_of p) { kept = x.kept; originated = x.originated; incarnation = λ (v : ℕ). (x.sides v).link.epoch; pending = a }) pending_same
      ∙ ap (λ (a : ℕ → List Message). record (part_of p) { kept = x.kept; originated = x.originated; incarnation = λ (v : ℕ). (x.sides v).link.epoch; pending = is_pending g r.number x; channel = a }) channels_same

  -- what is no peer is not first
  not_first : (o : Option ℕ) → IsPeer r.peers o → (v : ℕ) → listed v r.peers ≡ false → awaits_marker o v ≡ true
  not_first None h v f = refl
  not_first (Some w) h v f = by_test (v == w) refl
    where
      by_test : (t : Bool) → (v == w) ≡ t → not t ≡ true
      by_test true e = (let both = sym f ∙ ap (λ (n : ℕ). listed n r.peers) (eqb-true v w e) ∙ h in absurd cc)
      by_test false e = refl

  waits_same : waits_for_marker p.channels.items ≡ awaits_marker first
  waits_same = fun_ext (λ v. waits_as first p.channels.items r.peers k.channels v (not_first first is_peer v))

  pub recording_same : parts.recording_of p ≡ recording_of g r.number x s first
  recording_same =
      ap (λ (n : ℕ). record (parts.recording_of p) { number = n }) k.number
      ∙ ap (λ (a : RouterPart). record (parts.recording_of p) { number = s; part = a }) part_same
      ∙ ap (λ (w : ℕ → Bool). record (parts.recording_of p) { number = s; part = recorded_part g r.number x; waits = w }) waits_same

  pub peers_same : peers_of p.channels.items ≡ peers r.net r.number
  peers_same = peers_as first p.channels.items r.peers k.channels ∙ c.sound.numbers

  down_same : (d : Option ℕ) → d ≡ down_in r.peers → d ≡ find (λ v. not (is_up (x.sides v))) (peers r.net r.number)
  down_same d e =
      e ∙ down_is (side_opening (config_of r.net) r.net.settings.width) r.peers (rises r.net c.sound.network r.number r.peers c.sound.numbers)
      ∙ ap (find (λ (v : ℕ). not (is_up (x.sides v)))) c.sound.numbers

  pub begun_same : (d : Option ℕ) → d ≡ down_in r.peers
      → begun_at (peers_of p.channels.items) d (parts.recording_of p) x.snapshots ≡ begun (peers g.net r.number) (λ v. is_up (x.sides v)) (recording_of g r.number x s first) x.snapshots
  begun_same d e =
      ap (λ (vs : List ℕ). begun_at vs d (parts.recording_of p) x.snapshots) peers_same
      ∙ ap (λ (o : Option ℕ). begun_at (peers r.net r.number) o (parts.recording_of p) x.snapshots) (down_same d e)
      ∙ ap (λ (y : Recording). begun_at (peers r.net r.number) (find (λ (v : ℕ). not (is_up (x.sides v))) (peers r.net r.number)) y x.snapshots) recording_same
      ∙ ap (λ (n : Plan). begun (peers n r.number) (λ (v : ℕ). is_up (x.sides v)) (recording_of g r.number x s first) x.snapshots) (sym c.net)

  sides_same : (qs : List Peer) → Become (marked_if_up s) r.peers qs
      → side_at (side_opening (config_of r.net) r.net.settings.width) qs ≡ (λ (v : ℕ). cond (linked g.net r.number v && is_up (x.sides v)) (marked s (x.sides v)) (x.sides v))
  sides_same qs b =
      fun_ext (λ v. marked_sides (side_opening (config_of r.net) r.net.settings.width) s r.peers qs b v
      ∙ ap (λ (l : Bool). cond (l && is_up (x.sides v)) (marked s (x.sides v)) (x.sides v)) (c.sound.links v ∙ ap (λ (n : Plan). linked n r.number v) (sym c.net)))

  pub recorded : (qs : List Peer) (m : MarkView) (d : Option ℕ) (stamp : ℕ) → Become (marked_if_up s) r.peers qs → d ≡ down_in r.peers
      → snapshots_of m ≡ begun_at (peers_of p.channels.items) d (parts.recording_of p) (snapshots_of r.marks)
      → plain_of (with_peers r qs m stamp) ≡ record { router = records g r.number x s first; stamp = stamp }
  recorded qs m d stamp b e is =
      ap (λ (y : ℕ → Side). record { router = record x { sides = y; snapshots = snapshots_of m }; stamp = stamp }) (sides_same qs b)
      ∙ ap (λ (y : Snapshots). record { router = record x { sides = λ (v : ℕ). cond (linked g.net r.number v && is_up (x.sides v)) (marked s (x.sides v)) (x.sides v); snapshots = y }; stamp = stamp })
      (is ∙ begun_same d e)
