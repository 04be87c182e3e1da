-- A second that passes and a restart, as steps of the router.
use Rattle.std.proofs.Common.{◌≡◌, ℕ, ◌+◌, ◌≤◌, ◌||◌, Bool, true, false, cond, List, [], ◌∷◌, None, Some, refl, sym, ap, subst, ◌∙◌, arith}
use Rattle.std.specs.Prelude.{nat_lt, Result, Err}
use Rattle.std.specs.List.{list_any, Contains}
use Rattle.std.proofs.Math.Path.{fun_ext}
use Rattle.std.proofs.lemmas.Bool.{false_from_ne_true}
use Rattle.bgp_codec.specs.declared.message.Message.{Message}
use Rattle.session_fsm.specs.declared.event.FsmEvent.TheVariants.{ManualStop}
use Rattle.session_fsm.specs.Table.{SessionView}
use Rattle.session_fsm.specs.declared.state.State.{State}
use Rattle.session_fsm.specs.declared.state.State.TheVariants.{Idle, Connect, Active, OpenSent, OpenConfirm, Established}
use Rattle.link_epoch.specs.Ends.{LinkView}
use Rattle.link_epoch.specs.declared.link_end.Phase.{Phase}
use Rattle.link_epoch.specs.declared.link_end.Phase.TheVariants.{Shut, Offered, Joined}
use Rattle.prefix_lanes.specs.Bits.{PrefixView}
use Rattle.ranked_policy.specs.Plans.{Plan}
use Rattle.run_model.specs.Network.{alone}
use Rattle.rib_tables.specs.Words.{lists}
use Rattle.rib_tables.specs.Tables.{Paths, path_of, word_of}
use Rattle.rib_tables.specs.Owners.{RibView, Clears}
use Rattle.snap_marker.specs.Recordings.{Snapshots, closed}
use Rattle.snap_marker.specs.Parts.{snapshots_of}
use Rattle.router_model.specs.declared.command.Command.TheVariants.{Restart}
use Rattle.router_model.specs.declared.refusal.RouterError.{RouterError}
use Rattle.router_model.specs.declared.refusal.RouterError.TheVariants as error
use Rattle.router_model.specs.declared.refusal.Stepped.{Stepped}
use Rattle.router_model.specs.Settings.{Setting, linked, peers}
use Rattle.router_model.specs.Sides.{Side, Draft, NoMessage, carried, draft_event, draft_second, react, apply, draft_of}
use Rattle.router_model.specs.State.{open_of}
use Rattle.router_model.specs.Step.{Obeys, Ticks, all_moved, forgetting, first_close}
use Rattle.router_model.specs.Calls.{Stamped, Tick, Obey, Gives, answer, judged}
use Rattle.run_model.specs.declared.stamps.TheConstants.{GREATEST_STAMP}
use Rattle.router_side.specs.SideOf.{side, side_opening}
use Rattle.router_core.specs.declared.peers.Peer.{Peer}
use Rattle.router_core.specs.Views.{RouterView, IsSound, IsTellable, IsPathWord, side_at, sides_of, config_of, plain_of, Ends}
use Rattle.router_core.specs.Recorded.{Become}
use Rattle.router_core.specs.ToAll.{overflow_in, first_left, MovesAll}
use Rattle.router_core.proofs.Snapshots.{with_peers, same_alike, stays_sound, same_plain}
use Rattle.router_core.proofs.Naming.{decides_lists}
use Rattle.router_core.proofs.Following.{IsShort}
use Rattle.router_core.proofs.Carrying.{ends_give}
use Rattle.router_core.proofs.Recording.{rises, become_sides}
use Rattle.router_core.proofs.Moving.{overflow_is, left_is}

-- ---- other tables, and another stamp

abbrev pub at_stamp : RouterView → RibView → ℕ → RouterView
at_stamp x t stamp = record { net = x.net; number = x.number; own_open = x.own_open; peers = x.peers; tables = t; marks = x.marks; stamp = stamp }

pub cleared_sound : (x : RouterView) (t : RibView) (stamp : ℕ) → IsSound x → stamp ≤ GREATEST_STAMP → Clears x.tables t → IsSound (at_stamp x t stamp)
cleared_sound x t stamp s few c =
    let h = s.tabled in
    record {
      network = s.network;
      router = s.router;
      numbers = s.numbers;
      links = s.links;
      own_open = s.own_open;
      sayable = s.sayable;
      stamp = few;
      tabled = record {
        net = ap (λ (k : RibView). k.net) c.rest ∙ h.net;
        router = ap (λ (k : RibView). k.router) c.rest ∙ h.router;
        peers = λ v l.
            let f = h.peers v l in
            record {
              up = ((λ k. f.up.0 (subst (λ (w : RibView). Contains w.established v) c.rest k)), (λ k. subst (λ (w : RibView). Contains w.established v) (sym c.rest) (f.up.1 k)));
              heard = λ q n. ap (λ (k : RibView). word_of k.heard v q) c.rest ∙ f.heard q n;
              told = λ q n. ap (λ (k : RibView). word_of k.sent v q) c.rest ∙ f.told q n;
            };
        fresh = h.fresh;
        width = h.width;
        short = λ v q. subst (IsShort x.net.settings.width) (sym (ap (λ (k : RibView). word_of k.heard v q) c.rest)) (h.short v q);
        sent = λ v q. subst IsPathWord (sym (ap (λ (k : RibView). word_of k.sent v q) c.rest)) (h.sent v q);
        kept = λ q n. c.kept q;
        tellable = λ q. subst (IsTellable x.net.settings.width) (sym (c.kept q)) (record { few = omega arith; short = tt });
        originated = λ q n. absurd (c.originated q ((decides_lists t.originated q).0 n));
      };
      marked = record { over = s.marked.over; unfinished = s.marked.unfinished; queue = s.marked.queue };
    }

-- ---- all sides, moved

module _ (g : Setting) (r y : RouterView) (D : Side → Draft) (e : g.net ≡ r.net) (s : IsSound r) (m : MovesAll r D y) where
  abbrev drafts : ℕ → Draft
  drafts v = D (sides_of r v)

  sides_moved : sides_of y ≡ (λ v. cond (linked g.net r.number v) (carried NoMessage (sides_of r v) (drafts v)) (sides_of r v))
  sides_moved =
      ap (λ (n : Plan). side_at (side_opening (config_of n) n.settings.width) y.peers) m.rest.net
      ∙ fun_ext (λ v. become_sides (λ k. carried NoMessage k (D k)) (side_opening (config_of r.net) r.net.settings.width) r.peers y.peers m.peers v
      ∙ ap (λ (l : Bool). cond l (carried NoMessage (sides_of r v) (drafts v)) (sides_of r v)) (s.links v ∙ ap (λ (n : Plan). linked n r.number v) (sym e)))

  left_moved : first_left D r.peers ≡ first_close (peers g.net r.number) drafts
  left_moved =
      left_is D (side_opening (config_of r.net) r.net.settings.width) r.peers (rises r.net s.network r.number r.peers s.numbers)
      ∙ ap (λ ns. first_close ns drafts) (s.numbers ∙ ap (λ (n : Plan). peers n r.number) (sym e))

  pub moved_all : plain_of y ≡ record { router = all_moved g r.number (plain_of r).router drafts; stamp = r.stamp }
  moved_all =
      ap (λ (z : ℕ → Side). record { router = record (plain_of y).router { sides = z }; stamp = y.stamp }) sides_moved
      ∙ ap (λ (k : Paths). record { router = record (all_moved g r.number (plain_of r).router drafts) { kept = path_of k; originated = lists y.tables.originated; snapshots = snapshots_of y.marks }; stamp = y.stamp }) m.rest.kept
      ∙ ap (λ (o : List PrefixView). record { router = record (all_moved g r.number (plain_of r).router drafts) { originated = lists o; snapshots = snapshots_of y.marks }; stamp = y.stamp }) m.rest.originated
      ∙ ap (λ (z : Snapshots). record { router = record (all_moved g r.number (plain_of r).router drafts) { snapshots = z }; stamp = y.stamp }) (m.marks ∙ ap (λ o. closed o (snapshots_of r.marks)) left_moved)
      ∙ ap (λ (n : ℕ). record { router = all_moved g r.number (plain_of r).router drafts; stamp = n }) m.rest.stamp

-- ---- the two calls

pub ends_late : (s o : Bool) (x z : Stamped) → s ≡ true → Ends s o (Err error.StampEnd) x z x
ends_late s o x z e = rw e (refl, refl)

pub ends_over : (s o : Bool) (x z : Stamped) → s ≡ false → o ≡ true → Ends s o (Err error.EpochEnd) x z x
ends_over s o x z e f = rw (e, f) (refl, refl)

module _ (g : Setting) (r : RouterView) (e : g.net ≡ r.net) (s : IsSound r) where
  own_same : r.own_open ≡ open_of g.net r.number
  own_same = s.own_open ∙ ap (λ (n : Plan). open_of n r.number) (sym e)

  abbrev pub ticked : Stamped
  ticked = record { router = all_moved g r.number (plain_of r).router (λ v. draft_second r.own_open (sides_of r v)); stamp = r.stamp + 1 }

  overflow_same : overflow_in (draft_second r.own_open) r.peers ≡ list_any (λ v. (draft_second (open_of g.net r.number) (sides_of r v)).overflows) (peers g.net r.number)
  overflow_same =
      overflow_is (draft_second r.own_open) (side_opening (config_of r.net) r.net.settings.width) r.peers (rises r.net s.network r.number r.peers s.numbers)
      ∙ ap (list_any (λ v. (draft_second r.own_open (sides_of r v)).overflows)) (s.numbers ∙ ap (λ (n : Plan). peers n r.number) (sym e))
      ∙ ap (λ (o : Message). list_any (λ v. (draft_second o (sides_of r v)).overflows) (peers g.net r.number)) own_same

  pub ticks : (res : Result Stepped RouterError) (y : Stamped) → Ends (nat_lt GREATEST_STAMP (r.stamp + 1)) (overflow_in (draft_second r.own_open) r.peers) res (plain_of r) ticked y
      → Gives g r.number res (answer g r.number (plain_of r) Tick) (plain_of r) Tick y
  ticks res y h =
      subst (λ (o : Bool). Gives g r.number res (judged None (Some (alone Ticks)) (nat_lt GREATEST_STAMP (r.stamp + 1)) o) (plain_of r) Tick y) overflow_same
      (ends_give g r.number (nat_lt GREATEST_STAMP (r.stamp + 1)) (overflow_in (draft_second r.own_open) r.peers) res (plain_of r) y ticked Tick (alone Ticks)
      (ap (λ (o : Message). record { router = all_moved g r.number (plain_of r).router (λ v. draft_second o (sides_of r v)); stamp = r.stamp + 1 }) (sym own_same)) h)

  abbrev pub restarted : Stamped
  restarted = record { router = forgetting (all_moved g r.number (plain_of r).router (λ v. draft_event r.own_open (sides_of r v) ManualStop)); stamp = r.stamp + 1 }

  pub restarts : (res : Result Stepped RouterError) (y : Stamped) → Ends (nat_lt GREATEST_STAMP (r.stamp + 1)) false res (plain_of r) restarted y
      → Gives g r.number res (answer g r.number (plain_of r) (Obey Restart)) (plain_of r) (Obey Restart) y
  restarts res y h =
      ends_give g r.number (nat_lt GREATEST_STAMP (r.stamp + 1)) false res (plain_of r) y restarted (Obey Restart) (alone (Obeys Restart))
      (ap (λ (o : Message). record { router = forgetting (all_moved g r.number (plain_of r).router (λ v. draft_event o (sides_of r v) ManualStop)); stamp = r.stamp + 1 }) (sym own_same)) h

-- what is cleared keeps and originates nothing
pub cleared : (x : RouterView) (t : RibView) (stamp : ℕ) → Clears x.tables t → plain_of (at_stamp x t stamp) ≡ record { router = forgetting (plain_of x).router; stamp = stamp }
cleared x t stamp c =
    let kept : path_of t.kept ≡ (λ (q : PrefixView). []) = fun_ext (λ q. c.kept q) in
    let own : lists t.originated ≡ (λ (q : PrefixView). false) = fun_ext (λ q. false_from_ne_true (lists t.originated q) (λ h. c.originated q ((decides_lists t.originated q).0 h))) in
    ap (λ (k : PrefixView → List ℕ). record { router = record (plain_of x).router { kept = k; originated = lists t.originated }; stamp = stamp }) kept
    ∙ ap (λ (o : PrefixView → Bool). record { router = record (forgetting (plain_of x).router) { originated = o }; stamp = stamp }) own

-- ---- a stop dials nothing

stop_by : (o : Message) (x : SessionView) (l : LinkView) (c : State) (h : Phase) → x.state ≡ c → l.phase ≡ h → (react o NoMessage (draft_of x l) ManualStop).overflows ≡ false
unfolding react apply
stop_by o x l Idle h e p = rw e refl
stop_by o x l Connect Shut e p = rw (e, p) refl
stop_by o x l Connect Offered e p = rw (e, p) refl
stop_by o x l Connect Joined e p = rw (e, p) refl
stop_by o x l Active Shut e p = rw (e, p) refl
stop_by o x l Active Offered e p = rw (e, p) refl
stop_by o x l Active Joined e p = rw (e, p) refl
stop_by o x l OpenSent Shut e p = rw (e, p) refl
stop_by o x l OpenSent Offered e p = rw (e, p) refl
stop_by o x l OpenSent Joined e p = rw (e, p) refl
stop_by o x l OpenConfirm Shut e p = rw (e, p) refl
stop_by o x l OpenConfirm Offered e p = rw (e, p) refl
stop_by o x l OpenConfirm Joined e p = rw (e, p) refl
stop_by o x l Established Shut e p = rw (e, p) refl
stop_by o x l Established Offered e p = rw (e, p) refl
stop_by o x l Established Joined e p = rw (e, p) refl

pub stop_fits : (o : Message) (s : Side) → (draft_event o s ManualStop).overflows ≡ false
stop_fits o s = stop_by o s.session s.link s.session.state s.link.phase refl refl

pub stops_fit : (o : Message) (ps : List Peer) → overflow_in (λ s. draft_event o s ManualStop) ps ≡ false
stops_fit o [] = refl
stops_fit o (p ∷ ps) = rw (stop_fits o (side p.side)) (stops_fit o ps)

-- ---- peers with room, whose sides are as they were

pub overflow_alike : (D : Side → Draft) (ps qs : List Peer) → Become (λ s. s) ps qs → overflow_in D qs ≡ overflow_in D ps
overflow_alike D [] [] b = refl
overflow_alike D [] (q ∷ qs) b = absurd b
overflow_alike D (p ∷ ps) [] b = absurd b
overflow_alike D (p ∷ ps) (q ∷ qs) b = ap (λ (s : Side). (D s).overflows || overflow_in D qs) b.1 ∙ ap (λ (o : Bool). (D (side p.side)).overflows || o) (overflow_alike D ps qs b.2)

pub prepared_sound : (r : RouterView) (qs : List Peer) → IsSound r → Become (λ s. s) r.peers qs → IsSound (with_peers r qs r.marks r.stamp)
prepared_sound r qs s b =
    stays_sound r qs r.marks r.stamp (λ k. k) same_alike b s s.stamp (record { over = s.marked.over; own = record { unfinished = s.marked.unfinished; queue = s.marked.queue } })

pub all_done : (g : Setting) (r : RouterView) (qs : List Peer) (y : RouterView) (D : Side → Draft) → g.net ≡ r.net → IsSound r → Become (λ s. s) r.peers qs → MovesAll (with_peers r qs r.marks r.stamp) D y
    → (stamp : ℕ) → ◌≡◌ {A = Stamped} (record { router = (plain_of y).router; stamp = stamp }) (record { router = all_moved g r.number (plain_of r).router (λ v. D (sides_of r v)); stamp = stamp })
all_done g r qs y D e s b m stamp =
    let w = with_peers r qs r.marks r.stamp in
    let moved = moved_all g w y D e (prepared_sound r qs s b) m in
    let same = same_plain r qs r.marks b refl in
    ap (λ (z : Stamped). record { router = z.router; stamp = stamp }) moved
    ∙ ap (λ (z : Stamped). record { router = all_moved g r.number z.router (λ v. D (z.router.sides v)); stamp = stamp }) same
