-- A router as it is made.
use Rattle.std.proofs.Common.{◌≡◌, ℕ, Bool, false, List, [], refl, ap, sym, ◌∙◌, subst, arith}
use Rattle.std.specs.List.{AllByRecursion}
use Rattle.std.proofs.Math.Path.{fun_ext}
use Rattle.std.proofs.lemmas.Bool.{false_from_ne_true}
use Rattle.prefix_lanes.specs.Bits.{PrefixView}
use Rattle.bgp_values.specs.declared.width.Width.{Width}
use Rattle.bgp_codec.specs.declared.message.Message.{Message}
use Rattle.session_fsm.specs.declared.config.SessionConfig.{SessionConfig}
use Rattle.ranked_policy.specs.Plans.{Plan}
use Rattle.rib_tables.specs.Words.{lists}
use Rattle.rib_tables.specs.Tables.{path_of}
use Rattle.rib_tables.specs.Owners.{RibView, IsNew}
use Rattle.snap_marker.specs.Recordings.{Snapshots, no_snapshots}
use Rattle.snap_marker.specs.Parts.{MarkView, snapshots_of, IsOver, AreOf}
use Rattle.router_model.specs.Settings.{Setting, peers}
use Rattle.router_model.specs.Sides.{Side}
use Rattle.router_model.specs.State.{new_router}
use Rattle.router_side.specs.Freshness.{IsFresh}
use Rattle.router_side.specs.SideOf.{side, side_opening}
use Rattle.router_core.specs.declared.peers.Peer.{Peer}
use Rattle.router_core.specs.Views.{RouterView, IsTabled, IsMarked, IsTellable, IsPathWord, Follows, side_at, config_of, plain_of}
use Rattle.router_core.proofs.Following.{IsShort}
use Rattle.router_core.proofs.Naming.{decides_lists}
use Rattle.router_core.proofs.PeerLemmas.{all_none}

fresh_opening : (config : SessionConfig) (width : Width) → IsFresh (side_opening config width)
fresh_opening config width = record { later = λ n h. (refl, refl); opening = λ h. (refl, refl); away = λ h. refl }

module _ (net : Plan) (number : ℕ) (own_open : Message) (ps : List Peer) (t : RibView) (m : MarkView) (all : AllByRecursion (λ p. side p.side ≡ side_opening (config_of net) net.settings.width) ps)
    (n : IsNew net number t) where
  abbrev made : RouterView
  made = record { net = net; number = number; own_open = own_open; peers = ps; tables = t; marks = m; stamp = 0 }

  none : (v : ℕ) → side_at (side_opening (config_of net) net.settings.width) ps v ≡ side_opening (config_of net) net.settings.width
  none v = all_none (side_opening (config_of net) net.settings.width) ps v all

  follows_opening : (v : ℕ) → Follows net.origins t v (side_opening (config_of net) net.settings.width)
  follows_opening v = record {
    up = ((λ h. absurd (n.established v h)), (λ h. absurd cc));
    heard = λ q k. n.heard v q;
    told = λ q k. n.sent v q;
  }

  pub tabled_opening : IsTabled made
  tabled_opening = record {
    net = n.network;
    router = n.number;
    peers = λ v l. subst (Follows net.origins t v) (sym (none v)) (follows_opening v);
    fresh = λ v. subst IsFresh (sym (none v)) (fresh_opening (config_of net) net.settings.width);
    width = λ v. ap (λ (s : Side). s.width) (none v);
    sent = λ v q. subst IsPathWord (sym (n.sent v q)) refl;
    short = λ v q. subst (IsShort net.settings.width) (sym (n.heard v q)) tt;
    kept = λ q k. n.kept q;
    tellable = λ q. subst (IsTellable net.settings.width) (sym (n.kept q)) (record { few = omega arith; short = tt });
    originated = λ q h. absurd (n.originated q ((decides_lists t.originated q).0 h));
  }

  pub marked_opening : ((vs : List ℕ) → IsOver vs m.unfinished) → ((u : ℕ) → AreOf u m) → IsMarked made
  marked_opening over own = let o = own number in record { over = over (peers net number); unfinished = o.unfinished; queue = o.queue }

  pub opens : snapshots_of m ≡ no_snapshots → (g : Setting) → g.net ≡ net → plain_of made ≡ record { router = new_router g; stamp = 0 }
  opens marks g e =
      let sides : side_at (side_opening (config_of net) net.settings.width) ps ≡ (λ (v : ℕ). side_opening (config_of g.net) g.net.settings.width) =
      fun_ext (λ v. none v ∙ ap (λ (k : Plan). side_opening (config_of k) k.settings.width) (sym e)) in
      let kept : path_of t.kept ≡ (λ (q : PrefixView). []) = fun_ext (λ q. n.kept q) in
      let own : lists t.originated ≡ (λ (q : PrefixView). false) = fun_ext (λ q. false_from_ne_true (lists t.originated q) (λ h. n.originated q ((decides_lists t.originated q).0 h))) in
      ap (λ (s : ℕ → Side). record { router = record { sides = s; kept = path_of t.kept; originated = lists t.originated; snapshots = snapshots_of m }; stamp = 0 }) sides
      ∙ ap (λ (k : PrefixView → List ℕ). record { router = record (new_router g) { kept = k; originated = lists t.originated; snapshots = snapshots_of m }; stamp = 0 }) kept
      ∙ ap (λ (o : PrefixView → Bool). record { router = record (new_router g) { originated = o; snapshots = snapshots_of m }; stamp = 0 }) own
      ∙ ap (λ (x : Snapshots). record { router = record (new_router g) { snapshots = x }; stamp = 0 }) marks
