-- A second in which no timer of a router runs out.
use Rattle.std.proofs.Common.{◌≡◌, ℕ, ◌≤◌, ◌||◌, Bool, true, false, List, [], ◌∷◌, Option, None, Some, refl, sym, ap, ◌∙◌}
use Rattle.std.specs.Prelude.{is_some}
use Rattle.std.proofs.lemmas.List.{append-nil}
use Rattle.bgp_codec.specs.declared.message.Message.{Message}
use Rattle.run_model.specs.Octets.{Passing}
use Rattle.run_model.specs.declared.stamps.TheConstants.{GREATEST_STAMP}
use Rattle.session_fsm.specs.Timers.{ticked, runs_out}
use Rattle.session_fsm.specs.declared.event.FsmEvent.{FsmEvent}
use Rattle.snap_marker.specs.Recordings.{closed}
use Rattle.snap_marker.specs.Parts.{snapshots_of}
use Rattle.router_model.specs.Settings.{Setting}
use Rattle.router_model.specs.Sides.{Side, NoMessage, carried, draft_second, expires, draft_of}
use Rattle.router_model.specs.Step.{all_moved, close_at, or_first}
use Rattle.router_model.specs.Calls.{Stamped}
use Rattle.router_side.specs.SideOf.{side}
use Rattle.router_core.specs.declared.peers.Peer.{Peer}
use Rattle.router_core.specs.Views.{RouterView, IsSound, sides_of, plain_of}
use Rattle.router_core.specs.Recorded.{Become}
use Rattle.router_core.specs.ToAll.{overflow_in, first_left, runs_out_in, counted_down, MovesAll}
use Rattle.router_core.proofs.Snapshots.{Alike, with_peers, stays_sound}
use Rattle.router_core.proofs.Ticking.{moved_all}

is_none : (e : Option FsmEvent) → is_some e ≡ false → e ≡ None
is_none None h = refl
is_none (Some e) h = absurd cc

neither : (b c : Bool) → (b || c) ≡ false → (b ≡ false) × (c ≡ false)
neither true c h = absurd cc
neither false c h = (refl, h)

-- what runs out of the first peer, and of the others
none_of : (p : Peer) (ps : List Peer) → runs_out_in (p ∷ ps) ≡ false → (runs_out (side p.side).session ≡ None) × (runs_out_in ps ≡ false)
none_of p ps h = (let both = neither (is_some (runs_out (side p.side).session)) (runs_out_in ps) h in (is_none (runs_out (side p.side).session) both.0, both.1))

-- the draft of such a second moves the timers alone
is_counted : (o : Message) (s : Side) → runs_out s.session ≡ None → counted_down s ≡ carried NoMessage s (draft_second o s)
is_counted o s h =
    ap (λ (w : List (Passing Message)). record (counted_down s) { outbox = w }) (sym (append-nil s.outbox))
    ∙ ap (λ (e : Option FsmEvent). carried NoMessage s (expires o (draft_of (ticked s.session) s.link) e)) (sym h)

are_counted : (o : Message) (ps qs : List Peer) → runs_out_in ps ≡ false → Become counted_down ps qs → Become (λ s. carried NoMessage s (draft_second o s)) ps qs
are_counted o [] [] h b = tt
are_counted o [] (q ∷ qs) h b = absurd b
are_counted o (p ∷ ps) [] h b = absurd b
are_counted o (p ∷ ps) (q ∷ qs) h b = (let none = none_of p ps h in (b.0, b.1 ∙ is_counted o (side p.side) none.0, are_counted o ps qs none.1 b.2))

-- it dials nothing
pub counting_fits : (o : Message) (ps : List Peer) → runs_out_in ps ≡ false → overflow_in (draft_second o) ps ≡ false
counting_fits o [] h = refl
counting_fits o (p ∷ ps) h =
    let none = none_of p ps h in
    ap (λ (e : Option FsmEvent). (expires o (draft_of (ticked (side p.side).session) (side p.side).link) e).overflows || overflow_in (draft_second o) ps) none.0 ∙ counting_fits o ps none.1

-- and leaves no session
counting_leaves : (o : Message) (ps : List Peer) → runs_out_in ps ≡ false → first_left (draft_second o) ps ≡ None
counting_leaves o [] h = refl
counting_leaves o (p ∷ ps) h =
    let none = none_of p ps h in
    ap (λ (e : Option FsmEvent). or_first (close_at p.number (expires o (draft_of (ticked (side p.side).session) (side p.side).link) e).left) (first_left (draft_second o) ps)) none.0 ∙ counting_leaves o ps none.1

counted_alike : Alike counted_down
counted_alike = record { state = λ s. refl; link = λ s. refl; acted = λ s. refl; sent = λ s. refl; width = λ s. refl }

pub counted_sound : (r : RouterView) (qs : List Peer) (stamp : ℕ) → IsSound r → stamp ≤ GREATEST_STAMP → Become counted_down r.peers qs → IsSound (with_peers r qs r.marks stamp)
counted_sound r qs stamp s few b =
    stays_sound r qs r.marks stamp counted_down counted_alike b s few (record { over = s.marked.over; own = record { unfinished = s.marked.unfinished; queue = s.marked.queue } })

-- all sides are moved as a second moves them
counts_all : (r : RouterView) (qs : List Peer) → runs_out_in r.peers ≡ false → Become counted_down r.peers qs → MovesAll r (draft_second r.own_open) (with_peers r qs r.marks r.stamp)
counts_all r qs h b = record {
  peers = are_counted r.own_open r.peers qs h b;
  marks = ap (λ (o : Option (ℕ × ℕ)). closed o (snapshots_of r.marks)) (sym (counting_leaves r.own_open r.peers h));
  rest = record { net = refl; number = refl; own_open = refl; kept = refl; originated = refl; stamp = refl };
}

pub counted_done : (g : Setting) (r : RouterView) (qs : List Peer) → g.net ≡ r.net → IsSound r → runs_out_in r.peers ≡ false → Become counted_down r.peers qs
    → (stamp : ℕ) → ◌≡◌ {A = Stamped} (plain_of (with_peers r qs r.marks stamp)) (record { router = all_moved g r.number (plain_of r).router (λ v. draft_second r.own_open (sides_of r v)); stamp = stamp })
counted_done g r qs e s h b stamp =
    ap (λ (z : Stamped). record { router = z.router; stamp = stamp }) (moved_all g r (with_peers r qs r.marks r.stamp) (draft_second r.own_open) e s (counts_all r qs h b))
