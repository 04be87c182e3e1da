use Rattle.std.proofs.Common.{◌≡◌, ◌∙◌, ◌+◌, ◌≤◌, ap, sym, refl, subst, false, arith}
use Rattle.std.specs.Prelude.{nat_lt, slice_get, Ok, Err, Some}
use Rattle.std.proofs.lemmas.Bool.Decides.{nat_tests}
use Rattle.std.proofs.lemmas.Result.{err_from_is_err_and}
use Rattle.bgp_framing.specs.Held.{is_waiting}
use Rattle.bgp_values.specs.declared.width.Width.{Width}
use Rattle.ranked_policy.specs.declared.network.Settings.{Settings}
use Rattle.router_model.specs.declared.refusal.RouterError.TheVariants as error
use Rattle.router_model.specs.declared.refusal.Stepped.TheVariants as stepped
use Rattle.router_model.specs.Calls.{Handle}
use Rattle.run_model.specs.declared.stamps.TheConstants.{GREATEST_STAMP}
use Rattle.router_side.specs.SideOf.{side, naming}
use Rattle.router_core.specs.declared.peers.Peer.{Peer}
use Rattle.router_core.specs.Views.{view_of, RouterView, IsFound, Answers, plain_of}
use Rattle.router_core.specs.Handling.{HandlesFront}
use Rattle.router_core.specs.Calling.{no_step}
use Rattle.router_core.proofs.PeerLemmas.{here_same}
use Rattle.router_core.proofs.Carrying.{Changes, Tracks, with_peer, of_sound, stays, kept, is_fresh, has_width, tracks_alike}
use Rattle.router_core.proofs.Handling.{link_of, seen_is, tracks_handled, leaves_handled}
use Rattle.rib_tables.specs.Owners.{RibView}
use Rattle.snap_marker.specs.Parts.{snapshots_of}
use Rattle.snap_marker.specs.Recordings.{closed}
use Rattle.router_model.specs.Settings.{peers}
use Rattle.router_model.specs.Sides.{Side, front}
use Rattle.router_model.specs.State.{rule_of}
use Rattle.router_model.specs.Step.{close_at}
use Rattle.router_core.proofs.Places.{told_here}
use Rattle.router_core.proofs.Serving.{hands_nothing, hands_no_step, hands_refused, hands_front}
use Rattle.router_core.proofs.router.Router.handle_at.Goals as goal

pub returns-then-not-is_waiting-clause-answers : goal.returns-then-not-is_waiting-clause-answers
returns-then-not-is_waiting-clause-answers c =
    let r = view_of c.self.inside in
    let found = subst (λ (x : RouterView). IsFound x.peers c.args.peer c.args.peer_at) (sym c.self.view_is) c.peer_stands_at.ensures.found in
    subst (λ (x : RouterView). Answers (Ok stepped.Nothing) x (Handle c.args.peer) x) c.self.view_is (λ g e ranks.
    hands_nothing g r c.args.peer c.args.peer_at c.index.result.now (of_sound g r c.self.invariant e) found.2 c.index.ensures found.1 (sym c.is_waiting.ensures ∙ c.if-not-is_waiting.true))

pub returns-in_err-stamp-clause-answers : goal.returns-in_err-stamp-clause-answers
returns-in_err-stamp-clause-answers c =
    let p = err_from_is_err_and c.from_residual.result c.from_residual.ensures.1 in
    let r = view_of c.self.inside in
    let found = subst (λ (x : RouterView). IsFound x.peers c.args.peer c.args.peer_at) (sym c.self.view_is) c.peer_stands_at.ensures.found in
    rw (p.1, p.2, c.in_err-stamp.ensures.refused)
    (subst (λ (x : RouterView). Answers (Err (no_step r.stamp)) x (Handle c.args.peer) x) c.self.view_is (λ g e ranks.
    hands_no_step g r c.args.peer c.args.peer_at c.index.result.now (of_sound g r c.self.invariant e) found.2 c.index.ensures found.1 (sym c.is_waiting.ensures ∙ c.if-not-is_waiting.false)))

-- the peer stands there among the peers of the tables
pub handle_front-requires-clause-stands : goal.handle_front-requires-clause-stands
handle_front-requires-clause-stands c =
    let r = view_of c.self.inside in
    told_here r c.args.peer c.args.peer_at c.self.invariant (subst (λ (x : RouterView). slice_get (peers x.net x.number) c.args.peer_at ≡ Some c.args.peer) (sym c.self.view_is) c.requires.stands)

-- what is recorded has its link
pub handle_front-requires-clause-link : goal.handle_front-requires-clause-link
handle_front-requires-clause-link c =
    let r = view_of c.self.inside in
    let v = c.args.peer in
    let found = subst (λ (x : RouterView). IsFound x.peers c.args.peer c.args.peer_at) (sym c.self.view_is) c.peer_stands_at.ensures.found in
    link_of r.marks.unfinished v r.peers (peers r.net r.number) c.self.invariant.numbers c.self.invariant.marked.over found.1

-- what the peer says is read at the width of its side
pub handle_front-requires-clause-rule : goal.handle_front-requires-clause-rule
handle_front-requires-clause-rule c =
    let r = view_of c.self.inside in
    let v = c.args.peer in
    let found = subst (λ (x : RouterView). IsFound x.peers c.args.peer c.args.peer_at) (sym c.self.view_is) c.peer_stands_at.ensures.found in
    let p = c.index_mut.result.now in
    let ch : Changes r v c.args.peer_at p p = record { place = found.2; here = c.index_mut.ensures.value; number = refl } in
    let width = ap (λ (s : Settings). s.width) c.settings.ensures.value ∙ sym (has_width r v c.args.peer_at p p ch c.self.invariant) in
    (r.number, ap (λ (w : Width). naming w r.number v) width)

-- it is handled
pub invariant_of-self : goal.invariant_of-self
invariant_of-self c =
    let r = view_of c.self.inside in
    let v = c.args.peer in
    let found = subst (λ (x : RouterView). IsFound x.peers c.args.peer c.args.peer_at) (sym c.self.view_is) c.peer_stands_at.ensures.found in
    let p = c.index_mut.result.now in
    let q : Peer = record { number = p.number; side = c.handle_front.new.side } in
    let ch : Changes r v c.args.peer_at p q = record { place = found.2; here = c.index_mut.ensures.value; number = refl } in
    let t = c.handle_front.new.tables in
    let m = c.handle_front.new.marks in
    let few : r.stamp + 1 ≤ GREATEST_STAMP = grind (arith, nat_tests, c.in_ok-stamp.ensures.next.1) in
    let h = subst (λ (s : Settings). HandlesFront r.own_open (naming s.width r.number v) v (side p.side) (side q.side) r.tables t (snapshots_of r.marks) (snapshots_of m)) c.settings.ensures.value c.in-Ok.ensures.ok in
    let keeps = c.what_comes_keeps_fresh.ensures.messages r.own_open (front (rule_of r.net r.number v) (side p.side).held) (side p.side) (is_fresh r v c.args.peer_at p q ch c.self.invariant) in
    let tracks = tracks_handled c.the_word_follows.ensures r v c.args.peer_at p q ch c.self.invariant t (snapshots_of r.marks) (snapshots_of m) keeps h in
    rw c.in_ok-stamp.ensures.next.0
    (stays r v c.args.peer_at p q ch t m (r.stamp + 1) c.self.invariant few tracks (record { over = c.handle_front.ensures.over; router = c.handle_front.ensures.router }))

pub returns-in-Ok-clause-answers : goal.returns-in-Ok-clause-answers
returns-in-Ok-clause-answers c =
    let r = view_of c.self.inside in
    let v = c.args.peer in
    let found = subst (λ (x : RouterView). IsFound x.peers c.args.peer c.args.peer_at) (sym c.self.view_is) c.peer_stands_at.ensures.found in
    let p = c.index_mut.result.now in
    let q : Peer = record { number = p.number; side = c.handle_front.new.side } in
    let ch : Changes r v c.args.peer_at p q = record { place = found.2; here = c.index_mut.ensures.value; number = refl } in
    let t = c.handle_front.new.tables in
    let m = c.handle_front.new.marks in
    let same : p ≡ c.index.result.now = c.index_mut.ensures.value ∙ here_same r.peers v c.args.peer_at p c.index.result.now found.2 ∙ sym c.index.ensures in
    let waits = ap (λ (w : Peer). is_waiting (side w.side).held) same ∙ sym c.is_waiting.ensures ∙ c.if-not-is_waiting.false in
    let late : nat_lt GREATEST_STAMP (r.stamp + 1) ≡ false = c.in_ok-stamp.ensures.next.1 in
    let h = subst (λ (s : Settings). HandlesFront r.own_open (naming s.width r.number v) v (side p.side) (side q.side) r.tables t (snapshots_of r.marks) (snapshots_of m)) c.settings.ensures.value c.in-Ok.ensures.ok in
    let leaves = leaves_handled c.the_word_follows.ensures r v c.args.peer_at p q ch c.self.invariant t (snapshots_of r.marks) (snapshots_of m) h in
    let sees = h.sees ∙ seen_is h.draft.acts h.hand v (closed (close_at v h.draft.left) (snapshots_of r.marks)) in
    rw c.in_ok-stamp.ensures.next.0
    (subst (λ (x : RouterView). Answers (Ok stepped.Did) x (Handle v) (with_peer r c.args.peer_at q t m (r.stamp + 1))) c.self.view_is (λ g e ranks.
    hands_front g r v c.args.peer_at p (of_sound g r c.self.invariant e) found.2 c.index_mut.ensures.value found.1 q ch t m h.hand h.draft h.hand_is h.draft_is h.side leaves sees waits late))

-- memory was wanting: all is as it was
pub invariant_of-self-in-Err : goal.invariant_of-self-in-Err
invariant_of-self-in-Err c =
    let r = view_of c.self.inside in
    let v = c.args.peer in
    let found = subst (λ (x : RouterView). IsFound x.peers c.args.peer c.args.peer_at) (sym c.self.view_is) c.peer_stands_at.ensures.found in
    let p = c.index_mut.result.now in
    let q : Peer = record { number = p.number; side = c.handle_front.new.side } in
    let ch : Changes r v c.args.peer_at p q = record { place = found.2; here = c.index_mut.ensures.value; number = refl } in
    let t = c.handle_front.new.tables in
    let m = c.handle_front.new.marks in
    let is = c.in-Err.ensures.side in
    let alike = tracks_alike r v c.args.peer_at p q ch c.self.invariant (ap (λ (s : Side). s.session) is) (ap (λ (s : Side). s.link) is) (ap (λ (s : Side). s.acted) is) (ap (λ (s : Side). s.sent) is) (ap (λ (s : Side). s.width) is) in
    stays r v c.args.peer_at p q ch t m r.stamp c.self.invariant c.self.invariant.stamp (subst (Tracks r v q) (sym c.in-Err.ensures.tables) alike)
    (record { over = c.handle_front.ensures.over; router = c.handle_front.ensures.router })

pub returns-in-Err-clause-answers : goal.returns-in-Err-clause-answers
returns-in-Err-clause-answers c =
    let r = view_of c.self.inside in
    let v = c.args.peer in
    let found = subst (λ (x : RouterView). IsFound x.peers c.args.peer c.args.peer_at) (sym c.self.view_is) c.peer_stands_at.ensures.found in
    let p = c.index_mut.result.now in
    let q : Peer = record { number = p.number; side = c.handle_front.new.side } in
    let ch : Changes r v c.args.peer_at p q = record { place = found.2; here = c.index_mut.ensures.value; number = refl } in
    let t = c.handle_front.new.tables in
    let m = c.handle_front.new.marks in
    let same : p ≡ c.index.result.now = c.index_mut.ensures.value ∙ here_same r.peers v c.args.peer_at p c.index.result.now found.2 ∙ sym c.index.ensures in
    let waits = ap (λ (w : Peer). is_waiting (side w.side).held) same ∙ sym c.is_waiting.ensures ∙ c.if-not-is_waiting.false in
    let late : nat_lt GREATEST_STAMP (r.stamp + 1) ≡ false = c.in_ok-stamp.ensures.next.1 in
    let as_it_was = subst (λ (w : RibView). plain_of (with_peer r c.args.peer_at q w m r.stamp) ≡ plain_of r) (sym c.in-Err.ensures.tables) (kept r v c.args.peer_at p q ch m c.in-Err.ensures.side c.in-Err.ensures.marks) in
    subst (λ (x : RouterView). Answers (Err error.Memory) x (Handle v) (with_peer r c.args.peer_at q t m r.stamp)) c.self.view_is (λ g e ranks.
    hands_refused g r v c.args.peer_at p (of_sound g r c.self.invariant e) found.2 c.index_mut.ensures.value found.1 (plain_of (with_peer r c.args.peer_at q t m r.stamp)) as_it_was waits late)
