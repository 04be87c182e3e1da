use Rattle.std.proofs.Common.{◌≡◌, ◌<◌, true, false, length, arith, rules, sym, subst}
use Rattle.std.specs.Prelude.{nat_lt}
use Rattle.std.proofs.lemmas.Bool.Decides.{nat_tests}
use Rattle.outbox.specs.Items.{octets_waiting}
use Rattle.router_model.specs.declared.limits.TheConstants.{OUTBOX_LIMIT}
use Rattle.router_side.specs.SideOf.{side}
use Rattle.router_core.specs.declared.router.choose.Next.TheVariants as next
use Rattle.router_core.specs.Views.{view_of, RouterView, IsNext}
use Rattle.router_core.proofs.Nexts.{past_idle, past_full, is_next, nobody_waits}
use Rattle.router_core.proofs.Places.{listed_here}
use Rattle.router_core.proofs.router.Router.next_to_tell.Goals as goal

pub waiting_at-requires : goal.waiting_at-requires
waiting_at-requires c =
    let r = view_of c.self.inside in
    let lt : c.loop-peer_at.peer_at < length r.peers = search rules in
    record { stands = listed_here r c.loop-peer_at.peer_at c.index-peer.result.now c.self.invariant lt c.index-peer.ensures }

pub loop-peer_at-preserved-in_default : goal.loop-peer_at-preserved-in_default
loop-peer_at-preserved-in_default c =
    let r = view_of c.self.inside in
    let lt : c.loop-peer_at.peer_at < length r.peers = search rules in
    past_idle r c.self.invariant c.loop-peer_at.peer_at c.index-peer.result.now lt c.index-peer.ensures c.in_default.ensures.least c.loop-peer_at.blocked c.loop-peer_at.invariant

pub loop-peer_at-preserved : goal.loop-peer_at-preserved
loop-peer_at-preserved c =
    let r = view_of c.self.inside in
    let lt : c.loop-peer_at.peer_at < length r.peers = search rules in
    let p = c.index-peer.result.now in
    let full : nat_lt (octets_waiting (side p.side).outbox) OUTBOX_LIMIT ≡ false = grind (arith, nat_tests, c.octets_waiting.ensures, c.if-octets_waiting-lt-OUTBOX_LIMIT.false) in
    rw c.or-blocked.ensures (past_full r c.self.invariant c.loop-peer_at.peer_at p lt c.index-peer.ensures c.in-Some.found.1 c.in-Some.ensures.least full c.loop-peer_at.blocked c.loop-peer_at.invariant)

pub returns-then-octets_waiting-lt-OUTBOX_LIMIT : goal.returns-then-octets_waiting-lt-OUTBOX_LIMIT
returns-then-octets_waiting-lt-OUTBOX_LIMIT c =
    let r = view_of c.self.inside in
    let lt : c.loop-peer_at.peer_at < length r.peers = search rules in
    let p = c.index-peer.result.now in
    let free : nat_lt (octets_waiting (side p.side).outbox) OUTBOX_LIMIT ≡ true = grind (arith, nat_tests, c.octets_waiting.ensures, c.if-octets_waiting-lt-OUTBOX_LIMIT.true) in
    let q = c.in-Some.found.1 in
    subst (λ (x : RouterView). IsNext x (next.Peer c.loop-peer_at.peer_at c.in-Some.found.0 q)) c.self.view_is
    (is_next r c.self.invariant c.loop-peer_at.peer_at p lt c.index-peer.ensures q c.in-Some.ensures.least free c.loop-peer_at.blocked c.loop-peer_at.invariant c.in-Some.found.0 (rw (sym c.self.invariant.tabled.net) c.in-Some.ensures.named))

pub returns-then-not-has_waiting_peer : goal.returns-then-not-has_waiting_peer
returns-then-not-has_waiting_peer c =
    let r = view_of c.self.inside in
    subst (λ (x : RouterView). IsNext x next.Nobody) c.self.view_is (nobody_waits r c.self.invariant (c.has_waiting_peer.ensures.none c.if-not-has_waiting_peer.true))
