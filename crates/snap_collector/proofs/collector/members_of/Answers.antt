use Rattle.std.proofs.Common.{◌≡◌, ◌<◌, length, subst, refl}
use Rattle.std.specs.Prelude.{get_or}
use Rattle.snap_collector.proofs.Routers.{member_more}
use Rattle.snap_collector.proofs.collector.members_of.Goals as goal

pub loop-router-preserved : goal.loop-router-preserved
loop-router-preserved c =
    let same = c.routers-router-items.ensures.value in
    let inside = subst (λ rs. c.loop-router.router-index < length rs) same c.loop-router-test.true in
    let is = subst (λ rs. c.router-item.result ≡ get_or rs c.loop-router.router-index c.router-item.result) same c.router-item.is in
    rw c.in_ok-push.ensures.items
    (member_more c.args.network.now c.args.network.now.routers c.loop-router.members.items c.loop-router.router-index c.router-item.result _ inside is refl
    (c.in_ok-peers.ensures.rising, c.in_ok-peers.ensures.exact) c.loop-router.invariant)
