use Rattle.std.proofs.Common.{◌≡◌, ◌<◌, List, length, get_or, subst}
use Rattle.ranked_policy.specs.declared.network.NetRouter.{NetRouter}
use Rattle.error_words.specs.Warnings.{router_warnings}
use Rattle.error_words.proofs.WarningLemmas.{more_on}
use Rattle.error_words.proofs.warnings.warn_of_network.Goals as goal

pub loop-router-preserved : goal.loop-router-preserved
loop-router-preserved c =
    let net = c.args.network.now in
    let i = c.loop-router.router-index in
    let r = c.router-item.result in
    let same = c.routers-router-items.ensures.value in
    let lt = subst (λ (rs : List NetRouter). i < length rs) same c.loop-router-test.true in
    let at = subst (λ (rs : List NetRouter). r ≡ get_or rs i r) same c.router-item.is in
    more_on (router_warnings net) net.routers i r c.loop-router.out c.warn_of_router.new.out _ lt at c.in_ok-warn_of_router.ensures c.loop-router.invariant
