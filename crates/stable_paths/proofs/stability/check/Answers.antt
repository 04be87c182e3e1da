use Rattle.std.proofs.Common.{◌≤◌, List, length, ◌∙◌, ap, subst}
use Rattle.ranked_policy.specs.declared.network.NetRouter.{NetRouter}
use Rattle.ranked_policy.specs.Plans.{Plan}
use Rattle.stable_paths.specs.Stable.{path_of, IsBest}
use Rattle.stable_paths.proofs.TableLemmas.{known_at, moving, settled_on, each_all}
use Rattle.stable_paths.proofs.stability.check.Goals as goal

pub mover-requires : goal.mover-requires
mover-requires c =
    known_at c.args.instance.now c.routers-router-items.result.now (c.routers-router-items.ensures.value ∙ ap (λ (n : Plan). n.routers) c.network-network.ensures.value) c.loop-router.router-index c.router-item.result
    c.loop-router-test.true c.router-item.is

pub returns-in-Some : goal.returns-in-Some
returns-in-Some c =
    let found = rw c.in-Some.is at c.in_ok-mover.ensures.mover in (
      c.in_ok-permit_all.ensures.ok,
      moving c.each_policy_is_an_order.ensures c.args.instance.now c.network-network.ensures.problem.problem (path_of c.args.assignment.now) c.routers-router-items.result.now
          (c.routers-router-items.ensures.value ∙ ap (λ (n : Plan). n.routers) c.network-network.ensures.value) c.loop-router.router-index c.router-item.result c.loop-router-test.true c.router-item.is c.in-Some.mover found.0 found.1
          c.loop-router.invariant,
    )

pub loop-router-preserved : goal.loop-router-preserved
loop-router-preserved c =
    settled_on c.args.instance.now (path_of c.args.assignment.now) c.routers-router-items.result.now
    (c.routers-router-items.ensures.value ∙ ap (λ (n : Plan). n.routers) c.network-network.ensures.value) c.loop-router.router-index c.router-item.result c.loop-router-test.true c.router-item.is
    (rw c.in-None.is at c.in_ok-mover.ensures.mover) c.loop-router.invariant

pub returns : goal.returns
returns c = (
  c.in_ok-permit_all.ensures.ok,
  each_all (λ v. IsBest c.args.instance.now (path_of c.args.assignment.now) v (path_of c.args.assignment.now v)) c.args.instance.now.net.routers c.loop-router.router-index
      (subst (λ (rs : List NetRouter). length rs ≤ c.loop-router.router-index) (c.routers-router-items.ensures.value ∙ ap (λ (n : Plan). n.routers) c.network-network.ensures.value) c.loop-router-test.false) c.loop-router.invariant,
)
