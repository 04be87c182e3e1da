use Rattle.std.proofs.Common.{◌≤◌, List, length, ◌∙◌, ap, subst, refl}
use Rattle.ranked_policy.specs.declared.network.NetRouter.{NetRouter}
use Rattle.ranked_policy.specs.Plans.{Plan}
use Rattle.stable_paths.specs.Stable.{path_of, MayHave}
use Rattle.stable_paths.proofs.ListLemmas.{never}
use Rattle.stable_paths.proofs.TableLemmas.{stray, permitted_on, each_all}
use Rattle.stable_paths.proofs.stability.permit_all.Goals as goal

pub returns-then-not-may_keep-clause-err : goal.returns-then-not-may_keep-clause-err
returns-then-not-may_keep-clause-err c =
    stray c.args.instance.now c.network-network.ensures.problem.problem (path_of c.args.assignment.now) c.routers-router-items.result.now
    (c.routers-router-items.ensures.value ∙ ap (λ (n : Plan). n.routers) c.network-network.ensures.value) c.loop-router.router-index c.router-item.result c.loop-router-test.true c.router-item.is
    c.router-item.result.asn refl (λ may. never (c.if-not-may_keep.ensures.1 may)) c.loop-router.invariant

pub loop-router-preserved : goal.loop-router-preserved
loop-router-preserved c =
    permitted_on c.args.instance.now (path_of c.args.assignment.now) c.routers-router-items.result.now
    (c.routers-router-items.ensures.value ∙ ap (λ (n : Plan). n.routers) c.network-network.ensures.value) c.loop-router.router-index c.router-item.result c.loop-router-test.true c.router-item.is
    c.router-item.result.asn refl (c.if-not-may_keep.ensures.0 refl) c.loop-router.invariant

pub returns-clause-ok : goal.returns-clause-ok
returns-clause-ok c =
    each_all (λ v. MayHave c.args.instance.now.net c.args.instance.now.prefix v (path_of c.args.assignment.now v)) c.args.instance.now.net.routers c.loop-router.router-index (subst (λ (rs : List NetRouter). length rs ≤ c.loop-router.router-index) (c.routers-router-items.ensures.value ∙ ap (λ (n : Plan). n.routers) c.network-network.ensures.value) c.loop-router-test.false) c.loop-router.invariant
