use Rattle.std.proofs.Common.{ap, ◌∙◌}
use Rattle.ranked_policy.specs.Plans.{Plan}
use Rattle.stable_paths.specs.Stable.{path_of}
use Rattle.stable_paths.proofs.TableLemmas.{known_at, found_more}
use Rattle.stable_paths.proofs.stability.movers.Goals as goal

pub mover-requires : goal.mover-requires
mover-requires c =
    known_at c.args.instance.now c.routers-router-items.result.now (c.routers-router-items.ensures.value ∙ ap (λ (n : Plan). n.routers) c.network-network.ensures.value) c.loop-router.router-index c.router-item.result
    c.loop-router-test.true c.router-item.is

pub loop-router-preserved : goal.loop-router-preserved
loop-router-preserved c =
    found_more c.args.instance.now (path_of c.args.assignment.now) c.routers-router-items.result.now (c.routers-router-items.ensures.value ∙ ap (λ (n : Plan). n.routers) c.network-network.ensures.value) c.loop-router.router-index
    c.router-item.result c.loop-router-test.true c.router-item.is c.loop-router.movers.items c.add.new.movers.items c.in_ok-mover.field-0 c.loop-router.invariant c.in_ok-mover.ensures.mover c.in_ok-add.ensures
