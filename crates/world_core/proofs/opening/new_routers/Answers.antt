use Rattle.std.proofs.Common.{◌∙◌, arith}
use Rattle.world_core.specs.Views.{IsNewRouter}
use Rattle.world_core.proofs.Made.{one_more, all_more}
use Rattle.world_core.proofs.opening.new_routers.Goals as goal

pub loop-router-preserved : goal.loop-router-preserved
loop-router-preserved c =
    let l = c.loop-router in
    let items = c.in_ok-push.ensures.items in
    rw items
    (record {
      numbers = one_more (λ r. r.number) (λ r. r.asn) l.made.items c.in_ok-new_router.field-0 c.routers-router-items.result.now l.router-index c.router-item.result (omega (arith, c.loop-router-test.true)) c.router-item.is c.in_ok-new_router.ensures.number
          ∙ l.invariant.numbers;
      new = all_more (IsNewRouter c.args.network.now) l.made.items c.in_ok-new_router.field-0 l.invariant.new c.in_ok-new_router.ensures.new;
    })
