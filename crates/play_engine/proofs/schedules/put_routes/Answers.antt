use Rattle.std.proofs.Common.{List, ap, ◌++◌, ◌∙◌}
use Rattle.ranked_policy.specs.declared.network.Origin.{Origin}
use Rattle.router_model.specs.Calls.{Stamped}
use Rattle.world_core.specs.Views.{plain_world}
use Rattle.schedule_text.specs.Routes.{router_text}
use Rattle.play_engine.proofs.PlayLemmas.{text_on}
use Rattle.play_engine.proofs.schedules.put_routes.Goals as goal

pub loop-member-preserved : goal.loop-member-preserved
loop-member-preserved c =
    let u = c.member-item.result.asn in
    let w = plain_world c.args.world.now in
    let old = c.loop-member.out.items in
    text_on (λ r. router_text (w.routers r.asn).router.kept r.asn c.args.network.now.origins) c.routers-member-items.result.now c.loop-member.member-index c.member-item.result old c.put_router.new.out.items _
    c.loop-member-test.true c.member-item.is
    (c.in_ok-put_router-in-Some.ensures.ok ∙ ap (λ (x : Stamped). old ++ router_text x.router.kept u c.origins.result.now) c.in-Some.ensures.state
    ∙ ap (λ (origins : List Origin). old ++ router_text (w.routers u).router.kept u origins) c.origins.ensures.value)
    c.loop-member.invariant
