-- what was put, before what is left, is what all are printed as
use Rattle.std.proofs.Common.{◌≡◌, ◌++◌, drop}
use Rattle.std.specs.List.{flat_map}
use Rattle.world_core.specs.Views.{plain_world}
use Rattle.schedule_text.specs.Routes.{router_text, routes_text}
use Rattle.play_engine.proofs.schedules.put_routes.Given as goal

abbrev pub invariant-loop-member : goal.invariant-loop-member
invariant-loop-member l =
    l.out.items ++ flat_map (λ r. router_text ((plain_world l.world).routers r.asn).router.kept r.asn l.network.origins) (drop l.member-index l.member-items)
    ≡ l.fn.out.items ++ routes_text l.network (plain_world l.world)
