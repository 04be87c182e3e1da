use Rattle.std.proofs.Common.{◌<◌, length}
use Rattle.std.proofs.lemmas.Bool.{iff_false}
use Rattle.ranked_policy.specs.Adding.{NetworkMeets}
use Rattle.ranked_policy.proofs.Judged.{refused_unconnected, not_empty}
use Rattle.ranked_policy.proofs.builder.NetBuilder.finish.Goals as goal

pub is_connected-requires-clause-known : goal.is_connected-requires-clause-known
is_connected-requires-clause-known c = rw (c.as_slice-2.ensures.value, c.as_slice-3.ensures.value) c.self.invariant.0.links.known

pub returns-then-not-is_connected-clause-refused : goal.returns-then-not-is_connected-clause-refused
returns-then-not-is_connected-clause-refused c =
    let routers = c.self.inside.routers.items in
    let some : 0 < length routers = rw c.as_slice.ensures.value at (not_empty (length c.as_slice.result.now) c.is_empty.result c.is_empty.ensures c.if-is_empty.false) in
    let says = rw (c.as_slice-2.ensures.value, c.as_slice-3.ensures.value) at c.is_connected.ensures in
    rw (← c.self.view_is) (refused_unconnected (NetworkMeets routers c.self.inside.links.items) tt tt tt tt some tt (iff_false says c.if-not-is_connected.true))

pub from_builder-requires : goal.from_builder-requires
from_builder-requires c =
    let says = rw (c.as_slice-2.ensures.value, c.as_slice-3.ensures.value) at c.is_connected.ensures in
    rw (← c.self.view_is) (record {
      plan = c.self.invariant.0;
      some = rw c.as_slice.ensures.value at (not_empty (length c.as_slice.result.now) c.is_empty.result c.is_empty.ensures c.if-is_empty.false);
      connected = says.0 c.if-not-is_connected.false;
    })
