use Rattle.std.proofs.Common.{map}
use Rattle.snap_collector.specs.Collecting.{member_of}
use Rattle.snap_collector.proofs.Books.{no_books}
use Rattle.snap_collector.proofs.Decided.{nothing_decided}
use Rattle.snap_collector.proofs.collector.Collector.new.Goals as goal

pub invariant_of-result : goal.invariant_of-result
invariant_of-result c = (
  nothing_decided c.args.network.now c.built.ensures.network c.in_ok-members_of.field-0.items c.new.result.entries c.new-2.result.items c.in_ok-members_of.ensures c.new.ensures.empty c.new-2.ensures.items,
  no_books (map member_of c.in_ok-members_of.field-0.items) c.new.result.entries c.new.ensures.empty,
)
