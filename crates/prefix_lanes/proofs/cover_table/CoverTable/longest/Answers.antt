use Rattle.prefix_lanes.proofs.Found.{columns_take}
use Rattle.prefix_lanes.proofs.cover_table.CoverTable.longest.Goals as goal

pub longest_in-requires : goal.longest_in-requires
longest_in-requires c =
    rw (c.as_slice.ensures.value, ← c.self.view_is)
    (columns_take c.self.inside.places c.self.inside.addrs c.self.inside.masks c.self.inside.count c.self.invariant.1)
