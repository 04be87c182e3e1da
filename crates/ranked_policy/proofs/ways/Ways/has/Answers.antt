use Rattle.ranked_policy.proofs.WayLemmas.{has_place}
use Rattle.ranked_policy.proofs.ways.Ways.has.Goals as goal

pub returns : goal.returns
returns c =
    let says = rw c.as_slice.ensures.value at c.place_of.ensures in
    rw (c.is_ok.ensures.value, ← c.self.view_is) (has_place c.self.inside.ways.items c.args.one c.args.other c.place_of.result says.found says.bound says.before says.behind)
