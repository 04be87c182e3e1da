use Rattle.std.proofs.Common.{refl, sym, ◌∙◌}
use Rattle.bgp_codec.specs.UpdateReading.{update_fault, segment_at}
use Rattle.bgp_codec.proofs.PartLemmas.{front_none, front_some, front_values}
use Rattle.bgp_codec.proofs.PathLemmas.{segment_shortens}
use Rattle.bgp_codec.proofs.parts.PathOctets.next.Goals as goal

pub invariant_of-self : goal.invariant_of-self
invariant_of-self c =
    let width = c.self.inside.width in
    let more = front_some (segment_at width) c.self.inside.octets.now c.in-Some.rest.now _ c.self.invariant.0 (segment_shortens width) c.in-Some.ensures.some c.self.invariant.1 in
    (more.0, more.1)

pub returns-in-None : goal.returns-in-None
returns-in-None c =
    let none =
    sym c.self.view_is ∙ front_none (segment_at c.self.inside.width) c.self.inside.octets.now (update_fault 11) c.self.invariant.0 (c.in-None.ensures.none refl) c.self.invariant.1 in
    (none, none)

pub returns-in-Some : goal.returns-in-Some
returns-in-Some c =
    let width = c.self.inside.width in
    sym c.self.view_is ∙ front_values (segment_at width) c.self.inside.octets.now c.in-Some.rest.now _ c.self.invariant.0 (segment_shortens width) c.in-Some.ensures.some c.self.invariant.1
