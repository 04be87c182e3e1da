use Rattle.std.proofs.Common.{refl, sym, ◌∙◌}
use Rattle.bgp_codec.specs.UpdateReading.{update_fault, prefix_at}
use Rattle.bgp_codec.proofs.PartLemmas.{front_none, front_values, one_fewer}
use Rattle.bgp_codec.proofs.PrefixLemmas.{prefix_shortens}
use Rattle.bgp_codec.proofs.parts.PrefixOctets.next.Goals as goal

pub overflow_sub-self : goal.overflow_sub-self
overflow_sub-self c = (one_fewer c.self.inside.octets.now c.in-Some.first.1.now c.in-Some.first.0 c.self.inside.count c.in-Some.ensures.some c.self.invariant).0

pub invariant_of-self : goal.invariant_of-self
invariant_of-self c = (one_fewer c.self.inside.octets.now c.in-Some.first.1.now c.in-Some.first.0 c.self.inside.count c.in-Some.ensures.some c.self.invariant).1

pub returns-in-None : goal.returns-in-None
returns-in-None c =
    let none = sym c.self.view_is ∙ front_none prefix_at c.self.inside.octets.now (update_fault 10) c.self.invariant.0 (c.in-None.ensures.none refl) c.self.invariant.1 in
    (none, none)

pub returns-in-Some : goal.returns-in-Some
returns-in-Some c =
    sym c.self.view_is ∙ front_values prefix_at c.self.inside.octets.now c.in-Some.first.1.now c.in-Some.first.0 c.self.invariant.0 prefix_shortens c.in-Some.ensures.some c.self.invariant.1
