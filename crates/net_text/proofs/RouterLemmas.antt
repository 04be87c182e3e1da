-- Routers by their numbers: in a list, and by a test.
use Rattle.std.proofs.Common.{◌≡◌, ℕ, ◌<◌, ◌≤◌, ◌==◌, Bool, true, false, List, [], length, get_or, sym, ap, subst, ◌∙◌, arith, IsTrue}
use Rattle.std.specs.Prelude.{◌↔◌}
use Rattle.std.specs.Cmp.{both_ways}
use Rattle.std.specs.List.{All}
use Rattle.std.proofs.lemmas.Bool.{eqb-true, eq-eqb, false_from_ne_true}
use Rattle.std.proofs.lemmas.List.{length-map, get_or-map}
use Rattle.std.proofs.lemmas.List.Folds.{Any-from_list_any, list_any_at}
use Rattle.bgp_values.specs.declared.width.Width.{Width}
use Rattle.bgp_values.specs.declared.width.Width.TheVariants.{Two, Four}
use Rattle.bgp_values.specs.Ranges.{IsAsn}
use Rattle.ranked_policy.specs.declared.network.NetRouter.{NetRouter}
use Rattle.ranked_policy.specs.Plans.{numbers, IsRouter}
use Rattle.net_text.specs.Words.{is_router}

named : (routers : List NetRouter) (u : ℕ) → IsRouter routers u → is_router routers u ≡ true
named routers u h =
    let none : NetRouter = record { asn = u; id = 0; rules = [] } in
    let inside : h.0 < length routers = omega (arith, h.1, length-map routers (λ r. r.asn)) in
    let same : (get_or routers h.0 none).asn ≡ u = sym (get_or-map (λ r. r.asn) routers h.0 none u inside) ∙ h.2 in
    list_any_at (λ r. r.asn == u) routers h.0 none inside (eq-eqb (get_or routers h.0 none).asn u same)

pub listed : (routers : List NetRouter) (u : ℕ) → is_router routers u ≡ true → IsRouter routers u
listed routers u t =
    let any = Any-from_list_any (λ r. r.asn == u) routers t in
    (any.0, omega (arith, any.2, length-map routers (λ r. r.asn)), get_or-map (λ r. r.asn) routers any.0 any.1 u any.2 ∙ ap (λ (r : NetRouter). r.asn) any.3 ∙ eqb-true any.1.asn u any.4)

-- what a search answers is what the test says
pub found : (routers : List NetRouter) (u : ℕ) (b : Bool) → IsTrue b ↔ IsRouter routers u → b ≡ is_router routers u
found routers u b h = both_ways b (is_router routers u) (λ t. named routers u (h.0 t)) (λ t. h.1 (listed routers u t))

in_four_octets : (width : Width) (u : ℕ) → IsAsn width u → u < 4294967296
in_four_octets Two u h = omega (arith, h.1)
in_four_octets Four u h = omega (arith, h.1)

-- no router has a number that four octets do not hold
pub too_great : (width : Width) (routers : List NetRouter) (u : ℕ) → All (IsAsn width) (numbers routers) → 4294967296 ≤ u → false ≡ is_router routers u
too_great width routers u all great =
    sym (false_from_ne_true (is_router routers u) (λ t.
    let h = listed routers u t in
    let below = in_four_octets width u (subst (IsAsn width) h.2 (all h.0 u h.1)) in
    omega (arith, great, below)))
