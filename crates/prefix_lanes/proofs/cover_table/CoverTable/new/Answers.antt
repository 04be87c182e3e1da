use Rattle.std.proofs.Common.{◌≡◌, arith, subst}
use Rattle.std.specs.Prelude.{IfSome}
use Rattle.prefix_lanes.specs.Bits.{IsCanonical}
use Rattle.prefix_lanes.proofs.Found.{columns_of_one}
use Rattle.prefix_lanes.proofs.cover_table.CoverTable.new.Goals as goal

pub invariant_of-result : goal.invariant_of-result
invariant_of-result c = (
  omega arith,
  columns_of_one 64 c.unwrap.result (subst (λ p. IfSome p IsCanonical) c.unwrap.ensures c.new.ensures.canonical)
      (subst (λ p. IfSome p (λ q. q ≡ record { addr = 0; len = 0 })) c.unwrap.ensures c.new.ensures.value),
)
