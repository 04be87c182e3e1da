use Rattle.std.proofs.Common.{refl, sym, ◌∙◌, arith}
use Rattle.net_text.proofs.numbers.read_numbers.Goals as goal

pub returns-then-not-are_numbers-clause-ok : goal.returns-then-not-are_numbers-clause-ok
returns-then-not-are_numbers-clause-ok c = tt

pub returns-then-not-are_numbers-clause-err : goal.returns-then-not-are_numbers-clause-err
returns-then-not-are_numbers-clause-err c = (c.parts.invariant.numbers ∙ sym c.if-not-are_numbers.ensures, refl)

pub returns-clause-ok : goal.returns-clause-ok
returns-clause-ok c = (c.parts.invariant.numbers ∙ sym c.if-not-are_numbers.ensures, c.parts.invariant.whole, c.parts.invariant.few, λ some. omega (arith, c.parts-test.false, c.parts.invariant.few))

pub returns-clause-err : goal.returns-clause-err
returns-clause-err c = tt
