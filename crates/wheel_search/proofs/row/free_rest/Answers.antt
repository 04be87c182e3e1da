use Rattle.std.proofs.Common.{ℕ, List, length, get_or, sym, ap, subst, arith}
use Rattle.wheel_search.specs.Found.{HasNoRule}
use Rattle.wheel_search.proofs.row.free_rest.Goals as goal

pub returns-in_default : goal.returns-in_default
returns-in_default c = λ u v rest e none. absurd (omega (arith, c.in_default.len_below, ap length e))

pub returns-then-not-is_free_at : goal.returns-then-not-is_free_at
returns-then-not-is_free_at c = λ u v rest e none.
    absurd (cc (c.if-not-is_free_at.true, c.is_free_at.ensures (subst (HasNoRule c.args.instance.now) (sym (ap (λ (xs : List ℕ). get_or xs 1 0) e)) none)))

pub returns : goal.returns
returns c = λ u v rest e none. omega (arith, ap length e)
