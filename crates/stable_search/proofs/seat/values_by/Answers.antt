use Rattle.std.proofs.Common.{inl, inr, arith}
use Rattle.stable_search.proofs.seat.values_by.Goals as goal

pub returns-clause-values : goal.returns-clause-values
returns-clause-values c = record {
  exact = λ path.
      (let at = c.in_ok-values.ensures.exact path in (
        λ has. elim (at.0 has) [ inl x ↦ inl (x.1, x.2) | inr none ↦ inr none ],
        λ may. at.1 (elim may [ inl x ↦ inl ((rw c.in-Ranked.is at x.0).0, x.0, x.1) | inr none ↦ inr none ]),
      ));
  distinct = c.in_ok-values.ensures.distinct;
  few = omega arith;
}
