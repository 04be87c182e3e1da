use Rattle.std.proofs.Common.{◌≡◌, ℕ, nat_eq, subst, arith, inl, inr}
use Rattle.std.specs.Prelude.{IsTrue, not}
use Rattle.std.specs.Int.{w64, trailing_zeros}
use Rattle.std.proofs.lemmas.Bool.{cases_lt}
use Rattle.std.proofs.lemmas.Nat.Bits.{bit_at-trailing_zeros}
use Rattle.stable_paths.proofs.ListLemmas.{never}
use Rattle.stable_search.proofs.narrowing.has_some.Goals as goal

pub returns : goal.returns
returns c = λ some. elim (cases_lt 0 c.args.set) [
  | inl up ↦ (let first = bit_at-trailing_zeros w64 c.args.set up c.ranges.set.fits in (trailing_zeros w64 c.args.set, first.1))
  | inr none ↦ (let zero_is : c.args.set ≡ 0 = omega (arith, none) in absurd (never (subst (λ (n : ℕ). IsTrue (not (nat_eq n 0))) zero_is some)))
]
