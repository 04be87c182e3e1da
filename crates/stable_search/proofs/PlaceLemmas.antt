-- What stands at a place of a list.
use Rattle.std.proofs.Common.{ℕ, zero, suc, ◌<◌, List, [], ◌∷◌, length, refl, subst, arith}
use Rattle.std.specs.List.{All}
use Rattle.stable_search.specs.Seats.{StandsAt}

pub stands : {X : Type 0} (xs : List X) (i : ℕ) → i < length xs → (x : X) × StandsAt xs i x
stands [] i lt = absurd (omega (arith, lt))
stands (x ∷ xs) zero lt = (x, (lt, refl))
stands (x ∷ xs) (suc i) lt = let s = stands xs i (omega (arith, lt)) in (s.0, (lt, s.1.1))

pub here : {X : Type 0} (P : X → Type 0) (xs : List X) (i : ℕ) (x : X) → All P xs → StandsAt xs i x → P x
here P xs i x all at = subst P at.1 (all i x at.0)
