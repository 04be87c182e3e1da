use Rattle.std.proofs.Common.{◌≡◌, true, refl, Option, None, Some, Result, Ok, Err}
use Rattle.std.specs.Prelude.{IfOk, MatchOption}
use Rattle.wheel_search.proofs.letting.let_all_go.Goals as goal

-- what is answered where it is asked whether paths are feasible
asked : {H E : Type 0} (all : Type 0) (held : H → Type 0) (r : Result (Option H) E) → IfOk r (λ found. MatchOption found all (λ h. true ≡ true → held h)) → IfOk r (λ found. MatchOption found all held)
asked all held (Ok None) h = h
asked all held (Ok (Some x)) h = h refl
asked all held (Err e) h = h

pub returns : goal.returns
returns c = asked _ _ c.let_rows_go-2.result c.let_rows_go-2.ensures
