use Rattle.std.proofs.Common.{ℕ, List, ◌++◌, subst, ◌∙◌}
use Rattle.text_engines.specs.Digits.{HasRead}
use Rattle.text_engines.proofs.DigitLemmas.{on_ok}
use Rattle.text_engines.proofs.digits.Digits.feed.Goals as goal

pub returns : goal.returns
returns c =
    on_ok c.extend.result (λ more taken before has. subst (λ (l : List ℕ). HasRead taken c.extend.new.self (before ++ l)) (c.split_at.ensures.front ∙ c.pack-kept.ensures.kept) (more taken before has)) c.extend.ensures
