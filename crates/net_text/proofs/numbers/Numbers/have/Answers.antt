use Rattle.std.proofs.Common.{◌==◌, refl, rules, tests}
use Rattle.std.proofs.lemmas.Iterator.Consumers.{YieldsList-from_first}
use Rattle.std.proofs.lemmas.Iterator.Search.{any_from_yields_List}
use Rattle.net_text.specs.Taking.{numbers_left}
use Rattle.net_text.proofs.numbers.Numbers.have.Goals as goal

pub returns : goal.returns
returns c = any_from_yields_List (λ v. v == c.args.number) c.any.new.self _ _ c.any.ensures.ran (YieldsList-from_first (λ n. n) numbers_left _ refl) (λ x b q k. search (rules, tests))
