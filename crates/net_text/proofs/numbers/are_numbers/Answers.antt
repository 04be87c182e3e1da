use Rattle.std.proofs.Common.{refl, rules, tests}
use Rattle.std.proofs.lemmas.Iterator.Consumers.{YieldsList-from_first}
use Rattle.std.proofs.lemmas.Iterator.Search.{all_from_yields_List}
use Rattle.net_text.specs.Words.{is_number}
use Rattle.net_text.specs.Taking.{parts_left}
use Rattle.net_text.proofs.numbers.are_numbers.Goals as goal

pub returns : goal.returns
returns c = all_from_yields_List is_number c.all.new.self _ _ c.all.ensures.ran (YieldsList-from_first (λ x. x.now) parts_left _ refl) (λ x b q k. search (rules, tests))
