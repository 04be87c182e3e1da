use Rattle.std.proofs.Common.{decimal, refl, ◌∙◌}
use Rattle.net_text.proofs.PrintLemmas.{joined_rest}
use Rattle.net_text.proofs.decimals.write_joined.Goals as goal

pub returns-in-len1-up-clause-text : goal.returns-in-len1-up-clause-text
returns-in-len1-up-clause-text c =
    c.write_marked.ensures.text ∙ joined_rest decimal c.args.mark c.args.numbers.now _ 0 _ _ c.in-len1-up.len_at_least refl c.write_decimal-at.ensures.text
