use Rattle.std.proofs.Common.{List, subst}
use Rattle.std.specs.Prelude.{IfOk}
use Rattle.net_text.specs.Lexing.{Text}
use Rattle.error_words.specs.Warnings.{IsWarned}
use Rattle.error_words.proofs.warnings.input_warnings.Goals as goal

pub returns : goal.returns
returns c = subst (λ (lines : List Text). IfOk c.lines_warnings.result (λ text. IsWarned lines text.items)) c.network_part.ensures c.lines_warnings.ensures
