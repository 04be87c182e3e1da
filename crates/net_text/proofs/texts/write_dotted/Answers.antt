use Rattle.std.proofs.Common.{◌≡◌, ◌+◌, take, ◌++◌, ap, ◌∙◌, arith}
use Rattle.net_text.proofs.DecimalLemmas.{row_written}
use Rattle.net_text.proofs.texts.write_dotted.Goals as goal

pub returns-clause-text : goal.returns-clause-text
returns-clause-text c =
    let row = c.octet_row.result in
    let front = take c.args.at c.args.text.now in
    let whole : c.args.at + 4 ≡ c.write_text.result = omega (arith, c.write_text.ensures.end) in
    row_written c.args.text.now c.write_text.new.text row c.args.at c.octet_span.result (omega (arith, c.requires)) c.octet_span.ensures.few (ap (λ k. take k c.write_text.new.text) whole ∙ c.write_text.ensures.text)
    ∙ ap (λ k. front ++ take k row) c.octet_span.ensures.span
    ∙ ap (λ ds. front ++ ds) c.octet_row.ensures
