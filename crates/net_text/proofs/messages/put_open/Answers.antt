use Rattle.net_text.proofs.PrintLemmas.{eight_texts}
use Rattle.net_text.specs.Printing.{open_line}
use Rattle.net_text.proofs.messages.put_open.Goals as goal

pub returns-clause-text : goal.returns-clause-text
unfolding open_line
returns-clause-text c =
    eight_texts c.put_text-4.result c.args.out.now.text _ _ _ _ _ _ _ _ _ _ _ _ _ _ _ _ c.in_ok-put_text.ensures.text (rw c.from.ensures at c.in_ok-put_decimal.ensures.text)
    c.in_ok-put_text-2.ensures.text (rw c.from-2.ensures at c.in_ok-put_decimal-2.ensures.text) c.in_ok-put_text-3.ensures.text c.in_ok-put_address.ensures.text
    (rw c.as_slice.ensures at c.in_ok-put_params.ensures.text) c.put_text-4.ensures.text
