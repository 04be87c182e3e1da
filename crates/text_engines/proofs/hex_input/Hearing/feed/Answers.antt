use Rattle.text_engines.proofs.DigitLemmas.{on_ok}
use Rattle.text_engines.proofs.hex_input.Hearing.feed.Goals as goal

pub returns-then-not-self : goal.returns-then-not-self
returns-then-not-self c = λ digits hears. (hears.0, c.in_ok-feed.ensures hears.0 digits hears.1, hears.2)

pub returns : goal.returns
returns c = on_ok c.print.result (λ more digits hears. more _ (hears.0, c.in_ok-feed.ensures hears.0 digits hears.1, hears.2)) c.print.ensures
