use Rattle.std.proofs.Common.{sym}
use Rattle.net_text.proofs.WordLemmas.{three_parts}
use Rattle.net_text.proofs.words.prefix_of.Goals as goal

pub returns-in-Some : goal.returns-in-Some
returns-in-Some c = rw (c.in_ok-address.ensures.some, c.in-Some.ensures.some) (sym (three_parts c.in_ok-address.address.now c.in-Some.field-0.0.now c.in-Some.field-0.1.now))
