use Rattle.std.proofs.Common.{sym}
use Rattle.net_text.proofs.WordLemmas.{five_parts}
use Rattle.net_text.proofs.words.address_of.Goals as goal

pub returns-in-Some : goal.returns-in-Some
returns-in-Some c =
    rw (c.in_ok-a.ensures.some, c.in_ok-b.ensures.some, c.in_ok-c.ensures.some, c.in-Some.ensures.some)
    (sym (five_parts c.in_ok-a.a.now c.in_ok-b.b.now c.in_ok-c.c.now c.in-Some.field-0.0.now c.in-Some.field-0.1.now))
