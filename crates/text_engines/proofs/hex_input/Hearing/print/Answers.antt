use Rattle.text_engines.proofs.PrintingLemmas.{leads_still}
use Rattle.text_engines.proofs.hex_input.Hearing.print.Goals as goal

pub returns-in-Some : goal.returns-in-Some
returns-in-Some c = λ digits hears. (_, c.drop_front.ensures hears.0 digits hears.1, leads_still c.args.rule.now hears.0 _ c.args.self.now.out.items _ _ c.in-Some.is hears.2)

pub returns-in_ok-used-in-None : goal.returns-in_ok-used-in-None
returns-in_ok-used-in-None c = λ digits hears. (
  _,
  c.drop_front-in-None.ensures hears.0 digits hears.1,
  rw c.as_slice-octets.ensures.value at (c.in_ok-used-in-None.ensures.text hears.0 (rw c.in-None.is at hears.2)),
)
