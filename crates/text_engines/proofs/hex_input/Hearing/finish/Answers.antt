use Rattle.std.proofs.Common.{ap, List, ℕ}
use Rattle.text_engines.specs.Decoding.{output}
use Rattle.text_engines.proofs.PrintingLemmas.{good_given, bad_given, given_status}
use Rattle.text_engines.proofs.hex_input.Hearing.finish.Goals as goal

pub returns-in_default : goal.returns-in_default
returns-in_default c = λ digits hears. bad_given c.args.rule.now digits _ (c.in_default.ensures hears.0 digits hears.1) (ap (λ (t : List ℕ). output t 1) c.in_ok-from_slice.ensures.items)

pub returns-in-Some-status : goal.returns-in-Some-status
returns-in-Some-status c = λ digits hears.
    good_given c.args.rule.now digits _ _ (c.in-Some.ensures hears.0 digits hears.1) (given_status c.args.rule.now hears.0 c.in-Some.octets.items c.args.self.out.items _ c.in-Some-status.status c.in-Some-status.is hears.2)
