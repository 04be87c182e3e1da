-- The routes that are printed of a settled snapshot are a stable assignment, and so one of those that are printed.
use Rattle.std.proofs.Common.{true, subst}
use Rattle.text_engines.specs.Checking.{at_prefix}
use Rattle.stable_search.specs.Every.{IsEveryStable}
use Rattle.stable_engine.specs.Answers.{Found, Answer, IsFound}
use Rattle.stable_runs.specs.Printed.{PrintedSettledAreListed}

pub printed_settled_are_listed : PrintedSettledAreListed
printed_settled_are_listed g set w out report limits text known answered s settled answer at every same named own =
    let found : IsFound limits g.net answer.prefix answer.found = subst (λ (a : Answer). IsFound limits g.net a.prefix a.found) at.2 (answered.each at.0 answer at.1) in
    let all : IsEveryStable (at_prefix g.net answer.prefix) every = (subst (λ (f : Found). IsFound limits g.net answer.prefix f) same found).0 in
    all.listed (λ u. ((report.settled set s settled).parts u).kept answer.prefix) ((report.settled set s settled).stable answer.prefix named true own)
