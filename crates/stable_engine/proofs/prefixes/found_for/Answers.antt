use Rattle.std.proofs.Common.{subst}
use Rattle.std.specs.Prelude.{IfSome, Option}
use Rattle.stable_engine.specs.Answers.{IsLast}
use Rattle.stable_engine.specs.declared.prefixes.Answered.{Answered}
use Rattle.stable_engine.proofs.AlikeLemmas.{searched_alike}
use Rattle.stable_engine.proofs.prefixes.found_for.Goals as goal

pub returns-then-are_alike : goal.returns-then-are_alike
returns-then-are_alike c =
    let limits = c.args.limits.now in
    let net = c.args.network.now in
    let last = c.in-Some.answered in
    let kept = subst (λ (x : Option Answered). IfSome x (IsLast limits net)) c.in-Some.is c.requires.last in
    searched_alike limits net last.origin.now.prefix c.args.origin.now.prefix (c.are_alike.ensures.0 c.if-are_alike.true) last.found kept.1
