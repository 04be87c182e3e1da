use Rattle.std.proofs.Common.{subst}
use Rattle.std.specs.Prelude.{IfSome, Option}
use Rattle.safe_engine.specs.Answers.{IsLast}
use Rattle.safe_engine.specs.declared.prefixes.Answered.{Answered}
use Rattle.safe_engine.proofs.AlikeLemmas.{searched_alike}
use Rattle.safe_engine.proofs.prefixes.found_for.Goals as goal

pub returns-then-are_alike : goal.returns-then-are_alike
returns-then-are_alike c =
    let most = c.args.most in
    let net = c.args.network.now in
    let last = c.in-Some.answered in
    let kept = subst (λ (x : Option Answered). IfSome x (IsLast net most)) c.in-Some.is c.requires.last in
    searched_alike c.alike_have_one_policy.ensures net most last.origin.now.prefix c.args.origin.now.prefix (c.are_alike.ensures.0 c.if-are_alike.true) last.found kept.1
