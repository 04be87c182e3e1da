use Rattle.std.proofs.Common.{◌+◌, ◌≤◌, arith, subst}
use Rattle.std.specs.Prelude.{Ok, Err}
use Rattle.std.proofs.lemmas.Bool.Decides.{nat_tests}
use Rattle.std.proofs.lemmas.Result.{err_from_is_err_and}
use Rattle.router_model.specs.declared.command.Command.TheVariants.{Withdraw}
use Rattle.router_model.specs.declared.refusal.RouterError.TheVariants as error
use Rattle.router_model.specs.declared.refusal.Stepped.TheVariants as stepped
use Rattle.router_model.specs.Calls.{Obey}
use Rattle.run_model.specs.declared.stamps.TheConstants.{GREATEST_STAMP}
use Rattle.router_core.specs.Views.{view_of, RouterView, Answers}
use Rattle.router_core.specs.Calling.{no_step}
use Rattle.router_core.proofs.Originations.{with_tables, sound_withdrawing, no_origin_to_withdraw, withdrawn_already, no_step_to_withdraw, withdraws}
use Rattle.router_core.proofs.router.Router.withdraw.Goals as goal

pub returns-then-not-is_origin-clause-answers : goal.returns-then-not-is_origin-clause-answers
returns-then-not-is_origin-clause-answers c =
    let r = view_of c.self.inside in
    let q = c.args.prefix.now in
    subst (λ (x : RouterView). Answers (Err error.NotOrigin) x (Obey (Withdraw q)) x) c.self.view_is (λ g e ranks. no_origin_to_withdraw g r e q c.is_origin.result c.is_origin.ensures c.if-not-is_origin.true)

pub returns-then-not-is_originated-clause-answers : goal.returns-then-not-is_originated-clause-answers
returns-then-not-is_originated-clause-answers c =
    let r = view_of c.self.inside in
    let q = c.args.prefix.now in
    subst (λ (x : RouterView). Answers (Ok stepped.Nothing) x (Obey (Withdraw q)) x) c.self.view_is (λ g e ranks.
    withdrawn_already g r e q c.is_origin.result c.is_origin.ensures c.if-not-is_origin.false c.is_originated.result c.is_originated.ensures c.if-not-is_originated.true)

pub returns-in_err-stamp-clause-answers : goal.returns-in_err-stamp-clause-answers
returns-in_err-stamp-clause-answers c =
    let p = err_from_is_err_and c.from_residual.result c.from_residual.ensures.1 in
    let r = view_of c.self.inside in
    let q = c.args.prefix.now in
    rw (p.1, p.2, c.in_err-stamp.ensures.refused)
    (subst (λ (x : RouterView). Answers (Err (no_step r.stamp)) x (Obey (Withdraw q)) x) c.self.view_is (λ g e ranks.
    no_step_to_withdraw g r e q c.is_origin.result c.is_origin.ensures c.if-not-is_origin.false c.is_originated.result c.is_originated.ensures c.if-not-is_originated.false))

pub invariant_of-self : goal.invariant_of-self
invariant_of-self c =
    let r = view_of c.self.inside in
    let few : r.stamp + 1 ≤ GREATEST_STAMP = grind (arith, nat_tests, c.in_ok-stamp.ensures.next.1) in
    rw c.in_ok-stamp.ensures.next.0 (sound_withdrawing r (r.stamp + 1) c.self.invariant few c.withdraw.new.self c.args.prefix.now c.withdraw.ensures)

pub returns-clause-answers : goal.returns-clause-answers
returns-clause-answers c =
    let r = view_of c.self.inside in
    let q = c.args.prefix.now in
    rw c.in_ok-stamp.ensures.next.0
    (subst (λ (x : RouterView). Answers (Ok stepped.Did) x (Obey (Withdraw q)) (with_tables r c.withdraw.new.self (r.stamp + 1))) c.self.view_is (λ g e ranks.
    withdraws g r e q c.is_origin.result c.is_origin.ensures c.if-not-is_origin.false c.is_originated.result c.is_originated.ensures c.withdraw.new.self c.withdraw.ensures c.if-not-is_originated.false c.in_ok-stamp.ensures.next.1))
