use Rattle.std.proofs.Common.{Ok, subst}
use Rattle.router_model.specs.declared.refusal.Stepped.TheVariants as stepped
use Rattle.router_model.specs.Calls.{Decide, Advertise}
use Rattle.router_core.specs.Views.{view_of, RouterView, Answers}
use Rattle.router_core.proofs.Advertising.{is_nobody}
use Rattle.router_core.proofs.Deciding.{decided_all}
use Rattle.router_core.proofs.Nexts.{nobody_waits}
use Rattle.router_core.proofs.router.Router.is_idle.Goals as goal

pub returns-then-has_nothing_to_do-clause-decide : goal.returns-then-has_nothing_to_do-clause-decide
returns-then-has_nothing_to_do-clause-decide c = λ _.
    let r = view_of c.self.inside in
    let laws = c.the_best_is_the_best_path.ensures in
    subst (λ (x : RouterView). Answers (Ok stepped.Nothing) x Decide x) c.self.view_is (λ g e ranks.
    decided_all laws.over laws.one g r (record { sound = c.self.invariant; net = e; ranks = ranks; linked = laws.linked }) (c.has_nothing_to_do.ensures c.if-has_nothing_to_do.true).0)

pub returns-then-has_nothing_to_do-clause-advertise : goal.returns-then-has_nothing_to_do-clause-advertise
returns-then-has_nothing_to_do-clause-advertise c = λ _.
    let r = view_of c.self.inside in
    subst (λ (x : RouterView). Answers (Ok stepped.Nothing) x Advertise x) c.self.view_is (λ g e ranks. is_nobody g r e (nobody_waits r c.self.invariant (c.has_nothing_to_do.ensures c.if-has_nothing_to_do.true).1))
