use Rattle.std.proofs.Common.{◌≡◌, length, ap, sym, subst, ◌∙◌}
use Rattle.std.specs.Prelude.{slice_get, Some}
use Rattle.std.proofs.lemmas.Result.{err_from_is_err_and}
use Rattle.ranked_policy.specs.Plans.{Plan, IsNetwork, numbers}
use Rattle.world_core.specs.Orders.{turn}
use Rattle.world_core.specs.Views.{WorldView}
use Rattle.world_core.proofs.Awake.{beside_from, resting_from, resting_marked, rests_now}
use Rattle.world_core.proofs.Watched.{passed_over, obeyed}
use Rattle.world_core.proofs.world.World.visit.Goals as goal

pub returns-then-is_marked-clause-watches : goal.returns-then-is_marked-clause-watches
returns-then-is_marked-clause-watches g c =
    let x = c.args.self.now in
    let marked = ap (λ ms. slice_get ms c.args.router_at) (sym c.as_slice.ensures.value) ∙ c.is_marked.ensures.0 c.if-is_marked.true in
    passed_over g.W.Watch.says g.W.Watch.may_want x (turn x.net c.args.number) (g.W.Watch.said c.args.watcher.now) (c.requires.resting c.args.router_at c.args.number marked c.requires.router)

pub turn-requires-clause-resting : goal.turn-requires-clause-resting
turn-requires-clause-resting g c =
    let is_net = subst IsNetwork (ap (λ (y : WorldView). y.net) c.self.view_is) c.self.invariant.0.network in
    beside_from c.args.self.now c.args.number c.args.router_at c.args.marks.now.items is_net c.requires.router (λ h. let k = c.is_marked.ensures.1 (ap (λ ms. slice_get ms c.args.router_at) c.as_slice.ensures.value ∙ h) in absurd cc) c.requires.resting

pub returns-in_err-turn-clause-watches : goal.returns-in_err-turn-clause-watches
returns-in_err-turn-clause-watches g c =
    let p = err_from_is_err_and c.from_residual.result c.from_residual.ensures.1 in
    rw (p.1, p.2) c.in_err-turn.ensures.watches

pub returns-then-run-before-clause-resting : goal.returns-then-run-before-clause-resting
returns-then-run-before-clause-resting g c =
    let x = c.args.self.now in
    let y = c.turn.new.self in
    let u = c.args.number in
    let still = sym (ap length c.run.ensures) ∙ c.if-run-before.true ∙ ap length c.run-before.ensures in
    let at = subst (λ (n : Plan). slice_get (numbers n.routers) c.args.router_at ≡ Some u) (sym c.turn.ensures.same) c.requires.router in
    let done = obeyed g.W.Watch.says g.W.Watch.may_want x y (turn x.net u) (g.W.Watch.said c.args.watcher.now) (g.W.Watch.said c.turn.new.watcher) c.in_ok-turn.ensures.watches in
    resting_marked y u c.args.router_at c.turn.new.marks.items c.mark.new.marks.items at (rests_now x y c.turn.ensures.same u done still) c.mark.ensures.others c.in_ok-turn.ensures.resting

pub returns-else-run-before-clause-resting : goal.returns-else-run-before-clause-resting
returns-else-run-before-clause-resting g c = resting_from c.turn.new.self c.args.number c.turn.new.marks.items c.in_ok-turn.ensures.resting
