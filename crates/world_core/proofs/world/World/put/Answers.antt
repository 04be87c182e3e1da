use Rattle.std.proofs.Common.{◌≡◌, ◌∷◌, [], length, ap, sym, subst, ◌∙◌}
use Rattle.std.proofs.lemmas.Result.{err_from_is_err_and}
use Rattle.std.specs.Prelude.{slice_get, Some}
use Rattle.ranked_policy.specs.Plans.{Plan, IsNetwork, numbers}
use Rattle.world_core.specs.declared.schedule.Event.TheVariants as schedule
use Rattle.world_core.specs.Steps.{view_of}
use Rattle.world_core.specs.Views.{WorldView, ArePlaced}
use Rattle.world_core.proofs.Awake.{beside_put, beside_still, woken_at}
use Rattle.world_core.proofs.Staying.{link_placed, router_placed}
use Rattle.world_core.proofs.Watched.{obeyed}
use Rattle.world_core.proofs.world.World.put.Goals as goal

pub returns-in_err-watched-clause-watches : goal.returns-in_err-watched-clause-watches
returns-in_err-watched-clause-watches g c =
    let p = err_from_is_err_and c.from_residual.result c.from_residual.ensures.1 in
    rw (p.1, p.2) c.in_err-watched.ensures.watches

pub watched-requires : goal.watched-requires
watched-requires g c = c.requires.placed

pub back_at-router-requires : goal.back_at-router-requires
back_at-router-requires g c =
    let net = ap (λ (y : WorldView). y.net) c.self.view_is in
    link_placed c.linked_routers_are_peers.ensures (view_of c.self.inside.state) c.args.number c.args.peer c.args.router_at c.args.peer_at c.self.invariant.0
    (subst (λ (n : Plan). ArePlaced n c.args.number c.args.peer c.args.router_at c.args.peer_at) (sym net) c.requires.placed)

pub returns-then-run-before-clause-resting : goal.returns-then-run-before-clause-resting
returns-then-run-before-clause-resting g c =
    let x = c.args.self.now in
    let y = c.watched.new.self in
    let put = schedule.Put c.args.number c.args.peer ∷ [] in
    let place = c.back_at-router.result.0 in
    let net = ap (λ (y : WorldView). y.net) c.self.view_is in
    let is_net = subst IsNetwork net c.self.invariant.0.network in
    let there = subst (λ (n : Plan). slice_get (numbers n.routers) place ≡ Some c.args.peer) net (router_placed (view_of c.self.inside.state) c.args.peer place c.back_at-router.ensures.here) in
    let woken = woken_at x.net c.args.peer place c.args.marks.now.items c.mark.new.marks.items is_net there (λ h. let k = c.mark.ensures.here h in absurd cc) c.mark.ensures.others in
    beside_put x y c.args.number c.watched.ensures.same c.answers_are_steps.ensures is_net c.args.peer c.args.marks.now.items c.mark.new.marks.items woken
    (obeyed g.W.Watch.says g.W.Watch.may_want x y put (g.W.Watch.said c.args.watcher.now) (g.W.Watch.said c.watched.new.watcher) c.in_ok-watched.ensures.watches) c.requires.resting

pub returns-else-run-before-clause-resting : goal.returns-else-run-before-clause-resting
returns-else-run-before-clause-resting g c =
    let x = c.args.self.now in
    let y = c.watched.new.self in
    let put = schedule.Put c.args.number c.args.peer ∷ [] in
    beside_still x y c.args.number c.watched.ensures.same put c.args.marks.now.items (obeyed g.W.Watch.says g.W.Watch.may_want x y put (g.W.Watch.said c.args.watcher.now) (g.W.Watch.said c.watched.new.watcher) c.in_ok-watched.ensures.watches)
    (sym (ap length c.run.ensures) ∙ c.if-run-before.false ∙ ap length c.run-before.ensures) c.requires.resting
