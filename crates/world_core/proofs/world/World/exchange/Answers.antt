use Rattle.std.proofs.Common.{◌∷◌, [], ap, sym, subst, ◌∙◌, Err}
use Rattle.std.proofs.lemmas.Result.{err_from_is_err_and}
use Rattle.ranked_policy.specs.Plans.{Plan, IsNetwork}
use Rattle.world_core.specs.declared.schedule.Event.TheVariants as schedule
use Rattle.world_core.specs.Steps.{view_of, LinkIsIdle}
use Rattle.world_core.specs.Views.{WorldView, ArePlaced}
use Rattle.world_core.proofs.Awake.{takes_spare}
use Rattle.world_core.proofs.Staying.{link_placed}
use Rattle.world_core.proofs.Watched.{watched_before, watched_behind, quiet_over, own_watched}
use Rattle.world_core.proofs.world.World.exchange.Goals as goal

pub link_is_idle_at-requires : goal.link_is_idle_at-requires
link_is_idle_at-requires g c =
    link_placed c.linked_routers_are_peers.ensures (view_of c.self.inside.state) c.args.number c.args.peer c.args.router_at c.args.peer_at c.self.invariant.0
    (subst (λ (y : WorldView). ArePlaced y.net c.args.number c.args.peer c.args.router_at c.args.peer_at) (sym c.self.view_is) c.requires.placed)

pub returns-then-link_is_idle_at-clause-watches : goal.returns-then-link_is_idle_at-clause-watches
returns-then-link_is_idle_at-clause-watches g c =
    quiet_over g.W.Watch.says g.W.Watch.may_want c.args.self.now c.args.number c.args.peer (g.W.Watch.said c.args.watcher.now)
    (subst (λ (y : WorldView). LinkIsIdle y c.args.number c.args.peer) c.self.view_is (c.link_is_idle_at.ensures c.if-link_is_idle_at.true))

pub returns-in_err-put-clause-watches : goal.returns-in_err-put-clause-watches
returns-in_err-put-clause-watches g c =
    let p = err_from_is_err_and c.from_residual.result c.from_residual.ensures.1 in
    let u = c.args.number in
    let v = c.args.peer in
    rw (p.1, p.2)
    (watched_before g.W.Watch.says g.W.Watch.may_want c.args.self.now c.put.new.self (schedule.Put u v ∷ []) (schedule.Take u v ∷ schedule.Handle u v ∷ []) c.in_err-put.field-0.0 (g.W.Watch.said c.args.watcher.now)
    (g.W.Watch.said c.put.new.watcher) c.in_err-put.ensures.watches)

pub watched-requires : goal.watched-requires
watched-requires g c = subst (λ (n : Plan). ArePlaced n c.args.number c.args.peer c.args.router_at c.args.peer_at) (sym c.put.ensures.same) c.requires.placed

pub returns-in_err-watched-clause-watches : goal.returns-in_err-watched-clause-watches
returns-in_err-watched-clause-watches g c =
    let p = err_from_is_err_and c.from_residual-in_err-watched.result c.from_residual-in_err-watched.ensures.1 in
    let says = g.W.Watch.says in
    let may = g.W.Watch.may_want in
    let u = c.args.number in
    let v = c.args.peer in
    let why = c.in_err-watched.field-0.0 in
    let one = g.W.Watch.said c.put.new.watcher in
    let two = g.W.Watch.said c.watched.new.watcher in
    rw (p.1, p.2)
    (watched_behind says may c.args.self.now c.put.new.self c.watched.new.self (schedule.Put u v ∷ []) (schedule.Take u v ∷ schedule.Handle u v ∷ []) (Err why) (g.W.Watch.said c.args.watcher.now) one two c.put.ensures.same
    c.in_ok-put.ensures.watches (watched_before says may c.put.new.self c.watched.new.self (schedule.Take u v ∷ []) (schedule.Handle u v ∷ []) why one two c.in_err-watched.ensures.watches))

pub watched-requires-2 : goal.watched-requires-2
watched-requires-2 g c = subst (λ (n : Plan). ArePlaced n c.args.number c.args.peer c.args.router_at c.args.peer_at) (sym (c.watched.ensures.same ∙ c.put.ensures.same)) c.requires.placed

pub returns-clause-watches : goal.returns-clause-watches
returns-clause-watches g c =
    let says = g.W.Watch.says in
    let may = g.W.Watch.may_want in
    let u = c.args.number in
    let v = c.args.peer in
    let y = c.put.new.self in
    let z = c.watched-2.new.self in
    let one = g.W.Watch.said c.put.new.watcher in
    let two = g.W.Watch.said c.watched.new.watcher in
    let three = g.W.Watch.said c.watched-2.new.watcher in
    watched_behind says may c.args.self.now y z (schedule.Put u v ∷ []) (schedule.Take u v ∷ schedule.Handle u v ∷ []) c.watched-2.result (g.W.Watch.said c.args.watcher.now) one three c.put.ensures.same c.in_ok-put.ensures.watches
    (watched_behind says may y c.watched.new.self z (schedule.Take u v ∷ []) (schedule.Handle u v ∷ []) c.watched-2.result one two three c.watched.ensures.same c.in_ok-watched.ensures.watches c.watched-2.ensures.watches)

pub returns-clause-resting : goal.returns-clause-resting
returns-clause-resting g c =
    let says = g.W.Watch.says in
    let may = g.W.Watch.may_want in
    let u = c.args.number in
    let v = c.args.peer in
    let y = c.put.new.self in
    let z = c.watched-2.new.self in
    let one = g.W.Watch.said c.put.new.watcher in
    let two = g.W.Watch.said c.watched.new.watcher in
    let three = g.W.Watch.said c.watched-2.new.watcher in
    let is_net = subst IsNetwork (ap (λ (x : WorldView). x.net) c.self.view_is ∙ sym c.put.ensures.same) c.self.invariant.0.network in
    let did = watched_behind says may y c.watched.new.self z (schedule.Take u v ∷ []) (schedule.Handle u v ∷ []) c.watched-2.result one two three c.watched.ensures.same c.in_ok-watched.ensures.watches c.watched-2.ensures.watches in
    own_watched says may y z u (c.watched-2.ensures.same ∙ c.watched.ensures.same) c.answers_are_steps.ensures is_net (schedule.Take u v ∷ schedule.Handle u v ∷ []) c.put.new.marks.items (takes_spare u v) c.watched-2.result one three did
    c.in_ok-put.ensures.resting
