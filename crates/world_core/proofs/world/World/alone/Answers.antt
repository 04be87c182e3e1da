use Rattle.std.proofs.Common.{◌∷◌, [], ◌≡◌, sym, subst, ◌∙◌, Err, rules}
use Rattle.std.specs.Prelude.{slice_get, Some}
use Rattle.std.proofs.lemmas.Result.{err_from_is_err_and}
use Rattle.ranked_policy.specs.Plans.{Plan, numbers}
use Rattle.world_core.specs.declared.schedule.Event.TheVariants as schedule
use Rattle.world_core.specs.Steps.{view_of, IsIdle}
use Rattle.world_core.specs.Views.{WorldView}
use Rattle.world_core.proofs.Places.{is_below}
use Rattle.world_core.proofs.Quiet.{idle}
use Rattle.world_core.proofs.Staying.{stands_here}
use Rattle.world_core.proofs.Watched.{idle_over, watched_before, watched_behind}
use Rattle.world_core.proofs.world.World.alone.Goals as goal

pub index-requires : goal.index-requires
index-requires g c =
    let s = c.self.inside.state in
    let at = stands_here (view_of s) c.args.number c.args.router_at c.self.invariant.0 (subst (λ (y : WorldView). slice_get (numbers y.net.routers) c.args.router_at ≡ Some c.args.number) (sym c.self.view_is) c.requires) in
    let inside = is_below (λ r. r.number) s.routers.items c.args.number c.args.router_at at.router in
    search rules

pub returns-then-is_idle-clause-watches : goal.returns-then-is_idle-clause-watches
returns-then-is_idle-clause-watches g c =
    let x = view_of c.self.inside.state in
    let yes = c.if-is_idle.true in
    let at = stands_here x c.args.number c.args.router_at c.self.invariant.0 (subst (λ (y : WorldView). slice_get (numbers y.net.routers) c.args.router_at ≡ Some c.args.number) (sym c.self.view_is) c.requires) in
    let rests = idle x c.args.number c.args.router_at c.index.result.now at c.index.ensures (c.is_idle.ensures.decide yes) (c.is_idle.ensures.advertise yes) (c.is_idle.ensures.offer yes) in
    idle_over g.W.Watch.says g.W.Watch.may_want c.args.self.now c.args.number (g.W.Watch.said c.args.watcher.now) (subst (λ (y : WorldView). IsIdle y c.args.number) c.self.view_is rests)

pub returns-in_err-watched-clause-watches : goal.returns-in_err-watched-clause-watches
returns-in_err-watched-clause-watches g c =
    let p = err_from_is_err_and c.from_residual.result c.from_residual.ensures.1 in
    let u = c.args.number in
    rw (p.1, p.2)
    (watched_before g.W.Watch.says g.W.Watch.may_want c.args.self.now c.watched.new.self (schedule.Decide u ∷ []) (schedule.Advertise u ∷ schedule.Offer u ∷ []) c.in_err-watched.field-0.0 (g.W.Watch.said c.args.watcher.now)
    (g.W.Watch.said c.watched.new.watcher) c.in_err-watched.ensures.watches)

pub returns-in_err-watched-2-clause-watches : goal.returns-in_err-watched-2-clause-watches
returns-in_err-watched-2-clause-watches g c =
    let p = err_from_is_err_and c.from_residual-in_err-watched-2.result c.from_residual-in_err-watched-2.ensures.1 in
    let u = c.args.number in
    let why = c.in_err-watched-2.field-0.0 in
    let says = g.W.Watch.says in
    let may = g.W.Watch.may_want in
    let one = g.W.Watch.said c.watched.new.watcher in
    let two = g.W.Watch.said c.watched-2.new.watcher in
    rw (p.1, p.2)
    (watched_behind says may c.args.self.now c.watched.new.self c.watched-2.new.self (schedule.Decide u ∷ []) (schedule.Advertise u ∷ schedule.Offer u ∷ []) (Err why) (g.W.Watch.said c.args.watcher.now) one two c.watched.ensures.same
    c.in_ok-watched.ensures.watches (watched_before says may c.watched.new.self c.watched-2.new.self (schedule.Advertise u ∷ []) (schedule.Offer u ∷ []) why one two c.in_err-watched-2.ensures.watches))

pub returns-clause-watches : goal.returns-clause-watches
returns-clause-watches g c =
    let u = c.args.number in
    let says = g.W.Watch.says in
    let may = g.W.Watch.may_want in
    let x = c.watched.new.self in
    let y = c.watched-2.new.self in
    let z = c.watched-3.new.self in
    let one = g.W.Watch.said c.watched.new.watcher in
    let two = g.W.Watch.said c.watched-2.new.watcher in
    let three = g.W.Watch.said c.watched-3.new.watcher in
    watched_behind says may c.args.self.now x z (schedule.Decide u ∷ []) (schedule.Advertise u ∷ schedule.Offer u ∷ []) c.watched-3.result (g.W.Watch.said c.args.watcher.now) one three c.watched.ensures.same c.in_ok-watched.ensures.watches
    (watched_behind says may x y z (schedule.Advertise u ∷ []) (schedule.Offer u ∷ []) c.watched-3.result one two three c.watched-2.ensures.same c.in_ok-watched-2.ensures.watches c.watched-3.ensures.watches)

pub watched-requires : goal.watched-requires
watched-requires g c = (c.requires, tt)

pub watched-requires-2 : goal.watched-requires-2
watched-requires-2 g c = (subst (λ (n : Plan). slice_get (numbers n.routers) c.args.router_at ≡ Some c.args.number) (sym c.watched.ensures.same) c.requires, tt)

pub watched-requires-3 : goal.watched-requires-3
watched-requires-3 g c = (subst (λ (n : Plan). slice_get (numbers n.routers) c.args.router_at ≡ Some c.args.number) (sym (c.watched-2.ensures.same ∙ c.watched.ensures.same)) c.requires, tt)
