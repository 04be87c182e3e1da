use Rattle.std.proofs.Common.{◌∷◌, [], List, ℕ, ap, subst, sym, ◌∙◌, Ok, Err}
use Rattle.std.proofs.lemmas.Result.{err_from_is_err_and}
use Rattle.router_model.specs.declared.refusal.Stepped.TheVariants.{Did, Nothing}
use Rattle.world_core.specs.Steps.{view_of, IsPlaced}
use Rattle.world_core.specs.Views.{WorldView, plain_world, Answers}
use Rattle.world_core.specs.Watching.{Adds, WatchesEvents}
use Rattle.world_core.proofs.Watched.{one_did, one_idled, one_refused, wanted}
use Rattle.world_core.proofs.Worlds.{stepped}
use Rattle.world_core.proofs.world.World.watched.Goals as goal

pub returns-in_err-before_event-clause-watches : goal.returns-in_err-before_event-clause-watches
returns-in_err-before_event-clause-watches g c =
    let p = err_from_is_err_and c.from_residual.result c.from_residual.ensures.1 in
    rw p.1 (wanted g.W.Watch.says g.W.Watch.may_want c.args.self.now c.args.self.now (c.args.event.now ∷ []) (g.W.Watch.said c.args.watcher.now) (g.W.Watch.said c.before_event.new.self) p.0 c.in_err-before_event.ensures.err p.2)

pub step_at-requires-clause-placed : goal.step_at-requires-clause-placed
step_at-requires-clause-placed g c = subst (λ (x : WorldView). IsPlaced x.net c.args.event.now c.args.router_at c.args.peer_at) (sym c.self.view_is) c.requires

pub invariant_of-self : goal.invariant_of-self
invariant_of-self g c =
    stepped c.steps_are_replayed.ensures (view_of c.self.inside.state) (view_of c.step_at.new.self) c.args.event.now (Err c.in_err-step_at.field-0.0) c.self.invariant.1 c.in_err-step_at.ensures

pub returns-in_err-step_at-clause-watches : goal.returns-in_err-step_at-clause-watches
returns-in_err-step_at-clause-watches g c =
    let p = err_from_is_err_and c.from_residual-in_err-step_at.result c.from_residual-in_err-step_at.ensures.1 in
    let says = g.W.Watch.says in
    let may = g.W.Watch.may_want in
    let old = g.W.Watch.said c.args.watcher.now in
    let why = c.in_err-step_at.field-0.0 in
    let y = view_of c.step_at.new.self in
    rw (p.1, p.2)
    (subst (λ (t : List ℕ). WatchesEvents says may (Err why) c.args.self.now (c.args.event.now ∷ []) old y t) (sym c.before_event.ensures.same)
    (one_refused says may c.args.self.now y c.args.event.now old why (subst (λ (x : WorldView). Answers (Err why) x c.args.event.now y) c.self.view_is c.in_err-step_at.ensures.answers)))

pub returns-in_err-step_at-clause-same : goal.returns-in_err-step_at-clause-same
returns-in_err-step_at-clause-same g c = c.in_err-step_at.ensures.same ∙ ap (λ (x : WorldView). x.net) c.self.view_is

pub invariant_of-self-in-Did : goal.invariant_of-self-in-Did
invariant_of-self-in-Did g c = stepped c.steps_are_replayed.ensures (view_of c.self.inside.state) (view_of c.step_at.new.self) c.args.event.now (Ok Did) c.self.invariant.1 (rw c.in-Did.is at c.in_ok-step_at.ensures)

pub returns-in_err-behind_event-in-Did-clause-watches : goal.returns-in_err-behind_event-in-Did-clause-watches
returns-in_err-behind_event-in-Did-clause-watches g c =
    let p = err_from_is_err_and c.from_residual-in_err-behind_event-in-Did.result c.from_residual-in_err-behind_event-in-Did.ensures.1 in
    rw p.1
    (wanted g.W.Watch.says g.W.Watch.may_want c.args.self.now (view_of c.step_at.new.self) (c.args.event.now ∷ []) (g.W.Watch.said c.args.watcher.now) (g.W.Watch.said c.behind_event.new.self) p.0 c.in_err-behind_event-in-Did.ensures.err p.2)

pub returns-in_err-behind_event-in-Did-clause-same : goal.returns-in_err-behind_event-in-Did-clause-same
returns-in_err-behind_event-in-Did-clause-same g c = c.in_ok-step_at.ensures.same ∙ ap (λ (x : WorldView). x.net) c.self.view_is

pub returns-in_ok-behind_event-in-Did-clause-watches : goal.returns-in_ok-behind_event-in-Did-clause-watches
returns-in_ok-behind_event-in-Did-clause-watches g c =
    let says = g.W.Watch.says in
    let e = c.args.event.now in
    let x = plain_world c.args.self.now in
    let y = view_of c.step_at.new.self in
    let did = rw c.in-Did.is at c.in_ok-step_at.ensures in
    one_did says g.W.Watch.may_want c.args.self.now y e (g.W.Watch.said c.args.watcher.now) (g.W.Watch.said c.behind_event.new.self) (subst (λ (w : WorldView). Answers (Ok Did) w e y) c.self.view_is did.answers)
    (subst (λ (t : List ℕ). Adds t (g.W.Watch.said c.behind_event.new.self) (says x e (plain_world y))) c.before_event.ensures.same (c.in_ok-behind_event-in-Did.ensures.ok x c.in_ok-before_event.ensures.saw))

pub returns-in_ok-behind_event-in-Did-clause-same : goal.returns-in_ok-behind_event-in-Did-clause-same
returns-in_ok-behind_event-in-Did-clause-same g c = c.in_ok-step_at.ensures.same ∙ ap (λ (x : WorldView). x.net) c.self.view_is

pub invariant_of-self-in-Nothing : goal.invariant_of-self-in-Nothing
invariant_of-self-in-Nothing g c = stepped c.steps_are_replayed.ensures (view_of c.self.inside.state) (view_of c.step_at.new.self) c.args.event.now (Ok Nothing) c.self.invariant.1 (rw c.in-Nothing.is at c.in_ok-step_at.ensures)

pub returns-in-Nothing-clause-watches : goal.returns-in-Nothing-clause-watches
returns-in-Nothing-clause-watches g c =
    let says = g.W.Watch.says in
    let may = g.W.Watch.may_want in
    let old = g.W.Watch.said c.args.watcher.now in
    let y = view_of c.step_at.new.self in
    let idle = rw c.in-Nothing.is at c.in_ok-step_at.ensures in
    subst (λ (t : List ℕ). WatchesEvents says may (Ok tt) c.args.self.now (c.args.event.now ∷ []) old y t) (sym c.before_event.ensures.same)
    (one_idled says may c.args.self.now y c.args.event.now old (subst (λ (x : WorldView). Answers (Ok Nothing) x c.args.event.now y) c.self.view_is idle.answers))

pub returns-in-Nothing-clause-same : goal.returns-in-Nothing-clause-same
returns-in-Nothing-clause-same g c = c.in_ok-step_at.ensures.same ∙ ap (λ (x : WorldView). x.net) c.self.view_is
