use Rattle.std.proofs.Common.{ap, subst, ◌∙◌}
use Rattle.world_core.specs.Views.{WorldView, Answers}
use Rattle.world_core.specs.Steps.{view_of}
use Rattle.world_core.proofs.Worlds.{stepped, promises}
use Rattle.world_core.proofs.world.World.step.Goals as goal

pub invariant_of-self : goal.invariant_of-self
invariant_of-self c = stepped c.steps_are_replayed.ensures (view_of c.self.inside.state) (view_of c.step.new.self) c.args.event.now c.step.result c.self.invariant.1 c.step.ensures

pub returns-clause-same : goal.returns-clause-same
returns-clause-same c = c.step.ensures.same ∙ ap (λ (x : WorldView). x.net) c.self.view_is

pub returns-clause-answers : goal.returns-clause-answers
returns-clause-answers c = subst (λ (x : WorldView). Answers c.step.result x c.args.event.now (view_of c.step.new.self)) c.self.view_is c.step.ensures.answers

pub returns-clause-promises : goal.returns-clause-promises
returns-clause-promises c =
    promises c.played_worlds_keep_their_promises.ensures (view_of c.step.new.self)
    (stepped c.steps_are_replayed.ensures (view_of c.self.inside.state) (view_of c.step.new.self) c.args.event.now c.step.result c.self.invariant.1 c.step.ensures).1
