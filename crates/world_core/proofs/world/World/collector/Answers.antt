use Rattle.std.proofs.Common.{◌≡◌, subst, map}
use Rattle.snap_collector.specs.Collecting.{member_of}
use Rattle.world_core.specs.Verdicts.{members_of, JudgesItsRuns, SettledCanBeBelieved}
use Rattle.run_model.specs.Offers.{HasOutcome}
use Rattle.router_runs.specs.Model.{network_of}
use Rattle.world_core.specs.Views.{WorldView}
use Rattle.world_core.specs.Steps.{view_of}
use Rattle.world_core.proofs.world.World.collector.Goals as goal

pub returns-clause-verdicts : goal.returns-clause-verdicts
returns-clause-verdicts c = subst (λ (x : WorldView). JudgesItsRuns x) c.self.view_is (c.collectors_judge_their_runs.ensures (view_of c.self.inside.state) c.self.invariant.0)

pub returns-clause-peers : goal.returns-clause-peers
returns-clause-peers c =
    let x = view_of c.self.inside.state in
    subst (λ (y : WorldView). map member_of x.collector.members ≡ members_of y.net) c.self.view_is
    (c.members_are_the_routers.ensures x.net c.self.invariant.0.network x.collector.members c.self.invariant.0.members)

pub returns-clause-settled : goal.returns-clause-settled
returns-clause-settled c =
    let x = view_of c.self.inside.state in
    let judges = c.collectors_judge_their_runs.ensures x c.self.invariant.0 in
    subst (λ (y : WorldView). SettledCanBeBelieved y) c.self.view_is
    (λ g net set before later at state r on agrees s is parts made.
    c.snapshots_of_runs.ensures.believed g set before later at state r on s (subst (HasOutcome (network_of g) s state.offered) is (judges g net state agrees s)) parts made)
