use Rattle.std.proofs.Common.{subst}
use Rattle.std.specs.Prelude.{MatchOption}
use Rattle.rib_tables.specs.Least.{HoldsOfAll, IsLeastWithout}
use Rattle.rib_tables.specs.Owners.{IsSettled}
use Rattle.router_core.specs.Views.{RouterView}
use Rattle.router_core.proofs.router.Router.undecided.Goals as goal

pub returns : goal.returns
returns c =
    subst (λ (x : RouterView). MatchOption c.dirty.result (HoldsOfAll x.tables.net.origins (IsSettled x.tables)) (IsLeastWithout x.tables.net.origins (IsSettled x.tables))) c.self.view_is c.dirty.ensures
