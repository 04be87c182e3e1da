use Rattle.std.proofs.Common.{◌∙◌, rules, refl, sym, ◌≡◌, true, false}
use Rattle.world_core.specs.Views.{setting_of}
use Rattle.world_core.specs.Steps.{view_of}
use Rattle.world_core.proofs.Places.{is_below}
use Rattle.world_core.proofs.Stepping.{stands, known}
use Rattle.world_core.proofs.state.State.router.Goals as goal

pub index-requires : goal.index-requires
index-requires c =
    let inside = is_below (λ r. r.number) c.args.self.now.routers.items c.args.number c.in-Ok.router_at c.in-Ok.ensures.router in
    search rules

pub returns-in-Ok : goal.returns-in-Ok
returns-in-Ok c =
    let s = stands (view_of c.args.self.now) c.args.number c.in-Ok.router_at c.index.result.now c.in-Ok.ensures c.index.ensures in
    record { number = s.0; network = s.1; state = sym s.2 }

pub returns-in-Err : goal.returns-in-Err
returns-in-Err c = λ there.
    let net = c.args.self.now.network.now in
    let k : true ≡ false = sym (known (setting_of net) net c.args.number refl there) ∙ c.in-Err.ensures.1 (setting_of net) refl in
    absurd cc
