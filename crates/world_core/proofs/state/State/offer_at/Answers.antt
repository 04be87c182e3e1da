use Rattle.std.proofs.Common.{◌∙◌, refl, rules}
use Rattle.world_core.specs.Steps.{view_of}
use Rattle.world_core.proofs.Places.{is_below}
use Rattle.world_core.proofs.Stepping.{stands}
use Rattle.world_core.proofs.Moving.{offer_steps, whole_offer}
use Rattle.world_core.proofs.state.State.offer_at.Goals as goal

pub index_mut-requires : goal.index_mut-requires
index_mut-requires c =
    let inside = is_below (λ r. r.number) c.args.self.now.routers.items c.args.number c.args.router_at c.requires.router in
    search rules

pub returns : goal.returns
returns c =
    let x = view_of c.args.self.now in
    let u = c.args.number in
    let i = c.args.router_at in
    let xr = c.index_mut.result.now in
    let o = c.enter_offer.new in
    let s = stands x u i xr c.requires c.index_mut.ensures.value in
    record {
      answers = offer_steps x u i xr o.router o.collector o.board o.run.items c.enter_offer.result c.requires c.index_mut.ensures.value c.enter_offer.ensures.enters c.enter_offer.ensures.same;
      whole = whole_offer x u i o.router o.collector o.board o.run.items c.requires (c.enter_offer.ensures.same.number ∙ s.0) (c.enter_offer.ensures.same.net ∙ s.1) c.enter_offer.ensures.members;
      same = refl;
    }
