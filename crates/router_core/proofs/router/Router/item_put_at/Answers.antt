use Rattle.std.proofs.Common.{◌∙◌, ◌+◌, ◌≤◌, ap, sym, refl, subst, arith}
use Rattle.std.specs.Prelude.{is_some, Ok}
use Rattle.std.proofs.lemmas.Bool.Decides.{nat_tests}
use Rattle.router_model.specs.declared.refusal.Stepped.TheVariants as stepped
use Rattle.router_model.specs.Calls.{Put}
use Rattle.run_model.specs.declared.stamps.TheConstants.{GREATEST_STAMP}
use Rattle.router_side.specs.SideOf.{side}
use Rattle.router_core.specs.declared.peers.Peer.{Peer}
use Rattle.router_core.specs.Views.{view_of, RouterView, IsFound, Answers, HasNext}
use Rattle.router_core.proofs.Carrying.{Changes, with_peer, of_sound, stays, tracks_alike, records_same}
use Rattle.router_model.specs.Sides.{Side}
use Rattle.ranked_policy.specs.declared.network.Settings.{Settings}
use Rattle.router_side.specs.SideOf.{put_next}
use Rattle.router_core.proofs.Serving.{has_next, puts_item, item_here}
use Rattle.router_core.proofs.router.Router.item_put_at.Goals as goal

pub invariant_of-self : goal.invariant_of-self
invariant_of-self c =
    let r = view_of c.self.inside in
    let has = has_next r c.args.peer c.self.invariant (subst (λ (x : RouterView). HasNext x c.args.peer) (sym c.self.view_is) c.requires.next) in
    let found = subst (λ (x : RouterView). IsFound x.peers c.args.peer c.args.peer_at) (sym c.self.view_is) c.peer_stands_at.ensures.found in
    let p = c.index_mut.result.now in
    let q : Peer = record { number = p.number; side = c.item_put.new.self } in
    let ch : Changes r c.args.peer c.args.peer_at p q = record { place = found.2; here = c.index_mut.ensures.value; number = refl } in
    let few : r.stamp + 1 ≤ GREATEST_STAMP = grind (arith, nat_tests, has.2) in
    let tracks = tracks_alike r c.args.peer c.args.peer_at p q ch c.self.invariant (ap (λ (z : Side). z.session) c.item_put.ensures) (ap (λ (z : Side). z.link) c.item_put.ensures)
    (ap (λ (z : Side). z.acted) c.item_put.ensures) (ap (λ (z : Side). z.sent) c.item_put.ensures) (ap (λ (z : Side). z.width) c.item_put.ensures) in
    stays r c.args.peer c.args.peer_at p q ch r.tables r.marks (r.stamp + 1) c.self.invariant few tracks (records_same r)

pub returns-clause-answers : goal.returns-clause-answers
returns-clause-answers c =
    let r = view_of c.self.inside in
    let has = has_next r c.args.peer c.self.invariant (subst (λ (x : RouterView). HasNext x c.args.peer) (sym c.self.view_is) c.requires.next) in
    let found = subst (λ (x : RouterView). IsFound x.peers c.args.peer c.args.peer_at) (sym c.self.view_is) c.peer_stands_at.ensures.found in
    let p = c.index_mut.result.now in
    let q : Peer = record { number = p.number; side = c.item_put.new.self } in
    let ch : Changes r c.args.peer c.args.peer_at p q = record { place = found.2; here = c.index_mut.ensures.value; number = refl } in
    let is = c.item_put.ensures ∙ ap (λ (s : Settings). put_next (side p.side) s.cut) c.settings-cut.ensures.value in
    subst (λ (x : RouterView). Answers (Ok stepped.Did) x (Put c.args.peer) (with_peer r c.args.peer_at q r.tables r.marks (r.stamp + 1))) c.self.view_is (λ g e ranks.
    puts_item g r c.args.peer c.args.peer_at p (of_sound g r c.self.invariant e) found.2 c.index_mut.ensures.value found.1 q ch is
    (ap is_some (item_here r c.args.peer c.args.peer_at p found.2 c.index_mut.ensures.value) ∙ has.1) has.2)
