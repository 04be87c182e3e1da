use Rattle.std.proofs.Common.{◌∙◌, ap, sym, List, ℕ}
use Rattle.std.specs.Prelude.{nat_eq, slice_get}
use Rattle.std.specs.List.{list_any}
use Rattle.world_core.proofs.Awake.{number_at}
use Rattle.world_core.proofs.Backs.{some_place, at_place}
use Rattle.world_core.proofs.opening.new_pipe.Goals as goal

pub unwrap-back-requires : goal.unwrap-back-requires
unwrap-back-requires c =
    let law = c.linked_routers_are_peers.ensures in
    let net = c.args.network.now in
    let u = c.args.number in
    let v = c.args.peer in
    let turned = law net c.built.ensures.network v u (law net c.built.ensures.network u v c.requires).back in
    some_place c.place_among.result c.links_of.result.now u c.place_among.ensures (ap (list_any (nat_eq u)) c.links_of.ensures.peers ∙ turned.peer)

pub returns-clause-back : goal.returns-clause-back
returns-clause-back c =
    let value = rw c.unwrap-router.ensures at c.place.ensures.value in
    let there = rw c.unwrap-back.ensures at c.place_among.ensures in (
      number_at c.args.network.now.routers c.unwrap-router.result c.args.peer value,
      ap (λ (ps : List ℕ). slice_get ps c.unwrap-back.result) (sym c.links_of.ensures.peers) ∙ at_place c.links_of.result.now c.unwrap-back.result c.args.number there.0 there.1 there.2,
    )
