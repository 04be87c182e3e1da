use Rattle.std.proofs.Common.{ℕ, List, refl, sym, ap, subst}
use Rattle.std.proofs.lemmas.List.{take_all}
use Rattle.stable_paths.proofs.ListLemmas.{never}
use Rattle.stable_search.specs.declared.seat.Seat.{Seat}
use Rattle.stable_search.proofs.ListingLemmas.{Along, Over, none_over, skip_over, put_over}
use Rattle.stable_search.proofs.listing.onward.Goals as goal
use Rattle.stable_search.proofs.listing.onward.Goals.{then-linked+in_ok-put_along, else-linked}

pub loop-peer-init : goal.loop-peer-init
loop-peer-init c = none_over c.args.it.now c.args.bound.now c.args.count c.args.network.now.links c.new-found.result.items c.new-found.ensures.items

pub loop-peer-preserved : goal.loop-peer-preserved
loop-peer-preserved c =
    let it = c.args.it.now in
    let bound = c.args.bound.now in
    let count = c.args.count in
    let links = c.args.network.now.links in
    let seats = c.args.seats.now in
    let i = c.loop-peer.peer-index in
    let peer : Seat = c.peer-item.result in
    let found = c.loop-peer.found.items in
    let new = c.if-linked.found.items in
    elim c.if-linked.branch [
      | then-linked+in_ok-put_along w ↦
          let is_new = ap (λ v. v.items) w.found-is in
          let along : Along it bound count found peer.values.items new =
          subst (λ (xs : List (List ℕ)). Along it bound count found peer.values.items xs) (sym is_new)
          (subst (λ (theirs : List (List ℕ)). Along it bound count found theirs w.put_along.new.found.items) w.as_slice.ensures.value w.in_ok-put_along.ensures) in
          put_over it bound count links seats i peer c.loop-peer-test.true c.peer-item.is found new c.loop-peer.invariant along (w.if-linked.ensures.0 refl)
      | else-linked w ↦
          skip_over it bound count links seats i peer c.loop-peer-test.true c.peer-item.is found new c.loop-peer.invariant (ap (λ v. v.items) w.found-is) (λ linked. never (w.if-linked.ensures.1 linked))
    ]

pub returns : goal.returns
returns c =
    subst (λ (xs : List Seat). Over c.args.it.now c.args.bound.now c.args.count c.args.network.now.links xs c.loop-peer.found.items) (take_all c.loop-peer.peer-index c.args.seats.now c.loop-peer-test.false)
    c.loop-peer.invariant
