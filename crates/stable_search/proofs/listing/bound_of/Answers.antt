use Rattle.std.proofs.Common.{ℕ, List, refl, sym, ap, subst, inl, inr}
use Rattle.stable_search.specs.declared.seat.Seat.{Seat}
use Rattle.stable_search.specs.Listing.{IsBound}
use Rattle.stable_search.proofs.listing.bound_of.Goals as goal
use Rattle.stable_search.proofs.listing.bound_of.Goals.{then-linked+then-takes_onward, else-linked}

pub loop-peer-preserved : goal.loop-peer-preserved
loop-peer-preserved c =
    let links = c.args.network.now.links in
    let seats : List Seat = c.args.seats.now in
    let it : Seat = c.args.it.now in
    elim c.if-linked.branch [
      | then-linked+then-takes_onward w ↦
          let peer : Seat = c.peer-item.result in
          let theirs : List ℕ = c.only_path-theirs.result.now in
          let is : IsBound links seats it theirs = elim c.only_path-theirs.ensures [
            | inl none ↦ inl none
            | inr only ↦ inr (record {
              peer = peer;
              seated = (c.loop-peer.peer-index, c.loop-peer-test.true, sym c.peer-item.is);
              linked = w.if-linked.ensures.0 refl;
              settled = only.0;
              only = only.1;
              may = (w.if-takes_onward.ensures.0 refl).0;
            })
          ] in
          subst (IsBound links seats it) (ap (λ b. b.now) (sym w.bound-is)) is
      | else-linked w ↦ subst (IsBound links seats it) (ap (λ b. b.now) (sym w.bound-is)) c.loop-peer.invariant
    ]
