use Rattle.std.proofs.Common.{◌∙◌, ℕ, List, ap, sym, subst, refl}
use Rattle.std.specs.List.{All}
use Rattle.ranked_policy.specs.Plans.{Linked}
use Rattle.stable_paths.proofs.ListLemmas.{never}
use Rattle.stable_search.specs.declared.seat.Seat.{Seat}
use Rattle.stable_search.specs.declared.way.Way.{Way}
use Rattle.stable_search.specs.Seats.{IsEndOf, StandsAt, HasWay}
use Rattle.stable_search.proofs.RelateLemmas.{has_more, has_last, below_more, below_all, each_end_more, same_seat}
use Rattle.stable_search.proofs.relating.add_ends.Goals as goal
use Rattle.stable_search.proofs.relating.add_ends.Goals.{then-linked+in_ok-fits+in_ok-push, else-linked}

pub loop-to-preserved : goal.loop-to-preserved
loop-to-preserved c =
    let links = c.args.network.now.links in
    let seats = c.args.seats.now in
    let from = c.args.from in
    let to = c.loop-to.to in
    let one : Seat = c.index-seats-from.result in
    let other : Seat = c.index-seats-to.result in
    let at : StandsAt seats from one = (c.requires.from, sym c.index-seats-from.is) in
    let to_at : StandsAt seats to other = (c.loop-to-test.true, sym c.index-seats-to.is) in
    let old = c.loop-to.ends.items in
    let inv = c.loop-to.invariant in
    elim c.if-linked.branch [
      | then-linked+in_ok-fits+in_ok-push w ↦
          let new = c.if-linked.ends.items in
          let way : Way = record { from = from; to = to; fits = w.in_ok-fits.fits } in
          let added = ap (λ v. v.items) w.ends-is ∙ w.in_ok-push.ensures.items in
          let is : IsEndOf links seats way = record { one = one; other = other; from = at; to = to_at; linked = w.if-linked.ensures.0 refl; fits = w.in_ok-fits.ensures } in (
            λ each. each_end_more links seats old new way added (inv.0 each) is,
            λ a b h. has_more old new way added a b (inv.1 a b h),
            below_more links seats from old new to inv.2 (has_more old new way added) (λ a b x y l. has_last old new way added),
          )
      | else-linked w ↦
          let new = c.if-linked.ends.items in
          let same = ap (λ v. v.items) w.ends-is in
          let kept : (a b : ℕ) → HasWay old a b → HasWay new a b = λ a b h. subst (λ (xs : List Way). HasWay xs a b) (sym same) h in (
            λ each. subst (λ (xs : List Way). All (IsEndOf links seats) xs) (sym same) (inv.0 each),
            λ a b h. kept a b (inv.1 a b h),
            below_more links seats from old new to inv.2 kept (λ a b x y l.
                absurd (never (w.if-linked.ensures.1 (subst (λ (s : Seat). Linked links s.router other.router) (same_seat seats from a one x at) (subst (λ (s : Seat). Linked links a.router s.router) (same_seat seats to b other y to_at) l))))),
          )
    ]

pub returns-clause-all : goal.returns-clause-all
returns-clause-all c = below_all c.args.network.now.links c.args.seats.now c.args.from c.loop-to.ends.items c.loop-to.to c.loop-to-test.false c.loop-to.invariant.2
