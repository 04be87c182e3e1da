use Rattle.std.proofs.Common.{◌≡◌, ◌∙◌, ℕ, List, sym, ap, subst, arith, inl, inr}
use Rattle.std.proofs.lemmas.Result.{err_from_is_err_and}
use Rattle.std.specs.Prelude.{IsTrue}
use Rattle.ranked_policy.specs.declared.network.Link.{Link}
use Rattle.ranked_policy.specs.Plans.{Plan}
use Rattle.stable_paths.proofs.ListLemmas.{never}
use Rattle.stable_search.specs.declared.seat.Seat.{Seat}
use Rattle.stable_search.specs.Listing.{AreOnward, HasMany, IsExtended}
use Rattle.stable_search.specs.Refusals.{IsPathsRefusal}
use Rattle.stable_search.specs.Seats.{StandsAt}
use Rattle.stable_search.proofs.GroupLemmas.{same_at}
use Rattle.stable_search.proofs.ListingLemmas.{listed_whole, listed_short, place_listed, place_full}
use Rattle.stable_search.proofs.ReachLemmas.{short_at}
use Rattle.stable_search.proofs.listing.list_at.Goals as goal

pub returns-then-not-index-clause-listed : goal.returns-then-not-index-clause-listed
returns-then-not-index-clause-listed c =
    let seat : Seat = c.index.result.now in
    listed_whole c.args.instance.now c.args.count c.args.place c.args.seats.now.items c.requires.listed seat (c.requires.place, sym c.index.ensures) (λ t. never (sym c.if-not-index.true ∙ t))

pub returns-then-bounds-place-clause-listed : goal.returns-then-bounds-place-clause-listed
returns-then-bounds-place-clause-listed c =
    let p = c.args.instance.now in
    let seats : List Seat = c.args.seats.now.items in
    let seat : Seat = c.index.result.now in
    let at : StandsAt seats c.args.place seat = (c.requires.place, sym c.index.ensures) in
    listed_short p c.args.count c.args.place seats c.requires.listed seat at
    (short_at p c.args.bounds.now c.requires.bounds seats c.requires.listed.routers c.args.place seat at c.args.count (omega (arith, c.if-bounds-place.true)) c.requires.below)

pub returns-clause-listed : goal.returns-clause-listed
returns-clause-listed c =
    let p = c.args.instance.now in
    let count = c.args.count in
    let place = c.args.place in
    let seats : List Seat = c.args.seats.now.items in
    let net = c.network-network.result.now in
    let old : Seat = c.index_mut.result.now in
    let read : Seat = c.index.result.now in
    let at : StandsAt seats place old = (c.requires.place, sym c.index_mut.ensures.value) in
    let same : read ≡ old = same_at seats place read old (c.requires.place, sym c.index.ensures) at in
    let is_open : IsTrue old.is_open = subst (λ (s : Seat). IsTrue s.is_open) same c.if-not-index.false in
    let found = c.in_ok-found.found.items in
    let now : c.as_slice.result.now ≡ seats = c.as_slice.ensures.value in
    let on : AreOnward p.net.links seats old count found =
    subst (λ (ls : List Link). AreOnward ls seats old count found) (ap (λ (n : Plan). n.links) c.network-network.ensures.value)
    (subst (λ (xs : List Seat). AreOnward net.links xs old count found) now (c.in_ok-found.ensures old (subst (λ (xs : List Seat). StandsAt xs place old) (sym now) at))) in
    let extended : IsExtended old found c.extend.new.seat = subst (λ (xs : List (List ℕ)). IsExtended old xs c.extend.new.seat) c.as_slice-2.ensures.value c.in_ok-extend.ensures.extended in
    place_listed p c.each_policy_is_an_order.ensures c.network-network.ensures.problem count place c.requires.some seats c.requires.listed old at is_open found on c.extend.new.seat extended

pub returns-in_err-extend-clause-refused : goal.returns-in_err-extend-clause-refused
returns-in_err-extend-clause-refused c =
    let p = c.args.instance.now in
    let count = c.args.count in
    let place = c.args.place in
    let seats : List Seat = c.args.seats.now.items in
    let net = c.network-network.result.now in
    let old : Seat = c.index_mut.result.now in
    let read : Seat = c.index.result.now in
    let at : StandsAt seats place old = (c.requires.place, sym c.index_mut.ensures.value) in
    let same : read ≡ old = same_at seats place read old (c.requires.place, sym c.index.ensures) at in
    let is_open : IsTrue old.is_open = subst (λ (s : Seat). IsTrue s.is_open) same c.if-not-index.false in
    let found = c.in_ok-found.found.items in
    let now : c.as_slice.result.now ≡ seats = c.as_slice.ensures.value in
    let on : AreOnward p.net.links seats old count found =
    subst (λ (ls : List Link). AreOnward ls seats old count found) (ap (λ (n : Plan). n.links) c.network-network.ensures.value)
    (subst (λ (xs : List Seat). AreOnward net.links xs old count found) now (c.in_ok-found.ensures old (subst (λ (xs : List Seat). StandsAt xs place old) (sym now) at))) in
    let e = err_from_is_err_and c.from_residual-in_err-extend.result c.from_residual-in_err-extend.ensures.1 in
    rw (e.1, e.2) (elim c.in_err-extend.ensures.refused [
      | inl x ↦ subst (IsPathsRefusal p) (sym x.0)
          (place_full p c.each_policy_is_an_order.ensures c.network-network.ensures.problem count place c.requires.some seats c.requires.listed old at is_open found on c.the_longest_rule_is_one.ensures
          (subst (λ (xs : List (List ℕ)). HasMany old.values.items xs) c.as_slice-2.ensures.value x.1))
      | inr m ↦ subst (IsPathsRefusal p) (sym m) tt
    ])
