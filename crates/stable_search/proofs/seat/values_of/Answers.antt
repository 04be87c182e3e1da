use Rattle.std.proofs.Common.{◌≡◌, ◌⊎◌, List, sym, ap, subst, inl, inr}
use Rattle.std.specs.Prelude.{IsTrue, IfSome}
use Rattle.ranked_policy.specs.declared.network.Link.{Link}
use Rattle.ranked_policy.specs.Plans.{Plan}
use Rattle.stable_paths.proofs.ListLemmas.{never}
use Rattle.stable_search.specs.Fixing.{IsFixed}
use Rattle.stable_search.specs.Listing.{AreValuesBy, MayHaveMany}
use Rattle.stable_search.specs.Seats.{AreValuesOf}
use Rattle.stable_search.specs.Refusals.{IsPathsRefusal}
use Rattle.stable_search.specs.declared.refusal.SearchError.TheVariants as refusals
use Rattle.stable_search.proofs.PartLemmas.{if_ok, if_err}
use Rattle.stable_search.proofs.SeatLemmas.{fixed_values, own_values, listed_values, many_by_rule, if_some, none_where}
use Rattle.stable_search.proofs.seat.values_of.Goals as goal

pub returns-in-Some-clause-values : goal.returns-in-Some-clause-values
returns-in-Some-clause-values c =
    let p = c.args.instance.now in
    let it = c.args.it.now in
    let fixed : IsFixed p it c.in-Some.path.now = rw c.in-Some.is at c.requires.fixed in
    fixed_values p it c.as_slice.result.now c.in_ok-values.values.items c.in_ok-values.ensures.path (subst (IsFixed p it) (sym c.as_slice.ensures) fixed)

pub returns-then-it-clause-values : goal.returns-then-it-clause-values
returns-then-it-clause-values c =
    own_values c.each_policy_is_an_order.ensures c.args.instance.now c.network-network.ensures.problem c.args.it.now c.requires.chooser c.in_ok-own.own.items c.in_ok-own.ensures.path c.if-it.true

pub returns-clause-values : goal.returns-clause-values
returns-clause-values c =
    let p = c.args.instance.now in
    let it = c.args.it.now in
    let links : c.network-network.result.now.links ≡ p.net.links = ap (λ (n : Plan). n.links) c.network-network.ensures.value in
    if_ok {P = λ found. IfSome found (λ values. AreValuesBy c.network-network.result.now.links it.policy it.router values.items)} {Q = λ found. IfSome found (λ values. AreValuesOf p it values.items)} c.values_by.result
    (λ found by.
    if_some {P = λ values. AreValuesBy c.network-network.result.now.links it.policy it.router values.items} {Q = λ values. AreValuesOf p it values.items} found
    (λ values listed.
    listed_values c.each_policy_is_an_order.ensures p c.network-network.ensures.problem it c.requires.chooser values.items (λ t. never (subst IsTrue c.if-it.false t))
    (subst (λ (ls : List Link). AreValuesBy ls it.policy it.router values.items) links listed)) by)
    c.values_by.ensures.values

pub returns-clause-none : goal.returns-clause-none
returns-clause-none c = none_where c.values_by.result (λ t. never (subst IsTrue c.if-it.false t))

pub returns-clause-refused : goal.returns-clause-refused
returns-clause-refused c =
    let p = c.args.instance.now in
    let it = c.args.it.now in
    let links : c.network-network.result.now.links ≡ p.net.links = ap (λ (n : Plan). n.links) c.network-network.ensures.value in
    if_err {P = λ why. ((why ≡ refusals.TooManyPaths it.router) × MayHaveMany c.network-network.result.now.links it.policy it.router) ⊎ (why ≡ refusals.Memory)} {Q = IsPathsRefusal p} c.values_by.result
    (λ why either. elim either [
      | inl x ↦ subst (IsPathsRefusal p) (sym x.0)
          (many_by_rule c.the_longest_rule_is_one.ensures p c.network-network.ensures.problem it c.requires.chooser (λ t. never (subst IsTrue c.if-it.false t))
          (subst (λ (ls : List Link). MayHaveMany ls it.policy it.router) links x.1))
      | inr e ↦ subst (IsPathsRefusal p) (sym e) tt
    ])
    c.values_by.ensures.refused
