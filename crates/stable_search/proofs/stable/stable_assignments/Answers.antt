use Rattle.std.proofs.Common.{◌∙◌, ℕ, List, length, get_or, sym, ap, subst, arith}
use Rattle.std.proofs.lemmas.Result.{err_from_is_err_and}
use Rattle.ranked_policy.specs.declared.network.Link.{Link}
use Rattle.ranked_policy.specs.Plans.{Plan}
use Rattle.stable_search.specs.declared.seat.Seat.{Seat}
use Rattle.stable_search.specs.declared.way.Way.{Way}
use Rattle.stable_search.specs.Groups.{AreValues, ArePartsOf, RefusesPlaces}
use Rattle.stable_search.specs.Led.{HaveLed}
use Rattle.stable_search.specs.Picks.{AllSome, Narrows}
use Rattle.stable_search.proofs.NarrowLemmas.{narrows_then}
use Rattle.stable_search.proofs.PartLemmas.{group_before}
use Rattle.stable_search.specs.Seats.{AreWaysOf, AreEndsOf}
use Rattle.stable_search.proofs.AmongLemmas.{seats_some}
use Rattle.stable_search.proofs.WholeLemmas.{every}
use Rattle.stable_search.proofs.RefusalLemmas.{places_refused, paths_refused, memory_refused, few_parts}
use Rattle.stable_search.proofs.stable.stable_assignments.Goals as goal

pub parts_of-requires-clause-size : goal.parts_of-requires-clause-size
parts_of-requires-clause-size c =
    let seats = c.in_ok-seats.seats.items in
    let sets = c.in_ok-sets.sets.items in
    let found = c.in_ok-grouping.ensures in
    let values : AreValues seats sets = subst (λ (xs : List Seat). AreValues xs sets) c.as_slice-3.ensures.value c.in_ok-sets.ensures in
    let here = ap length c.as_slice-8.ensures.value in
    let there = ap length c.as_slice-7.ensures.value in
    let mutable = ap length c.as_mut_slice.ensures.value in
    let levels = found.2.0.levels_are.size in
    let before = found.2.0.before.size in
    omega (arith, here, there, mutable, levels, before, values.0)

pub parts_of-requires-clause-groups : goal.parts_of-requires-clause-groups
parts_of-requires-clause-groups c =
    let sets = c.in_ok-sets.sets.items in
    let found = c.in_ok-grouping.ensures in
    let before : Narrows c.as_slice-5.result.now sets found.2.0.wide = subst (λ (xs : List ℕ). Narrows c.as_slice-5.result.now xs found.2.0.wide) c.as_mut_slice.ensures.value found.2.0.before in
    let narrows = narrows_then c.as_slice-5.result.now sets found.2.0.wide found.0 before found.2.0.narrowed in
    let groups = c.in_ok-grouping.grouping.groups.items in (
      sets,
      subst (λ (xs : List Seat). AreValues xs sets) (c.as_slice-3.ensures.value ∙ sym c.as_slice-7.ensures.value) c.in_ok-sets.ensures,
      λ k d lt. group_before c.as_slice-5.result.now sets found.0 (get_or groups k d) narrows (found.2.0.fall.each k d lt),
    )

pub returns-clause-every : goal.returns-clause-every
returns-clause-every c =
    let p = c.args.instance.now in
    let seats = c.in_ok-seats.seats.items in
    let sets = c.in_ok-sets.sets.items in
    let ways = c.in_ok-ways.ways.items in
    let groups = c.in_ok-grouping.grouping.groups.items in
    let levels = c.in_ok-grouping.grouping.levels.items in
    let over : AreWaysOf p.net.links seats ways =
    subst (λ (links : List Link). AreWaysOf links seats ways) (ap (λ (n : Plan). n.links) c.network-network.ensures.value)
    (subst (λ (xs : List Seat). AreWaysOf c.network-network.result.now.links xs ways) c.as_slice.ensures.value c.in_ok-ways.ensures) in
    let values : AreValues seats sets = subst (λ (xs : List Seat). AreValues xs sets) c.as_slice-3.ensures.value c.in_ok-sets.ensures in
    let ends = c.in_ok-ends.ends.items in
    let ends_of : AreEndsOf p.net.links seats ends =
    subst (λ (links : List Link). AreEndsOf links seats ends) (ap (λ (n : Plan). n.links) c.network-network.ensures.value)
    (subst (λ (xs : List Seat). AreEndsOf c.network-network.result.now.links xs ends) c.as_slice-2.ensures.value c.in_ok-ends.ensures) in
    let found = subst (λ (ws : List Way). (now : List ℕ) × (AllSome sets → AllSome now) × HaveLed ws ends sets now levels c.args.limits.now.most groups) c.as_slice-5.ensures.value
    (subst (λ (es : List Way). (now : List ℕ) × (AllSome sets → AllSome now) × HaveLed c.as_slice-5.result.now es sets now levels c.args.limits.now.most groups) c.as_slice-6.ensures.value
    (subst (λ (xs : List ℕ). (now : List ℕ) × (AllSome xs → AllSome now) × HaveLed c.as_slice-5.result.now c.as_slice-6.result.now xs now levels c.args.limits.now.most groups) c.as_mut_slice.ensures.value c.in_ok-grouping.ensures)) in
    let parts : ArePartsOf seats levels groups c.in_ok-parts.parts =
    subst (λ (ls : List ℕ). ArePartsOf seats ls groups c.in_ok-parts.parts) c.as_slice-8.ensures.value
    (subst (λ (xs : List Seat). ArePartsOf xs c.as_slice-8.result.now groups c.in_ok-parts.parts) c.as_slice-7.ensures.value c.in_ok-parts.ensures) in
    every p c.network-network.ensures.problem c.stable_is_fitting.ensures seats c.in_ok-seats.ensures.routers c.in_ok-seats.ensures.seats ways over ends ends_of sets values found.0 levels groups found.2.0 (record { parts = c.in_ok-parts.parts })
    parts (found.1 (seats_some p seats c.in_ok-seats.ensures.seats sets values))

pub returns-clause-most : goal.returns-clause-most
returns-clause-most c =
    let groups = c.in_ok-grouping.grouping.groups.items in
    few_parts c.as_slice-7.result.now c.as_slice-8.result.now groups c.in_ok-parts.parts c.args.limits.now.most c.in_ok-parts.ensures c.in_ok-grouping.ensures.2.1

pub returns-in_err-seats-clause-refused : goal.returns-in_err-seats-clause-refused
returns-in_err-seats-clause-refused c =
    let p = err_from_is_err_and c.from_residual.result c.from_residual.ensures.1 in
    rw (p.1, p.2) (paths_refused c.args.instance.now c.args.limits.now c.in_err-seats.field-0.0 c.in_err-seats.ensures.refused)

pub returns-in_err-ways-clause-refused : goal.returns-in_err-ways-clause-refused
returns-in_err-ways-clause-refused c = memory_refused c.args.instance.now c.args.limits.now c.from_residual-in_err-ways.result c.from_residual-in_err-ways.ensures.1

pub returns-in_err-ends-clause-refused : goal.returns-in_err-ends-clause-refused
returns-in_err-ends-clause-refused c = memory_refused c.args.instance.now c.args.limits.now c.from_residual-in_err-ends.result c.from_residual-in_err-ends.ensures.1

pub returns-in_err-sets-clause-refused : goal.returns-in_err-sets-clause-refused
returns-in_err-sets-clause-refused c = memory_refused c.args.instance.now c.args.limits.now c.from_residual-in_err-sets.result c.from_residual-in_err-sets.ensures.1

pub returns-in_err-grouping-clause-refused : goal.returns-in_err-grouping-clause-refused
returns-in_err-grouping-clause-refused c =
    let p = c.args.instance.now in
    let seats = c.in_ok-seats.seats.items in
    let sets = c.in_ok-sets.sets.items in
    let ways = c.in_ok-ways.ways.items in
    let most = c.args.limits.now.most in
    let why = c.in_err-grouping.field-0.0 in
    let over : AreWaysOf p.net.links seats ways =
    subst (λ (links : List Link). AreWaysOf links seats ways) (ap (λ (n : Plan). n.links) c.network-network.ensures.value)
    (subst (λ (xs : List Seat). AreWaysOf c.network-network.result.now.links xs ways) c.as_slice.ensures.value c.in_ok-ways.ensures) in
    let values : AreValues seats sets = subst (λ (xs : List Seat). AreValues xs sets) c.as_slice-3.ensures.value c.in_ok-sets.ensures in
    let refused : RefusesPlaces seats ways sets most why =
    subst (λ (xs : List Seat). RefusesPlaces xs ways sets most why) c.as_slice-4.ensures.value
    (subst (λ (ws : List Way). RefusesPlaces c.as_slice-4.result.now ws sets most why) c.as_slice-5.ensures.value
    (subst (λ (xs : List ℕ). RefusesPlaces c.as_slice-4.result.now c.as_slice-5.result.now xs most why) c.as_mut_slice.ensures.value c.in_err-grouping.ensures)) in
    let e = err_from_is_err_and c.from_residual-in_err-grouping.result c.from_residual-in_err-grouping.ensures.1 in
    rw (e.1, e.2)
    (places_refused p c.network-network.ensures.problem c.stable_is_fitting.ensures seats c.in_ok-seats.ensures.routers c.in_ok-seats.ensures.seats ways over sets values c.args.limits.now why refused)

pub returns-in_err-parts-clause-refused : goal.returns-in_err-parts-clause-refused
returns-in_err-parts-clause-refused c = memory_refused c.args.instance.now c.args.limits.now c.from_residual-in_err-parts.result c.from_residual-in_err-parts.ensures.1
