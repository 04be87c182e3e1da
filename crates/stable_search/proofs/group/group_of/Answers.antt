use Rattle.std.proofs.Common.{◌≡◌, ◌<◌, ◌∙◌, ℕ, List, length, map, get_or, sym, ap, subst, arith}
use Rattle.std.specs.List.{All}
use Rattle.std.proofs.lemmas.List.Elements.{Contains-get_or}
use Rattle.std.proofs.lemmas.Result.{err_from_is_err_and}
use Rattle.stable_search.specs.declared.group.Group.{Group}
use Rattle.stable_search.specs.declared.way.Way.{Way}
use Rattle.stable_search.specs.Groups.{at_places, RefusesSearch}
use Rattle.stable_search.specs.Picks.{AreAll}
use Rattle.stable_search.proofs.PickLemmas.{written}
use Rattle.stable_search.proofs.PartLemmas.{part_group, part_refused, found_inside, memory_refuses}
use Rattle.stable_search.proofs.group.group_of.Goals as goal

pub searched-requires-clause-places : goal.searched-requires-clause-places
searched-requires-clause-places c =
    subst (All (λ place. place < length c.args.seats.now)) (sym c.as_slice.ensures.value) (λ k d lt.
    (let x = (c.requires.places (get_or c.args.places.items k d)).0 (Contains-get_or c.args.places.items k d lt) in
    omega (arith, x.0, c.requires.size, c.requires.seats)))

pub keep_values_at-requires : goal.keep_values_at-requires
keep_values_at-requires c =
    let ways = c.in_ok-part_ways.part_ways.items in
    let sets = c.in_ok-part_sets.part_sets.items in
    let found = c.in_ok-picks.picks.items in
    let all : AreAll ways sets found =
    subst (λ (ws : List Way). AreAll ws sets found) c.as_slice-2.ensures.value c.in_ok-picks.ensures.all in
    let inside = found_inside c.args.ways.now c.args.sets.now c.args.labels.now c.args.label c.requires.size c.requires.within ways c.in_ok-part_ways.ensures.part sets c.in_ok-part_sets.ensures c.args.places.items c.requires.places c.requires.rising c.requires.some found all in
    subst (λ (ps : List ℕ). All (λ pick. All (λ place. place < length pick) ps) c.as_mut_slice.result.now) (sym c.as_slice-3.ensures.value)
    (subst (All (λ pick. All (λ place. place < length pick) c.args.places.items)) (sym c.as_mut_slice.ensures.value) inside)

pub returns-clause-group : goal.returns-clause-group
returns-clause-group c =
    let ways = c.in_ok-part_ways.part_ways.items in
    let sets = c.in_ok-part_sets.part_sets.items in
    let found = c.in_ok-picks.picks.items in
    let all : AreAll ways sets found =
    subst (λ (ws : List Way). AreAll ws sets found) c.as_slice-2.ensures.value c.in_ok-picks.ensures.all in
    let places = c.args.places.items in
    let group : Group = record { places = c.from_vec.result; picks = c.from_vec-2.result } in
    let kept : c.keep_values_at.new.picks ≡ map (λ (f : List ℕ). at_places f places) found =
    c.in_ok-keep_values_at.ensures ∙ ap (λ (ps : List ℕ). map (λ (f : List ℕ). at_places f ps) c.as_mut_slice.result.now) c.as_slice-3.ensures.value
    ∙ ap (λ (fs : List (List ℕ)). map (λ (f : List ℕ). at_places f places) fs) c.as_mut_slice.ensures.value in
    let size = ap length c.as_mut_slice.ensures.value in
    let back = written found c.keep_values_at.new.picks c.in_ok-picks.picks.len (c.keep_values_at.auto.picks ∙ size) (sym size ∙ c.as_mut_slice.ensures.len) in
    part_group c.args.ways.now c.args.sets.now c.args.labels.now c.args.label c.requires.size c.requires.within ways c.in_ok-part_ways.ensures.part sets c.in_ok-part_sets.ensures places c.requires.places c.requires.rising c.requires.some found all
    group c.from_vec.ensures (c.from_vec-2.ensures ∙ back ∙ kept)

pub returns-clause-most : goal.returns-clause-most
returns-clause-most c =
    let found = c.in_ok-picks.picks.items in
    let size = ap length c.as_mut_slice.ensures.value in
    let back = written found c.keep_values_at.new.picks c.in_ok-picks.picks.len (c.keep_values_at.auto.picks ∙ size) (sym size ∙ c.as_mut_slice.ensures.len) in
    let all = ap length (c.from_vec-2.ensures ∙ back) in
    omega (arith, all, size, c.keep_values_at.auto.picks, c.in_ok-picks.ensures.most)

pub returns-in_err-picks-clause-refused : goal.returns-in_err-picks-clause-refused
returns-in_err-picks-clause-refused c =
    let seats = c.args.seats.now in
    let ways = c.in_ok-part_ways.part_ways.items in
    let sets = c.in_ok-part_sets.part_sets.items in
    let most = c.args.limits.now.most in
    let why = c.in_err-picks.field-0.0 in
    let p = err_from_is_err_and c.from_residual-in_err-picks.result c.from_residual-in_err-picks.ensures.1 in
    rw (p.1, p.2)
    (part_refused c.args.ways.now c.args.sets.now c.args.labels.now c.args.label c.requires.size c.requires.within ways c.in_ok-part_ways.ensures.part sets c.in_ok-part_sets.ensures c.args.places.items c.requires.places c.requires.rising
    c.requires.some seats most why
    (subst (λ (ps : List ℕ). RefusesSearch seats ps ways sets most why) c.as_slice.ensures.value
    (subst (λ (ws : List Way). RefusesSearch seats c.as_slice.result.now ws sets most why) c.as_slice-2.ensures.value c.in_err-picks.ensures.refused)))

pub returns-in_err-part_ways-clause-refused : goal.returns-in_err-part_ways-clause-refused
returns-in_err-part_ways-clause-refused c = memory_refuses c.args.seats.now c.args.ways.now c.args.sets.now c.args.limits.now.most c.from_residual.result c.from_residual.ensures.1

pub returns-in_err-part_sets-clause-refused : goal.returns-in_err-part_sets-clause-refused
returns-in_err-part_sets-clause-refused c =
    memory_refuses c.args.seats.now c.args.ways.now c.args.sets.now c.args.limits.now.most c.from_residual-in_err-part_sets.result c.from_residual-in_err-part_sets.ensures.1

pub returns-in_err-keep_values_at-clause-refused : goal.returns-in_err-keep_values_at-clause-refused
returns-in_err-keep_values_at-clause-refused c = memory_refuses c.args.seats.now c.args.ways.now c.args.sets.now c.args.limits.now.most c.from_residual-in_err-keep_values_at.result c.from_residual-in_err-keep_values_at.ensures.1
