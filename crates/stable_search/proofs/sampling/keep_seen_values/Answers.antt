use Rattle.std.proofs.Common.{ℕ, List, length, get_or, sym, ap, subst, arith}
use Rattle.std.proofs.lemmas.List.Elements.{Contains-get_or}
use Rattle.stable_search.specs.declared.way.Way.{Way}
use Rattle.stable_search.specs.Picks.{SeesAll}
use Rattle.stable_search.proofs.PartLemmas.{part_sees, part_refused}
use Rattle.stable_search.proofs.SampleLemmas.{stopped_by}
use Rattle.stable_search.proofs.sampling.keep_seen_values.Goals as goal

pub seen_values-requires-clause-inside : goal.seen_values-requires-clause-inside
seen_values-requires-clause-inside c = λ k d lt.
    let x = (c.requires.places (get_or c.args.places.now k d)).0 (Contains-get_or c.args.places.now k d lt) in
    let size = ap length c.as_slice-2.ensures.value in
    let part = c.in_ok-part_sets.ensures.size in
    omega (arith, x.0, size, part, c.requires.size)

pub keep_marked-requires-clause-inside : goal.keep_marked-requires-clause-inside
keep_marked-requires-clause-inside c = λ k d lt.
    let x = (c.requires.places (get_or c.args.places.now k d)).0 (Contains-get_or c.args.places.now k d lt) in
    omega (arith, x.0, c.requires.size)

pub refusal-requires : goal.refusal-requires
refusal-requires c = λ k d lt.
    let x = (c.requires.places (get_or c.args.places.now k d)).0 (Contains-get_or c.args.places.now k d lt) in
    omega (arith, x.0, c.requires.size, c.requires.seats)

pub returns-in-Ok-clause-narrows : goal.returns-in-Ok-clause-narrows
returns-in-Ok-clause-narrows c =
    let ways = c.in_ok-part_ways.part_ways.items in
    let sets = c.in_ok-part_sets.part_sets.items in
    let places = c.args.places.now in
    let seen = c.in-Ok.seen.items in
    let sees : SeesAll ways sets places seen =
    subst (λ (ws : List Way). SeesAll ws sets places seen) c.as_slice.ensures.value
    (subst (λ (xs : List ℕ). SeesAll c.as_slice.result.now xs places seen) c.as_slice-2.ensures.value c.in-Ok.ensures.sees) in
    c.keep_marked.ensures.narrows c.args.ways.now
    (subst (SeesAll c.args.ways.now c.args.sets.now places) (sym c.as_slice-in-Ok.ensures.value)
    (part_sees c.args.ways.now c.args.sets.now c.args.labels.now c.args.label c.requires.size c.requires.within ways c.in_ok-part_ways.ensures.part sets c.in_ok-part_sets.ensures places c.requires.places c.requires.rising c.requires.some
    seen sees))

pub returns-clause-refused : goal.returns-clause-refused
returns-clause-refused c =
    let ways = c.in_ok-part_ways.part_ways.items in
    let sets = c.in_ok-part_sets.part_sets.items in
    let most = c.args.limits.now.most in
    part_refused c.args.ways.now c.args.sets.now c.args.labels.now c.args.label c.requires.size c.requires.within ways c.in_ok-part_ways.ensures.part sets c.in_ok-part_sets.ensures c.args.places.now c.requires.places
    c.requires.rising c.requires.some c.args.seats.now most c.refusal.result (c.in-Err.stop, c.refusal.ensures, stopped_by ways sets most c.in-Err.stop c.in-Err.ensures.stopped)
