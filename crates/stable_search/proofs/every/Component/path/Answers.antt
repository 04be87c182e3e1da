use Rattle.std.proofs.Common.{◌≡◌, ◌<◌, ℕ, List, length, get_or, subst, Bor}
use Rattle.stable_search.specs.Every.{IsPathAt}
use Rattle.stable_search.proofs.ChoiceLemmas.{if_item, item_in, path_at}
use Rattle.stable_search.proofs.every.Component.path.Goals as goal

pub returns-clause-path : goal.returns-clause-path
returns-clause-path c =
    let part = c.args.self.now in
    let j = c.args.choice in
    let k = c.args.router in
    let pick = c.in_ok-pick.pick.now in
    let place = c.in_ok-place.place.now in
    let paths = c.in_ok-paths.paths.now in
    let a = item_in c.as_slice.result.now part.picks j pick c.as_slice.ensures c.in_ok-pick.ensures.lookup.3.0 c.in_ok-pick.ensures.lookup.1 in
    let b = item_in c.as_slice-2.result.now pick k place c.as_slice-2.ensures c.in_ok-place.ensures.lookup.3.0 c.in_ok-place.ensures.lookup.1 in
    let d = item_in c.as_slice-3.result.now part.values k paths c.as_slice-3.ensures c.in_ok-paths.ensures.lookup.3.0 c.in_ok-paths.ensures.lookup.1 in
    if_item c.as_slice-4.result.now c.from.result c.get-4.result (λ (path : Bor (List ℕ)). IsPathAt part j k path.now) c.get-4.ensures.lookup (λ path lt is.
    (let e = item_in c.as_slice-4.result.now paths c.from.result path.now c.as_slice-4.ensures lt is in
    let f = subst (λ (n : ℕ). (n < length paths) × (path.now ≡ get_or paths n path.now)) c.from.ensures e in
    path_at part j k pick place paths path.now a.0 a.1 b.0 b.1 d.0 d.1 f.0 f.1))
