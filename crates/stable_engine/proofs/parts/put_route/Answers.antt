use Rattle.std.proofs.Common.{◌≡◌, ◌<◌, List, ℕ, [], length, get_or, subst}
use Rattle.stable_search.specs.Every.{choices_of}
use Rattle.stable_engine.proofs.StableLemmas.{route_passed}
use Rattle.stable_engine.proofs.parts.put_route.Goals as goal

pub loop-k-preserved : goal.loop-k-preserved
loop-k-preserved c =
    let part = c.args.part.now in
    let k = c.loop-k.k in
    let same = c.as_slice-other-items.ensures in
    let lt : k < length part.routers = subst (λ (us : List ℕ). k < length us) same c.loop-k-test.true in
    let other : get_or part.routers k 0 ≡ c.args.router → ⊥ = subst (λ (us : List ℕ). get_or us k 0 ≡ c.args.router → ⊥) same c.if-other-router.false in
    let size : length (get_or (choices_of part) 0 []) ≡ length part.routers = c.requires.part.whole 0 [] c.requires.some in
    (c.loop-k.invariant.0, route_passed c.args.prefix.now c.args.router part.routers (get_or (choices_of part) 0 []) k _ lt size other c.loop-k.invariant.1)
