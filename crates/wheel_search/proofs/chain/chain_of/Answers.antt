use Rattle.std.proofs.Common.{◌≡◌, ◌∙◌, ◌<◌, ◌+◌, ◌++◌, [], ℕ, List, get_or, set, take, replicate, sym, ap, subst, arith}
use Rattle.std.proofs.lemmas.List.{get_or_default}
use Rattle.std.specs.Prelude.{slice_index}
use Rattle.wheel_search.specs.Chains.{path_key, IsChain}
use Rattle.wheel_search.proofs.ChainLemmas.{chain_none, chain_next}
use Rattle.wheel_search.proofs.chain.chain_of.Goals as goal

pub loop-place-init : goal.loop-place-init
loop-place-init c = chain_none c.extend_from_slice.new.self.items (c.in_ok-extend_from_slice.ensures.items ∙ ap (λ (xs : List ℕ). xs ++ replicate 32 0) c.in_ok-chain.ensures.items)

pub loop-place-preserved : goal.loop-place-preserved
loop-place-preserved c =
    let place = c.loop-place.place in
    let path = c.as_slice.result.now in
    let key = c.key_of-key.result in
    let is : path ≡ get_or c.args.paths.now place [] =
    c.as_slice.ensures ∙ c.index-paths-place.is ∙ get_or_default c.args.paths.now place c.index-paths-place.result [] c.loop-place-test.true in
    let value : key ≡ path_key path = c.key_of-key.ensures.value in
    let chain = c.loop-place.chain.items in
    let inv = c.loop-place.invariant in
    let below : path_key path < 32 = omega (arith, c.key_of-key.ensures.below, value) in
    let before : c.index-before.result.now ≡ slice_index chain (path_key path) =
    c.index-before.ensures ∙ get_or_default chain key c.index-before.result.now 0 (omega (arith, inv.size, c.key_of-key.ensures.below)) ∙ ap (slice_index chain) value in
    subst (λ (k : ℕ). IsChain (take (place + 1) c.args.paths.now) (set c.push.new.self.items k (place + 1))) (sym value)
    (chain_next c.args.paths.now place path chain c.push.new.self.items c.index-before.result.now c.loop-place-test.true is inv below before c.in_ok-push.ensures.items)
