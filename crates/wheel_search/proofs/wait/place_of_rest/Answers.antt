use Rattle.std.proofs.Common.{◌≡◌, ◌∙◌, ◌+◌, ◌∷◌, [], ℕ, List, length, get_or, sym, ap, arith}
use Rattle.wheel_search.specs.Chains.{path_key}
use Rattle.wheel_search.proofs.ChainLemmas.{onward_is, none_left}
use Rattle.wheel_search.proofs.wait.place_of_rest.Goals as goal

pub places-init : goal.places-init
places-init c = record {
  top = length c.args.paths.now;
  wanted = c.key_of-key.result;
  within = omega arith;
  has = λ rest e. sym (c.key_of-key.ensures.value ∙ ap path_key (onward_is c.args.path.now rest c.args.router e));
  last = c.requires.first c.key_of-key.result c.key_of-key.ensures.below;
  passed = λ k from below f. absurd (omega (arith, from, below));
}

pub bounds-paths-place : goal.bounds-paths-place
bounds-paths-place c = let i = c.places.invariant in omega (arith, i.last.low, i.within, c.places-test.true)

pub returns : goal.returns
returns c =
    let i = c.places.invariant in
    none_left c.args.paths.now c.args.chain.now c.requires c.args.path.now c.args.router i.wanted i.has i.top c.places.last i.last (omega (arith, c.places-test.false)) i.passed
