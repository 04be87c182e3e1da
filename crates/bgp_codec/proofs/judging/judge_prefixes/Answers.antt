use Rattle.std.proofs.Common.{[], refl, ap, arith}
use Rattle.std.proofs.lemmas.Result.{err_from_is_err_and}
use Rattle.bgp_codec.specs.Parts.{values_of}
use Rattle.bgp_codec.specs.UpdateReading.{prefix_at, prefixes_reading}
use Rattle.bgp_codec.proofs.EachLemmas.{some_left, none_left, no_front}
use Rattle.bgp_codec.proofs.PrefixLemmas.{prefix_shortens}
use Rattle.bgp_codec.proofs.JudgingLemmas.{judged_from, behind_stop}
use Rattle.bgp_codec.proofs.PartLemmas.{counted_more, counted_end}
use Rattle.bgp_codec.proofs.judging.judge_prefixes.Goals as goal

pub prefixes-init : goal.prefixes-init
prefixes-init c = ([], no_front (prefixes_reading c.args.octets.now), refl, omega arith)

pub returns-in_err-rest : goal.returns-in_err-rest
returns-in_err-rest c =
    let p = err_from_is_err_and c.from_residual.result c.from_residual.ensures.1 in
    let e = c.in_err-rest.ensures in
    rw (p.1, p.2) (behind_stop prefix_at c.args.octets.now c.prefixes.left.now c.in_err-rest.field-0.0 (some_left _ c.prefixes-test.ensures) (judged_from _ _ e.gives e.memory) (c.prefixes.invariant.0, c.prefixes.invariant.1))

pub prefixes-smaller : goal.prefixes-smaller
prefixes-smaller c = omega (arith, prefix_shortens c.prefixes.left.now _ c.in_ok-rest.rest.now c.in_ok-rest.ensures.gives)

pub prefixes-preserved : goal.prefixes-preserved
prefixes-preserved c = counted_more c.args.octets.now c.prefixes.left.now c.in_ok-rest.rest.now c.prefixes.count _ c.in_ok-rest.ensures.gives c.prefixes.invariant

pub invariant_of-result : goal.invariant_of-result
invariant_of-result c = counted_end c.args.octets.now c.prefixes.left.now c.prefixes.count (none_left _ c.prefixes-test.ensures) c.prefixes.invariant

pub returns : goal.returns
returns c = let all = counted_end c.args.octets.now c.prefixes.left.now c.prefixes.count (none_left _ c.prefixes-test.ensures) c.prefixes.invariant in (all.0, all.1, ap values_of all.1)
