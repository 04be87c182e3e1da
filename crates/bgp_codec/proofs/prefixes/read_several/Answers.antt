use Rattle.std.proofs.lemmas.Result.{err_from_is_err_and}
use Rattle.bgp_codec.specs.UpdateReading.{prefix_at}
use Rattle.bgp_codec.proofs.EachLemmas.{each_go_on, each_stop, each_end, some_left, none_left}
use Rattle.bgp_codec.proofs.PrefixLemmas.{prefix_shortens}
use Rattle.bgp_codec.proofs.prefixes.read_several.Goals as goal

pub returns-in_err-prefix : goal.returns-in_err-prefix
returns-in_err-prefix c =
    let p = err_from_is_err_and c.from_residual-in_err-prefix.result c.from_residual-in_err-prefix.ensures.1 in
    rw (p.1, p.2) (each_stop prefix_at c.args.octets.now c.prefixes.left.now c.prefixes.prefixes.items c.in_err-prefix.field-0.0 (some_left _ c.prefixes-test.ensures) c.prefixes.invariant c.in_err-prefix.ensures.gives)

pub prefixes-preserved : goal.prefixes-preserved
prefixes-preserved c =
    rw c.in_ok-push.ensures.items
    (each_go_on prefix_at c.args.octets.now c.prefixes.left.now c.in_ok-prefix.rest.now c.prefixes.prefixes.items c.in_ok-prefix.prefix prefix_shortens c.in_ok-prefix.ensures.gives c.prefixes.invariant)

pub returns : goal.returns
returns c = (each_end prefix_at c.args.octets.now c.prefixes.left.now c.prefixes.prefixes.items (none_left _ c.prefixes-test.ensures) c.prefixes.invariant)
