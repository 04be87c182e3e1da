use Rattle.std.proofs.lemmas.Result.{err_from_is_err_and}
use Rattle.bgp_codec.specs.Opens.{param_at}
use Rattle.bgp_codec.proofs.EachLemmas.{each_go_on, each_stop, each_end, some_left, none_left}
use Rattle.bgp_codec.proofs.OpenLemmas.{param_shortens}
use Rattle.bgp_codec.proofs.open.read_params.Goals as goal

pub returns-in_err-caps : goal.returns-in_err-caps
returns-in_err-caps c =
    let p = err_from_is_err_and c.from_residual-in_err-caps.result c.from_residual-in_err-caps.ensures.1 in
    rw (p.1, p.2) (each_stop param_at c.args.octets.now c.params.left.now c.params.params c.in_err-caps.field-0.0 (some_left _ c.params-test.ensures) c.params.invariant c.in_err-caps.ensures)

pub params-preserved : goal.params-preserved
params-preserved c =
    rw c.in_ok-push.ensures.ok
    (each_go_on param_at c.args.octets.now c.params.left.now c.in_ok-caps.rest.now c.params.params c.in_ok-caps.caps param_shortens c.in_ok-caps.ensures c.params.invariant)

pub returns : goal.returns
returns c = (each_end param_at c.args.octets.now c.params.left.now c.params.params (none_left _ c.params-test.ensures) c.params.invariant)
