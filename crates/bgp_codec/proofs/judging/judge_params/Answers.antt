use Rattle.std.proofs.Common.{arith}
use Rattle.std.proofs.lemmas.Result.{err_from_is_err_and}
use Rattle.bgp_codec.specs.Opens.{param_at, said_by}
use Rattle.bgp_codec.proofs.EachLemmas.{some_left, none_left}
use Rattle.bgp_codec.proofs.OpenLemmas.{param_shortens}
use Rattle.bgp_codec.proofs.JudgingLemmas.{behind_stop, saying_none, saying_more, saying_shorter, saying_end}
use Rattle.bgp_codec.proofs.judging.judge_params.Goals as goal

pub params-init : goal.params-init
params-init c = saying_none param_at said_by c.args.octets.now

pub returns-in_err-number : goal.returns-in_err-number
returns-in_err-number c =
    let p = err_from_is_err_and c.from_residual.result c.from_residual.ensures.1 in
    let i = c.params.invariant in
    rw (p.1, p.2) (behind_stop param_at c.args.octets.now c.params.left.now c.in_err-number.field-0.0 (some_left _ c.params-test.ensures) c.in_err-number.ensures (i.0, i.2))

pub params-smaller : goal.params-smaller
params-smaller c = omega (arith, saying_shorter param_at said_by _ c.params.left.now _ param_shortens c.in_ok-number.ensures)

pub params-preserved : goal.params-preserved
params-preserved c = rw c.or-said.ensures (saying_more param_at said_by c.params.said _ c.args.octets.now c.params.left.now _ param_shortens c.in_ok-number.ensures c.params.invariant)

pub returns : goal.returns
returns c = saying_end param_at said_by c.params.said c.args.octets.now c.params.left.now (none_left _ c.params-test.ensures) c.params.invariant
