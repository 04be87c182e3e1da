use Rattle.std.proofs.Common.{arith}
use Rattle.std.proofs.lemmas.Result.{err_from_is_err_and}
use Rattle.bgp_codec.specs.Opens.{cap_at, number_said}
use Rattle.bgp_codec.proofs.EachLemmas.{some_left, none_left}
use Rattle.bgp_codec.proofs.OpenLemmas.{cap_shortens}
use Rattle.bgp_codec.proofs.JudgingLemmas.{behind_stop, saying_none, saying_more, saying_shorter, saying_end}
use Rattle.bgp_codec.proofs.judging.judge_caps.Goals as goal

pub caps-init : goal.caps-init
caps-init c = saying_none cap_at number_said c.args.octets.now

pub returns-in_err-number : goal.returns-in_err-number
returns-in_err-number c =
    let p = err_from_is_err_and c.from_residual.result c.from_residual.ensures.1 in
    let i = c.caps.invariant in
    rw (p.1, p.2) (behind_stop cap_at c.args.octets.now c.caps.left.now c.in_err-number.field-0.0 (some_left _ c.caps-test.ensures) c.in_err-number.ensures (i.0, i.2))

pub caps-smaller : goal.caps-smaller
caps-smaller c = omega (arith, saying_shorter cap_at number_said _ c.caps.left.now _ cap_shortens c.in_ok-number.ensures)

pub caps-preserved : goal.caps-preserved
caps-preserved c = rw c.or-said.ensures (saying_more cap_at number_said c.caps.said _ c.args.octets.now c.caps.left.now _ cap_shortens c.in_ok-number.ensures c.caps.invariant)

pub returns : goal.returns
returns c = saying_end cap_at number_said c.caps.said c.args.octets.now c.caps.left.now (none_left _ c.caps-test.ensures) c.caps.invariant
