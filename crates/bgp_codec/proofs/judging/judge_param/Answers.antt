use Rattle.std.proofs.Common.{◌≡◌, arith}
use Rattle.std.specs.Prelude.{slice_index}
use Rattle.bgp_codec.proofs.JudgingLemmas.{param_passed}
use Rattle.bgp_codec.proofs.judging.judge_param.Goals as goal

pub returns : goal.returns
returns c =
    let kind : slice_index c.args.octets.now 0 ≡ 2 = omega (arith, c.octet_at.ensures, c.if-octet_at-ne-CAPABILITIES.false) in
    param_passed c.args.octets.now c.in_ok-value.value.now c.in_ok-value.rest.now _ c.in_ok-value.ensures.gives kind c.in_ok-judge_caps.ensures
