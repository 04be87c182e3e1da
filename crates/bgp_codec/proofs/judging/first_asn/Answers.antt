use Rattle.std.proofs.Common.{Some, length, drop, ◌-◌, ap, ◌∙◌, arith}
use Rattle.std.proofs.lemmas.List.{take_all, length-drop}
use Rattle.bgp_codec.specs.AsNumbers.{asn_at}
use Rattle.bgp_codec.proofs.JudgingAttrs.{not_first, is_first}
use Rattle.bgp_codec.proofs.judging.first_asn.Goals as goal

pub returns-in_default : goal.returns-in_default
returns-in_default c = λ segments e. not_first c.args.width c.args.octets.now segments (omega (arith, c.in_default.len_below)) e

pub returns-in-len2-up : goal.returns-in-len2-up
returns-in-len2-up c = λ segments e.
    let all = take_all (length c.args.octets.now - 2) (drop 2 c.args.octets.now) (omega (arith, length-drop 2 c.args.octets.now)) in
    ap Some (c.asn_at.ensures ∙ ap (asn_at c.args.width) all) ∙ is_first c.args.width c.args.octets.now segments c.in-len2-up.len_at_least e
