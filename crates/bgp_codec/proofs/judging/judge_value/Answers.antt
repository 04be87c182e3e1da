use Rattle.std.proofs.Common.{sym, ap, ◌∙◌, arith}
use Rattle.std.specs.Prelude.{slice_index}
use Rattle.bgp_values.specs.Ranges.{is_unicast}
use Rattle.bgp_codec.proofs.JudgingLemmas.{value_passed}
use Rattle.bgp_codec.proofs.judging.judge_value.Goals as goal
use Rattle.bgp_codec.proofs.judging.judge_value.Goals.{else-code-eq-ORIGIN-via-then-code-eq-ORIGIN+else-octet_at-gt-INCOMPLETE, else-code-eq-ORIGIN-via-else-code-eq-ORIGIN, else-code-eq-NEXT_HOP-via-then-code-eq-NEXT_HOP+else-not-is_unicast, else-code-eq-NEXT_HOP-via-else-code-eq-NEXT_HOP}

pub returns : goal.returns
returns c = λ a.
    value_passed c.args.width (slice_index c.args.attr.now 1) a c.args.attr.now c.args.value.now
    (λ e. elim c.else-code-eq-ORIGIN.branch [
      | else-code-eq-ORIGIN-via-then-code-eq-ORIGIN+else-octet_at-gt-INCOMPLETE w ↦ omega (arith, w.octet_at.ensures, w.if-octet_at-gt-INCOMPLETE.false)
      | else-code-eq-ORIGIN-via-else-code-eq-ORIGIN w ↦ absurd (omega (arith, e, c.octet_at-code.ensures, w.if-code-eq-ORIGIN.false))
    ])
    (λ e. omega (arith, e, c.octet_at-code.ensures, c.if-code-eq-AS_PATH.false))
    (λ e. elim c.else-code-eq-NEXT_HOP.branch [
      | else-code-eq-NEXT_HOP-via-then-code-eq-NEXT_HOP+else-not-is_unicast w ↦ ap is_unicast (sym w.address_at.ensures) ∙ sym w.is_unicast.ensures.test ∙ w.if-not-is_unicast.false
      | else-code-eq-NEXT_HOP-via-else-code-eq-NEXT_HOP w ↦ absurd (omega (arith, e, c.octet_at-code.ensures, w.if-code-eq-NEXT_HOP.false))
    ])
