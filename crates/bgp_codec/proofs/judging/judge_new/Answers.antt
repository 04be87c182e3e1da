use Rattle.std.proofs.Common.{sym, ap, ◌∙◌, arith}
use Rattle.bgp_codec.specs.AttrTable.{is_known}
use Rattle.bgp_codec.proofs.JudgingLemmas.{other_passed}
use Rattle.bgp_codec.proofs.judging.judge_new.Goals as goal

pub returns-then-not-is_known : goal.returns-then-not-is_known
returns-then-not-is_known c = λ a none. other_passed c.args.width a c.args.attr.now c.args.value.now none (ap is_known (sym c.octet_at-code.ensures) ∙ sym c.is_known.ensures ∙ c.if-not-is_known.true) (omega (arith, c.octet_at-flags.ensures, c.if-flags-lt-OPTIONAL.false))
