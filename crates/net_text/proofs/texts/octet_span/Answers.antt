use Rattle.std.proofs.Common.{refl, arith}
use Rattle.net_text.specs.declared.texts.TheConstants.{OCTET_SPANS}
use Rattle.net_text.proofs.DecimalLemmas.{span_in_table, few_digits}
use Rattle.net_text.proofs.texts.octet_span.Goals as goal

pub returns-clause-span : goal.returns-clause-span
returns-clause-span c = span_in_table OCTET_SPANS.now c.args.octet (omega arith) refl

pub returns-clause-few : goal.returns-clause-few
returns-clause-few c = omega (arith, returns-clause-span c, few_digits c.args.octet (omega arith))
