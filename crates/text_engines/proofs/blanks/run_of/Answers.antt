use Rattle.std.proofs.Common.{arith}
use Rattle.text_engines.proofs.BlankLemmas.{whole_run, short_run}
use Rattle.text_engines.proofs.blanks.run_of.Goals as goal

pub returns-then-low-eq0-clause-clean : goal.returns-then-low-eq0-clause-clean
returns-then-low-eq0-clause-clean c = whole_run c.args.piece.now c.low_ones-low.result c.told-piece c.low_ones-low.ensures c.if-low-eq0.true

pub returns-else-low-gt-FEW-clause-clean : goal.returns-else-low-gt-FEW-clause-clean
returns-else-low-gt-FEW-clause-clean c = (short_run c.args.piece.now c.low_ones-low.result c.told-piece c.low_ones-low.ensures (omega (arith, c.if-low-eq0.false))).1
