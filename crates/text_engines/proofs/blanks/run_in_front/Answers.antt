use Rattle.text_engines.proofs.BlankLemmas.{run_of_front}
use Rattle.text_engines.proofs.blanks.run_in_front.Goals as goal

pub returns-in-Some-clause-clean : goal.returns-in-Some-clause-clean
returns-in-Some-clause-clean c = run_of_front c.args.octets.now c.in-Some.piece.now c.run_of.result c.in-Some.ensures.cases.same c.run_of.ensures.bound c.run_of.ensures.clean
