use Rattle.schedule_text.proofs.Faults.{is_faulty}
use Rattle.schedule_text.proofs.schedule.read_line.Goals as goal

pub returns-in-Err-clause-err : goal.returns-in-Err-clause-err
returns-in-Err-clause-err c = is_faulty c.args.network.now c.args.text.now c.in-Err.code c.in-Err.ensures
