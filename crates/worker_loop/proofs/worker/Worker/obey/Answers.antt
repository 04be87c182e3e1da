use Rattle.worker_loop.proofs.worker.Worker.obey.Goals as goal

pub returns-in-Tick-clause-done : goal.returns-in-Tick-clause-done
returns-in-Tick-clause-done g c = rw c.in-Tick.is c.try_call.ensures.done

pub returns-in-Command-clause-done : goal.returns-in-Command-clause-done
returns-in-Command-clause-done g c = rw c.in-Command.is c.command.ensures.done
