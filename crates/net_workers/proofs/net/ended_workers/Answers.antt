use Rattle.net_workers.proofs.Records.{gates_are}
use Rattle.net_workers.proofs.Faults.{have_ended}
use Rattle.net_workers.proofs.net.ended_workers.Goals as goal

pub returns-clause-ended : goal.returns-clause-ended
returns-clause-ended g c =
    let made = c.in_ok-workers.ensures in
    let ran = c.run_all.ensures in
    have_ended g.G.Gate.given c.args.network.now c.args.turns c.in_ok-workers.workers.items c.run_all.new.workers.items ran.many ran.same ran.ended ran.ran
    made.network made.numbers made.fresh made.dealt

pub returns-clause-script : goal.returns-clause-script
returns-clause-script g c =
    gates_are g.G.Gate.script c.in_ok-workers.workers.items c.run_all.new.workers.items c.args.gates.items c.run_all.ensures.many c.run_all.ensures.script c.in_ok-workers.ensures.gates
