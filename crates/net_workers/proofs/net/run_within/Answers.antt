use Rattle.std.proofs.Common.{ap, map, ◌∙◌}
use Rattle.net_workers.proofs.Faults.{err_so, ok_so, is_inside, fault_is, journals_are}
use Rattle.net_workers.proofs.net.run_within.Goals as goal

pub journals_of-requires : goal.journals_of-requires
journals_of-requires g c = record { ended = (c.args.turns, c.in_ok-workers.ensures.ended) }

pub returns-clause-other : goal.returns-clause-other
returns-clause-other g c = err_so c.journals_of.result _ _ (is_inside c.in_ok-workers.workers.items) c.journals_of.ensures.fault

pub returns-clause-fault : goal.returns-clause-fault
returns-clause-fault g c =
    let ends = c.in_ok-workers.workers.items in
    err_so c.journals_of.result _ _ (λ why is. fault_is g.G.Gate.given c.args.network.now c.args.turns g.G.Gate.script (map g.G.Gate.script c.args.gates.items) ends why
    c.in_ok-workers.ensures.ended c.in_ok-workers.ensures.script is) c.journals_of.ensures.fault

pub returns-clause-ran : goal.returns-clause-ran
returns-clause-ran g c =
    let j = c.journals_of.ensures in
    journals_are g.G.Gate.given g.G.Gate.script c.args.network.now c.args.turns (map g.G.Gate.script c.args.gates.items) c.in_ok-workers.workers.items c.journals_of.result
    c.in_ok-workers.ensures.script j.worked j.ways (j.recorded c.args.turns c.in_ok-workers.ensures.ended) j.promises

pub returns-clause-ended : goal.returns-clause-ended
returns-clause-ended g c =
    ok_so c.journals_of.result _ _ (λ quiet. (c.in_ok-workers.workers.items, c.in_ok-workers.ensures.ended, c.in_ok-workers.ensures.script, quiet)) c.journals_of.ensures.none
