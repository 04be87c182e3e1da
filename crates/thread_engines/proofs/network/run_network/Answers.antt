use Rattle.std.proofs.Common.{List, None, subst}
use Rattle.std.specs.Prelude.{IfErr, IfOk, OnOk}
use Rattle.net_workers.specs.Faults.{EndedSo, FaultOf}
use Rattle.net_workers.specs.Handed.{JournalsOf}
use Rattle.thread_engines.specs.Gates.{Asked, asked_of, given_by}
use Rattle.thread_engines.proofs.LeftOutLemmas.{asked_so}
use Rattle.thread_engines.proofs.network.run_network.Goals as goal

pub returns-clause-fault : goal.returns-clause-fault
returns-clause-fault g c =
    let net = c.args.network.now in
    let options = c.args.options.now in
    subst (λ (ts : List Asked). IfErr c.run_journals.result (FaultOf given_by asked_of net options.turns ts))
    (asked_so options c.args.until net c.in_ok-gates.gates.items _ c.in-Some.ensures.1 c.in_ok-gates.ensures.asked) c.run_journals.ensures.fault

pub returns-clause-ran : goal.returns-clause-ran
returns-clause-ran g c =
    let net = c.args.network.now in
    let options = c.args.options.now in
    subst (λ (ts : List Asked). IfOk c.run_journals.result (JournalsOf given_by asked_of net options.turns ts))
    (asked_so options c.args.until net c.in_ok-gates.gates.items _ c.in-Some.ensures.1 c.in_ok-gates.ensures.asked) c.run_journals.ensures.ran

pub returns-clause-ended : goal.returns-clause-ended
returns-clause-ended g c =
    let net = c.args.network.now in
    let options = c.args.options.now in
    subst (λ (ts : List Asked). OnOk c.run_journals.result (EndedSo given_by asked_of net options.turns ts None))
    (asked_so options c.args.until net c.in_ok-gates.gates.items _ c.in-Some.ensures.1 c.in_ok-gates.ensures.asked) c.run_journals.ensures.ended
