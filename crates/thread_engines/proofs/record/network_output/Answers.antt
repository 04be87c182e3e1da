use Rattle.std.proofs.Common.{ℕ, List, inr, subst, arith}
use Rattle.snap_collector.specs.Collector.{AreDecided}
use Rattle.text_engines.specs.Decoding.{output}
use Rattle.text_engines.proofs.CheckLemmas.{if_ok, both_ok}
use Rattle.thread_engines.specs.declared.gates.Until.TheVariants.{Last}
use Rattle.thread_engines.specs.Records.{run_scripts}
use Rattle.thread_engines.proofs.FaultLemmas.{run_fails}
use Rattle.thread_engines.proofs.LeftOutLemmas.{all_followed}
use Rattle.thread_engines.proofs.record.network_output.Goals as goal

pub returns-in_ok-record-in-Ok : goal.returns-in_ok-record-in-Ok
returns-in_ok-record-in-Ok g c =
    let r = c.in_ok-record-in-Ok.record in
    let e = c.in_ok-record-in-Ok.ensures in
    if_ok _ _ c.record_output.result
    (λ printed is. inr (
      c.in-Ok.ensures.room,
      inr (record {
        threads = record {
          few = omega arith;
          workers = r.workers.items;
          ways = r.ways.items;
          collector = r.collector;
          gathered = r.gathered.items;
          recorded = rw (e.workers, e.ways, e.collector) (c.in-Ok.ensures.ran.recorded r.gathered.items e.sorted);
          pipes = rw (e.ways) c.in-Ok.ensures.ran.ways;
          gates = rw (e.workers) (all_followed c.in-Ok.journals.workers.items (run_scripts c.args.options.now c.args.network.now) c.in-Ok.ensures.ran.script);
          promises = rw (e.workers, e.ways, e.collector) (c.in-Ok.ensures.ran.promises r.gathered.items e.sorted);
        };
        are_decided = subst (λ (ns : List ℕ). AreDecided r.collector ns) c.decided.ensures.value c.decided.ensures.decided;
        printed = is;
      }),
    ))
    c.record_output.ensures

pub returns-in-Err : goal.returns-in-Err
returns-in-Err g c =
    both_ok _ _ _ c.fault_output.result
    (λ printed kind is. run_fails c.args.options.now Last c.args.network.now (output printed.0.items printed.1) _ c.in-Err.fault kind c.in-Err.ensures.refused c.in-Err.ensures.fault is)
    c.fault_output.ensures.kind c.fault_output.ensures.output
