use Rattle.net_workers.proofs.net.run_net.Goals as goal

pub returns-in-Ok-clause-ran : goal.returns-in-Ok-clause-ran
returns-in-Ok-clause-ran g c =
    let e = c.in-Ok.ensures in
    let r = c.in_ok-journals.ensures.ran in
    let gathered = c.in-Ok.record.gathered.items in
    record {
      script = rw e.workers r.script;
      ways = rw e.ways r.ways;
      recorded = rw (e.workers, e.ways, e.collector) (r.recorded gathered e.sorted);
      promises = rw (e.workers, e.ways, e.collector) (r.promises gathered e.sorted);
    }
