use Rattle.std.proofs.Common.{◌⊎◌, ◌≡◌, ℕ, inl, inr, refl}
use Rattle.net_workers.specs.Gathered.{all_events}
use Rattle.net_workers.specs.declared.record.RunFault.TheVariants.{BoardDiffers}
use Rattle.text_engines.specs.Decoding.{output}
use Rattle.text_engines.proofs.CheckLemmas.{if_ok, both_ok}
use Rattle.thread_engines.specs.Gates.{spacing_of}
use Rattle.thread_engines.specs.declared.gates.Until.TheVariants.{OneSettled}
use Rattle.thread_engines.specs.Records.{RunRecord}
use Rattle.thread_engines.specs.Running.{IsFirstWanted}
use Rattle.thread_engines.proofs.FaultLemmas.{run_fails}
use Rattle.thread_engines.proofs.LeftOutLemmas.{so_followed}
use Rattle.thread_engines.proofs.RunLemmas.{record_gives}
use Rattle.thread_engines.proofs.run.network_output.Goals as goal

pub returns-else-not-is_answered : goal.returns-else-not-is_answered
returns-else-not-is_answered g c =
    let r = c.in-Ok.journals in
    let sorted = c.events_can_be_sorted.ensures (all_events r.workers.items) in
    let net = c.args.network.now in
    let options = c.args.options.now in
    let so = so_followed net (spacing_of net options) options.snapshots net.routers r.workers.items c.in-Ok.ensures.ran.script in
    let made : RunRecord options net so.taken = record {
      few = so.few;
      workers = r.workers.items;
      ways = r.ways.items;
      collector = r.collector;
      gathered = sorted.0;
      recorded = c.in-Ok.ensures.ran.recorded sorted.0 sorted.1;
      pipes = c.in-Ok.ensures.ran.ways;
      gates = so.scripts;
      promises = c.in-Ok.ensures.ran.promises sorted.0 sorted.1;
    } in
    let answered : (so.taken ≡ options.snapshots) ⊎ ((s : ℕ) × IsFirstWanted net r.collector options.snapshots s) =
    elim (c.if-not-is_answered.ensures refl) [ inl all ↦ inl (so.all all) | inr found ↦ inr found ] in
    if_ok _ _ c.settled_output.result
    (λ printed gives. inr (
      c.in-Ok.ensures.room,
      inr (so.taken, made, record_gives c.outcome_is_one.ensures c.members_are_the_routers.ensures net c.built.ensures.network c.has_setting.ensures made (output printed.0.items printed.1) answered gives),
    ))
    c.settled_output.ensures

pub returns-then-not-is_answered : goal.returns-then-not-is_answered
returns-then-not-is_answered g c =
    both_ok _ _ _ c.fault_output.result
    (λ printed kind is. run_fails c.args.options.now OneSettled c.args.network.now (output printed.0.items printed.1) _ BoardDiffers kind (inr ((λ e. cc), c.in-Ok.ensures.room)) c.in-Ok.ensures.ended is)
    c.fault_output.ensures.kind c.fault_output.ensures.output

pub returns-in-Err : goal.returns-in-Err
returns-in-Err g c =
    both_ok _ _ _ c.fault_output-in-Err.result
    (λ printed kind is. run_fails c.args.options.now OneSettled c.args.network.now (output printed.0.items printed.1) _ c.in-Err.fault kind c.in-Err.ensures.refused c.in-Err.ensures.fault is)
    c.fault_output-in-Err.ensures.kind c.fault_output-in-Err.ensures.output
