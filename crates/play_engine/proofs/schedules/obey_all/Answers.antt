use Rattle.std.proofs.Common.{List, subst, sym, ◌∙◌}
use Rattle.std.proofs.lemmas.List.{take_all}
use Rattle.schedule_text.specs.declared.schedule.ScheduledOrder.{ScheduledOrder}
use Rattle.world_core.specs.Views.{plain_world}
use Rattle.schedule_text.specs.Obeying.{LeadTo}
use Rattle.schedule_text.proofs.ObeyingLemmas.{lead_on}
use Rattle.play_engine.proofs.PlayLemmas.{refused_found}
use Rattle.play_engine.proofs.schedules.obey_all.Goals as goal

pub returns-in-Err-clause-obeyed : goal.returns-in-Err-clause-obeyed
returns-in-Err-clause-obeyed c = λ g e chooses.
    let here = e ∙ sym c.loop-scheduled.invariant.same in
    refused_found g _ (plain_world c.loop-scheduled.world) (plain_world c.obey.new.self) c.args.orders.now c.loop-scheduled.scheduled-index c.scheduled-item.result c.loop-scheduled.world.net c.in-Err.why
    here c.loop-scheduled-test.true c.scheduled-item.is (c.loop-scheduled.invariant.done g e chooses) (c.in-Err.ensures.obeys g here chooses)

pub loop-scheduled-preserved : goal.loop-scheduled-preserved
loop-scheduled-preserved c = record {
  same = c.in_default.ensures.same ∙ c.loop-scheduled.invariant.same;
  promises = c.in_default.ensures.promises;
  done = λ g e chooses.
      let here = e ∙ sym c.loop-scheduled.invariant.same in
      lead_on g _ (plain_world c.loop-scheduled.world) (plain_world c.obey.new.self) c.args.orders.now c.loop-scheduled.scheduled-index c.scheduled-item.result c.loop-scheduled.world.net
      here c.loop-scheduled-test.true c.scheduled-item.is (c.loop-scheduled.invariant.done g e chooses) (c.in_default.ensures.obeys g here chooses);
}

pub returns-clause-obeyed : goal.returns-clause-obeyed
returns-clause-obeyed c = λ g e chooses.
    subst (λ (orders : List ScheduledOrder). LeadTo g (plain_world c.args.world.now) orders (plain_world c.loop-scheduled.world))
    (take_all c.loop-scheduled.scheduled-index c.args.orders.now c.loop-scheduled-test.false) (c.loop-scheduled.invariant.done g e chooses)
