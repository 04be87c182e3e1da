-- By the run of the laws beside each run, and the bound of that.
use Rattle.wheel_runs.proofs.ChangeLemmas.{Laws, runs_change_seldom, safe_runs_are_bounded}
use Rattle.wheel_runs.proofs.EverywhereLemmas.{of_worlds, of_records, each_run}
use Rattle.wheel_runs.specs.Everywhere.{EachChangesSeldom}
use Rattle.wheel_runs.proofs.laws.routers_change_seldom.Goals as goal

pub returns : goal.returns
returns g c =
    let laws : Laws = record {
      permits = c.policies_are_tests.ensures.permits;
      prefers = c.policies_are_tests.ensures.prefers;
      orders = c.each_policy_is_an_order.ensures;
      aside = c.offer_runs_are_network_runs.ensures.run;
      has_model = c.runs_are_mirrored.ensures.model;
      mirrored = c.runs_are_mirrored.ensures.mirrored;
      on = c.runs_are_mirrored.ensures.goes_on;
      either = c.safe_or_wheel.ensures;
      no_bound = c.safe_have_bounds.ensures.none;
      paths = c.safe_runs_change_seldom.ensures.paths;
      routers = c.safe_runs_change_seldom.ensures.routers;
    } in
    let runs = runs_change_seldom laws in
    record {
      runs = runs;
      worlds = of_worlds EachChangesSeldom (each_run runs);
      records = of_records EachChangesSeldom (each_run runs) g.G.Gate.given c.records_are_runs.ensures.promises;
      bounded = safe_runs_are_bounded runs c.safe_have_bounds.ensures.bounds;
    }
