use Rattle.std.proofs.Common.{ap, map, ◌++◌, ◌∙◌, sym}
use Rattle.ranked_policy.specs.Plans.{Plan}
use Rattle.snap_collector.specs.Collecting.{member_of}
use Rattle.snap_collector.specs.Collector.{made_for}
use Rattle.world_core.specs.Views.{plain_world}
use Rattle.schedule_text.specs.Reports.{now_line}
use Rattle.text_engines.specs.Decoding.{output}
use Rattle.play_engine.specs.Reporting.{snapshots_text, now_text}
use Rattle.schedule_text.specs.Routes.{routes_text}
use Rattle.play_engine.proofs.PlayLemmas.{report_is, reports}
use Rattle.play_engine.proofs.schedules.report_output.Goals as goal

pub returns : goal.returns
returns c =
    let x = c.args.world.now in
    let net = c.args.network.now in
    let k = c.collector-collector.result.now in
    let numbers = c.decided.result.now in
    let all = c.put_routes.new.out.items in
    let text = λ (n : Plan). snapshots_text n (map member_of k.members) (made_for k) numbers in
    reports x k numbers all c.collector-collector.ensures.value c.collector-collector.ensures.peers c.decided.ensures.decided c.collector-collector.ensures.verdicts c.collector-collector.ensures.settled c.requires.promises
    (report_is c.new-out.result.items c.put_snapshots.new.out.items c.now_line.new.out.items all (text net) now_line (routes_text net (plain_world x))
    c.new-out.ensures.items c.in_ok-put_snapshots.ensures c.in_ok-now_line.ensures.ok c.in_ok-put_routes.ensures
    ∙ ap (λ (n : Plan). output (text n ++ now_text n (plain_world x)) 0) (sym c.requires.same))
