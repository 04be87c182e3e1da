-- By the run of the laws beside each run of routers.
use Rattle.router_runs.proofs.Believing.{decided_has_all_parts, parts_are_of_a_cut, mismatch_never_comes, settled_is_stable, settled_stays, settled_snapshots_can_be_believed, snapshots_hold}
use Rattle.router_runs.proofs.Mirroring.{runs_are_mirrored, mirrors_go_on, recordings_are_mirrored}
use Rattle.router_runs.proofs.snapshots.snapshots_of_runs.Goals as goal

pub returns : goal.returns
returns c =
    let laws = c.laws_below.ensures in
    let more = c.snapshot_laws_below.ensures in
    let mirrored = runs_are_mirrored laws more in
    let on = mirrors_go_on laws more in
    let recorded = recordings_are_mirrored laws more in
    record {
      cut = parts_are_of_a_cut laws more mirrored;
      all = decided_has_all_parts;
      mismatch = mismatch_never_comes laws more mirrored;
      stable = settled_is_stable laws more mirrored;
      stays = settled_stays laws more mirrored on recorded;
      believed = settled_snapshots_can_be_believed laws more mirrored on recorded;
      hold = snapshots_hold laws more mirrored on recorded;
    }
