use Rattle.std.proofs.Common.{rules}
use Rattle.std.proofs.lemmas.List.Sorted.{IsPartitionPoint-from_clause}
use Rattle.stable_paths.proofs.RisingLemmas.{is_below, partitioned, stands, belongs_before, belongs_last}
use Rattle.stable_paths.proofs.assignment.place_of.Goals as goal
use Rattle.stable_paths.proofs.assignment.place_of.Goals.{else-place-paths-via-then-place-paths+else-paths-place, else-place-paths-via-else-place-paths}

pub returns-then-paths-place-clause-found : goal.returns-then-paths-place-clause-found
returns-then-paths-place-clause-found c =
    let paths = c.args.paths.now in
    let u = c.args.router in
    let parts = IsPartitionPoint-from_clause (is_below u) _ _ c.partition_point-place.ensures.partitioned (partitioned paths u c.requires) (λ a r p k. search rules) in
    stands paths u c.partition_point-place.result c.index-paths-place.result parts c.if-place-paths.true c.if-paths-place.true

pub returns-else-place-paths-clause-missing : goal.returns-else-place-paths-clause-missing
returns-else-place-paths-clause-missing c =
    let paths = c.args.paths.now in
    let u = c.args.router in
    let parts = IsPartitionPoint-from_clause (is_below u) _ _ c.partition_point-place.ensures.partitioned (partitioned paths u c.requires) (λ a r p k. search rules) in
    elim c.else-place-paths.branch [
      | else-place-paths-via-then-place-paths+else-paths-place w ↦
          belongs_before paths u c.partition_point-place.result w.index-paths-place.result c.requires parts w.if-place-paths.true w.if-paths-place.false
      | else-place-paths-via-else-place-paths w ↦ belongs_last paths u c.partition_point-place.result parts c.partition_point-place.ensures.bound w.if-place-paths.false
    ]
