use Rattle.std.proofs.Common.{◌≡◌, ◌==◌, ℕ, rules, drop, true, false}
use Rattle.std.specs.Prelude.{nat_lt}
use Rattle.std.specs.List.Sorted.{IsPartitionedBy, IsPartitionPoint}
use Rattle.std.proofs.lemmas.List.Sorted.{IsPartitionPoint-from_clause}
use Rattle.ranked_policy.specs.declared.network.Link.{Link}
use Rattle.ranked_policy.proofs.WayLemmas.{searched}
use Rattle.ranked_policy.proofs.ways.ways_from.Goals as goal

pub returns : goal.returns
returns c =
    let ways = c.args.ways.now in
    let u = c.args.asn in
    let k : ℕ = c.partition_point-start.result in
    let m : ℕ = c.partition_point-count.result in
    let back : c.split_at.result.1.now ≡ drop k ways = c.split_at.ensures.back in
    let first : IsPartitionedBy (λ (way : Link). nat_lt way.one u) ways → IsPartitionPoint (λ way. nat_lt way.one u ≡ true) (λ way. nat_lt way.one u ≡ false) ways k =
    λ parted. IsPartitionPoint-from_clause (λ way. nat_lt way.one u) ways k c.partition_point-start.ensures.partitioned parted (λ a r g called. (search rules, search rules)) in
    let second : IsPartitionedBy (λ (way : Link). way.one == u) c.split_at.result.1.now → IsPartitionPoint (λ way. (way.one == u) ≡ true) (λ way. (way.one == u) ≡ false) c.split_at.result.1.now m =
    λ parted. IsPartitionPoint-from_clause (λ way. way.one == u) c.split_at.result.1.now m c.partition_point-count.ensures.partitioned parted (λ a r g called. (search rules, search rules)) in
    rw (c.split_at-2.ensures.front, back) (searched ways u k m c.requires c.partition_point-start.ensures.bound (rw back at c.partition_point-count.ensures.bound) first (rw back at second))
