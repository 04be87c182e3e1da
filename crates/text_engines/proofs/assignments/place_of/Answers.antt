use Rattle.std.proofs.Common.{sym, ◌∙◌, rules}
use Rattle.std.proofs.lemmas.List.Sorted.{IsPartitionPoint-from_clause}
use Rattle.ranked_policy.specs.declared.network.Origin.{Origin}
use Rattle.text_engines.specs.Checking.{is_before}
use Rattle.text_engines.proofs.PlaceLemmas.{partitioned, place_found, place_other, place_behind}
use Rattle.text_engines.proofs.assignments.place_of.Goals as goal
use Rattle.text_engines.proofs.assignments.place_of.Goals.{else-place-origins-via-then-place-origins+else-equals, else-place-origins-via-else-place-origins}

pub returns-then-equals : goal.returns-then-equals
returns-then-equals c =
    let q = c.args.prefix.now in
    let parts = IsPartitionPoint-from_clause (λ (o : Origin). is_before o.prefix q) _ _ c.partition_point-place.ensures.partitioned (partitioned c.args.origins.now q c.requires) (λ a r p k. search rules) in
    place_found c.args.origins.now q c.partition_point-place.result c.index-origins-place.result c.requires parts c.if-place-origins.true (sym c.equals.ensures ∙ c.if-equals.true)

pub returns-else-place-origins : goal.returns-else-place-origins
returns-else-place-origins c =
    let q = c.args.prefix.now in
    let parts = IsPartitionPoint-from_clause (λ (o : Origin). is_before o.prefix q) _ _ c.partition_point-place.ensures.partitioned (partitioned c.args.origins.now q c.requires) (λ a r p k. search rules) in
    elim c.else-place-origins.branch [
      | else-place-origins-via-then-place-origins+else-equals w ↦
          place_other c.args.origins.now q c.partition_point-place.result w.index-origins-place.result c.requires parts w.if-place-origins.true (sym w.equals.ensures ∙ w.if-equals.false)
      | else-place-origins-via-else-place-origins w ↦ place_behind c.args.origins.now q c.partition_point-place.result c.requires parts w.if-place-origins.false
    ]
