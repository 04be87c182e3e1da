use Rattle.std.proofs.Common.{◌≡◌, ◌<◌, rules, length}
use Rattle.std.specs.List.{HoldsAt}
use Rattle.std.proofs.lemmas.Result.{IfOk-weaker}
use Rattle.ranked_policy.specs.Ways.{HasWay}
use Rattle.std.proofs.lemmas.List.Sorted.{answers_always}
use Rattle.ranked_policy.proofs.WayLemmas.{way_place}
use Rattle.ranked_policy.proofs.PlaceLemmas.{any_at}
use Rattle.ranked_policy.proofs.ways.place_of.Goals as goal

pub returns-clause-before : goal.returns-clause-before
returns-clause-before c =
    let facts = c.binary_search_by_key.ensures in
    (way_place c.args.ways.now (record { one = c.args.one; other = c.args.other }) c.binary_search_by_key.result c.requires facts.bound
    (facts.position (λ x. (x.one, x.other)) (answers_always _ _ _ (λ f a r g called. search rules)))).before

pub returns-clause-behind : goal.returns-clause-behind
returns-clause-behind c =
    let facts = c.binary_search_by_key.ensures in
    (way_place c.args.ways.now (record { one = c.args.one; other = c.args.other }) c.binary_search_by_key.result c.requires facts.bound
    (facts.position (λ x. (x.one, x.other)) (answers_always _ _ _ (λ f a r g called. search rules)))).behind

pub returns-clause-found : goal.returns-clause-found
returns-clause-found c =
    let facts = c.binary_search_by_key.ensures in
    IfOk-weaker c.binary_search_by_key.result (λ i. (i < length c.args.ways.now) × HoldsAt (λ way. (way.one ≡ c.args.one) × (way.other ≡ c.args.other)) c.args.ways.now i)
    (λ i. HasWay c.args.ways.now c.args.one c.args.other)
    (λ i at. any_at (λ way. (way.one ≡ c.args.one) × (way.other ≡ c.args.other)) c.args.ways.now i (record { one = 0; other = 0 }) at.0 at.1)
    (way_place c.args.ways.now (record { one = c.args.one; other = c.args.other }) c.binary_search_by_key.result c.requires facts.bound
    (facts.position (λ x. (x.one, x.other)) (answers_always _ _ _ (λ f a r g called. search rules)))).found
