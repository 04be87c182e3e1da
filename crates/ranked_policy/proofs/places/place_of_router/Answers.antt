-- By the answers of the search, which rise along the list.
use Rattle.std.proofs.Common.{rules}
use Rattle.std.proofs.lemmas.List.Sorted.{answers_always}
use Rattle.ranked_policy.proofs.PlaceLemmas.{router_place}
use Rattle.ranked_policy.proofs.places.place_of_router.Goals as goal

pub returns-clause-found : goal.returns-clause-found
returns-clause-found c =
    let facts = c.binary_search_by_key.ensures in
    (router_place c.args.routers.now c.args.asn c.binary_search_by_key.result c.requires facts.bound (facts.position (λ x. x.asn) (answers_always _ _ _ (λ f a r g called. search rules)))).found

pub returns-clause-before : goal.returns-clause-before
returns-clause-before c =
    let facts = c.binary_search_by_key.ensures in
    (router_place c.args.routers.now c.args.asn c.binary_search_by_key.result c.requires facts.bound (facts.position (λ x. x.asn) (answers_always _ _ _ (λ f a r g called. search rules)))).before

pub returns-clause-behind : goal.returns-clause-behind
returns-clause-behind c =
    let facts = c.binary_search_by_key.ensures in
    (router_place c.args.routers.now c.args.asn c.binary_search_by_key.result c.requires facts.bound (facts.position (λ x. x.asn) (answers_always _ _ _ (λ f a r g called. search rules)))).behind
