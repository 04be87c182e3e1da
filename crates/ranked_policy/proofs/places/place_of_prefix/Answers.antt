-- By the answers of the search, which rise along the list.
use Rattle.std.proofs.Common.{ℕ, rules, subst}
use Rattle.std.specs.List.Sorted.{IsBinarySearchResult}
use Rattle.std.specs.Ordering.{nat_cmp, ordering_then}
use Rattle.std.proofs.lemmas.List.Sorted.{answers_always}
use Rattle.ranked_policy.specs.Orders.{compared}
use Rattle.ranked_policy.proofs.PlaceLemmas.{prefix_place}
use Rattle.ranked_policy.proofs.places.place_of_prefix.Goals as goal

pub returns-clause-found : goal.returns-clause-found
returns-clause-found c =
    let facts = c.binary_search_by_key.ensures in
    let by_key = facts.position (λ x. (x.prefix.addr, x.prefix.len)) (answers_always _ _ _ (λ f a r g called. search rules)) in
    let by_prefix : IsBinarySearchResult (λ x. compared x.prefix c.args.prefix.now) c.args.origins.now c.binary_search_by_key.result =
    subst (λ (k : ℕ × ℕ). IsBinarySearchResult (λ x. ordering_then (nat_cmp x.prefix.addr k.0) (nat_cmp x.prefix.len k.1)) c.args.origins.now c.binary_search_by_key.result) c.order_of.ensures by_key in
    (prefix_place c.args.origins.now c.args.prefix.now c.binary_search_by_key.result c.requires facts.bound by_prefix).found

pub returns-clause-before : goal.returns-clause-before
returns-clause-before c =
    let facts = c.binary_search_by_key.ensures in
    let by_key = facts.position (λ x. (x.prefix.addr, x.prefix.len)) (answers_always _ _ _ (λ f a r g called. search rules)) in
    let by_prefix : IsBinarySearchResult (λ x. compared x.prefix c.args.prefix.now) c.args.origins.now c.binary_search_by_key.result =
    subst (λ (k : ℕ × ℕ). IsBinarySearchResult (λ x. ordering_then (nat_cmp x.prefix.addr k.0) (nat_cmp x.prefix.len k.1)) c.args.origins.now c.binary_search_by_key.result) c.order_of.ensures by_key in
    (prefix_place c.args.origins.now c.args.prefix.now c.binary_search_by_key.result c.requires facts.bound by_prefix).before

pub returns-clause-behind : goal.returns-clause-behind
returns-clause-behind c =
    let facts = c.binary_search_by_key.ensures in
    let by_key = facts.position (λ x. (x.prefix.addr, x.prefix.len)) (answers_always _ _ _ (λ f a r g called. search rules)) in
    let by_prefix : IsBinarySearchResult (λ x. compared x.prefix c.args.prefix.now) c.args.origins.now c.binary_search_by_key.result =
    subst (λ (k : ℕ × ℕ). IsBinarySearchResult (λ x. ordering_then (nat_cmp x.prefix.addr k.0) (nat_cmp x.prefix.len k.1)) c.args.origins.now c.binary_search_by_key.result) c.order_of.ensures by_key in
    (prefix_place c.args.origins.now c.args.prefix.now c.binary_search_by_key.result c.requires facts.bound by_prefix).behind
