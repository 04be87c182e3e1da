use Rattle.std.proofs.Common.{ℕ, ◌≡◌, ◌∙◌, ◌∷◌, [], List, ap, sym, subst, take, get_or, inl, inr, refl}
use Rattle.std.specs.Prelude.{◌↔◌}
use Rattle.std.specs.List.{All}
use Rattle.std.proofs.lemmas.List.{take_all, take_more}
use Rattle.ranked_policy.specs.declared.network.Link.{Link}
use Rattle.ranked_policy.specs.Choices.{HasPathOver, IsFirstOrNone, Speaks, path_by}
use Rattle.ranked_policy.specs.Plans.{Plan, Joins, Linked}
use Rattle.ranked_policy.specs.Ways.{HasWay}
use Rattle.ranked_policy.proofs.ChoiceLemmas.{better_is_first}
use Rattle.stable_paths.specs.Stable.{path_of}
use Rattle.stable_paths.proofs.ListLemmas.{never}
use Rattle.stable_paths.proofs.ChoiceLemmas.{link_hears, none_yet, same_links, way_links}
use Rattle.stable_paths.proofs.TableLemmas.{own_is, origin_here}
use Rattle.stable_paths.proofs.choosing.best_of.Goals as goal

pub returns-then-is_origin-clause-best : goal.returns-then-is_origin-clause-best
returns-then-is_origin-clause-best c =
    inl (
      (origin_here c.args.instance.now c.args.table.now c.network-network.result.now c.prefix-prefix.result.now c.router-router.result c.network-network.ensures.value c.prefix-prefix.ensures.value
          c.router-router.ensures.value c.requires.1).0 (c.if-is_origin.ensures.0 refl),
      c.in_ok-from_slice.ensures.ok ∙ ap (λ n. n ∷ []) c.router-router.ensures.value ∙ own_is c.args.instance.now c.args.table.now.router c.network-network.ensures.problem.originated,
    )

pub loop-link-init : goal.loop-link-init
loop-link-init c = none_yet (path_of c.args.assignment.now) c.args.table.now.router c.args.table.now c.args.instance.now.prefix

pub loop-link-preserved : goal.loop-link-preserved
loop-link-preserved c =
    let items = c.links_of-link-items.result.now in
    let i = c.loop-link.link-index in
    let none : Link = record { one = 0; other = 0 } in
    let link : Link = get_or items i none in
    let table = c.args.table.now in
    let prefix = c.args.instance.now.prefix in
    let paths = path_of c.args.assignment.now in
    let policy = c.for_prefix-policy.result in
    let speaks : Speaks policy table prefix =
    subst (Speaks policy table) c.prefix-prefix.ensures.value (record { permits = c.for_prefix-policy.ensures.permits; prefers = c.for_prefix-policy.ensures.prefers }) in
    let joins : Joins link table.router link.other = inl (c.links_of-link-items.ensures.from i none c.loop-link-test.true ∙ c.router-router.ensures.value, refl) in
    subst (λ (ls : List Link). IsFirstOrNone (HasPathOver ls paths table.router) table prefix (path_by c.router-router.result c.better_onward-best.result.now)) (sym (take_more items i none c.loop-link-test.true))
    (better_is_first policy table prefix (c.each_policy_is_an_order.ensures table c.router-router.ensures.table prefix) speaks (HasPathOver (take i items) paths table.router)
    (HasPathOver _ paths table.router) link.other c.path.result.now (link_hears (take i items) link paths table.router link.other joins c.path.result.now c.path.ensures) c.router-router.result (sym c.router-router.ensures.value)
    c.loop-link.best.now c.better_onward-best.result.now c.better_onward-best.ensures c.loop-link.invariant)

pub returns-clause-best : goal.returns-clause-best
returns-clause-best c =
    let items = c.links_of-link-items.result.now in
    let p = c.args.instance.now in
    let table = c.args.table.now in
    let paths = path_of c.args.assignment.now in
    let router : c.router-router.result ≡ table.router = c.router-router.ensures.value in
    let whole = subst (λ (ls : List Link). IsFirstOrNone (HasPathOver ls paths table.router) table p.prefix (path_by c.router-router.result c.loop-link.best.now)) (take_all c.loop-link.link-index items c.loop-link-test.false) c.loop-link.invariant in
    let links : (v : ℕ) → (HasWay items table.router v ↔ Linked p.net.links table.router v) =
    λ v. subst (λ (u : ℕ). HasWay items u v ↔ Linked p.net.links u v) router (subst (λ (n : Plan). HasWay items c.router-router.result v ↔ Linked n.links c.router-router.result v) c.network-network.ensures.value (c.links_of-link-items.ensures.exact v)) in
    let from : All (λ (link : Link). link.one ≡ table.router) items = λ k d l. c.links_of-link-items.ensures.from k d l ∙ router in
    inr (
      (λ o. never (c.if-is_origin.ensures.1 ((origin_here c.args.instance.now c.args.table.now c.network-network.result.now c.prefix-prefix.result.now c.router-router.result
          c.network-network.ensures.value c.prefix-prefix.ensures.value c.router-router.ensures.value c.requires.1).1 o))),
      subst (IsFirstOrNone (HasPathOver p.net.links paths table.router) table p.prefix) (sym c.in_ok-path_along.ensures)
          (same_links items p.net.links paths table.router table p.prefix (path_by c.router-router.result c.loop-link.best.now) (way_links items p.net.links table.router from links) whole),
    )
