use Rattle.std.proofs.Common.{◌≡◌, ◌⊎◌, ◌+◌, refl, subst, sym, ap, List, [], ℕ, take}
use Rattle.std.specs.Prelude.{◌↔◌}
use Rattle.std.specs.List.{Contains}
use Rattle.std.proofs.lemmas.List.{take_all}
use Rattle.stable_paths.proofs.ListLemmas.{never}
use Rattle.stable_search.proofs.SeatLemmas.{Lists, lists_skip, lists_add, lists_done}
use Rattle.stable_search.proofs.seat.listed.Goals as goal
use Rattle.stable_search.proofs.seat.listed.Goals.{then-may_stand+in_ok-add_once, else-may_stand}

pub loop-path-preserved : goal.loop-path-preserved
loop-path-preserved c =
    let links = c.args.network.now.links in
    elim c.if-may_stand.branch [
      | then-may_stand+in_ok-add_once w ↦
          subst (λ (v : List (List ℕ)). Lists links c.args.policy.now c.args.router (take (c.loop-path.path-index + 1) c.args.paths.now) v) (ap (λ v. v.items) (sym w.values-is))
          (lists_add links c.args.policy.now c.args.router c.args.paths.now c.loop-path.path-index c.path-item.result c.loop-path-test.true c.path-item.is c.loop-path.values.items w.add_once.new.values.items
          (w.if-may_stand.ensures.0 refl) w.in_ok-add_once.ensures.exact w.in_ok-add_once.ensures.distinct c.loop-path.invariant)
      | else-may_stand w ↦
          subst (λ (v : List (List ℕ)). Lists links c.args.policy.now c.args.router (take (c.loop-path.path-index + 1) c.args.paths.now) v) (ap (λ v. v.items) (sym w.values-is))
          (lists_skip links c.args.policy.now c.args.router c.args.paths.now c.loop-path.path-index c.path-item.result c.loop-path-test.true c.path-item.is c.loop-path.values.items
          (λ may. never (w.if-may_stand.ensures.1 may)) c.loop-path.invariant)
    ]

pub returns-clause-exact : goal.returns-clause-exact
returns-clause-exact c =
    let links = c.args.network.now.links in
    let values = c.loop-path.values.items in
    let new = c.add_once-3.new.values.items in
    let adds : (other : List ℕ) → (Contains new other ↔ Contains values other ⊎ ([] ≡ other)) =
    subst (λ (path : List ℕ). (other : List ℕ) → (Contains new other ↔ Contains values other ⊎ (path ≡ other))) c.new.ensures c.in_ok-add_once-2.ensures.exact in
    lists_done links c.args.policy.now c.args.router c.args.paths.now values new adds
    (subst (λ (xs : List (List ℕ)). Lists links c.args.policy.now c.args.router xs values) (take_all c.loop-path.path-index c.args.paths.now c.loop-path-test.false) c.loop-path.invariant)
