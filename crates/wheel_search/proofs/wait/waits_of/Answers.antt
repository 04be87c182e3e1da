use Rattle.std.proofs.Common.{◌≡◌, ◌↔◌, ◌∙◌, ◌<◌, [], ℕ, List, length, get_or, sym, ap, subst, arith}
use Rattle.std.proofs.lemmas.List.{get_or_default, length_push}
use Rattle.ranked_policy.specs.Paths.{BeginsWith}
use Rattle.ranked_policy.specs.Plans.{Plan, Linked}
use Rattle.ranked_policy.specs.Ways.{HasWay}
use Rattle.wheel_search.specs.declared.wait.Wait.{Wait}
use Rattle.wheel_search.specs.Rows.{IsWait, paths_of}
use Rattle.wheel_search.proofs.WaitLemmas.{waits_more}
use Rattle.wheel_search.proofs.wait.waits_of.Goals as goal

pub wait_for-requires-clause-begins : goal.wait_for-requires-clause-begins
wait_for-requires-clause-begins c =
    let at = c.loop-path.path-index in
    let item = c.path-item.result in
    let same = c.paths-paths.ensures in
    let here : c.as_slice.result.now ≡ get_or (paths_of c.args.row.now) at item = c.as_slice.ensures ∙ c.path-item.is ∙ ap (λ (xs : List (List ℕ)). get_or xs at item) same in
    subst (λ (x : List ℕ). BeginsWith x c.args.row.now.seat.router) (sym here) (c.requires.row.begins at item (subst (λ (xs : List (List ℕ)). at < length xs) same c.loop-path-test.true))

pub wait_for-requires-clause-links : goal.wait_for-requires-clause-links
wait_for-requires-clause-links c =
    subst (λ (n : Plan). (v : ℕ) → (HasWay c.links_of-links.result.now c.args.row.now.seat.router v ↔ Linked n.links c.args.row.now.seat.router v)) c.network-network.ensures.value c.links_of-links.ensures.exact

pub loop-path-preserved : goal.loop-path-preserved
loop-path-preserved c =
    let at = c.loop-path.path-index in
    let item = c.path-item.result in
    let paths = paths_of c.args.row.now in
    let below : at < length paths = subst (λ (xs : List (List ℕ)). at < length xs) c.paths-paths.ensures c.loop-path-test.true in
    let here : c.as_slice.result.now ≡ get_or paths at [] =
    c.as_slice.ensures ∙ c.path-item.is ∙ ap (λ (xs : List (List ℕ)). get_or xs at item) c.paths-paths.ensures ∙ get_or_default paths at item [] below in
    let e = c.in_ok-push.ensures.items in
    let size = c.loop-path.invariant.size in
    record {
      size = omega (arith, ap length e, length_push c.loop-path.waits.items c.wait_for.result, size);
      each = waits_more (λ (k : ℕ) (w : Wait). IsWait c.args.instance.now c.args.rows.now c.args.row.now (get_or paths k []) w) c.loop-path.waits.items c.push.new.self.items c.wait_for.result at e size
          c.loop-path.invariant.each (subst (λ (x : List ℕ). IsWait c.args.instance.now c.args.rows.now c.args.row.now x c.wait_for.result) here c.wait_for.ensures);
    }
