use Rattle.std.proofs.Common.{◌∙◌, ◌≡◌, ◌<◌, ◌≤◌, ◌/◌, ◌+◌, ◌-◌, ℕ, ap, sym, subst, arith, length, get_or, List}
use Rattle.std.specs.List.{All}
use Rattle.ranked_policy.specs.declared.network.NetRouter.{NetRouter}
use Rattle.thread_engines.specs.Gates.{opening, first_router, spacing_of}
use Rattle.text_engines.proofs.CheckLemmas.{all_all}
use Rattle.thread_engines.proofs.GateLemmas.{first_is}
use Rattle.thread_engines.proofs.chores.spacing.Goals as goal

pub returns-else-spacing-eq0 : goal.returns-else-spacing-eq0
returns-else-spacing-eq0 c =
    let net = c.args.network.now in
    let options = c.args.options.now in
    let routers = c.routers-routers.result.now in
    let first = c.index-routers-0.result in
    let is = c.routers-routers.ensures.value in
    let some = subst (λ (rs : List NetRouter). 0 < length rs) (sym is) c.routers-routers.ensures.network.some in
    let least : first_router net.routers ≡ (get_or routers 0 first).asn = ap first_router (sym is) ∙ first_is routers first some in
    let len : c.opening_len-2.result ≡ length (opening net (first_router net.routers)) = c.opening_len-2.ensures ∙ ap (λ (u : ℕ). length (opening net u)) (sym least) in
    let apart : (options.turns - c.opening_len-2.result) / (options.snapshots + 1) ≡ spacing_of net options = ap (λ (n : ℕ). (options.turns - n) / (options.snapshots + 1)) len in
    let not_none = c.if-spacing-eq0.false in (
      record {
        some = omega arith;
        few = omega arith;
        openings = subst (All (λ r. length (opening net r.asn) ≤ options.turns)) is
            (all_all (λ r. length (opening net r.asn) ≤ options.turns) routers c.loop-router.router-index c.loop-router-test.false c.loop-router.invariant);
        apart = omega (arith, apart, not_none);
      },
      apart,
    )
