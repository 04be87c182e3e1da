use Rattle.std.proofs.Common.{◌≡◌, ◌∙◌, suc, ◌-◌, sym, refl, arith}
use Rattle.wheel_search.proofs.WaitLemmas.{never_comes, nothing_comes, comes_on, never_in}
use Rattle.wheel_search.proofs.wait.comes.Goals as goal

pub returns-in-Never : goal.returns-in-Never
returns-in-Never c =
    let n = 16 - c.loop-router._router in
    let h = c.loop-router.invariant n (omega (arith, c.loop-router-test.true)) in
    (λ f. absurd (cc (f)), λ it. absurd (never_comes c.args.waits.now n c.loop-router.on c.loop-router.at (sym c.wait_at.ensures ∙ c.in-Never.is) (h.0 it)))

pub returns-in-Nothing : goal.returns-in-Nothing
returns-in-Nothing c =
    let n = 16 - c.loop-router._router in
    let m = 15 - c.loop-router._router in
    let e : n ≡ suc m = omega (arith, c.loop-router-test.true) in
    let h = c.loop-router.invariant n (omega (arith, c.loop-router-test.true)) in
    (λ f. h.1 (nothing_comes c.args.waits.now n m c.loop-router.on c.loop-router.at e (sym c.wait_at.ensures ∙ c.in-Nothing.is)), λ it. refl)

pub loop-router-preserved : goal.loop-router-preserved
loop-router-preserved c =
    λ n at.
    (let h = c.loop-router.invariant (suc n) (omega (arith, at)) in
    let on = comes_on c.args.waits.now (suc n) n c.loop-router.on c.loop-router.at c.in-Rest.row c.in-Rest.place refl (sym c.wait_at.ensures ∙ c.in-Rest.is) in
    (λ it. on.0 (h.0 it), λ it. h.1 (on.1 it)))

pub returns : goal.returns
returns c =
    let h = c.loop-router.invariant 0 (omega (arith, c.loop-router-test.false, c.loop-router.auto._router-end)) in
    (λ f. absurd (cc (f)), λ it. absurd (never_in c.args.waits.now c.loop-router.on c.loop-router.at (h.0 it)))
