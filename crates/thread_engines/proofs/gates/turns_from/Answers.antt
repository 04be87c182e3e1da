use Rattle.std.proofs.Common.{◌≡◌, ℕ, zero, suc, ◌+◌, ◌<◌, ◌∙◌, refl, sym, arith}
use Rattle.thread_engines.proofs.GateLemmas.{turn_still, no_spacing}
use Rattle.thread_engines.proofs.gates.turns_from.Goals as goal

positive : (n : ℕ) → (n ≡ 0 → ⊥) → 0 < n
positive zero some = absurd (some refl)
positive (suc n) some = omega arith

pub returns-then-spacing-eq0 : goal.returns-then-spacing-eq0
returns-then-spacing-eq0 c = λ i below. no_spacing c.args.spacing c.args.snapshots (c.args.behind + i) c.if-spacing-eq0.true

pub returns-then-number-snapshots : goal.returns-then-number-snapshots
returns-then-number-snapshots c = λ i below.
    turn_still c.args.spacing c.args.snapshots c.args.behind i (positive c.args.spacing c.if-spacing-eq0.false) (sym c.later_chore.ensures ∙ c.is_turn.ensures c.if-not-is_turn.false)
    (λ near. absurd (omega (arith, near, c.if-number-snapshots.true)))

pub returns : goal.returns
returns c = λ i below.
    turn_still c.args.spacing c.args.snapshots c.args.behind i (positive c.args.spacing c.if-spacing-eq0.false) (sym c.later_chore.ensures ∙ c.is_turn.ensures c.if-not-is_turn.false) (λ near. below)
