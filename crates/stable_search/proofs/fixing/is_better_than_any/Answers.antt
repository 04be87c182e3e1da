use Rattle.std.proofs.Common.{◌≡◌, ◌∷◌, ℕ, List, sym, subst}
use Rattle.std.specs.List.{Contains}
use Rattle.ranked_policy.specs.Choosing.{chosen_prefers}
use Rattle.ranked_policy.specs.Paths.{BeginsWith}
use Rattle.stable_search.proofs.fixing.is_better_than_any.Goals as goal

pub returns-in-Ranked : goal.returns-in-Ranked
returns-in-Ranked c = λ t rest begins le may.
    let e : rest ≡ c.args.peer ∷ begins.0 = begins.1 in
    let listed = (rw c.in-Ranked.is at may).0 in
    subst (λ (q : List ℕ). BeginsWith c.args.path.now c.args.router × chosen_prefers c.args.policy.now c.args.path.now (c.args.router ∷ q)) (sym e)
    (c.is_before_each.ensures t begins.0 (subst (λ (q : List ℕ). Contains c.in-Ranked.rule.paths.now (c.args.router ∷ q)) e listed))
