use Rattle.router_runs.specs.Runs.{new_logged}
use Rattle.router_runs.proofs.journals.causal_orders_are_runs_of_routers.Goals as goal

-- the law of run_model, at the steps of routers and from their opening
pub returns-clause-runs : goal.returns-clause-runs
returns-clause-runs c = λ g journal last collected order leads causal.
    c.causal_orders_are_runs.ensures g (λ u. new_logged g) last journal collected order leads causal
