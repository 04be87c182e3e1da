-- A run of the laws, and then more of it.
use Rattle.std.proofs.Common.{◌≡◌, ℕ, ◌+◌, List, [], ◌∷◌, ◌++◌, append_assoc, refl, ap, sym, ◌∙◌, arith}
use Rattle.run_model.specs.Routes as routes
use Rattle.run_model.specs.Quiet as model
use Rattle.run_model.specs.Offers as law
use Rattle.run_model.specs.Offers.{network_steps}
use Rattle.router_model.specs.Settings.{Setting}
use Rattle.router_runs.specs.Runs.{RunOrder}
use Rattle.router_runs.specs.Model.{network_of}
use Rattle.router_runs.specs.Acts.{ModelStep}
use Rattle.router_runs.specs.Mirrors.{ModelRouter, ModelSteps, commands_at, table_commands_at, CommandsForget}

pub steps_append : (g : Setting) (ts us : ModelSteps) → network_steps (network_of g) (ts ++ us) ≡ network_steps (network_of g) ts ++ network_steps (network_of g) us
steps_append g [] us = refl
steps_append g (t ∷ ts) us =
    ap (λ l. law.network_step (network_of g) t.router t.event ++ l) (steps_append g ts us)
    ∙ sym (append_assoc (law.network_step (network_of g) t.router t.event) (network_steps (network_of g) ts) (network_steps (network_of g) us))

pub quiet_on : (g : Setting) (s : ℕ) (ts us : List ModelStep) (w : ℕ → ModelRouter) → model.IsQuietSince (network_of g) s w ts
    → model.IsQuietSince (network_of g) s (routes.routers_after (network_of g) w ts) us → model.IsQuietSince (network_of g) s w (ts ++ us)
quiet_on g s [] us w one two = two
quiet_on g s (t ∷ ts) us w one two = (one.0, quiet_on g s ts us (routes.advanced (network_of g) w t) one.1 two)

pub commands_append : (u : ℕ) (ts us : List ModelStep) → commands_at u (ts ++ us) ≡ commands_at u ts + commands_at u us
commands_append u [] us = omega arith
commands_append u (t ∷ ts) us = (let rest = commands_append u ts us in omega (arith, rest))

pub table_commands_append : (u : ℕ) (ds es : RunOrder) → table_commands_at u (ds ++ es) ≡ table_commands_at u ds + table_commands_at u es
table_commands_append u [] es = omega arith
table_commands_append u (d ∷ ds) es = (let rest = table_commands_append u ds es in omega (arith, rest))

pub forget_on : (g : Setting) (ts us : List ModelStep) (w : ℕ → ModelRouter) → CommandsForget g w ts
    → CommandsForget g (routes.routers_after (network_of g) w ts) us → CommandsForget g w (ts ++ us)
forget_on g [] us w one two = two
forget_on g (t ∷ ts) us w one two = (one.0, forget_on g ts us (routes.advanced (network_of g) w t) one.1 two)
