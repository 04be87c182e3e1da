-- The chores of a script.
use Rattle.std.specs.Prelude.{ℕ, zero, suc, ◌==◌, cond, List, [], ◌∷◌, ◌++◌}
use Rattle.worker_loop.specs.declared.chore.Chore.{Chore}
use Rattle.worker_loop.specs.declared.chore.Chore.TheVariants.{Turn}
use Rattle.worker_loop.specs.declared.script.ScriptGate.{ScriptGate}

-- the first chore listed for a turn, or else Turn
abbrev pub chore_at : List (ℕ × Chore) → ℕ → Chore
chore_at [] turn = Turn
chore_at (c ∷ cs) turn = cond (c.0 == turn) c.1 (chore_at cs turn)

-- the first n chores
abbrev pub chores_of : List (ℕ × Chore) → ℕ → List Chore
chores_of script zero = []
chores_of script (suc n) = chores_of script n ++ chore_at script n ∷ []

-- the chores that a gate gave so far
abbrev pub given_by : ScriptGate → List Chore
given_by g = chores_of g.script.items g.count
