-- Routers that rest: their turn finds nothing to do.
use Rattle.std.specs.Prelude.{ℕ, ◌≡◌, ◌≢◌, Bool, true, List, slice_get, Some, Ok}
use Rattle.ranked_policy.specs.Plans.{Plan, numbers}
use Rattle.world_core.specs.Orders.{turn}
use Rattle.world_core.specs.Views.{WorldView, Obeys}

abbrev pub TurnIsIdle : WorldView → ℕ → Type 0
TurnIsIdle x u = Obeys (Ok tt) x (turn x.net u) x

-- each router with a mark rests
abbrev pub TurnsAreIdle : WorldView → List Bool → Type 0
TurnsAreIdle x marks = (i b : ℕ) → slice_get marks i ≡ Some true → slice_get (numbers x.net.routers) i ≡ Some b
    → TurnIsIdle x b

-- each router with a mark rests while router u, which has no mark, has its turn
abbrev pub TurnsAreIdleBeside : WorldView → ℕ → List Bool → Type 0
TurnsAreIdleBeside x u marks = (i b : ℕ) → slice_get marks i ≡ Some true → slice_get (numbers x.net.routers) i
    ≡ Some b → (u ≢ b) × TurnIsIdle x b

-- each mark that is left was there before, and is not that of router v
abbrev pub Woken : Plan → ℕ → List Bool → List Bool → Type 0
Woken net v old new = (i b : ℕ) → slice_get new i ≡ Some true → slice_get (numbers net.routers) i ≡ Some b → (slice_get old i ≡ Some true) × (v ≢ b)
