-- The chores that the routers of a network are given if it runs in threads.
use Rattle.std.specs.Prelude.{ℕ, zero, suc, ◌+◌, ◌-◌, ◌*◌, ◌/◌, ◌%◌, ◌<◌, ◌≤◌, ◌≡◌, ◌==◌, ◌||◌, nat_lt, min, cond, List, [], ◌∷◌, ◌++◌, length, map, filter, slice_index_or}
use Rattle.std.specs.List.{All, AllByRecursion}
use Rattle.ranked_policy.specs.Plans.{Plan}
use Rattle.ranked_policy.specs.declared.network.NetRouter.{NetRouter}
use Rattle.ranked_policy.specs.declared.network.Origin.{Origin}
use Rattle.router_model.specs.declared.command.Command.TheVariants.{Start, Originate, Snapshot}
use Rattle.router_model.specs.Settings.{peers}
use Rattle.worker_loop.specs.declared.chore.Chore.{Chore}
use Rattle.worker_loop.specs.declared.chore.Chore.TheVariants.{Turn, Command}
use Rattle.net_workers.specs.declared.record.TheConstants.{MOST_TURNS}
use Rattle.net_workers.specs.declared.record.Worked.{Worked}
use Rattle.thread_engines.specs.declared.gates.RunGate.{RunGate}
use Rattle.thread_engines.specs.declared.gates.Until.{Until}
use Rattle.thread_engines.specs.declared.gates.Until.TheVariants.{Last, OneSettled}
use Rattle.thread_engines.specs.declared.chores.RunOptions.{RunOptions}

-- ---- the chores of one router

-- the opening of a router: it starts its session with each peer, rising, and originates each prefix of which it is the
-- origin, in order
abbrev pub originated : Plan → ℕ → List Origin
originated net u = filter (λ o. o.router == u) net.origins

abbrev pub opening : Plan → ℕ → List Chore
opening net u = map (λ v. Command (Start v)) (peers net u) ++ map (λ o. Command (Originate o.prefix)) (originated net u)

-- the script of a gate: an opening, and behind it the snapshots of these numbers, each so far behind the one before
pub record Script : Type 0 where
  pub opening : List Chore
  pub spacing : ℕ
  pub snapshots : ℕ

-- the chores by their turns, counted from 0: the opening; each number from 1 to the last at its place; else Turns
pub record AreChores (script : Script) (chore : ℕ → Chore) : Type 0 where
  pub first : (i : ℕ) (d : Chore) → i < length script.opening → chore i ≡ slice_index_or script.opening i d
  pub numbered : (s : ℕ) → 0 < s → s ≤ script.snapshots → chore (length script.opening + s * script.spacing) ≡ Command (Snapshot s)
  pub turns : (i : ℕ) → length script.opening ≤ i → ((s : ℕ) → 0 < s → s ≤ script.snapshots → i ≡ length script.opening + s * script.spacing → ⊥)
      → chore i ≡ Turn

-- ---- the chores as a function that computes

abbrev pub numbered_or_turn : ℕ → ℕ → Chore
numbered_or_turn snapshots s = cond ((s == 0) || nat_lt snapshots s) Turn (Command (Snapshot s))

abbrev pub later_chore : (spacing snapshots behind : ℕ) → Chore
later_chore spacing snapshots behind = cond ((spacing == 0) || nat_lt 0 (behind % spacing)) Turn (numbered_or_turn snapshots (behind / spacing))

abbrev pub chore_at : Script → ℕ → Chore
chore_at script i = slice_index_or script.opening i (later_chore script.spacing script.snapshots (i - length script.opening))

-- the first n chores
abbrev pub first_chores : (ℕ → Chore) → ℕ → List Chore
first_chores chore zero = []
first_chores chore (suc n) = first_chores chore n ++ chore n ∷ []

-- ---- gates

-- what a gate is asked for: a script, and until when its snapshots are taken
pub record Asked : Type 0 where
  pub script : Script
  pub until : Until

abbrev pub asked_of : RunGate → Asked
asked_of g = record { script = record { opening = g.opening.items; spacing = g.spacing; snapshots = g.snapshots }; until = g.until }

-- the number of the last snapshot that is taken of so many; `last` counts only if they are taken until one has settled
abbrev pub last_taken : Until → (snapshots last : ℕ) → ℕ
last_taken Last snapshots last = snapshots
last_taken OneSettled snapshots last = min snapshots last

abbrev pub taken_by : RunGate → ℕ
taken_by g = last_taken g.until g.snapshots g.last

-- the script that a gate follows: the one that it is asked for, without the snapshots that are left out
abbrev pub script_of : RunGate → Script
script_of g = record { opening = g.opening.items; spacing = g.spacing; snapshots = taken_by g }

-- a gate leaves out no snapshot that it is asked for
abbrev pub HasTakenAll : RunGate → Type 0
HasTakenAll g = taken_by g ≡ g.snapshots

abbrev pub HaveTakenAll : List (Worked RunGate) → Type 0
HaveTakenAll workers = AllByRecursion (λ w. HasTakenAll w.gate) workers

-- the chores that a gate gave so far
abbrev pub given_by : RunGate → List Chore
given_by g = first_chores (chore_at (script_of g)) g.count

-- the script of each router's gate: the least router takes the snapshots
abbrev pub scripts_for : Plan → (spacing snapshots : ℕ) → List NetRouter → List Script
scripts_for net spacing snapshots [] = []
scripts_for net spacing snapshots (r ∷ rs) =
    record { opening = opening net r.asn; spacing = spacing; snapshots = snapshots } ∷ scripts_for net spacing 0 rs

-- each gate is asked for one of these scripts
abbrev pub asked_for : Until → List Script → List Asked
asked_for until scripts = map (λ s. record { script = s; until = until }) scripts

-- ---- options

abbrev pub first_router : List NetRouter → ℕ
first_router [] = 0
first_router (r ∷ rs) = r.asn

-- how far each snapshot stands behind the one before, if the least router has so many chores
abbrev pub spacing_of : Plan → RunOptions → ℕ
spacing_of net options = (options.turns - length (opening net (first_router net.routers))) / (options.snapshots + 1)

-- so many chores are enough for the opening of every router, and for each snapshot to stand behind the one before
pub record HasRoom (net : Plan) (options : RunOptions) : Type 0 where
  pub some : 0 < options.turns
  pub few : options.turns ≤ MOST_TURNS
  pub openings : All (λ r. length (opening net r.asn) ≤ options.turns) net.routers
  pub apart : 0 < spacing_of net options
