-- The rule of a pipe.
use Rattle.std.specs.Prelude.{◌≡◌, ℕ, Bool, true, List, ◌++◌}
use mathlib.Core.Option.{some}
use lib.ListN.{get_elem?}
use Rattle.crossbeam_queue.specs.Passes.{Pass, view}
use Rattle.ruled_pipe.specs.declared.log.Log.{Log}

module _ {T : Type 0} where
  abbrev pub log : Bool → Bool → List T → List T → Log T
  log puts takes put taken = record { puts = puts; takes = takes; put = put; taken = taken }

  -- the seat that may put has the list of all that was put, the seat that may take the list of all that was taken
  abbrev pub Fits : ℕ → ℕ → List T → List T → ℕ → Log T → Type 0
  Fits putter taker put taken seat v = (v.puts ≡ true → (seat ≡ putter) × (v.put ≡ put)) × (v.takes ≡ true → (seat ≡ taker) × (v.taken ≡ taken))

  -- what was put is what was taken, followed by what the queue holds; at most one seat may put, and at most one may take
  abbrev pub Carried : List T → List (Log T) → Type 0
  Carried items seats =
      (putter : ℕ) × (taker : ℕ) × (put : List T) × (taken : List T) × (put ≡ taken ++ items)
      × ((seat : ℕ) (v : Log T) → get_elem? seats seat ≡ some v → Fits putter taker put taken seat v)

  abbrev pub StartsWith : List T → List T → Type 0
  StartsWith all front = (rest : List T) × (all ≡ front ++ rest)

  -- what a seat knows
  abbrev pub known : Pass T (Log T) → Log T
  known p = view p
