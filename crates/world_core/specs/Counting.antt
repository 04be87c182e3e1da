-- How often something was done in each direction, and which events come first by these counts.
use Rattle.std.specs.Prelude.{ℕ, ◌≡◌, Bool, List, [], ◌∷◌, ◌++◌, Result, IfOk}
use Rattle.std.specs.Option.{unwrap_or}
use Rattle.std.specs.declared.cmp.Ordering.{Ordering}
use Rattle.std.specs.Ordering.{nat_cmp, ordering_then}
use Rattle.std.specs.BTreeMap.{get}
use Rattle.world_core.specs.declared.counts.Counts.{Counts}
use Rattle.world_core.specs.declared.schedule.Event.{Event}
use Rattle.world_core.specs.Picking.{puts_by, goes_first}

-- directions, by the router that they lead from, then by the one that they lead to
abbrev pub by_ends : ℕ × ℕ → ℕ × ℕ → Ordering
by_ends x y = ordering_then (nat_cmp x.0 y.0) (nat_cmp x.1 y.1)

abbrev pub count_of : Counts → ℕ → ℕ → ℕ
count_of c u v = unwrap_or (get by_ends c.counts (u, v)) 0

-- the counts are of the puts among these events
abbrev pub CountsPuts : Counts → List Event → Type 0
CountsPuts c es = (u v : ℕ) → count_of c u v ≡ puts_by u v es

-- whether an event comes first behind others, whose puts are counted; its own put is counted too
abbrev pub TellsFirst : {E : Type 0} → Result Bool E → Counts → Counts → Bool → Event → Counts → Type 0
TellsFirst r needed put b e put_after =
    (es : List Event) → CountsPuts put es → IfOk r (λ first. (first ≡ goes_first (count_of needed) es b e) × CountsPuts put_after (es ++ e ∷ []))
