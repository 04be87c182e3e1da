-- Sets of places, a bit for each.
use Rattle.std.specs.Prelude.{ℕ, ◌/◌, ◌%◌, ◌==◌, Bool, slice_index_or}
use Rattle.std.specs.Int.{bit_at}
use Rattle.rib_tables.specs.declared.place_set.PlaceSet.{PlaceSet}

-- the place is in the set
unfoldable pub has : PlaceSet → ℕ → Bool
has s place = bit_at (slice_index_or s.words (place / 64) 0) (place % 64) == 1
