-- The places of the paths of a row that have a key in common, the last first. A place stands in a chain as the place and 1.
use Rattle.std.specs.Prelude.{ℕ, ◌≡◌, ◌<◌, ◌≤◌, ◌+◌, ◌%◌, List, [], length, slice_index, slice_index_or}
use Rattle.wheel_search.specs.declared.chain.TheConstants.{KEYS}
use Rattle.wheel_search.specs.declared.row.Row.{Row}
use Rattle.wheel_search.specs.Rows.{paths_of}

-- the key of a path: of its length, and of its second router, if there is one
abbrev pub path_key : List ℕ → ℕ
path_key path = length path % 16 + slice_index path 1 % 16

abbrev pub key_at : List (List ℕ) → ℕ → ℕ
key_at paths place = path_key (slice_index_or paths place [])

-- the last of the places below a top whose path has the key, or 0 if there is none
pub record IsLast (paths : List (List ℕ)) (key top last : ℕ) : Type 0 where
  pub low : last ≤ top
  pub own : (place : ℕ) → last ≡ place + 1 → key_at paths place ≡ key
  pub none : (place : ℕ) → last ≤ place → place < top → key_at paths place ≡ key → ⊥

-- at each key its last place, and then at each place the last one below it with its key
pub record IsChain (paths : List (List ℕ)) (chain : List ℕ) : Type 0 where
  pub size : length chain ≡ KEYS + length paths
  pub first : (key : ℕ) → key < KEYS → IsLast paths key (length paths) (slice_index chain key)
  pub next : (place : ℕ) → place < length paths → IsLast paths (key_at paths place) place (slice_index chain (KEYS + place))

-- the chains of each row
pub record AreChains (rows : List Row) (chains : List (List ℕ)) : Type 0 where
  pub size : length chains ≡ length rows
  pub each : (row : ℕ) (d : Row) → row < length rows → IsChain (paths_of (slice_index_or rows row d)) (slice_index_or chains row [])
