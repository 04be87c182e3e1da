-- What contracts see of the ends of a pipe, and of a closed one.
use Rattle.std.specs.Prelude.{ℕ, List, [], ◌∷◌, ◌++◌, length, drop}
pub use Rattle.atomic_table.specs.Seated.{TableId, table_id_coded}

-- one end: its pipe, the most items that the pipe holds, and the items that this end put, or took, oldest first
pub record End (T : Type 0) : Type 0 where
  pub pipe : TableId
  pub room : ℕ
  pub items : List T

-- a closed pipe: what was put into it, and what was taken out of it, after it was closed too
pub record Closed (T : Type 0) : Type 0 where
  pub pipe : TableId
  pub room : ℕ
  pub put : List T
  pub taken : List T

module _ {T : Type 0} where
  abbrev pub end_at : TableId → ℕ → List T → End T
  end_at pipe room items = record { pipe = pipe; room = room; items = items }

  -- an end with one more item
  abbrev pub with_item : End T → T → End T
  with_item end item = end_at end.pipe end.room (end.items ++ item ∷ [])

  abbrev pub closed_at : TableId → ℕ → List T → List T → Closed T
  closed_at pipe room put taken = record { pipe = pipe; room = room; put = put; taken = taken }

  -- a closed pipe out of which one more item was taken
  abbrev pub with_taken : Closed T → T → Closed T
  with_taken pipe item = closed_at pipe.pipe pipe.room pipe.put (pipe.taken ++ item ∷ [])

  -- what was put and not taken, oldest first
  abbrev pub left : Closed T → List T
  left pipe = drop (length pipe.taken) pipe.put
