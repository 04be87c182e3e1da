-- what is wanted is in the rows that are left
use Rattle.std.proofs.Common.{◌≡◌, drop, map}
use Rattle.error_words.specs.Tables.{row_of, near_in}
use Rattle.error_words.proofs.tables.near_in.Given as goal

abbrev pub invariant-loop-row : goal.invariant-loop-row
invariant-loop-row l = near_in (map row_of (drop l.row-index l.rows)) l.word ≡ near_in (map row_of l.rows) l.word
