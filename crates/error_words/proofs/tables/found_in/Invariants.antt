-- what is wanted is in the rows that are left
use Rattle.std.proofs.Common.{◌≡◌, drop, map}
use Rattle.error_words.specs.Tables.{row_of, found_in}
use Rattle.error_words.proofs.tables.found_in.Given as goal

abbrev pub invariant-loop-row : goal.invariant-loop-row
invariant-loop-row l = found_in (map row_of (drop l.row-index l.rows)) l.word ≡ found_in (map row_of l.rows) l.word
