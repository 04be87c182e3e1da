-- the prefixes passed are announced, and a word is left for each other
use Rattle.std.proofs.Common.{◌≡◌, ◌+◌, take, map, length}
use Rattle.std.specs.List.{All}
use Rattle.rib_tables.specs.Words.{announced_word}
use Rattle.rib_tables.specs.Rows.{StaysDecided, hearing_all}
use Rattle.rib_tables.proofs.changes.hear_announced.Given as goal

abbrev pub invariant-loop-prefix : goal.invariant-loop-prefix
invariant-loop-prefix l = record {
  rows : l.rows.items ≡ map (hearing_all (take l.prefix-index l.prefix-items) l.by.peer (announced_word l.update.attrs)) l.fn.rows.items;
  dirty : StaysDecided l.by.router l.fn.rows.items l.rows.items l.fn.dirty l.dirty;
  len : length l.words.items + l.prefix-index ≡ length l.prefix-items;
  same : All (λ one. one ≡ announced_word l.update.attrs) l.words.items;
}
