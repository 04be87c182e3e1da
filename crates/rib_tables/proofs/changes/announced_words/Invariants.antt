-- so many words, all the announced one
use Rattle.std.proofs.Common.{◌≡◌, length}
use Rattle.std.specs.List.{All}
use Rattle.rib_tables.specs.Words.{announced_word}
use Rattle.rib_tables.proofs.changes.announced_words.Given as goal

abbrev pub invariant-loop : goal.invariant-loop
invariant-loop l = record {
  len : length l.words.items ≡ l.counter;
  same : All (λ word. word ≡ announced_word l.update.attrs) l.words.items;
}
