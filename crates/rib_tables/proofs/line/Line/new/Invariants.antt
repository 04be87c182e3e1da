-- so many words, none of which says anything
use Rattle.std.proofs.Common.{◌≡◌, length}
use Rattle.std.specs.List.{All}
use Rattle.rib_tables.specs.Words.{nothing}
use Rattle.rib_tables.proofs.line.Line.new.Given as goal

abbrev pub invariant-loop : goal.invariant-loop
invariant-loop l = record {
  len : length l.words.items ≡ l.counter;
  silent : All (λ word. word ≡ nothing) l.words.items;
}
