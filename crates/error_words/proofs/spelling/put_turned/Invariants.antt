-- what is done, what is begun and what is left make the whole
use Rattle.std.proofs.Common.{◌≡◌, drop}
use Rattle.error_words.specs.Spelling.{turned_onto, turned}
use Rattle.error_words.proofs.spelling.put_turned.Given as goal

abbrev pub invariant-loop-x : goal.invariant-loop-x
invariant-loop-x l =
    record {
      whole : turned_onto l.done.items l.begun.items (drop l.x-index l.word) ≡ turned l.word;
      out : l.out.items ≡ l.fn.out.items;
    }
