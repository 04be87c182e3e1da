-- the paths passed are there, and there is room for those left where there was for all
use Rattle.std.proofs.Common.{◌≡◌, ◌≤◌, ◌+◌, ◌++◌, length, map}
use Rattle.std.specs.Prelude.{vec_len, vec_capacity}
use Rattle.net_text.specs.Lexing.{words_of}
use Rattle.net_text.specs.Words.{path_of}
use Rattle.net_text.specs.Repeating.{path_in}
use Rattle.net_text.proofs.repeats.gather.Given as goal

abbrev pub invariant-words : goal.invariant-words
invariant-words l = record {
  paths : map path_of (words_of l.words) ≡ map path_in l.room.items ++ map path_of (words_of l.left);
  room : length (words_of l.words) ≤ vec_capacity l.fn.room → vec_len l.room + length (words_of l.left) ≤ vec_capacity l.room;
}

abbrev pub decreases-words : goal.decreases-words
decreases-words l = length l.left
