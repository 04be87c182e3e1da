-- the answer is that of what is left, and the paths passed are told of
use Rattle.std.proofs.Common.{◌≡◌, ◌+◌, ◌≤◌, ◌++◌, ◌&&◌, length, map, take}
use Rattle.net_text.specs.Lexing.{words_of}
use Rattle.net_text.specs.Words.{path_of, rule_path_words}
use Rattle.net_text.specs.Lines.{are_short}
use Rattle.net_text.specs.Taking.{digest}
use Rattle.net_text.proofs.paths.judge_rule_paths.Given as goal

abbrev pub invariant-words : goal.invariant-words
invariant-words l = record {
  judged : rule_path_words l.width l.net.routers l.asn (words_of l.words) ≡ rule_path_words l.width l.net.routers l.asn (words_of l.left);
  room : length l.digests ≡ 32;
  counted : l.count + length (words_of l.left) ≡ length (words_of l.words);
  inside : l.count + length l.left ≤ length l.words;
  short : are_short (map path_of (words_of l.words)) ≡ (l.are_short && are_short (map path_of (words_of l.left)));
  whole : length (words_of l.words) ≤ 32 → map (λ w. digest (path_of w)) (words_of l.words) ≡ take l.count l.digests ++ map (λ w. digest (path_of w)) (words_of l.left);
}

abbrev pub decreases-words : goal.decreases-words
decreases-words l = length l.left
