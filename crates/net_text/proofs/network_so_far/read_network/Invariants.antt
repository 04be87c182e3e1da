-- the lines passed have led to the draft, none of them has a fault, and the line in front is the first of those left
use Rattle.std.proofs.Common.{◌≡◌, ◌+◌, ◌<◌, ◌≤◌, ◌∷◌, length}
use Rattle.net_text.specs.Lexing.{lines_of}
use Rattle.net_text.specs.Networks.{last_line, last_behind}
use Rattle.net_text.proofs.NetworkLemmas.{NetworkReached}
use Rattle.net_text.proofs.network_so_far.read_network.Given as goal

abbrev pub invariant-lines : goal.invariant-lines
invariant-lines l =
    record {
      reached : NetworkReached (lines_of l.text) l.line l.draft (lines_of l.left);
      last : last_line (lines_of l.text) ≡ last_behind l.last l.line (lines_of l.left);
      ahead : 0 < length l.left → lines_of l.left ≡ l.front ∷ lines_of l.rest;
      shorter : 0 < length l.left → length l.rest < length l.left;
      inside : l.line + length l.left ≤ length l.text;
    }

abbrev pub decreases-lines : goal.decreases-lines
decreases-lines l = length l.left
