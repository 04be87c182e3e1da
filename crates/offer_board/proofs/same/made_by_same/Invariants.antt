-- the router's offers among those that were read are the first of its own
use Rattle.std.proofs.Common.{◌≡◌, ◌≤◌, ◌==◌, length, take, map, filter}
use Rattle.offer_board.specs.Boards.{collected}
use Rattle.offer_board.proofs.same.made_by_same.Given as goal

abbrev pub invariant-loop-made : goal.invariant-loop-made
invariant-loop-made l = record {
  below : l.next ≤ length l.own;
  same : filter (λ o. o.router == l.router) (map collected (take l.made-index l.all)) ≡ map collected (take l.next l.own);
}
