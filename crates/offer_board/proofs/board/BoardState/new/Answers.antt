use Rattle.offer_board.proofs.Boards.{first_board}
use Rattle.offer_board.proofs.board.BoardState.new.Goals as goal

pub invariant_of-result : goal.invariant_of-result
invariant_of-result c = first_board c.nothing_is_kept.ensures _ _ c.in_ok-new.ensures.nothing c.new-2.ensures.items
