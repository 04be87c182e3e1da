-- How a worker takes the answer of the board.
use Rattle.std.specs.Prelude.{ℕ, ◌≡◌, List, Result, Ok, Err}
use Rattle.snap_marker.specs.declared.part.Offer.{Offer}
use Rattle.snap_collector.specs.declared.answer.Taken.{Taken}
use Rattle.snap_collector.specs.declared.answer.CollectError.{CollectError}
use Rattle.snap_collector.specs.declared.answer.CollectError.TheVariants as refusal
use Rattle.snap_collector.specs.Collecting.{made_by}
use Rattle.offer_board.specs.declared.board.Made.{Made}
use Rattle.offer_board.specs.Boards.{BoardView, Offers, collected_in}
use Rattle.worker_loop.specs.Acts.{with_offer}
use Rattle.worker_loop.specs.declared.worker.WorkerFault.{WorkerFault}
use Rattle.worker_loop.specs.declared.worker.WorkerFault.TheVariants as worker

-- why a worker ends if its offer was refused: want of memory stays that, and every other reason is a refusal
abbrev pub ended_by : CollectError → WorkerFault
ended_by refusal.Memory = worker.Memory
ended_by (refusal.Stranger u) = worker.Refused
ended_by (refusal.Twice u) = worker.Refused
ended_by refusal.StampEnd = worker.Refused

abbrev pub told_by : Result (Taken × ℕ) CollectError → Result ℕ WorkerFault
told_by (Ok answer) = Ok answer.1
told_by (Err why) = Err (ended_by why)

-- the board gave this answer, and went from x to y
abbrev pub OffersAt : BoardView → BoardView → ℕ → Offer → Result ℕ WorkerFault → Type 0
OffersAt x y stamp o r = (answer : Result (Taken × ℕ) CollectError) × Offers x y stamp o answer × (r ≡ told_by answer)

-- of these offers that a worker made, one is now the last, with its stamp
abbrev pub HasMade : List Made → Offer → List Made → ℕ → Type 0
HasMade made o more at = collected_in more ≡ with_offer (collected_in made) at (made_by o)
