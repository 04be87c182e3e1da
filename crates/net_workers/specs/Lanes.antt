-- The ends of pipes that a worker holds, by peer.
use Rattle.std.specs.Prelude.{ℕ, zero, suc, ◌≡◌, ◌≢◌, ◌<◌, ◌==◌, Bool, true, false, cond, List, [], ◌∷◌, length, map, slice_get, Some}
use Rattle.std.specs.List.{AllByRecursion, position}
use Rattle.std.specs.Option.{unwrap_or}
use Rattle.outbox.specs.declared.item.Item.{Item}
use Rattle.ruled_pipe.specs.Ends.{TableId}
use Rattle.net_workers.specs.declared.worker_pipes.PipePair.{PipePair}
use Rattle.net_workers.specs.declared.worker_pipes.WorkerPipes.{WorkerPipes}

abbrev pub is_to : ℕ → PipePair → Bool
is_to v l = l.peer == v

-- what the first pair to a peer has, or `none` if no pair leads to it
abbrev pub lane_has : {B : Type 0} → (PipePair → B) → B → List PipePair → ℕ → B
lane_has what none [] v = none
lane_has what none (l ∷ ls) v = cond (is_to v l) (what l) (lane_has what none ls v)

-- the items put towards each peer and taken from it, and the most items that the pipe to it holds
abbrev pub put_of : List PipePair → ℕ → List Item
put_of pairs = lane_has (λ l. l.out.items) [] pairs

abbrev pub taken_of : List PipePair → ℕ → List Item
taken_of pairs = lane_has (λ l. l.into.items) [] pairs

abbrev pub room_of : List PipePair → ℕ → ℕ
room_of pairs = lane_has (λ l. l.out.room) 0 pairs

abbrev pub reaches : List PipePair → ℕ → Bool
reaches pairs = lane_has (λ l. true) false pairs

-- the pipes of a pair
pub record Wire : Type 0 where
  pub peer : ℕ
  pub out : TableId
  pub room : ℕ
  pub into : TableId

abbrev pub wire_of : PipePair → Wire
wire_of l = record { peer = l.peer; out = l.out.pipe; room = l.out.room; into = l.into.pipe }

abbrev pub wires_of : WorkerPipes → List Wire
wires_of e = map wire_of e.pairs.items

-- the pipes of a worker, and where the pair to each peer stands among the pairs
pub record Wiring : Type 0 where
  pub wires : List Wire
  pub order : List ℕ

abbrev pub wiring_of : WorkerPipes → Wiring
wiring_of e = record { wires = wires_of e; order = e.order.items }

-- where the first that passes stands; behind all, if there is none
abbrev pub place_among : {X : Type 0} → (X → Bool) → List X → ℕ
place_among p xs = unwrap_or (position p xs) (length xs)

-- the order says at this place where the pair to v stands
abbrev pub stands_at : Wiring → ℕ → ℕ → Type 0
stands_at w place v = slice_get w.order place ≡ Some (place_among (λ wire. wire.peer == v) w.wires)

-- the first pair to that peer stands at that place
abbrev pub IsAt : List PipePair → ℕ → ℕ → Type 0
IsAt [] v i = ⊥
IsAt (l ∷ ls) v zero = l.peer ≡ v
IsAt (l ∷ ls) v (suc i) = (l.peer ≢ v) × IsAt ls v i

abbrev pub IsFound : List PipePair → ℕ → ℕ → Type 0
IsFound pairs v i = (i < length pairs) × IsAt pairs v i

-- a pair over which nothing passed yet
pub record IsNew (l : PipePair) : Type 0 where
  pub put : l.out.items ≡ []
  pub taken : l.into.items ≡ []

abbrev pub AreNew : WorkerPipes → Type 0
AreNew e = AllByRecursion IsNew e.pairs.items
