-- The pipes that the workers hold the ends of: two for each link, one in each direction.
use Rattle.std.specs.Prelude.{ℕ, zero, suc, ◌≡◌, ◌≢◌, ◌==◌, cond, List, [], ◌∷◌, ◌++◌, map}
use Rattle.ranked_policy.specs.Plans.{Plan, numbers}
use Rattle.ranked_policy.specs.declared.network.Link.{Link}
use Rattle.ruled_pipe.specs.Ends.{TableId}
use Rattle.net_workers.specs.declared.worker_pipes.PipePair.{PipePair}
use Rattle.net_workers.specs.declared.worker_pipes.WorkerPipes.{WorkerPipes}
use Rattle.net_workers.specs.declared.record.ClosedPipe.{ClosedPipe}
use Rattle.net_workers.specs.Lanes.{Wire, wire_of, put_of, taken_of}
use Rattle.net_workers.specs.Ways.{way_has}

-- ---- pairs by router

abbrev pub lanes_in : List WorkerPipes → List (List PipePair)
lanes_in ends = map (λ e. e.pairs.items) ends

-- the pairs of a router, those of each standing where its number does
abbrev pub lanes_by : List ℕ → List (List PipePair) → ℕ → List PipePair
lanes_by [] ls u = []
lanes_by (n ∷ ns) [] u = []
lanes_by (n ∷ ns) (l ∷ ls) u = cond (n == u) l (lanes_by ns ls u)

-- one pair more, at this place
abbrev pub with_lane : List (List PipePair) → ℕ → PipePair → List (List PipePair)
with_lane [] i pair = []
with_lane (l ∷ ls) zero pair = (l ++ pair ∷ []) ∷ ls
with_lane (l ∷ ls) (suc i) pair = l ∷ with_lane ls i pair

-- the number stands first at that place
abbrev pub IsFirst : List ℕ → ℕ → ℕ → Type 0
IsFirst [] i n = ⊥
IsFirst (m ∷ ms) zero n = m ≡ n
IsFirst (m ∷ ms) (suc i) n = (m ≢ n) × IsFirst ms i n

-- ---- the pipes of links

-- the ends that the routers of a link hold of its pipes
abbrev pub wires_on : (room : ℕ) → Link → (there back : TableId) → ℕ → List Wire
wires_on room link there back u =
    cond (link.one == u) (record { peer = link.other; out = there; room = room; into = back } ∷ [])
    (cond (link.other == u) (record { peer = link.one; out = back; room = room; into = there } ∷ []) [])

-- for each of these links, each of its two routers holds one end of each pipe; no router holds another; the last link
-- was dealt first
abbrev pub Dealt : ℕ → List Link → (ℕ → List Wire) → Type 0
Dealt room [] wires = (u : ℕ) → wires u ≡ []
Dealt room (link ∷ links) wires =
    (before : ℕ → List Wire) × (there : TableId) × (back : TableId) × Dealt room links before × ((u : ℕ) → wires u ≡ before u ++ wires_on room link there back u)

abbrev pub wires_by : List ℕ → List (List PipePair) → ℕ → List Wire
wires_by ns ls u = map wire_of (lanes_by ns ls u)

-- these links of a network are dealt out to its workers
abbrev pub AreDealt : Plan → List Link → List WorkerPipes → Type 0
AreDealt net links ends = Dealt net.settings.pipe links (wires_by (numbers net.routers) (lanes_in ends))

-- ---- one more link

-- each router of a link, at these places, has one pair more: the ends of two pipes over which nothing passed
pub record IsJoined (room : ℕ) (link : Link) (one other : ℕ) (old new : List (List PipePair)) : Type 0 where
  pub here : PipePair
  pub there : PipePair
  pub pairs : new ≡ with_lane (with_lane old one here) other there
  pub to_other : wire_of here ≡ record { peer = link.other; out = here.out.pipe; room = room; into = there.out.pipe }
  pub to_one : wire_of there ≡ record { peer = link.one; out = there.out.pipe; room = room; into = here.out.pipe }

-- ---- closed pipes

-- the ways between routers have what the pairs of each router had
abbrev pub HavePassed : (ℕ → List PipePair) → List ClosedPipe → Type 0
HavePassed pairs ways =
    (u v : ℕ) → (put_of (pairs u) v ≡ way_has (λ w. w.tail.put) [] ways u v) × (taken_of (pairs v) u
    ≡ way_has (λ w. w.tail.taken) [] ways u v)
