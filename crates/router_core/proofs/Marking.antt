-- Peers that change one after the other.
use Rattle.std.proofs.Common.{◌≡◌, ℕ, zero, suc, ◌<◌, ◌≤◌, List, [], ◌∷◌, ◌++◌, ◌+◌, length, drop, refl, ap, sym, subst, ◌∙◌, arith, get_or, set}
use Rattle.std.specs.Prelude.{take}
use Rattle.std.proofs.lemmas.List.{take_at}
use Rattle.router_model.specs.Sides.{Side}
use Rattle.router_side.specs.SideOf.{side, HasRoomToMark}
use Rattle.router_core.specs.declared.peers.Peer.{Peer}
use Rattle.router_core.specs.Recorded.{Become, HaveRoomToMark}

-- the first peers have changed, the others are as they were
abbrev pub Passed : (Side → Side) → ℕ → List Peer → List Peer → Type 0
Passed f zero ps qs = qs ≡ ps
Passed f (suc i) [] [] = Unit {0}
Passed f (suc i) (p ∷ ps) (q ∷ qs) = (q.number ≡ p.number) × (side q.side ≡ f (side p.side)) × Passed f i ps qs
Passed f (suc i) [] (q ∷ qs) = ⊥
Passed f (suc i) (p ∷ ps) [] = ⊥

pub passed_on : (f : Side → Side) (i : ℕ) (ps qs : List Peer) (d q : Peer) → Passed f i ps qs → i < length qs → q.number ≡ (get_or qs i d).number → side q.side ≡ f (side (get_or qs i d).side)
    → Passed f (suc i) ps (set qs i q)
passed_on f i ps [] d q h l n s = absurd (omega (arith, l))
passed_on f zero [] (r ∷ qs) d q h l n s = absurd cc
passed_on f zero (p ∷ ps) (r ∷ qs) d q h l n s = (n ∙ ap (λ (xs : List Peer). (get_or xs 0 d).number) h, s ∙ ap (λ (xs : List Peer). f (side (get_or xs 0 d).side)) h, ap (drop 1) h)
passed_on f (suc i) [] (r ∷ qs) d q h l n s = absurd h
passed_on f (suc i) (p ∷ ps) (r ∷ qs) d q h l n s = (h.0, h.1, passed_on f i ps qs d q h.2 (omega (arith, l)) n s)

pub same_become : (ps : List Peer) → Become (λ s. s) ps ps
same_become [] = tt
same_become (p ∷ ps) = (refl, refl, same_become ps)

pub passed_all : (f : Side → Side) (i : ℕ) (ps qs : List Peer) → Passed f i ps qs → length qs ≤ i → Become f ps qs
passed_all f zero [] [] h l = tt
passed_all f zero [] (q ∷ qs) h l = absurd (omega (arith, l))
passed_all f zero (p ∷ ps) [] h l = absurd cc
passed_all f zero (p ∷ ps) (q ∷ qs) h l = absurd (omega (arith, l))
passed_all f (suc i) [] [] h l = tt
passed_all f (suc i) [] (q ∷ qs) h l = absurd h
passed_all f (suc i) (p ∷ ps) [] h l = absurd h
passed_all f (suc i) (p ∷ ps) (q ∷ qs) h l = (h.0, h.1, passed_all f i ps qs h.2 (omega (arith, l)))

-- where nothing of them changes
pub passed_same : (i : ℕ) (ps qs : List Peer) → Passed (λ s. s) i ps qs → Become (λ s. s) ps qs
passed_same zero ps qs h = rw h (same_become ps)
passed_same (suc i) [] [] h = tt
passed_same (suc i) [] (q ∷ qs) h = absurd h
passed_same (suc i) (p ∷ ps) [] h = absurd h
passed_same (suc i) (p ∷ ps) (q ∷ qs) h = (h.0, h.1, passed_same i ps qs h.2)

-- they are as many as before
become_many : (f : Side → Side) (ps qs : List Peer) → Become f ps qs → length qs ≡ length ps
become_many f [] [] h = refl
become_many f [] (q ∷ qs) h = absurd h
become_many f (p ∷ ps) [] h = absurd h
become_many f (p ∷ ps) (q ∷ qs) h = ap suc (become_many f ps qs h.2)

-- what a Vec of n peers holds behind a loop over them
pub written_back : (P : List Peer → Type 0) (f : Side → Side) (ps qs : List Peer) (n : ℕ) → n ≡ length ps → Become f ps qs → P qs → P (take n (qs ++ drop (length qs) ps))
written_back P f ps qs n many b h = subst P (sym (take_at qs (drop (length qs) ps) n (become_many f ps qs b ∙ sym many))) h

-- the first peers have room for a marker; all but the first have
abbrev pub RoomBelow : ℕ → List Peer → Type 0
RoomBelow zero ps = Unit {0}
RoomBelow (suc i) [] = Unit {0}
RoomBelow (suc i) (p ∷ ps) = HasRoomToMark p.side × RoomBelow i ps

abbrev pub RoomFrom : ℕ → List Peer → Type 0
RoomFrom zero ps = HaveRoomToMark ps
RoomFrom (suc i) [] = Unit {0}
RoomFrom (suc i) (p ∷ ps) = RoomFrom i ps

pub room_more : (i : ℕ) (ps : List Peer) (q : Peer) → RoomBelow i ps → HasRoomToMark q.side → RoomBelow (suc i) (set ps i q)
room_more i [] q h r = tt
room_more zero (p ∷ ps) q h r = (r, tt)
room_more (suc i) (p ∷ ps) q h r = (h.0, room_more i ps q h.1 r)

pub room_all : (i : ℕ) (ps : List Peer) → RoomBelow i ps → length ps ≤ i → HaveRoomToMark ps
room_all i [] h l = tt
room_all zero (p ∷ ps) h l = absurd (omega (arith, l))
room_all (suc i) (p ∷ ps) h l = (h.0, room_all i ps h.1 (omega (arith, l)))

pub room_here : (i : ℕ) (ps : List Peer) (d : Peer) → RoomFrom i ps → i < length ps → HasRoomToMark (get_or ps i d).side
room_here i [] d h l = absurd (omega (arith, l))
room_here zero (p ∷ ps) d h l = h.0
room_here (suc i) (p ∷ ps) d h l = room_here i ps d h (omega (arith, l))

pub room_behind : (i : ℕ) (ps : List Peer) (q : Peer) → RoomFrom i ps → RoomFrom (suc i) (set ps i q)
room_behind i [] q h = tt
room_behind zero (p ∷ ps) q h = h.1
room_behind (suc i) (p ∷ ps) q h = room_behind i ps q h

-- the same, at the index of the next round of a loop

next : (i : ℕ) → i + 1 ≡ suc i
next i = omega arith

pub passed_next : (f : Side → Side) (i : ℕ) (ps qs : List Peer) (d q : Peer) → Passed f i ps qs → i < length qs → q.number ≡ (get_or qs i d).number → side q.side ≡ f (side (get_or qs i d).side)
    → Passed f (i + 1) ps (set qs i q)
passed_next f i ps qs d q h l n s = subst (λ (k : ℕ). Passed f k ps (set qs i q)) (sym (next i)) (passed_on f i ps qs d q h l n s)

pub room_next : (i : ℕ) (ps : List Peer) (q : Peer) → RoomBelow i ps → HasRoomToMark q.side → RoomBelow (i + 1) (set ps i q)
room_next i ps q h r = subst (λ (k : ℕ). RoomBelow k (set ps i q)) (sym (next i)) (room_more i ps q h r)

pub room_left : (i : ℕ) (ps : List Peer) (q : Peer) → RoomFrom i ps → RoomFrom (i + 1) (set ps i q)
room_left i ps q h = subst (λ (k : ℕ). RoomFrom k (set ps i q)) (sym (next i)) (room_behind i ps q h)
