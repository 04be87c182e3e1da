-- The list of peers as a function of numbers: where a number stands, and what a change of the peer at its place makes of it.
use Rattle.std.proofs.Common.{◌≡◌, ℕ, zero, suc, ◌+◌, ◌<◌, ◌≤◌, ◌==◌, Bool, true, false, cond, not, List, [], ◌∷◌, length, map, filter, ◌||◌, Option, None, Some, refl, ap, sym, ◌∙◌, arith, subst, get_or, set}
use Rattle.std.specs.Prelude.{nat_lt, nat_eq, MatchOption, IsSome}
use Rattle.std.proofs.Math.Path.{fun_ext}
use Rattle.std.specs.List.{position, position_or_len, list_any, AllByRecursion}
use Rattle.std.proofs.lemmas.Bool.{eqb-true, eqb-false, eq-eqb, ne_eqb}
use Rattle.std.proofs.lemmas.Bool.Decides.{nat_tests}
use Rattle.router_core.specs.declared.peers.Peer.{Peer}
use Rattle.router_model.specs.Sides.{Side}
use Rattle.router_side.specs.SideOf.{side}
use Rattle.ranked_policy.specs.Plans.{Plan, IsNetwork, numbers}
use Rattle.router_model.specs.Settings.{linked, peers}
use Rattle.router_model.specs.Laws.{LinkedRoutersArePeers}
use Rattle.router_core.specs.Views.{is_number, side_at, listed, IsAt, IsFound}

at_head : (b : Bool) (p : Peer) (ps : List Peer) (v k : ℕ) → (p.number == v) ≡ b → (k < length ps → IsAt ps v k)
    → cond (not b) (1 + k) 0 < length (p ∷ ps) → IsAt (p ∷ ps) v (cond (not b) (1 + k) 0)
at_head true p ps v k e rest h = eqb-true p.number v e
at_head false p ps v k e rest h =
    let one : suc k ≡ 1 + k = omega arith in
    subst (λ n. IsAt (p ∷ ps) v n) one (eqb-false p.number v e, rest (omega arith))

at_first : (ps : List Peer) (v : ℕ) → position_or_len (is_number v) ps < length ps → IsAt ps v (position_or_len (is_number v) ps)
at_first [] v h = absurd (omega arith)
at_first (p ∷ ps) v h = at_head (p.number == v) p ps v (position_or_len (is_number v) ps) refl (at_first ps v) h

none_head : (b : Bool) (p : Peer) (ps : List Peer) (v k : ℕ) → (p.number == v) ≡ b → (length ps ≤ k → listed v ps ≡ false)
    → length (p ∷ ps) ≤ cond (not b) (1 + k) 0 → listed v (p ∷ ps) ≡ false
none_head true p ps v k e rest h = absurd (omega arith)
none_head false p ps v k e rest h = rw e (rest (omega arith))

none_first : (ps : List Peer) (v : ℕ) → length ps ≤ position_or_len (is_number v) ps → listed v ps ≡ false
none_first [] v h = refl
none_first (p ∷ ps) v h = none_head (p.number == v) p ps v (position_or_len (is_number v) ps) refl (none_first ps v) h

pub is_below : (ps : List Peer) (v i : ℕ) → IsAt ps v i → i < length ps
is_below [] v i h = absurd h
is_below (p ∷ ps) v zero h = omega arith
is_below (p ∷ ps) v (suc i) h = let l = is_below ps v i h.1 in omega arith

pub is_listed : (ps : List Peer) (v i : ℕ) → IsAt ps v i → listed v ps ≡ true
is_listed [] v i h = absurd h
is_listed (p ∷ ps) v zero h = rw (eq-eqb p.number v h) refl
is_listed (p ∷ ps) v (suc i) h = rw (ne_eqb p.number v h.0) (is_listed ps v i h.1)

seek_by : (b : Bool) (ps : List Peer) (v : ℕ) → nat_lt (position_or_len (is_number v) ps) (length ps) ≡ b
    → MatchOption (cond b (Some (position_or_len (is_number v) ps)) None) (listed v ps ≡ false) (IsFound ps v)
seek_by true ps v e =
    let at = at_first ps v (grind (arith, nat_tests, e)) in
    (is_below ps v (position_or_len (is_number v) ps) at, is_listed ps v (position_or_len (is_number v) ps) at, at)
seek_by false ps v e = none_first ps v (grind (arith, nat_tests, e))

-- where it is found, it stands at that place; else it isn't listed
pub seek : (ps : List Peer) (v : ℕ) → MatchOption (position (is_number v) ps) (listed v ps ≡ false) (IsFound ps v)
seek ps v = seek_by (nat_lt (position_or_len (is_number v) ps) (length ps)) ps v refl

pub side_here : (none : Side) (ps : List Peer) (v i : ℕ) (d : Peer) → IsAt ps v i → side_at none ps v ≡ side (get_or ps i d).side
side_here none [] v i d h = absurd h
side_here none (p ∷ ps) v zero d h = rw (eq-eqb p.number v h) refl
side_here none (p ∷ ps) v (suc i) d h = rw (ne_eqb p.number v h.0) (side_here none ps v i d h.1)

pub number_here : (ps : List Peer) (v i : ℕ) (d : Peer) → IsAt ps v i → (get_or ps i d).number ≡ v
number_here [] v i d h = absurd h
number_here (p ∷ ps) v zero d h = h
number_here (p ∷ ps) v (suc i) d h = number_here ps v i d h.1

pub listed_set : (ps : List Peer) (v i : ℕ) (q : Peer) → IsAt ps v i → q.number ≡ v → (y : ℕ) → listed y (set ps i q) ≡ listed y ps
listed_set [] v i q h e y = absurd h
listed_set (p ∷ ps) v zero q h e y = ap (λ (n : ℕ). cond (n == y) true (listed y ps)) (e ∙ sym h)
listed_set (p ∷ ps) v (suc i) q h e y = ap (λ (b : Bool). cond (p.number == y) true b) (listed_set ps v i q h.1 e y)

pub numbers_set : (ps : List Peer) (v i : ℕ) (q : Peer) → IsAt ps v i → q.number ≡ v → map (λ p. p.number) (set ps i q) ≡ map (λ p. p.number) ps
numbers_set [] v i q h e = absurd h
numbers_set (p ∷ ps) v zero q h e = ap (λ (n : ℕ). n ∷ map (λ (w : Peer). w.number) ps) (e ∙ sym h)
numbers_set (p ∷ ps) v (suc i) q h e = ap (λ (ns : List ℕ). p.number ∷ ns) (numbers_set ps v i q h.1 e)

-- at the number it is the new side, elsewhere what it was
pub set_here : (none : Side) (ps : List Peer) (v i : ℕ) (q : Peer) → IsAt ps v i → q.number ≡ v → side_at none (set ps i q) v ≡ side q.side
set_here none [] v i q h e = absurd h
set_here none (p ∷ ps) v zero q h e = rw (eq-eqb q.number v e) refl
set_here none (p ∷ ps) v (suc i) q h e = rw (ne_eqb p.number v h.0) (set_here none ps v i q h.1 e)

pub set_there : (none : Side) (ps : List Peer) (v i : ℕ) (q : Peer) (y : ℕ) → IsAt ps v i → q.number ≡ v → (y ≡ v → ⊥) → side_at none (set ps i q) y ≡ side_at none ps y
set_there none [] v i q y h e n = absurd h
set_there none (p ∷ ps) v zero q y h e n = rw (ne_eqb q.number y (λ k. n (sym k ∙ e)), ne_eqb p.number y (λ k. n (sym k ∙ h))) refl
set_there none (p ∷ ps) v (suc i) q y h e n = ap (λ (s : Side). cond (p.number == y) (side p.side) s) (set_there none ps v i q y h.1 e n)

abbrev pub changed : (ℕ → Side) → ℕ → (Side → Side) → ℕ → Side
changed sides v f = λ y. cond (y == v) (f (sides y)) (sides y)

changed_at : (none : Side) (ps : List Peer) (v i : ℕ) (q : Peer) (f : Side → Side) → IsAt ps v i → q.number ≡ v → side q.side ≡ f (side_at none ps v)
    → (y : ℕ) (b : Bool) → (y == v) ≡ b → side_at none (set ps i q) y ≡ cond b (f (side_at none ps y)) (side_at none ps y)
changed_at none ps v i q f h e is y true t =
    let same : y ≡ v = eqb-true y v t in
    ap (λ (n : ℕ). side_at none (set ps i q) n) same ∙ set_here none ps v i q h e ∙ is ∙ ap (λ (n : ℕ). f (side_at none ps n)) (sym same)
changed_at none ps v i q f h e is y false t = set_there none ps v i q y h e (eqb-false y v t)

pub sides_set : (none : Side) (ps : List Peer) (v i : ℕ) (q : Peer) (f : Side → Side) → IsAt ps v i → q.number ≡ v → side q.side ≡ f (side_at none ps v)
    → side_at none (set ps i q) ≡ changed (side_at none ps) v f
sides_set none ps v i q f h e is = fun_ext (λ y. changed_at none ps v i q f h e is y (y == v) refl)

same_by : (b : Bool) (s : Side) → cond b s s ≡ s
same_by true s = refl
same_by false s = refl

pub unchanged : (sides : ℕ → Side) (v : ℕ) → changed sides v (λ s. s) ≡ sides
unchanged sides v = fun_ext (λ y. same_by (y == v) (sides y))

pub found_at : (ps : List Peer) (v : ℕ) (r : Option ℕ) → r ≡ position (is_number v) ps → MatchOption r (listed v ps ≡ false) (IsFound ps v)
found_at ps v r is = rw is (seek ps v)

pub found_linked : (ps : List Peer) (v : ℕ) (r : Option ℕ) (b : Bool) → listed v ps ≡ b → MatchOption r (listed v ps ≡ false) (IsFound ps v) → MatchOption r (b ≡ false) (λ at. b ≡ true)
found_linked ps v None b e h = sym e ∙ h
found_linked ps v (Some i) b e h = sym e ∙ h.1

-- a peer that is listed is found
pub found_some : (ps : List Peer) (v : ℕ) (r : Option ℕ) → MatchOption r (listed v ps ≡ false) (IsFound ps v) → listed v ps ≡ true → IsSome r
found_some ps v None h l = absurd cc
found_some ps v (Some i) h l = refl

-- two looks at one place see one peer
pub here_same : (ps : List Peer) (v i : ℕ) (d e : Peer) → IsAt ps v i → get_or ps i d ≡ get_or ps i e
here_same [] v i d e h = absurd h
here_same (p ∷ ps) v zero d e h = refl
here_same (p ∷ ps) v (suc i) d e h = here_same ps v i d e h.1

-- ---- the peers as they are made

-- a side that is that of no peer, wherever it is looked at
pub all_none : (none : Side) (ps : List Peer) (v : ℕ) → AllByRecursion (λ p. side p.side ≡ none) ps → side_at none ps v ≡ none
all_none none [] v h = refl
all_none none (p ∷ ps) v h = rw (h.0, all_none none ps v h.1) (same_by (p.number == v) none)

or_cond : (b c : Bool) → cond b true c ≡ (b || c)
or_cond true c = refl
or_cond false c = refl

turned : (a b : ℕ) → (a == b) ≡ nat_eq b a
turned a b = grind (arith, nat_tests)

pub listed_any : (v : ℕ) (ps : List Peer) → listed v ps ≡ list_any (nat_eq v) (map (λ p. p.number) ps)
listed_any v [] = refl
listed_any v (p ∷ ps) = rw (turned p.number v, listed_any v ps) (or_cond (nat_eq v p.number) (list_any (nat_eq v) (map (λ q. q.number) ps)))

passes_at : (p : ℕ → Bool) (v x : ℕ) (xs : List ℕ) (b c : Bool) → nat_eq v x ≡ b → p x ≡ c → list_any (nat_eq v) (cond c (x ∷ filter p xs) (filter p xs)) ≡ true
    → (list_any (nat_eq v) (filter p xs) ≡ true → p v ≡ true) → p v ≡ true
passes_at p v x xs true true eb ec h f = (let same : x ≡ v = grind (arith, nat_tests, eb) in subst (λ n. p n ≡ true) same ec)
passes_at p v x xs false true eb ec h f = f (rw eb at h)
passes_at p v x xs b false eb ec h f = f h

passes : (p : ℕ → Bool) (v : ℕ) (xs : List ℕ) → list_any (nat_eq v) (filter p xs) ≡ true → p v ≡ true
passes p v [] h = absurd cc
passes p v (x ∷ xs) h = passes_at p v x xs (nat_eq v x) (p x) refl refl h (passes p v xs)

same_bool : (a b : Bool) → (a ≡ true → b ≡ true) → (b ≡ true → a ≡ true) → a ≡ b
same_bool true b f g = sym (f refl)
same_bool false true f g = g refl
same_bool false false f g = refl

-- the peers that are listed are those linked
pub listed_is : LinkedRoutersArePeers → (net : Plan) → IsNetwork net → (u : ℕ) (ps : List Peer) → map (λ p. p.number) ps ≡ peers net u → (v : ℕ) → listed v ps ≡ linked net u v
listed_is law net n u ps is v =
    let all : listed v ps ≡ list_any (nat_eq v) (peers net u) = listed_any v ps ∙ ap (list_any (nat_eq v)) is in
    same_bool (listed v ps) (linked net u v) (λ t. passes (linked net u) v (numbers net.routers) (sym all ∙ t)) (λ t. let found = law net n u v t in all ∙ found.peer)
