-- The pair to a peer: where it stands, and what a change of it makes of all pairs.
use Rattle.std.proofs.Common.{◌≡◌, ℕ, zero, suc, ◌+◌, ◌<◌, ◌≤◌, ◌==◌, Bool, true, false, cond, not, List, [], ◌∷◌, ◌++◌, length, map, Option, None, Some, refl, ap, sym, ◌∙◌, arith, subst, get_or, set}
use Rattle.std.specs.Prelude.{nat_lt, MatchOption, Result, Ok, Err, OnOk, OnErr}
use Rattle.ruled_pipe.specs.Ends.{End, with_item}
use Rattle.std.proofs.Math.Path.{fun_ext}
use Rattle.std.specs.List.{position, position_or_len}
use Rattle.std.specs.Option.{unwrap_or}
use Rattle.std.proofs.lemmas.List.{length-map}
use Rattle.std.proofs.lemmas.Option.{get_or_from_slice_get, slice_get-map}
use Rattle.std.specs.Prelude.{slice_get, option_map}
use Rattle.std.proofs.lemmas.Bool.{eqb-true, eqb-false, eq-eqb, ne_eqb}
use Rattle.std.proofs.lemmas.Bool.Decides.{nat_tests}
use Rattle.outbox.specs.declared.item.Item.{Item}
use Rattle.worker_loop.specs.Acts.{grown}
use Rattle.net_workers.specs.declared.worker_pipes.PipePair.{PipePair}
use Rattle.net_workers.specs.declared.worker_pipes.WorkerPipes.{WorkerPipes}
use Rattle.net_workers.specs.Lanes.{is_to, lane_has, reaches, Wire, wire_of, Wiring, wiring_of, place_among, stands_at, IsAt, IsFound}

-- ---- where it stands

at_head : (b : Bool) (l : PipePair) (ls : List PipePair) (v k : ℕ) → (l.peer == v) ≡ b → (k < length ls → IsAt ls v k)
    → cond (not b) (1 + k) 0 < length (l ∷ ls) → IsAt (l ∷ ls) v (cond (not b) (1 + k) 0)
at_head true l ls v k e rest h = eqb-true l.peer v e
at_head false l ls v k e rest h =
    let one : suc k ≡ 1 + k = omega arith in
    subst (λ n. IsAt (l ∷ ls) v n) one (eqb-false l.peer v e, rest (omega arith))

at_first : (ls : List PipePair) (v : ℕ) → position_or_len (is_to v) ls < length ls → IsAt ls v (position_or_len (is_to v) ls)
at_first [] v h = absurd (omega arith)
at_first (l ∷ ls) v h = at_head (l.peer == v) l ls v (position_or_len (is_to v) ls) refl (at_first ls v) h

none_head : (b : Bool) (l : PipePair) (ls : List PipePair) (v k : ℕ) → (l.peer == v) ≡ b → (length ls ≤ k → reaches ls v ≡ false)
    → length (l ∷ ls) ≤ cond (not b) (1 + k) 0 → reaches (l ∷ ls) v ≡ false
none_head true l ls v k e rest h = absurd (omega arith)
none_head false l ls v k e rest h = rw e (rest (omega arith))

none_first : (ls : List PipePair) (v : ℕ) → length ls ≤ position_or_len (is_to v) ls → reaches ls v ≡ false
none_first [] v h = refl
none_first (l ∷ ls) v h = none_head (l.peer == v) l ls v (position_or_len (is_to v) ls) refl (none_first ls v) h

is_below : (ls : List PipePair) (v i : ℕ) → IsAt ls v i → i < length ls
is_below [] v i h = absurd h
is_below (l ∷ ls) v zero h = omega arith
is_below (l ∷ ls) v (suc i) h = let k = is_below ls v i h.1 in omega arith

seek_by : (b : Bool) (ls : List PipePair) (v : ℕ) → nat_lt (position_or_len (is_to v) ls) (length ls) ≡ b
    → MatchOption (cond b (Some (position_or_len (is_to v) ls)) None) (reaches ls v ≡ false) (IsFound ls v)
seek_by true ls v e =
    let at = at_first ls v (grind (arith, nat_tests, e)) in
    (is_below ls v (position_or_len (is_to v) ls) at, at)
seek_by false ls v e = none_first ls v (grind (arith, nat_tests, e))

pub seek : (ls : List PipePair) (v : ℕ) (r : Option ℕ) → r ≡ position (is_to v) ls → MatchOption r (reaches ls v ≡ false) (IsFound ls v)
seek ls v r is = rw is (seek_by (nat_lt (position_or_len (is_to v) ls) (length ls)) ls v refl)

-- a worker's order says where it stands
wire_place : (ls : List PipePair) (v : ℕ) → position_or_len (λ (wire : Wire). wire.peer == v) (map wire_of ls) ≡ position_or_len (is_to v) ls
wire_place [] v = refl
wire_place (l ∷ ls) v = ap (λ (k : ℕ). cond (not (l.peer == v)) (1 + k) 0) (wire_place ls v)

pub wire_among : (ls : List PipePair) (v : ℕ) → place_among (λ (wire : Wire). wire.peer == v) (map wire_of ls) ≡ place_among (is_to v) ls
wire_among ls v =
    let many : length (map wire_of ls) ≡ length ls = length-map ls wire_of in
    let place = wire_place ls v in
    λ i. unwrap_or (cond (nat_lt (place i) (many i)) (Some (place i)) None) (many i)

pub stands_is : (e : WorkerPipes) (place v at : ℕ) → stands_at (wiring_of e) place v → at ≡ get_or e.order.items place at → at ≡ place_among (is_to v) e.pairs.items
stands_is e place v at stands is = is ∙ get_or_from_slice_get e.order.items place _ at stands ∙ wire_among e.pairs.items v

-- an order of the places of all peers
pub order_stands : (ls : List PipePair) (order peers : List ℕ) → order ≡ map (λ v. place_among (is_to v) ls) peers → (place v : ℕ) → slice_get peers place ≡ Some v
    → slice_get order place ≡ Some (place_among (λ (wire : Wire). wire.peer == v) (map wire_of ls))
order_stands ls order peers is place v at =
    ap (λ (ns : List ℕ). slice_get ns place) is ∙ slice_get-map (λ u. place_among (is_to u) ls) peers place ∙ ap (option_map (λ u. place_among (is_to u) ls)) at
    ∙ ap (λ (n : ℕ). Some n) (sym (wire_among ls v))

pub pair_there : (ls : List PipePair) (v at : ℕ) (o : Option ℕ) → o ≡ position (is_to v) ls → at ≡ unwrap_or o (length ls) → (at < length ls → IsFound ls v at) × (length ls ≤ at → reaches ls v ≡ false)
pair_there ls v at None is e = (λ below. absurd (omega (arith, below, e)), λ far. seek ls v None is)
pair_there ls v at (Some i) is e =
    let found : IsFound ls v i = seek ls v (Some i) is in
    (λ below. subst (IsFound ls v) (sym e) found, λ far. absurd (let below = found.0 in omega (arith, below, e, far)))

-- ---- what it has

here_same : (ls : List PipePair) (v i : ℕ) (d : PipePair) → IsAt ls v i → (get_or ls i d).peer ≡ v
here_same [] v i d h = absurd h
here_same (l ∷ ls) v zero d h = h
here_same (l ∷ ls) v (suc i) d h = here_same ls v i d h.1

-- the pair to v, at its place
pub record Here (ls : List PipePair) (v i : ℕ) (l : PipePair) : Type 0 where
  pub at : IsAt ls v i
  pub is : l ≡ get_or ls i l

pub peer_is : (ls : List PipePair) (v i : ℕ) (l : PipePair) → Here ls v i l → l.peer ≡ v
peer_is ls v i l h = ap (λ (k : PipePair). k.peer) h.is ∙ here_same ls v i l h.at

module _ {B : Type 0} (what : PipePair → B) (none : B) where
  has_at : (ls : List PipePair) (v i : ℕ) (d : PipePair) → IsAt ls v i → lane_has what none ls v ≡ what (get_or ls i d)
  has_at [] v i d h = absurd h
  has_at (l ∷ ls) v zero d h = rw (eq-eqb l.peer v h) refl
  has_at (l ∷ ls) v (suc i) d h = rw (ne_eqb l.peer v h.0) (has_at ls v i d h.1)

  pub has_here : (ls : List PipePair) (v i : ℕ) (l : PipePair) → Here ls v i l → lane_has what none ls v ≡ what l
  has_here ls v i l h = has_at ls v i l h.at ∙ ap what (sym h.is)

  missing_by : (l : PipePair) (ls : List PipePair) (v : ℕ) (b : Bool) → (l.peer == v) ≡ b → (reaches ls v ≡ false → lane_has what none ls v ≡ none)
      → reaches (l ∷ ls) v ≡ false → lane_has what none (l ∷ ls) v ≡ none
  missing_by l ls v true e rest h = (let t = rw e at h in absurd cc)
  missing_by l ls v false e rest h = rw e (rest (rw e at h))

  pub missing : (ls : List PipePair) (v : ℕ) → reaches ls v ≡ false → lane_has what none ls v ≡ none
  missing [] v h = refl
  missing (l ∷ ls) v h = missing_by l ls v (l.peer == v) refl (missing ls v) h

  set_here : (ls : List PipePair) (v i : ℕ) (l : PipePair) → IsAt ls v i → l.peer ≡ v → lane_has what none (set ls i l) v ≡ what l
  set_here [] v i l h e = absurd h
  set_here (x ∷ xs) v zero l h e = rw (eq-eqb l.peer v e) refl
  set_here (x ∷ xs) v (suc i) l h e = rw (ne_eqb x.peer v h.0) (set_here xs v i l h.1 e)

  set_there : (ls : List PipePair) (v i : ℕ) (l : PipePair) (w : ℕ) → IsAt ls v i → l.peer ≡ v → (v ≡ w → ⊥) → lane_has what none (set ls i l) w ≡ lane_has what none ls w
  set_there [] v i l w h e n = absurd h
  set_there (x ∷ xs) v zero l w h e n = rw (ne_eqb l.peer w (λ q. n (sym e ∙ q)), ne_eqb x.peer w (λ q. n (sym h ∙ q))) refl
  set_there (x ∷ xs) v (suc i) l w h e n = ap (λ (s : B). cond (x.peer == w) (what x) s) (set_there xs v i l w h.1 e n)

  kept_by : (ls : List PipePair) (v i : ℕ) (l old : PipePair) (w : ℕ) (b : Bool) → (v == w) ≡ b → Here ls v i old → l.peer ≡ old.peer → what l ≡ what old
      → lane_has what none (set ls i l) w ≡ lane_has what none ls w
  kept_by ls v i l old w true t h e same =
      subst (λ n. lane_has what none (set ls i l) n ≡ lane_has what none ls n) (eqb-true v w t)
      (set_here ls v i l h.at (e ∙ peer_is ls v i old h) ∙ same ∙ sym (has_here ls v i old h))
  kept_by ls v i l old w false t h e same = set_there ls v i l w h.at (e ∙ peer_is ls v i old h) (eqb-false v w t)

  -- where the pair has what it had, all pairs have
  pub kept : (ls : List PipePair) (v i : ℕ) (l old : PipePair) → Here ls v i old → l.peer ≡ old.peer → what l ≡ what old → lane_has what none (set ls i l) ≡ lane_has what none ls
  kept ls v i l old h e same = fun_ext (λ w. kept_by ls v i l old w (v == w) refl h e same)

-- one item more passes one pair
grows_by : (what : PipePair → List Item) (ls : List PipePair) (v i : ℕ) (l old : PipePair) (x : Item) (w : ℕ) (b : Bool) → (v == w) ≡ b → Here ls v i old → l.peer ≡ old.peer
    → what l ≡ what old ++ x ∷ [] → lane_has what [] (set ls i l) w ≡ cond b (lane_has what [] ls w ++ x ∷ []) (lane_has what [] ls w)
grows_by what ls v i l old x w true t h e more =
    subst (λ n. lane_has what [] (set ls i l) n ≡ lane_has what [] ls n ++ x ∷ []) (eqb-true v w t)
    (set_here what [] ls v i l h.at (e ∙ peer_is ls v i old h) ∙ more ∙ ap (λ k. k ++ x ∷ []) (sym (has_here what [] ls v i old h)))
grows_by what ls v i l old x w false t h e more = set_there what [] ls v i l w h.at (e ∙ peer_is ls v i old h) (eqb-false v w t)

pub grows : (what : PipePair → List Item) (ls : List PipePair) (v i : ℕ) (l old : PipePair) (x : Item) → Here ls v i old → l.peer ≡ old.peer → what l ≡ what old ++ x ∷ []
    → lane_has what [] (set ls i l) ≡ grown (lane_has what [] ls) v x
grows what ls v i l old x h e more = fun_ext (λ w. grows_by what ls v i l old x w (v == w) refl h e more)

wires_at : (ls : List PipePair) (v i : ℕ) (l : PipePair) → IsAt ls v i → wire_of l ≡ wire_of (get_or ls i l) → map wire_of (set ls i l) ≡ map wire_of ls
wires_at [] v i l h e = absurd h
wires_at (x ∷ xs) v zero l h e = ap (λ (k : Wire). k ∷ map wire_of xs) e
wires_at (x ∷ xs) v (suc i) l h e = ap (λ (ks : List Wire). wire_of x ∷ ks) (wires_at xs v i l h.1 e)

default_is : (ls : List PipePair) (v i : ℕ) (d e : PipePair) → IsAt ls v i → get_or ls i d ≡ get_or ls i e
default_is [] v i d e h = absurd h
default_is (x ∷ xs) v zero d e h = refl
default_is (x ∷ xs) v (suc i) d e h = default_is xs v i d e h.1

-- the pairs are of the same pipes
same_wires : (ls : List PipePair) (v i : ℕ) (l old : PipePair) → Here ls v i old → wire_of l ≡ wire_of old → map wire_of (set ls i l) ≡ map wire_of ls
same_wires ls v i l old h e = wires_at ls v i l h.at (e ∙ ap wire_of (h.is ∙ default_is ls v i old l h.at))

pub same_wiring : (ls : List PipePair) (order : List ℕ) (v i : ℕ) (l old : PipePair) → Here ls v i old → wire_of l ≡ wire_of old
    → Path Wiring (record { wires = map wire_of (set ls i l); order = order }) (record { wires = map wire_of ls; order = order })
same_wiring ls order v i l old h e = ap (λ (ws : List Wire). record { wires = ws; order = order }) (same_wires ls v i l old h e)

-- ---- ends of pipes

pub on_ok : {A E : Type 0} (r : Result A E) (P Q : Type 0) → (P → Q) → OnOk r P → OnOk r Q
on_ok (Ok a) P Q f h = f h
on_ok (Err e) P Q f h = tt

pub on_err : {A E : Type 0} (r : Result A E) (P Q : Type 0) → (P → Q) → OnErr r P → OnErr r Q
on_err (Ok a) P Q f h = tt
on_err (Err e) P Q f h = f h

-- a put leaves the end one of the same pipe
pub same_pipe : {A E : Type 0} (r : Result A E) (old new : End Item) (x : Item) → OnOk r (new ≡ with_item old x) → OnErr r (new ≡ old) → (new.pipe ≡ old.pipe) × (new.room ≡ old.room)
same_pipe (Ok a) old new x h k = (ap (λ (e : End Item). e.pipe) h, ap (λ (e : End Item). e.room) h)
same_pipe (Err b) old new x h k = (ap (λ (e : End Item). e.pipe) k, ap (λ (e : End Item). e.room) k)

pub on_some : {A : Type 0} (r : Option A) (P Q : Type 0) (F H : A → Type 0) → (P → Q) → ((a : A) → F a → H a) → MatchOption r P F → MatchOption r Q H
on_some None P Q F H f h k = f k
on_some (Some a) P Q F H f h k = h a k

-- and so does a take
pub same_pipe_taken : (r : Option Item) (old new : End Item) → MatchOption r (new ≡ old) (λ x. new ≡ with_item old x) → new.pipe ≡ old.pipe
same_pipe_taken None old new h = ap (λ (e : End Item). e.pipe) h
same_pipe_taken (Some x) old new h = ap (λ (e : End Item). e.pipe) h
