-- Lanes that are dealt, link by link, and taken back.
use Rattle.std.proofs.Common.{◌≡◌, ◌≢◌, ℕ, zero, suc, ◌+◌, ◌<◌, ◌≤◌, ◌==◌, Bool, true, false, cond, ◌&&◌, ◌-◌, List, [], ◌∷◌, ◌++◌, length, map, drop, get_or, set, refl, ap, sym, ◌∙◌, arith, subst, inl, inr, append_assoc}
use Rattle.std.specs.Prelude.{Option, None, Some, IfSome, option_to_list}
use Rattle.std.specs.List.{AllPairs, AllByRecursion, HoldsAt, flat_map}
use Rattle.std.proofs.Math.Path.{fun_ext}
use Rattle.std.proofs.lemmas.Bool.{eqb-true, eqb-false, eq-eqb, ne_eqb}
use Rattle.std.proofs.lemmas.List.{append-nil, map-append, get_or-drop, drop_more}
use Rattle.ranked_policy.specs.declared.network.NetRouter.{NetRouter}
use Rattle.ranked_policy.specs.declared.network.Link.{Link}
use Rattle.ranked_policy.specs.Plans.{Plan, IsNetwork, IsRouter, Joins, numbers}
use Rattle.outbox.specs.declared.item.Item.{Item}
use Rattle.ruled_pipe.specs.Ends.{TableId, End, Closed, closed_at, left}
use Rattle.net_workers.specs.declared.worker_pipes.PipePair.{PipePair}
use Rattle.net_workers.specs.declared.worker_pipes.WorkerPipes.{WorkerPipes}
use Rattle.net_workers.specs.declared.record.ClosedPipe.{ClosedPipe}
use Rattle.net_workers.specs.Lanes.{is_to, lane_has, reaches, Wire, wire_of, put_of, taken_of}
use Rattle.net_workers.specs.Ways.{leads, way_has, IsWay, both_ways}
use Rattle.net_workers.specs.Dealt.{lanes_in, lanes_by, with_lane, IsFirst, wires_on, Dealt, wires_by, AreDealt, IsJoined, HavePassed}
use Rattle.net_workers.proofs.Lanes.{missing}
use Rattle.net_workers.proofs.Records.{all_by}

-- ---- lists

pub snoc_parts : {A : Type 0} (xs ys : List A) (a b : A) → xs ++ a ∷ [] ≡ ys ++ b ∷ [] → (xs ≡ ys) × (a ≡ b)
snoc_parts [] [] a b h = (let e : a ≡ b = cc in (refl, e))
snoc_parts [] (y ∷ []) a b h = (let n : length (a ∷ []) ≡ length (y ∷ b ∷ []) = ap length h in absurd (omega (arith, n)))
snoc_parts [] (y ∷ z ∷ ys) a b h = (let n : length (a ∷ []) ≡ length (y ∷ z ∷ ys ++ b ∷ []) = ap length h in absurd (omega (arith, n)))
snoc_parts (x ∷ []) [] a b h = (let n : length (x ∷ a ∷ []) ≡ length (b ∷ []) = ap length h in absurd (omega (arith, n)))
snoc_parts (x ∷ z ∷ xs) [] a b h = (let n : length (x ∷ z ∷ xs ++ a ∷ []) ≡ length (b ∷ []) = ap length h in absurd (omega (arith, n)))
snoc_parts (x ∷ xs) (y ∷ ys) a b h =
    let first : x ≡ y = cc in
    let behind : xs ++ a ∷ [] ≡ ys ++ b ∷ [] = cc in
    let rest = snoc_parts xs ys a b behind in
    (λ i. first i ∷ rest.0 i, rest.1)

not_snoc : {A : Type 0} (xs : List A) (a : A) → [] ≡ xs ++ a ∷ [] → ⊥
not_snoc {A} [] a h = (let n : length {A = A} [] ≡ length (a ∷ []) = ap length h in absurd (omega (arith, n)))
not_snoc {A} (x ∷ xs) a h = (let n : length {A = A} [] ≡ length (x ∷ xs ++ a ∷ []) = ap length h in absurd (omega (arith, n)))

-- ---- where a router stands

asn_at : (rs : List NetRouter) (i : ℕ) (d : NetRouter) (e : ℕ) → i < length rs → get_or (numbers rs) i e ≡ (get_or rs i d).asn
asn_at [] i d e below = absurd (omega (arith, below))
asn_at (r ∷ rs) zero d e below = refl
asn_at (r ∷ rs) (suc i) d e below = asn_at rs i d e (omega (arith, below))

behind_rise : (n : ℕ) (ns : List ℕ) → AllPairs (λ u v. u < v) (n ∷ ns) → AllPairs (λ u v. u < v) ns
behind_rise n ns rising = λ i j d a b. rising (suc i) (suc j) d (omega (arith, a)) (omega (arith, b))

pub first_place : (rs : List NetRouter) (i n : ℕ) → AllPairs (λ u v. u < v) (numbers rs) → i < length rs → ((d : NetRouter) → (get_or rs i d).asn ≡ n) → IsFirst (numbers rs) i n
first_place [] i n rising below at = absurd (omega (arith, below))
first_place (r ∷ rs) zero n rising below at = at r
first_place (r ∷ rs) (suc i) n rising below at =
    let many : length (numbers rs) ≡ length rs = length_map rs in
    let less = rising 0 (suc i) 0 (omega arith) (omega (arith, below, many)) in
    let there = asn_at rs i r 0 (omega (arith, below)) in
    let is = at r in
    (λ same. absurd (omega (arith, less, there, is, same)), first_place rs i n (behind_rise r.asn (numbers rs) rising) (omega (arith, below)) at)
  where
    length_map : (xs : List NetRouter) → length (numbers xs) ≡ length xs
    length_map [] = refl
    length_map (x ∷ xs) = ap suc (length_map xs)

-- ---- one pair more

pub many_with : (ls : List (List PipePair)) (i : ℕ) (pair : PipePair) → length (with_lane ls i pair) ≡ length ls
many_with [] i pair = refl
many_with (l ∷ ls) zero pair = refl
many_with (l ∷ ls) (suc i) pair = ap suc (many_with ls i pair)

-- a push and a pop, as lists
pub pushed : (es : List WorkerPipes) (i : ℕ) (d new : WorkerPipes) (pair : PipePair) → i < length es → new.pairs.items ≡ (get_or es i d).pairs.items ++ pair ∷ []
    → lanes_in (set es i new) ≡ with_lane (lanes_in es) i pair
pushed [] i d new pair below more = absurd (omega (arith, below))
pushed (e ∷ es) zero d new pair below more = ap (λ (l : List PipePair). l ∷ lanes_in es) more
pushed (e ∷ es) (suc i) d new pair below more = ap (λ (ls : List (List PipePair)). e.pairs.items ∷ ls) (pushed es i d new pair (omega (arith, below)) more)

pub popped : (es : List WorkerPipes) (i : ℕ) (d new : WorkerPipes) (pair : PipePair) → i < length es → (get_or es i d).pairs.items ≡ new.pairs.items ++ pair ∷ []
    → lanes_in es ≡ with_lane (lanes_in (set es i new)) i pair
popped [] i d new pair below less = absurd (omega (arith, below))
popped (e ∷ es) zero d new pair below less = ap (λ (l : List PipePair). l ∷ lanes_in es) less
popped (e ∷ es) (suc i) d new pair below less = ap (λ (ls : List (List PipePair)). e.pairs.items ∷ ls) (popped es i d new pair (omega (arith, below)) less)

pub popped_by : (es : List WorkerPipes) (i : ℕ) (d new : WorkerPipes) (r : Option PipePair) → i < length es → (get_or es i d).pairs.items ≡ new.pairs.items ++ option_to_list r
    → IfSome r (λ pair. lanes_in es ≡ with_lane (lanes_in (set es i new)) i pair)
popped_by es i d new None below less = tt
popped_by es i d new (Some pair) below less = popped es i d new pair below less

-- the pairs of the router at a place
pub by_place : (ns : List ℕ) (ls : List (List PipePair)) (i n : ℕ) → IsFirst ns i n → length ls ≡ length ns → lanes_by ns ls n ≡ get_or ls i []
by_place [] ls i n first many = absurd first
by_place (m ∷ ms) [] i n first many = absurd (omega (arith, many))
by_place (m ∷ ms) (l ∷ ls) zero n first many = rw (eq-eqb m n first) refl
by_place (m ∷ ms) (l ∷ ls) (suc i) n first many = rw (ne_eqb m n first.0) (by_place ms ls i n first.1 (omega (arith, many)))

-- the pair joins those of its router, and of no other
here_by : (m n u : ℕ) (l : List PipePair) (pair : PipePair) (rest : List PipePair) (b : Bool) → (m == u) ≡ b → m ≡ n
    → cond b (l ++ pair ∷ []) rest ≡ cond b l rest ++ cond (n == u) (pair ∷ []) []
here_by m n u l pair rest true is same = rw (eq-eqb n u (sym same ∙ eqb-true m u is)) refl
here_by m n u l pair rest false is same = rw (ne_eqb n u (λ k. eqb-false m u is (same ∙ k))) (sym (append-nil rest))

there_by : (m n u : ℕ) (l : List PipePair) (pair : PipePair) (old new : List PipePair) (b : Bool) → (m == u) ≡ b → m ≢ n → new ≡ old ++ cond (n == u) (pair ∷ []) []
    → cond b l new ≡ cond b l old ++ cond (n == u) (pair ∷ []) []
there_by m n u l pair old new true is apart h = rw (ne_eqb n u (λ k. apart (eqb-true m u is ∙ sym k))) (sym (append-nil l))
there_by m n u l pair old new false is apart h = h

pub lane_more : (ns : List ℕ) (ls : List (List PipePair)) (i n : ℕ) (pair : PipePair) (u : ℕ) → IsFirst ns i n → length ls ≡ length ns
    → lanes_by ns (with_lane ls i pair) u ≡ lanes_by ns ls u ++ cond (n == u) (pair ∷ []) []
lane_more [] ls i n pair u first many = absurd first
lane_more (m ∷ ms) [] i n pair u first many = absurd (omega (arith, many))
lane_more (m ∷ ms) (l ∷ ls) zero n pair u first many = here_by m n u l pair (lanes_by ms ls u) (m == u) refl first
lane_more (m ∷ ms) (l ∷ ls) (suc i) n pair u first many =
    there_by m n u l pair (lanes_by ms ls u) (lanes_by ms (with_lane ls i pair) u) (m == u) refl first.0 (lane_more ms ls i n pair u first.1 (omega (arith, many)))

-- ---- a link more

-- the pairs that its routers have of it
abbrev lanes_on : Link → (here there : PipePair) → ℕ → List PipePair
lanes_on link here there u = cond (link.one == u) (here ∷ []) (cond (link.other == u) (there ∷ []) [])

both_by : (link : Link) (here there : PipePair) (u : ℕ) (a b : Bool) → (link.one == u) ≡ a → (link.other == u) ≡ b → link.one ≢ link.other
    → cond a (here ∷ []) [] ++ cond b (there ∷ []) [] ≡ cond a (here ∷ []) (cond b (there ∷ []) [])
both_by link here there u true true ea eb apart = absurd (apart (eqb-true link.one u ea ∙ sym (eqb-true link.other u eb)))
both_by link here there u true false ea eb apart = refl
both_by link here there u false b ea eb apart = refl

-- the places of its routers
pub record IsPlaced (ns : List ℕ) (link : Link) (i j : ℕ) : Type 0 where
  pub one : IsFirst ns i link.one
  pub other : IsFirst ns j link.other
  pub apart : link.one ≢ link.other

module _ (ns : List ℕ) (ls : List (List PipePair)) (link : Link) (i j : ℕ) (here there : PipePair) (placed : IsPlaced ns link i j) (many : length ls ≡ length ns) where
  pub two_more : (u : ℕ) → lanes_by ns (with_lane (with_lane ls i here) j there) u ≡ lanes_by ns ls u ++ lanes_on link here there u
  two_more u =
      lane_more ns (with_lane ls i here) j link.other there u placed.other (many_with ls i here ∙ many)
      ∙ ap (λ (l : List PipePair). l ++ cond (link.other == u) (there ∷ []) []) (lane_more ns ls i link.one here u placed.one many)
      ∙ append_assoc (lanes_by ns ls u) (cond (link.one == u) (here ∷ []) []) (cond (link.other == u) (there ∷ []) [])
      ∙ ap (λ (l : List PipePair). lanes_by ns ls u ++ l) (both_by link here there u (link.one == u) (link.other == u) refl refl placed.apart)

  -- as ends of pipes
  pub two_wires : (u : ℕ) → wires_by ns (with_lane (with_lane ls i here) j there) u ≡ wires_by ns ls u ++ map wire_of (lanes_on link here there u)
  two_wires u = ap (map wire_of) (two_more u) ∙ map-append wire_of (lanes_by ns ls u) (lanes_on link here there u)

wires_are : (room : ℕ) (link : Link) (here there : PipePair) (out back : TableId) (u : ℕ) (a b : Bool)
    → wire_of here ≡ record { peer = link.other; out = out; room = room; into = back } → wire_of there ≡ record { peer = link.one; out = back; room = room; into = out }
    → map wire_of (cond a (here ∷ []) (cond b (there ∷ []) []))
    ≡ cond a (record { peer = link.other; out = out; room = room; into = back } ∷ []) (cond b (record { peer = link.one; out = back; room = room; into = out } ∷ []) [])
wires_are room link here there out back u true b h t = ap (λ (w : Wire). w ∷ []) h
wires_are room link here there out back u false true h t = ap (λ (w : Wire). w ∷ []) t
wires_are room link here there out back u false false h t = refl

-- so the link is dealt
pub dealt_more : (room : ℕ) (ns : List ℕ) (old new : List (List PipePair)) (link : Link) (links : List Link) (i j : ℕ) → IsPlaced ns link i j → length old ≡ length ns
    → Dealt room links (wires_by ns old) → IsJoined room link i j old new → Dealt room (link ∷ links) (wires_by ns new)
dealt_more room ns old new link links i j placed many dealt joined =
    let here = joined.here in
    let there = joined.there in (
      wires_by ns old,
      here.out.pipe,
      there.out.pipe,
      dealt,
      λ u.
          ap (λ (ls : List (List PipePair)). wires_by ns ls u) joined.pairs ∙ two_wires ns old link i j here there placed many u
          ∙ ap (λ (ws : List Wire). wires_by ns old u ++ ws) (wires_are room link here there here.out.pipe there.out.pipe u (link.one == u) (link.other == u) joined.to_other joined.to_one),
    )

-- ---- a link less

-- what stands behind the others is what the link added
split_by : (room : ℕ) (link : Link) (here there : PipePair) (out back : TableId) (u : ℕ) (xs ys : List Wire) (a b : Bool) → (link.one == u) ≡ a → (link.other == u) ≡ b
    → xs ++ map wire_of (cond a (here ∷ []) (cond b (there ∷ []) []))
    ≡ ys ++ cond a (record { peer = link.other; out = out; room = room; into = back } ∷ []) (cond b (record { peer = link.one; out = back; room = room; into = out } ∷ []) [])
    → (xs ≡ ys) × ((a ≡ true → wire_of here ≡ record { peer = link.other; out = out; room = room; into = back })
    × (a ≡ false → b ≡ true → wire_of there ≡ record { peer = link.one; out = back; room = room; into = out }))
split_by room link here there out back u xs ys true b ea eb h = (let k = snoc_parts xs ys (wire_of here) _ h in (k.0, (λ t. k.1, λ f t. absurd cc)))
split_by room link here there out back u xs ys false true ea eb h = (let k = snoc_parts xs ys (wire_of there) _ h in (k.0, (λ t. absurd cc, λ f t. k.1)))
split_by room link here there out back u xs ys false false ea eb h = (sym (append-nil xs) ∙ h ∙ append-nil ys, (λ t. absurd cc, λ f t. absurd cc))

-- the two pairs are of two pipes, and what is left is dealt
pub record IsParted (room : ℕ) (ns : List ℕ) (link : Link) (links : List Link) (left : List (List PipePair)) (here there : PipePair) : Type 0 where
  pub dealt : Dealt room links (wires_by ns left)
  pub out : TableId
  pub back : TableId
  pub to_other : wire_of here ≡ record { peer = link.other; out = out; room = room; into = back }
  pub to_one : wire_of there ≡ record { peer = link.one; out = back; room = room; into = out }

pub parted : (room : ℕ) (ns : List ℕ) (all left : List (List PipePair)) (link : Link) (links : List Link) (i j : ℕ) (here there : PipePair) → IsPlaced ns link i j → length left ≡ length ns
    → all ≡ with_lane (with_lane left i here) j there → Dealt room (link ∷ links) (wires_by ns all) → IsParted room ns link links left here there
parted room ns all left link links i j here there placed many is dealt =
    let before = dealt.0 in
    let out = dealt.1 in
    let back = dealt.2 in
    let equal : (u : ℕ) → wires_by ns left u ++ map wire_of (lanes_on link here there u) ≡ before u ++ wires_on room link out back u =
    λ u. sym (ap (λ (ls : List (List PipePair)). wires_by ns ls u) is ∙ two_wires ns left link i j here there placed many u) ∙ dealt.4 u in
    let parts = λ (u : ℕ). split_by room link here there out back u (wires_by ns left u) (before u) (link.one == u) (link.other == u) refl refl (equal u) in
    record {
      dealt = subst (Dealt room links) (fun_ext (λ u. sym (parts u).0)) dealt.3;
      out = out;
      back = back;
      to_other = (parts link.one).1.0 (eq-eqb link.one link.one refl);
      to_one = (parts link.other).1.1 (ne_eqb link.one link.other placed.apart) (eq-eqb link.other link.other refl);
    }

-- what the routers of a link hold of it
wires_one : (room : ℕ) (link : Link) (out back : TableId) → wires_on room link out back link.one ≡ record { peer = link.other; out = out; room = room; into = back } ∷ []
wires_one room link out back = rw (eq-eqb link.one link.one refl) refl

wires_other : (room : ℕ) (link : Link) (out back : TableId) → link.one ≢ link.other → wires_on room link out back link.other ≡ record { peer = link.one; out = back; room = room; into = out } ∷ []
wires_other room link out back apart = rw (ne_eqb link.one link.other apart, eq-eqb link.other link.other refl) refl

-- so both routers have a last pair
pub some_other : (room : ℕ) (ns : List ℕ) (all : List (List PipePair)) (link : Link) (links : List Link) (i j : ℕ) → IsPlaced ns link i j → length all ≡ length ns
    → Dealt room (link ∷ links) (wires_by ns all) → get_or all j [] ≡ [] → ⊥
some_other room ns all link links i j placed many dealt none =
    let here : wires_by ns all link.other ≡ [] = ap (map wire_of) (by_place ns all j link.other placed.other many ∙ none) in
    not_snoc (dealt.0 link.other) (record { peer = link.one; out = dealt.2; room = room; into = dealt.1 })
    (sym here ∙ dealt.4 link.other ∙ ap (λ (ws : List Wire). dealt.0 link.other ++ ws) (wires_other room link dealt.1 dealt.2 placed.apart))

pub some_one : (room : ℕ) (ns : List ℕ) (all left : List (List PipePair)) (there : PipePair) (link : Link) (links : List Link) (i j : ℕ) → IsPlaced ns link i j → length left ≡ length ns
    → all ≡ with_lane left j there → Dealt room (link ∷ links) (wires_by ns all) → get_or left i [] ≡ [] → ⊥
some_one room ns all left there link links i j placed many is dealt none =
    let pairs : lanes_by ns all link.one ≡ [] =
    ap (λ (ls : List (List PipePair)). lanes_by ns ls link.one) is ∙ lane_more ns left j link.other there link.one placed.other many
    ∙ ap (λ (l : List PipePair). l ++ cond (link.other == link.one) (there ∷ []) []) (by_place ns left i link.one placed.one many ∙ none)
    ∙ ap (λ (t : Bool). [] ++ cond t (there ∷ []) []) (ne_eqb link.other link.one (λ k. placed.apart (sym k))) in
    let here : wires_by ns all link.one ≡ [] = ap (map wire_of) pairs in
    not_snoc (dealt.0 link.one) (record { peer = link.other; out = dealt.1; room = room; into = dealt.2 })
    (sym here ∙ dealt.4 link.one ∙ ap (λ (ws : List Wire). dealt.0 link.one ++ ws) (wires_one room link dealt.1 dealt.2))

-- ---- no two links join the same routers

abbrev pub wire_reaches : List Wire → ℕ → Bool
wire_reaches [] v = false
wire_reaches (w ∷ ws) v = cond (w.peer == v) true (wire_reaches ws v)

pub reaches_wires : (pairs : List PipePair) (v : ℕ) → reaches pairs v ≡ wire_reaches (map wire_of pairs) v
reaches_wires [] v = refl
reaches_wires (l ∷ ls) v = ap (λ (b : Bool). cond (l.peer == v) true b) (reaches_wires ls v)

reaches_more : (xs ys : List Wire) (v : ℕ) → wire_reaches xs v ≡ false → wire_reaches ys v ≡ false → wire_reaches (xs ++ ys) v ≡ false
reaches_more [] ys v h k = k
reaches_more (x ∷ xs) ys v h k = more_by (x.peer == v) (wire_reaches xs v) refl h (λ e. reaches_more xs ys v e k)
  where
    more_by : (b c : Bool) → wire_reaches xs v ≡ c → cond b true c ≡ false → (c ≡ false → wire_reaches (xs ++ ys) v ≡ false) → cond b true (wire_reaches (xs ++ ys) v) ≡ false
    more_by true c e h go = absurd cc
    more_by false c e h go = go h

one_by : (link : Link) (room : ℕ) (out back : TableId) (a b : ℕ) (c d e f : Bool) → (link.one == a) ≡ c → (link.other == a) ≡ d → (link.other == b) ≡ e → (link.one == b) ≡ f
    → (Joins link a b → ⊥)
    → wire_reaches (cond c (record { peer = link.other; out = out; room = room; into = back } ∷ []) (cond d (record { peer = link.one; out = back; room = room; into = out } ∷ []) [])) b ≡ false
one_by link room out back a b true d true f ec ed ee ef never = absurd (never (inl (eqb-true link.one a ec, eqb-true link.other b ee)))
one_by link room out back a b true d false f ec ed ee ef never = rw ee refl
one_by link room out back a b false true e true ec ed ee ef never = absurd (never (inr (eqb-true link.one b ef, eqb-true link.other a ed)))
one_by link room out back a b false true e false ec ed ee ef never = rw ef refl
one_by link room out back a b false false e f ec ed ee ef never = refl

unreached : (room : ℕ) (links : List Link) (wires : ℕ → List Wire) (a b : ℕ) → AllByRecursion (λ l. Joins l a b → ⊥) links → Dealt room links wires → wire_reaches (wires a) b ≡ false
unreached room [] wires a b never dealt = rw (dealt a) refl
unreached room (l ∷ ls) wires a b never dealt =
    ap (λ (ws : List Wire). wire_reaches ws b) (dealt.4 a)
    ∙ reaches_more (dealt.0 a) (wires_on room l dealt.1 dealt.2 a) b (unreached room ls dealt.0 a b never.1 dealt.3)
    (one_by l room dealt.1 dealt.2 a b (l.one == a) (l.other == a) (l.other == b) (l.one == b) refl refl refl refl never.0)

-- ---- what the pairs have

lane_last : {B : Type 0} (what : PipePair → B) (none : B) (pairs : List PipePair) (l : PipePair) (v : ℕ) → lane_has what none (pairs ++ l ∷ []) v ≡ lane_has what (cond (is_to v l) (what l) none) pairs v
lane_last what none [] l v = refl
lane_last {B} what none (k ∷ pairs) l v = ap (λ (b : B). cond (is_to v k) (what k) b) (lane_last what none pairs l v)

module _ {B : Type 0} (what : PipePair → B) (none : B) (room : ℕ) (ns : List ℕ) (left : List (List PipePair)) (link : Link) (links : List Link) (here there : PipePair)
    (is : IsParted room ns link links left here there) (apart : link.one ≢ link.other) (once : AllByRecursion (λ l. Joins link l.one l.other → ⊥) links) where
  flipped : (ls : List Link) → AllByRecursion (λ l. Joins link l.one l.other → ⊥) ls → AllByRecursion (λ l. Joins l link.one link.other → ⊥) ls
  flipped [] all = tt
  flipped (l ∷ ls) all = (λ j. all.0 (elim j [ inl e ↦ inl (sym e.0, sym e.1) | inr e ↦ inr (sym e.1, sym e.0) ]), flipped ls all.1)

  turned : (ls : List Link) → AllByRecursion (λ l. Joins link l.one l.other → ⊥) ls → AllByRecursion (λ l. Joins l link.other link.one → ⊥) ls
  turned [] all = tt
  turned (l ∷ ls) all = (λ j. all.0 (elim j [ inl e ↦ inr (sym e.1, sym e.0) | inr e ↦ inl (sym e.0, sym e.1) ]), turned ls all.1)

  abbrev lanes_of : ℕ → List PipePair
  lanes_of a = lanes_by ns left a

  free : (a b : ℕ) → AllByRecursion (λ l. Joins l a b → ⊥) links → reaches (lanes_of a) b ≡ false
  free a b never = reaches_wires (lanes_of a) b ∙ unreached room links (wires_by ns left) a b never is.dealt

  -- a pair behind the others, the first to its peer
  behind : (a b : ℕ) (l : PipePair) (peer : ℕ) (e : Bool) → (peer == b) ≡ e → l.peer ≡ peer → (peer ≡ b → reaches (lanes_of a) b ≡ false)
      → lane_has what none (lanes_of a ++ l ∷ []) b ≡ cond e (what l) (lane_has what none (lanes_of a) b)
  behind a b l peer true is_b to first =
      lane_last what none (lanes_of a) l b
      ∙ ap (λ (t : Bool). lane_has what (cond t (what l) none) (lanes_of a) b) (eq-eqb l.peer b (to ∙ eqb-true peer b is_b))
      ∙ missing what (what l) (lanes_of a) b (first (eqb-true peer b is_b))
  behind a b l peer false is_b to first =
      lane_last what none (lanes_of a) l b
      ∙ ap (λ (t : Bool). lane_has what (cond t (what l) none) (lanes_of a) b) (ne_eqb l.peer b (λ k. eqb-false peer b is_b (sym to ∙ k)))

  more_by : (a b : ℕ) (c d : Bool) → (link.one == a) ≡ c → (link.other == a) ≡ d
      → lane_has what none (lanes_of a ++ cond c (here ∷ []) (cond d (there ∷ []) [])) b
      ≡ cond (c && (link.other == b)) (what here) (cond (d && (link.one == b)) (what there) (lane_has what none (lanes_of a) b))
  more_by a b true true ec ed = absurd (apart (eqb-true link.one a ec ∙ sym (eqb-true link.other a ed)))
  more_by a b true false ec ed =
      behind a b here link.other (link.other == b) refl (ap (λ (w : Wire). w.peer) is.to_other)
      (λ k. free a b (subst (λ n. AllByRecursion (λ l. Joins l n b → ⊥) links) (eqb-true link.one a ec) (subst (λ n. AllByRecursion (λ l. Joins l link.one n → ⊥) links) k (flipped links once))))
  more_by a b false true ec ed =
      behind a b there link.one (link.one == b) refl (ap (λ (w : Wire). w.peer) is.to_one)
      (λ k. free a b (subst (λ n. AllByRecursion (λ l. Joins l n b → ⊥) links) (eqb-true link.other a ed) (subst (λ n. AllByRecursion (λ l. Joins l link.other n → ⊥) links) k (turned links once))))
  more_by a b false false ec ed = ap (λ (ls : List PipePair). lane_has what none ls b) (append-nil (lanes_of a))

  pub has_more : (a b : ℕ) → lane_has what none (lanes_of a ++ lanes_on link here there a) b
      ≡ cond ((link.one == a) && (link.other == b)) (what here) (cond ((link.other == a) && (link.one == b)) (what there) (lane_has what none (lanes_of a) b))
  has_more a b = more_by a b (link.one == a) (link.other == a) refl refl

-- ---- what the ways have

way_more : {B : Type 0} (what : ClosedPipe → B) (none : B) (ws xs : List ClosedPipe) (u v : ℕ) → way_has what none (ws ++ xs) u v ≡ way_has what (way_has what none xs u v) ws u v
way_more what none [] xs u v = refl
way_more {B} what none (w ∷ ws) xs u v = ap (λ (b : B). cond (leads u v w) (what w) b) (way_more what none ws xs u v)

-- of two routers that are apart at most one way leads from u to v
swapped : {B : Type 0} (one other u v : ℕ) (x y z : B) (a b c d : Bool) → (one == v) ≡ a → (other == u) ≡ b → (other == v) ≡ c → (one == u) ≡ d → one ≢ other
    → cond (a && b) x (cond (c && d) y z) ≡ cond (d && c) y (cond (b && a) x z)
swapped one other u v x y z true true true d ea eb ec ed apart = absurd (apart (eqb-true one v ea ∙ sym (eqb-true other v ec)))
swapped one other u v x y z true true false true ea eb ec ed apart = absurd (apart (eqb-true one u ed ∙ sym (eqb-true other u eb)))
swapped one other u v x y z true true false false ea eb ec ed apart = refl
swapped one other u v x y z true false true true ea eb ec ed apart = refl
swapped one other u v x y z true false true false ea eb ec ed apart = refl
swapped one other u v x y z true false false true ea eb ec ed apart = refl
swapped one other u v x y z true false false false ea eb ec ed apart = refl
swapped one other u v x y z false true true true ea eb ec ed apart = refl
swapped one other u v x y z false true true false ea eb ec ed apart = refl
swapped one other u v x y z false true false true ea eb ec ed apart = refl
swapped one other u v x y z false true false false ea eb ec ed apart = refl
swapped one other u v x y z false false true true ea eb ec ed apart = refl
swapped one other u v x y z false false true false ea eb ec ed apart = refl
swapped one other u v x y z false false false true ea eb ec ed apart = refl
swapped one other u v x y z false false false false ea eb ec ed apart = refl

-- so far as ways were closed: what the pairs had at first is what the ways have, or else the pairs that are left
abbrev pub HaveSoFar : (first left : ℕ → List PipePair) → List ClosedPipe → Type 0
HaveSoFar first left ways =
    (u v : ℕ) → (put_of (first u) v ≡ way_has (λ w. w.tail.put) (put_of (left u) v) ways u v)
    × (taken_of (first v) u ≡ way_has (λ w. w.tail.taken) (taken_of (left v) u) ways u v)

-- the two ways of a link, closed
pub record AreClosed (link : Link) (here there : PipePair) (one two : ClosedPipe) : Type 0 where
  pub out : (one.from ≡ link.one) × (one.to ≡ link.other)
  pub back : (two.from ≡ link.other) × (two.to ≡ link.one)
  pub put : (one.tail.put ≡ here.out.items) × (two.tail.put ≡ there.out.items)
  pub taken : (one.tail.taken ≡ there.into.items) × (two.tail.taken ≡ here.into.items)

pub passed_more : (room : ℕ) (ns : List ℕ) (first : ℕ → List PipePair) (all left : List (List PipePair)) (link : Link) (links : List Link) (i j : ℕ) (here there : PipePair) (ways : List ClosedPipe) (one two : ClosedPipe)
    → IsPlaced ns link i j → length left ≡ length ns → all ≡ with_lane (with_lane left i here) j there → IsParted room ns link links left here there
    → AllByRecursion (λ l. Joins link l.one l.other → ⊥) links → AreClosed link here there one two
    → HaveSoFar first (lanes_by ns all) ways → HaveSoFar first (lanes_by ns left) (ways ++ one ∷ two ∷ [])
passed_more room ns first all left link links i j here there ways one two placed many same is once closed so_far = λ (u v : ℕ).
    let pairs : (a : ℕ) → lanes_by ns all a ≡ lanes_by ns left a ++ lanes_on link here there a =
    λ a. ap (λ (ls : List (List PipePair)). lanes_by ns ls a) same ∙ two_more ns left link i j here there placed many a in
    let put_now = ap (λ (l : List PipePair). put_of l v) (pairs u) ∙ has_more (λ l. l.out.items) [] room ns left link links here there is placed.apart once u v in
    let taken_now = ap (λ (l : List PipePair). taken_of l u) (pairs v) ∙ has_more (λ l. l.into.items) [] room ns left link links here there is placed.apart once v u in (
      (so_far u v).0 ∙ ap (λ (xs : List Item). way_has (λ w. w.tail.put) xs ways u v)
          (put_now ∙ rw (closed.out.0, closed.out.1, closed.back.0, closed.back.1, closed.put.0, closed.put.1) refl)
          ∙ sym (way_more (λ w. w.tail.put) (put_of (lanes_by ns left u) v) ways (one ∷ two ∷ []) u v),
      (so_far u v).1 ∙ ap (λ (xs : List Item). way_has (λ w. w.tail.taken) xs ways u v)
          (taken_now
          ∙ swapped link.one link.other u v here.into.items there.into.items (taken_of (lanes_by ns left v) u) (link.one == v) (link.other == u) (link.other == v) (link.one == u) refl refl refl refl placed.apart
          ∙ rw (closed.out.0, closed.out.1, closed.back.0, closed.back.1, closed.taken.0, closed.taken.1) refl)
          ∙ sym (way_more (λ w. w.tail.taken) (taken_of (lanes_by ns left v) u) ways (one ∷ two ∷ []) u v),
    )

-- where no pair is left, the ways have all
pub all_passed : (room : ℕ) (ns : List ℕ) (first : ℕ → List PipePair) (left : List (List PipePair)) (ways : List ClosedPipe) → Dealt room [] (wires_by ns left)
    → HaveSoFar first (lanes_by ns left) ways → HavePassed first ways
all_passed room ns first left ways none so_far = λ (u v : ℕ). (
  (so_far u v).0 ∙ ap (λ (l : List PipePair). way_has (λ w. w.tail.put) (put_of l v) ways u v) (no_lanes (lanes_by ns left u) (none u)),
  (so_far u v).1 ∙ ap (λ (l : List PipePair). way_has (λ w. w.tail.taken) (taken_of l u) ways u v) (no_lanes (lanes_by ns left v) (none v)),
)
  where
    no_lanes : (pairs : List PipePair) → map wire_of pairs ≡ [] → pairs ≡ []
    no_lanes [] h = refl
    no_lanes (l ∷ ls) h = (let n : length (map wire_of (l ∷ ls)) ≡ length {A = Wire} [] = ap length h in absurd (omega (arith, n)))

-- ---- the links of a network

below_drop : {X : Type 0} (n : ℕ) (xs : List X) (j : ℕ) → j < length (drop n xs) → n + j < length xs
below_drop zero xs j below = (let k : j < length xs = below in omega (arith, k))
below_drop (suc n) [] j below = absurd (omega (arith, below))
below_drop (suc n) (x ∷ xs) j below = (let k = below_drop n xs j below in omega (arith, k))

-- the link at a place: its routers are two of the network, and no link behind it joins them
pub record IsLinkOf (net : Plan) (link : Link) (behind : List Link) : Type 0 where
  pub one : IsRouter net.routers link.one
  pub other : IsRouter net.routers link.other
  pub apart : link.one ≢ link.other
  pub once : AllByRecursion (λ l. Joins link l.one l.other → ⊥) behind

link_in : (net : Plan) → IsNetwork net → (i : ℕ) (d : Link) → i < length net.links → IsLinkOf net (get_or net.links i d) (drop (i + 1) net.links)
link_in net is i d below =
    let links = is.plan.links in
    let known = links.known i d below in
    record {
      one = known.0;
      other = known.1;
      apart = links.apart i d below;
      once =
          all_by (λ l. Joins (get_or net.links i d) l.one l.other → ⊥) (drop (i + 1) net.links)
          (λ j e less.
          subst (λ (l : Link). Joins (get_or net.links i d) l.one l.other → ⊥) (sym (get_or-drop (i + 1) net.links j e))
          (subst (λ (l : Link). Joins l (get_or net.links (i + 1 + j) e).one (get_or net.links (i + 1 + j) e).other → ⊥) (same_at net.links i e d below)
          (links.distinct i (i + 1 + j) e (omega arith) (below_drop (i + 1) net.links j less))));
    }
  where
    same_at : (ls : List Link) (i : ℕ) (d e : Link) → i < length ls → get_or ls i d ≡ get_or ls i e
    same_at [] i d e below = absurd (omega (arith, below))
    same_at (l ∷ ls) zero d e below = refl
    same_at (l ∷ ls) (suc i) d e below = same_at ls i d e (omega (arith, below))

pub link_at : (net : Plan) (links : List Link) → links ≡ net.links → IsNetwork net → (i : ℕ) (d : Link) → i < length links → IsLinkOf net (get_or links i d) (drop (i + 1) links)
link_at net links same is =
    subst (λ (ls : List Link). (i : ℕ) (d : Link) → i < length ls → IsLinkOf net (get_or ls i d) (drop (i + 1) ls)) (sym same) (link_in net is)

many_numbers : (rs : List NetRouter) → length (numbers rs) ≡ length rs
many_numbers [] = refl
many_numbers (r ∷ rs) = ap suc (many_numbers rs)

many_lanes : (es : List WorkerPipes) → length (lanes_in es) ≡ length es
many_lanes [] = refl
many_lanes (e ∷ es) = ap suc (many_lanes es)

pub as_many : (net : Plan) (es : List WorkerPipes) → length es ≡ length net.routers → length (lanes_in es) ≡ length (numbers net.routers)
as_many net es many = many_lanes es ∙ many ∙ sym (many_numbers net.routers)

-- ---- dealing

no_lanes_by : (ns : List ℕ) (es : List WorkerPipes) (u : ℕ) → AllByRecursion (λ e. e.pairs.items ≡ []) es → lanes_by ns (lanes_in es) u ≡ []
no_lanes_by [] es u none = refl
no_lanes_by (n ∷ ns) [] u none = refl
no_lanes_by (n ∷ ns) (e ∷ es) u none = neither (n == u) e.pairs.items (lanes_by ns (lanes_in es) u) none.0 (no_lanes_by ns es u none.1)
  where
    neither : (b : Bool) (xs ys : List PipePair) → xs ≡ [] → ys ≡ [] → cond b xs ys ≡ []
    neither true xs ys h k = h
    neither false xs ys h k = k

drop_all : {X : Type 0} (xs : List X) → drop (length xs) xs ≡ []
drop_all [] = refl
drop_all (x ∷ xs) = drop_all xs

-- at first no link is dealt
pub dealt_none : (net : Plan) (links : List Link) (es : List WorkerPipes) → links ≡ net.links → AllByRecursion (λ e. e.pairs.items ≡ []) es → AreDealt net (drop (length links) net.links) es
dealt_none net links es same none =
    subst (λ (ls : List Link). AreDealt net ls es) (sym (drop_all net.links) ∙ ap (λ (ls : List Link). drop (length ls) net.links) (sym same))
    (λ (u : ℕ). ap (map wire_of) (no_lanes_by (numbers net.routers) es u none))

-- one link more
pub deal_one : (net : Plan) (links : List Link) (old new : List WorkerPipes) (room left i j : ℕ) (d : Link) → links ≡ net.links → IsNetwork net → room ≡ net.settings.pipe → 0 < left → left ≤ length net.links
    → i < length net.routers → j < length net.routers → HoldsAt (λ r. r.asn ≡ (get_or links (left - 1) d).one) net.routers i → HoldsAt (λ r. r.asn ≡ (get_or links (left - 1) d).other) net.routers j
    → length old ≡ length net.routers
    → AreDealt net (drop left net.links) old → IsJoined room (get_or links (left - 1) d) i j (lanes_in old) (lanes_in new) → AreDealt net (drop (left - 1) net.links) new
deal_one net links old new room left i j d same is rooms some few below_i below_j one other many dealt joined =
    let long = ap length same in
    let below : left - 1 < length links = omega (arith, some, few, long) in
    let link = get_or links (left - 1) d in
    let at = link_at net links same is (left - 1) d below in
    let one_less : left - 1 + 1 ≡ left = omega (arith, some) in
    let behind : drop (left - 1) net.links ≡ link ∷ drop left net.links =
    drop_more net.links (left - 1) d (omega (arith, some, few))
    ∙ ap (λ (n : ℕ). get_or net.links (left - 1) d ∷ drop n net.links) one_less
    ∙ ap (λ (ls : List Link). get_or ls (left - 1) d ∷ drop left net.links) (sym same) in
    subst (λ (ls : List Link). AreDealt net ls new) (sym behind)
    (dealt_more net.settings.pipe (numbers net.routers) (lanes_in old) (lanes_in new) link (drop left net.links) i j (record { one = first_place net.routers i link.one is.plan.rising below_i one; other = first_place net.routers j link.other is.plan.rising below_j other; apart = at.apart })
    (as_many net old many) dealt
    (subst (λ (r : ℕ). IsJoined r link i j (lanes_in old) (lanes_in new)) rooms joined))

-- ---- closing

module _ (net : Plan) (links : List Link) (all : List WorkerPipes) (index i j : ℕ) (d : Link) (same : links ≡ net.links) (is : IsNetwork net) (below : index < length links)
    (below_i : i < length net.routers) (below_j : j < length net.routers)
    (one : HoldsAt (λ r. r.asn ≡ (get_or links index d).one) net.routers i) (other : HoldsAt (λ r. r.asn ≡ (get_or links index d).other) net.routers j)
    (many : length all ≡ length net.routers) (dealt : AreDealt net (drop index links) all) where
  abbrev link_here : Link
  link_here = get_or links index d

  abbrev rest_here : List Link
  rest_here = drop (index + 1) links

  placed_here : IsPlaced (numbers net.routers) link_here i j
  placed_here = record {
    one = first_place net.routers i link_here.one is.plan.rising below_i one;
    other = first_place net.routers j link_here.other is.plan.rising below_j other;
    apart = (link_at net links same is index d below).apart;
  }

  dealt_here : AreDealt net (link_here ∷ rest_here) all
  dealt_here = subst (λ (ls : List Link). AreDealt net ls all) (drop_more links index d below) dealt

  pub has_other : get_or (lanes_in all) j [] ≡ [] → ⊥
  has_other = some_other net.settings.pipe (numbers net.routers) (lanes_in all) link_here rest_here i j placed_here (as_many net all many) dealt_here

  module _ (mid : List WorkerPipes) (there : PipePair) (many_mid : length mid ≡ length all) (first : lanes_in all ≡ with_lane (lanes_in mid) j there) where
    pub has_one : get_or (lanes_in mid) i [] ≡ [] → ⊥
    has_one = some_one net.settings.pipe (numbers net.routers) (lanes_in all) (lanes_in mid) there link_here rest_here i j placed_here (as_many net mid (many_mid ∙ many)) first dealt_here

    module _ (left : List WorkerPipes) (here : PipePair) (many_left : length left ≡ length mid) (second : lanes_in mid ≡ with_lane (lanes_in left) i here) where
      abbrev both : lanes_in all ≡ with_lane (with_lane (lanes_in left) i here) j there
      both = first ∙ ap (λ (ls : List (List PipePair)). with_lane ls j there) second

      pub part_here : IsParted net.settings.pipe (numbers net.routers) link_here rest_here (lanes_in left) here there
      part_here = parted net.settings.pipe (numbers net.routers) (lanes_in all) (lanes_in left) link_here rest_here i j here there placed_here (as_many net left (many_left ∙ many_mid ∙ many)) both dealt_here

      pub pass_here : (pairs : ℕ → List PipePair) (ways : List ClosedPipe) (w x : ClosedPipe) → AreClosed link_here here there w x
          → HaveSoFar pairs (lanes_by (numbers net.routers) (lanes_in all)) ways → HaveSoFar pairs (lanes_by (numbers net.routers) (lanes_in left)) (ways ++ w ∷ x ∷ [])
      pass_here pairs ways w x closed so_far =
          passed_more net.settings.pipe (numbers net.routers) pairs (lanes_in all) (lanes_in left) link_here rest_here i j here there ways w x placed_here (as_many net left (many_left ∙ many_mid ∙ many)) both
          part_here (link_at net links same is index d below).once closed so_far

-- a pipe that was closed is a way of the network
pub is_way : (net : Plan) (w : ClosedPipe) (put take : End Item) → w.tail ≡ closed_at put.pipe put.room put.items take.items → put.items ≡ take.items ++ left w.tail → length (left w.tail) ≤ put.room
    → put.room ≡ net.settings.pipe → IsWay net w
is_way net w put take tail rest few room = record {
  in_turn = ap (λ (c : Closed Item). c.put) tail ∙ rest ∙ ap (λ (xs : List Item). xs ++ left w.tail) (sym (ap (λ (c : Closed Item). c.taken) tail));
  room = ap (λ (c : Closed Item). c.room) tail ∙ room;
  held = subst (λ (n : ℕ). length (left w.tail) ≤ n) room few;
}

between_rest : (xs : List (ℕ × ℕ)) (a b : ℕ × ℕ) (rest : List (ℕ × ℕ)) → (xs ++ a ∷ b ∷ []) ++ rest ≡ xs ++ a ∷ b ∷ rest
between_rest [] a b rest = refl
between_rest (x ∷ xs) a b rest = ap (λ (ys : List (ℕ × ℕ)). x ∷ ys) (between_rest xs a b rest)

abbrev pub from_to : ClosedPipe → ℕ × ℕ
from_to w = (w.from, w.to)

-- two ways more, and a link less
pub between_more : (links : List Link) (index : ℕ) (d : Link) (ways : List ClosedPipe) (w x : ClosedPipe) (all : List (ℕ × ℕ)) → index < length links
    → (w.from ≡ (get_or links index d).one) × (w.to ≡ (get_or links index d).other) → (x.from ≡ (get_or links index d).other) × (x.to ≡ (get_or links index d).one)
    → map from_to ways ++ flat_map both_ways (drop index links) ≡ all → map from_to (ways ++ w ∷ x ∷ []) ++ flat_map both_ways (drop (index + 1) links) ≡ all
between_more links index d ways w x all below out back so_far =
    let link = get_or links index d in
    ap (λ (ys : List (ℕ × ℕ)). ys ++ flat_map both_ways (drop (index + 1) links)) (map-append from_to ways (w ∷ x ∷ []))
    ∙ between_rest (map from_to ways) (from_to w) (from_to x) (flat_map both_ways (drop (index + 1) links))
    ∙ (λ k. map from_to ways ++ (out.0 k, out.1 k) ∷ (back.0 k, back.1 k) ∷ flat_map both_ways (drop (index + 1) links))
    ∙ ap (λ (ls : List Link). map from_to ways ++ flat_map both_ways ls) (sym (drop_more links index d below))
    ∙ so_far

-- where no link is left, all has passed
pub passed_at_last : (net : Plan) (links : List Link) (index : ℕ) (es : List WorkerPipes) (pairs : ℕ → List PipePair) (ways : List ClosedPipe) → length links ≤ index → AreDealt net (drop index links) es
    → HaveSoFar pairs (lanes_by (numbers net.routers) (lanes_in es)) ways → HavePassed pairs ways
passed_at_last net links index es pairs ways far dealt so_far =
    all_passed net.settings.pipe (numbers net.routers) pairs (lanes_in es) ways (subst (λ (ls : List Link). AreDealt net ls es) (none_behind links index far) dealt) so_far
  where
    none_behind : (ls : List Link) (n : ℕ) → length ls ≤ n → drop n ls ≡ []
    none_behind [] zero far = refl
    none_behind [] (suc n) far = refl
    none_behind (l ∷ ls) zero far = absurd (omega (arith, far))
    none_behind (l ∷ ls) (suc n) far = none_behind ls n (omega (arith, far))
