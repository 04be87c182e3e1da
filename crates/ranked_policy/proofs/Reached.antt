-- Which routers are marked, and where links lead.
use Rattle.std.proofs.Common.{◌≡◌, ℕ, ◌<◌, ◌≤◌, Bool, true, false, not, List, [], ◌∷◌, ◌++◌, length, get_or, take, drop, refl, sym, ap, subst, ◌∙◌, arith, inl, inr, replicate}
use Rattle.std.specs.Prelude.{◌≢◌, slice_index, slice_index_or, set}
use Rattle.std.specs.List.{All, AllPairs, HoldsAt}
use mathlib.Core.Logic.{◌⊎◌}
use Rattle.std.proofs.lemmas.List.{take-append-drop, get_or-map, length-map, get_or_default, get_or-set_same, get_or-set_other, get_or-replicate, get_or_past, length-replicate}
use Rattle.std.proofs.lemmas.List.Elements.{All-append, All-weaker}
use Rattle.std.proofs.lemmas.Bool.{cases_order, cases_eq, cases_lt, false≢true, true≢false}
use mathlib.Core.Bool.{beq}
use Rattle.ranked_policy.specs.declared.network.NetRouter.{NetRouter}
use Rattle.ranked_policy.specs.declared.network.Link.{Link}
use Rattle.ranked_policy.specs.Plans.{numbers, Joins, Linked, Walks, Joined, IsRouter, IsConnected}
use Rattle.ranked_policy.specs.Reaching.{StandsAt, IsMarked, LeadsTo, IsClosed}
use Rattle.ranked_policy.proofs.Loops.{contains_map}

-- a number that all before it are below and all behind it above is none of them
pub absent : (routers : List NetRouter) (i u : ℕ) → All (λ r. r.asn < u) (take i routers) → All (λ r. u < r.asn) (drop i routers) → IsRouter routers u → ⊥
absent routers i u below above known =
    let differ : All (λ r. r.asn ≢ u) (take i routers ++ drop i routers) =
    All-append (λ r. r.asn ≢ u) (take i routers) (drop i routers) (All-weaker (λ r. r.asn < u) (λ r. r.asn ≢ u) (λ r l e. omega (arith, l, e)) (take i routers) below)
    (All-weaker (λ r. u < r.asn) (λ r. r.asn ≢ u) (λ r l e. omega (arith, l, e)) (drop i routers) above) in
    let none : All (λ r. r.asn ≢ u) routers = subst (All (λ r. r.asn ≢ u)) (take-append-drop i routers) differ in
    let at = contains_map (λ r. r.asn) routers u known in
    none at.0 at.1 at.2 (ap (λ r. r.asn) at.3 ∙ at.4)

pub some_router : NetRouter
some_router = record { asn = 0; id = 0; rules = [] }

pub stands : (routers : List NetRouter) (i u : ℕ) → i < length routers → HoldsAt (λ r. r.asn ≡ u) routers i → StandsAt routers i u
stands routers i u l at = (l, get_or-map (λ r. r.asn) routers i some_router 0 l ∙ at some_router)

-- rising numbers stand at one place each
pub one_place : (routers : List NetRouter) (i j u : ℕ) → AllPairs (λ v w. v < w) (numbers routers) → StandsAt routers i u → StandsAt routers j u → i ≡ j
one_place routers i j u rising at_i at_j = elim (cases_order i j) [
  | inl e ↦ e
  | inr differ ↦ elim differ [
    | inl below ↦ absurd (omega (arith, rising i j 0 below (omega (arith, at_j.0, length-map routers (λ r. r.asn))), at_i.1, at_j.1))
    | inr above ↦ absurd (omega (arith, rising j i 0 above (omega (arith, at_i.0, length-map routers (λ r. r.asn))), at_i.1, at_j.1))
  ]
]

pub joins_back : (link : Link) (u v : ℕ) → Joins link u v → Joins link v u
joins_back link u v (inl h) = inr h
joins_back link u v (inr h) = inl h

pub linked_back : (links : List Link) (u v : ℕ) → Linked links u v → Linked links v u
linked_back links u v h = (h.0, h.1, h.2, h.3, joins_back h.1 u v h.4)

-- walks go on, and back
pub walk_on : (links : List Link) (u v w : ℕ) (vs ws : List ℕ) → Walks links u vs v → Walks links v ws w → Walks links u (vs ++ ws) w
walk_on links u v w [] ws g h = subst (λ x. Walks links x ws w) (sym g) h
walk_on links u v w (x ∷ xs) ws g h = (g.0, walk_on links x v w xs ws g.1 h)

pub joined_on : (links : List Link) (u v w : ℕ) → Joined links u v → Joined links v w → Joined links u w
joined_on links u v w g h = (g.0 ++ h.0, walk_on links u v w g.0 h.0 g.1 h.1)

walk_back : (links : List Link) (u w : ℕ) (vs : List ℕ) → Walks links u vs w → Joined links w u
walk_back links u w [] h = ([], sym h)
walk_back links u w (v ∷ vs) h = joined_on links w v u (walk_back links v w vs h.1) (u ∷ [], (linked_back links u v h.0, refl))

pub joined_back : (links : List Link) (u v : ℕ) → Joined links u v → Joined links v u
joined_back links u v h = walk_back links u v h.0 h.1

-- a link leads on from a marked router to one at a place
pub joined_step : (links : List Link) (u v w : ℕ) → Joined links u v → Linked links v w → Joined links u w
joined_step links u v w h l = joined_on links u v w h (w ∷ [], (l, refl))

-- both ends of a link between places
pub link_leads : (routers : List NetRouter) (links : List Link) (index i j : ℕ) (link : Link) → index < length links → link ≡ get_or links index link → StandsAt routers i link.one → StandsAt routers j link.other
    → Linked links (slice_index (numbers routers) i) (slice_index (numbers routers) j)
link_leads routers links index i j link l read at_one at_other = (index, link, l, sym read, inl (sym at_one.1, sym at_other.1))

-- from a marked router, closed links lead to marked ones alone
closed_link : (routers : List NetRouter) (links : List Link) (reached : List Bool) (i u v : ℕ) → AllPairs (λ v w. v < w) (numbers routers) → IsClosed routers links reached → StandsAt routers i u → IsMarked reached i
    → Linked links u v → (j : ℕ) × StandsAt routers j v × IsMarked reached j
closed_link routers links reached i u v rising closed at marked h =
    let at_link = closed h.0 h.1 h.2 in
    let one : StandsAt routers at_link.0 h.1.one = subst (λ k. StandsAt routers at_link.0 k.one) h.3 at_link.2 in
    let other : StandsAt routers at_link.1 h.1.other = subst (λ k. StandsAt routers at_link.1 k.other) h.3 at_link.3 in
    elim h.4 [
      | inl forth ↦
          let here : i ≡ at_link.0 = one_place routers i at_link.0 u rising at (subst (StandsAt routers at_link.0) forth.0 one) in
          (at_link.1, subst (StandsAt routers at_link.1) forth.1 other, sym at_link.4 ∙ ap (λ k. get_or reached k false) (sym here) ∙ marked)
      | inr back ↦
          let here : i ≡ at_link.1 = one_place routers i at_link.1 u rising at (subst (StandsAt routers at_link.1) back.1 other) in
          (at_link.0, subst (StandsAt routers at_link.0) back.0 one, at_link.4 ∙ ap (λ k. get_or reached k false) (sym here) ∙ marked)
    ]

closed_walk : (routers : List NetRouter) (links : List Link) (reached : List Bool) (i u w : ℕ) (vs : List ℕ) → AllPairs (λ v w. v < w) (numbers routers) → IsClosed routers links reached → StandsAt routers i u → IsMarked reached i
    → Walks links u vs w → (j : ℕ) × StandsAt routers j w × IsMarked reached j
closed_walk routers links reached i u w [] rising closed at marked h = (i, subst (StandsAt routers i) h at, marked)
closed_walk routers links reached i u w (v ∷ vs) rising closed at marked h =
    let next = closed_link routers links reached i u v rising closed at marked h.0 in
    closed_walk routers links reached next.0 v w vs rising closed next.1 next.2 h.1

place_in : (routers : List NetRouter) (k : ℕ) → k < length routers → StandsAt routers k (slice_index (numbers routers) k)
place_in routers k l = (l, refl)

router_in : (routers : List NetRouter) (k : ℕ) → k < length routers → IsRouter routers (slice_index (numbers routers) k)
router_in routers k l =
    let inside : k < length (numbers routers) = omega (arith, l, length-map routers (λ r. r.asn)) in
    (k, inside, get_or_default (numbers routers) k (slice_index (numbers routers) k) 0 inside)

-- where links are closed and all are joined, all are marked
pub all_marked : (routers : List NetRouter) (links : List Link) (reached : List Bool) → AllPairs (λ v w. v < w) (numbers routers) → IsClosed routers links reached → IsMarked reached 0 → IsConnected routers links
    → (k : ℕ) → k < length routers → IsMarked reached k
all_marked routers links reached rising closed first connected k l =
    let some : 0 < length routers = omega (arith, l) in
    let f = slice_index (numbers routers) 0 in
    let u = slice_index (numbers routers) k in
    let walk = connected f u (router_in routers 0 some) (router_in routers k l) in
    let at = closed_walk routers links reached 0 f u walk.0 rising closed (place_in routers 0 some) first walk.1 in
    subst (IsMarked reached) (one_place routers at.0 k u rising at.1 (place_in routers k l)) at.2

-- where all are marked that are joined with the first, all are joined
pub all_joined : (routers : List NetRouter) (links : List Link) (reached : List Bool)
    → ((k : ℕ) → k < length routers → IsMarked reached k → Joined links (slice_index (numbers routers) 0) (slice_index (numbers routers) k))
    → ((k : ℕ) → k < length routers → IsMarked reached k) → IsConnected routers links
all_joined routers links reached sound marked u v is_u is_v =
    let f = slice_index (numbers routers) 0 in
    let l_u : is_u.0 < length routers = omega (arith, is_u.1, length-map routers (λ r. r.asn)) in
    let l_v : is_v.0 < length routers = omega (arith, is_v.1, length-map routers (λ r. r.asn)) in
    let at_u : slice_index (numbers routers) is_u.0 ≡ u = get_or_default (numbers routers) is_u.0 0 u is_u.1 ∙ is_u.2 in
    let at_v : slice_index (numbers routers) is_v.0 ≡ v = get_or_default (numbers routers) is_v.0 0 v is_v.1 ∙ is_v.2 in
    let to_u : Joined links f u = subst (Joined links f) at_u (sound is_u.0 l_u (marked is_u.0 l_u)) in
    let to_v : Joined links f v = subst (Joined links f) at_v (sound is_v.0 l_v (marked is_v.0 l_v)) in
    joined_on links u f v (joined_back links f u to_u) to_v

-- one mark more
pub mark_stays : (reached : List Bool) (place k : ℕ) → place < length reached → IsMarked reached k → IsMarked (set reached place true) k
mark_stays reached place k l marked = elim (cases_eq k place) [
  | inl same ↦ ap (λ j. get_or (set reached place true) j false) same ∙ get_or-set_same reached place true false l
  | inr differ ↦ get_or-set_other reached place k true false differ ∙ marked
]

pub mark_sound : (routers : List NetRouter) (links : List Link) (reached : List Bool) (place : ℕ) → place < length reached
    → ((k : ℕ) → k < length routers → IsMarked reached k → Joined links (slice_index (numbers routers) 0) (slice_index (numbers routers) k)) → LeadsTo routers links reached place
    → (k : ℕ) → k < length routers → IsMarked (set reached place true) k → Joined links (slice_index (numbers routers) 0) (slice_index (numbers routers) k)
mark_sound routers links reached place l sound leads k inside marked = elim (cases_eq k place) [
  | inl same ↦
      let from = leads.2 in
      subst (λ j. Joined links (slice_index (numbers routers) 0) (slice_index (numbers routers) j)) (sym same)
      (joined_step links (slice_index (numbers routers) 0) (slice_index (numbers routers) from.0) (slice_index (numbers routers) place) (sound from.0 from.1 from.2) from.3)
  | inr differ ↦ sound k inside (sym (get_or-set_other reached place k true false differ) ∙ marked)
]

-- only the first is marked
pub first_sound : (routers : List NetRouter) (links : List Link) (reached : List Bool) → ((k : ℕ) → IsMarked reached k → k ≡ 0)
    → (k : ℕ) → k < length routers → IsMarked reached k → Joined links (slice_index (numbers routers) 0) (slice_index (numbers routers) k)
first_sound routers links reached only k l marked = ([], ap (slice_index (numbers routers)) (sym (only k marked)))

abbrev pub no_link : Link
no_link = record { one = 0; other = 0 }

abbrev pub BothMarked : List NetRouter → List Bool → Link → Type 0
BothMarked routers reached link =
    (i j : ℕ) × StandsAt routers i link.one × StandsAt routers j link.other × (slice_index_or reached i false ≡ slice_index_or reached j false)

-- what `!=` says of two marks
pub same_marks : (a b : Bool) → not (beq a b) ≡ false → a ≡ b
same_marks true true e = refl
same_marks true false e = absurd (true≢false e)
same_marks false true e = absurd (true≢false e)
same_marks false false e = refl

pub other_false : (a b : Bool) → not (beq a b) ≡ true → a ≡ true → b ≡ false
other_false true true e f = absurd (false≢true e)
other_false true false e f = refl
other_false false true e f = absurd (false≢true f)
other_false false false e f = refl

pub other_true : (a b : Bool) → not (beq a b) ≡ true → a ≡ false → b ≡ true
other_true true true e f = refl
other_true true false e f = absurd (true≢false f)
other_true false true e f = refl
other_true false false e f = absurd (false≢true e)

mark_or_none : (k : ℕ) → (k < 64) ⊎ (64 ≤ k) → get_or (replicate 64 false) k false ≡ false
mark_or_none k (inl l) = get_or-replicate 64 k false false l
mark_or_none k (inr l) = get_or_past (replicate 64 false) k false (omega (arith, l, length-replicate 64 false))

pub only_first : (k : ℕ) → IsMarked (set (replicate 64 false) 0 true) k → k ≡ 0
only_first k marked = elim (cases_eq k 0) [
  | inl same ↦ same
  | inr differ ↦ absurd (false≢true (sym (get_or-set_other (replicate 64 false) 0 k true false differ ∙ mark_or_none k (cases_lt k 64)) ∙ marked))
]
