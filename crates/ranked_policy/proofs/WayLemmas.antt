-- Links from either end, in the order of their ends.
use Rattle.std.proofs.Common.{◌≡◌, ℕ, ◌+◌, ◌-◌, ◌<◌, ◌≤◌, true, false, List, [], ◌∷◌, ◌++◌, length, get_or, take, drop, Result, refl, sym, ap, subst, ◌∙◌, arith, map, inl, inr, eqb-true, eq-eqb}
use Rattle.std.specs.Prelude.{◌↔◌, ◌==◌, nat_lt, is_ok, Ok, Err, IfOk, IfErr}
use Rattle.std.specs.List.{All, AllPairs, Any, Contains}
use Rattle.std.specs.List.Sorted.{IsSearchInRange, IsBinarySearchResult, IsPartitionedBy, IsPartitionPoint}
use Rattle.std.specs.declared.cmp.Ordering.TheVariants.{Less, Equal, Greater}
use mathlib.Core.Logic.{◌⊎◌}
use Rattle.std.proofs.lemmas.Bool.{cases_order, cases_lt, ltb-true, lt-ltb, false≢true}
use Rattle.std.proofs.lemmas.List.{get_or-take, get_or-drop, get_or_append_left, get_or-append_right, length-drop, length-take-le, length-append, take-append-drop}
use Rattle.prefix_lanes.specs.Bits.{PrefixView}
use Rattle.ranked_policy.specs.declared.network.Link.{Link}
use Rattle.ranked_policy.specs.Orders.{compared}
use Rattle.ranked_policy.specs.Plans.{Joins}
use Rattle.ranked_policy.specs.Ways.{IsEarlier, HasWay, AreWays, AreFrom}
use Rattle.ranked_policy.proofs.PlaceLemmas.{Place, place, by_prefix, prefix_higher, none_of_both}
use Rattle.ranked_policy.proofs.Rising.{pairs_insert}
use Rattle.ranked_policy.proofs.Loops.{contains_map, map_contains}

-- a way as the pair of numbers that it is found by
abbrev pair : Link → PrefixView
pair way = record { addr = way.one; len = way.other }

pub way_place : (ways : List Link) (way : Link) (r : Result ℕ ℕ) → AllPairs IsEarlier ways → IsSearchInRange r (length ways) → IsBinarySearchResult (λ x. compared (pair x) (pair way)) ways r
    → Place (λ x. IsEarlier x way) (λ x. (x.one ≡ way.one) × (x.other ≡ way.other)) (λ x. IsEarlier way x) ways r
way_place ways way r rising bound is =
    place (λ x. compared (pair x) (pair way)) IsEarlier (λ a b l. prefix_higher (pair a) (pair b) (pair way) l) (λ x. IsEarlier x way) (λ x. (x.one ≡ way.one) × (x.other ≡ way.other)) (λ x. IsEarlier way x)
    (λ x e. by_prefix (pair x) (pair way) Less e)
    (λ x e. let same = by_prefix (pair x) (pair way) Equal e in (ap (λ p. p.addr) same, ap (λ p. p.len) same))
    (λ x e. by_prefix (pair x) (pair way) Greater e)
    ways r rising bound is

-- ---- one way more

pub rising_insert : (ways : List Link) (i : ℕ) (way : Link) → AllPairs IsEarlier ways → All (λ x. IsEarlier x way) (take i ways) → All (λ x. IsEarlier way x) (drop i ways) → AllPairs IsEarlier (take i ways ++ way ∷ drop i ways)
rising_insert ways i way rising before behind =
    pairs_insert IsEarlier (take i ways) (drop i ways) way (subst (AllPairs IsEarlier) (sym (take-append-drop i ways)) rising) before behind

module _ {X : Type 0} (P : X → Type 0) where
  any_left : (xs ys : List X) → Any P xs → Any P (xs ++ ys)
  any_left xs ys a = (a.0, a.1, (let l = a.2 in omega (arith, l, length-append xs ys)), get_or_append_left xs ys a.1 a.0 a.2 ∙ a.3, a.4)

  any_right : (xs ys : List X) → Any P ys → Any P (xs ++ ys)
  any_right xs ys a = (
    length xs + a.0,
    a.1,
    (let l = a.2 in omega (arith, l, length-append xs ys)),
    get_or-append_right xs ys (length xs) (length xs + a.0) a.1 refl (omega arith) ∙ (ap (λ k. get_or ys k a.1) (omega arith) ∙ a.3),
    a.4,
  )

  any_either : (xs ys : List X) → Any P (xs ++ ys) → Any P xs ⊎ Any P ys
  any_either xs ys a = elim (cases_lt a.0 (length xs)) [
    | inl below ↦ inl (a.0, a.1, below, sym (get_or_append_left xs ys a.1 a.0 below) ∙ a.3, a.4)
    | inr above ↦ inr (
      a.0 - length xs,
      a.1,
      (let l = a.2 in omega (arith, l, above, length-append xs ys)),
      sym (get_or-append_right xs ys (length xs) a.0 a.1 refl (omega (arith, above))) ∙ a.3,
      a.4,
    )
  ]

  any_first : (x : X) (ys : List X) → Any P (x ∷ ys) → P x ⊎ Any P ys
  any_first x ys a = elim (any_either (x ∷ []) ys a) [
    | inl here ↦ inl (let k : here.0 ≡ 0 = (let l = here.2 in omega (arith, l)) in subst P (sym here.3 ∙ ap (λ i. get_or (x ∷ []) i here.1) k) here.4)
    | inr rest ↦ inr rest
  ]

  pub any_insert : (xs : List X) (i : ℕ) (x : X) → Any P (take i xs ++ x ∷ drop i xs) ↔ (Any P xs ⊎ P x)
  any_insert xs i x = (
    λ a. elim (any_either (take i xs) (x ∷ drop i xs) a) [
      | inl front ↦ inl (subst (Any P) (take-append-drop i xs) (any_left (take i xs) (drop i xs) front))
      | inr back ↦ elim (any_first x (drop i xs) back) [
        | inl here ↦ inr here
        | inr rest ↦ inl (subst (Any P) (take-append-drop i xs) (any_right (take i xs) (drop i xs) rest))
      ]
    ],
    λ a. elim a [
      | inl old ↦ elim (any_either (take i xs) (drop i xs) (subst (Any P) (sym (take-append-drop i xs)) old)) [
        | inl front ↦ any_left (take i xs) (x ∷ drop i xs) front
        | inr back ↦ any_right (take i xs) (x ∷ drop i xs) (any_right (x ∷ []) (drop i xs) back)
      ]
      | inr new ↦ any_right (take i xs) (x ∷ drop i xs) (0, x, omega arith, refl, new)
    ],
  )

pub join_both : (old middle new : List Link) (a b : ℕ) → ((u v : ℕ) → (HasWay middle u v ↔ (HasWay old u v ⊎ ((a ≡ u) × (b ≡ v))))) → ((u v : ℕ) → (HasWay new u v ↔ (HasWay middle u v ⊎ ((b ≡ u) × (a ≡ v)))))
    → (u v : ℕ) → (HasWay new u v ↔ (HasWay old u v ⊎ Joins (record { one = a; other = b }) u v))
join_both old middle new a b first second u v = (
  λ h. elim ((second u v).0 h) [
    | inl m ↦ elim ((first u v).0 m) [ inl o ↦ inl o | inr w ↦ inr (inl w) ]
    | inr w ↦ inr (inr (w.1, w.0))
  ],
  λ h. elim h [
    | inl o ↦ (second u v).1 (inl ((first u v).1 (inl o)))
    | inr j ↦ elim j [
      | inl w ↦ (second u v).1 (inl ((first u v).1 (inr w)))
      | inr w ↦ (second u v).1 (inr (w.1, w.0))
    ]
  ],
)

-- ---- the ways of one router

-- those from lower ends come first
low_end : (ways : List Link) → AllPairs IsEarlier ways → (i j : ℕ) (d : Link) → i ≤ j → j < length ways → (get_or ways i d).one ≤ (get_or ways j d).one
low_end ways rising i j d le l = elim (cases_order i j) [
  | inl same ↦ omega (arith, ap (λ k. (get_or ways k d).one) same)
  | inr differ ↦ elim differ [
    | inl below ↦ elim (rising i j d below l) [ inl under ↦ omega (arith, under) | inr at ↦ omega (arith, at.0) ]
    | inr above ↦ absurd (omega (arith, le, above))
  ]
]

pub parted_below : (ways : List Link) (u : ℕ) → AllPairs IsEarlier ways → IsPartitionedBy (λ way. nat_lt way.one u) ways
parted_below ways u rising i j d le l is =
    lt-ltb (get_or ways i d).one u (omega (arith, low_end ways rising i j d le l, ltb-true (get_or ways j d).one u is))

-- behind those from lower ends, those from u come first
pub parted_at : (ways : List Link) (u : ℕ) → AllPairs IsEarlier ways → All (λ way. u ≤ way.one) ways → IsPartitionedBy (λ way. way.one == u) ways
parted_at ways u rising above i j d le l is =
    eq-eqb (get_or ways i d).one u
    (omega (arith, low_end ways rising i j d le l, eqb-true (get_or ways j d).one u is, above i d (omega (arith, le, l))))

pub rising_drop : (ways : List Link) (k : ℕ) → AllPairs IsEarlier ways → AllPairs IsEarlier (drop k ways)
rising_drop ways k rising i j d l m =
    subst (λ x. IsEarlier x (get_or (drop k ways) j d)) (sym (get_or-drop k ways i d))
    (subst (IsEarlier (get_or ways (k + i) d)) (sym (get_or-drop k ways j d)) (rising (k + i) (k + j) d (omega (arith, l)) (omega (arith, m, length-drop k ways))))

not_below : (x u : ℕ) → nat_lt x u ≡ false → u ≤ x
not_below x u is = elim (cases_lt x u) [
  | inl below ↦ absurd (false≢true (sym is ∙ lt-ltb x u below))
  | inr above ↦ above
]

-- from a place on, all are from u or a higher end
pub above_from : (ways : List Link) (u k : ℕ) → IsPartitionPoint (λ way. nat_lt way.one u ≡ true) (λ way. nat_lt way.one u ≡ false) ways k → All (λ way. u ≤ way.one) (drop k ways)
above_from ways u k parted i d l =
    subst (λ way. u ≤ way.one) (sym (get_or-drop k ways i d)) (not_below (get_or ways (k + i) d).one u (parted.1 (k + i) d (omega arith) (omega (arith, l, length-drop k ways))))

pub from_here : (ways : List Link) (u m : ℕ) → m ≤ length ways → IsPartitionPoint (λ way. (way.one == u) ≡ true) (λ way. (way.one == u) ≡ false) ways m → All (λ way. way.one ≡ u) (take m ways)
from_here ways u m inside parted i d l =
    let below : i < m = omega (arith, l, length-take-le m ways inside) in
    subst (λ way. way.one ≡ u) (sym (get_or-take m ways i d below)) (eqb-true (get_or ways i d).one u (parted.0 i d (omega arith) below))

pub rising_here : (ways : List Link) (u m : ℕ) → m ≤ length ways → AllPairs IsEarlier ways → All (λ way. way.one ≡ u) (take m ways) → AllPairs (λ way later. way.other < later.other) (take m ways)
rising_here ways u m inside rising from i j d l n =
    let there : j < m = omega (arith, n, length-take-le m ways inside) in
    let here : i < m = omega (arith, l, there) in
    let a = from i d (omega (arith, l, n)) in
    let b = from j d n in
    let x = get_or-take m ways i d here in
    let y = get_or-take m ways j d there in
    elim (rising i j d l (omega (arith, there, inside))) [
      | inl lower ↦ absurd (omega (arith, lower, a, b, ap (λ w. w.one) x, ap (λ w. w.one) y))
      | inr at ↦ let o = at.1 in omega (arith, o, ap (λ w. w.other) x, ap (λ w. w.other) y)
    ]

-- none from u stands elsewhere
pub ways_of : (ways : List Link) (u k m : ℕ) → k ≤ length ways → m ≤ length (drop k ways)
    → IsPartitionPoint (λ way. nat_lt way.one u ≡ true) (λ way. nat_lt way.one u ≡ false) ways k
    → IsPartitionPoint (λ way. (way.one == u) ≡ true) (λ way. (way.one == u) ≡ false) (drop k ways) m
    → (v : ℕ) → (HasWay (take m (drop k ways)) u v ↔ HasWay ways u v)
ways_of ways u k m inside within below at v = let Is : Link → Type 0 = λ way. (way.one ≡ u) × (way.other ≡ v) in (
  λ h. subst (Any Is) (take-append-drop k ways) (any_right Is (take k ways) (drop k ways)
      (subst (Any Is) (take-append-drop m (drop k ways)) (any_left Is (take m (drop k ways)) (drop m (drop k ways)) h))),
  λ h. elim (any_either Is (take k ways) (drop k ways) (subst (Any Is) (sym (take-append-drop k ways)) h)) [
    | inl front ↦
        let i : ℕ = front.0 in
        let under : i < k = (let l = front.2 in omega (arith, l, length-take-le k ways inside)) in
        let low = ltb-true (get_or ways i front.1).one u (below.0 i front.1 (omega arith) under) in
        let is = ap (λ w. w.one) (sym (get_or-take k ways i front.1 under) ∙ front.3) ∙ front.4.0 in
        absurd (omega (arith, low, is))
    | inr back ↦ elim (any_either Is (take m (drop k ways)) (drop m (drop k ways)) (subst (Any Is) (sym (take-append-drop m (drop k ways))) back)) [
      | inl here ↦ here
      | inr rest ↦
          let i : ℕ = rest.0 in
          let inside : m + i < length (drop k ways) = (let l = rest.2 in omega (arith, l, within, length-drop m (drop k ways))) in
          let is = ap (λ w. w.one) (sym (get_or-drop m (drop k ways) i rest.1) ∙ rest.3) ∙ rest.4.0 in
          absurd (false≢true (sym (at.1 (m + i) rest.1 (omega arith) inside) ∙ eq-eqb (get_or (drop k ways) (m + i) rest.1).one u is))
    ]
  ],
)

-- a way among the links of one router leads to one of those that they lead to
pub way_to : (links : List Link) (u v : ℕ) → All (λ link. link.one ≡ u) links → (Contains (map (λ link. link.other) links) v ↔ HasWay links u v)
way_to links u v from = (
  λ c. let known = contains_map (λ link. link.other) links v c in (known.0, known.1, known.2, known.3, (subst (λ w. w.one ≡ u) known.3 (from known.0 known.1 known.2), known.4)),
  λ h. map_contains (λ link. link.other) links v (h.0, h.1, h.2, h.3, h.4.1),
)

-- one link more, and its two ways
pub joined_ways : (links old new : List Link) (link : Link) → AreWays links old → ((u v : ℕ) → (HasWay new u v ↔ (HasWay old u v ⊎ Joins link u v))) → AreWays (links ++ link ∷ []) new
joined_ways links old new link are more u v = (
  λ h. elim ((more u v).0 h) [
    | inl o ↦ any_left (λ k. Joins k u v) links (link ∷ []) ((are u v).0 o)
    | inr j ↦ any_right (λ k. Joins k u v) links (link ∷ []) (0, link, omega arith, refl, j)
  ],
  λ h. elim (any_either (λ k. Joins k u v) links (link ∷ []) h) [
    | inl o ↦ (more u v).1 (inl ((are u v).1 o))
    | inr j ↦ elim (any_first (λ k. Joins k u v) link [] j) [
      | inl here ↦ (more u v).1 (inr here)
      | inr none ↦ absurd (let l = none.2 in omega (arith, l))
    ]
  ],
)

pub both : {A B C : Type 0} → (A ↔ B) → (B ↔ C) → (A ↔ C)
both f g = (λ a. g.0 (f.0 a), λ c. f.1 (g.1 c))

pub searched : (ways : List Link) (u k m : ℕ) → AllPairs IsEarlier ways → k ≤ length ways → m ≤ length (drop k ways)
    → (IsPartitionedBy (λ way. nat_lt way.one u) ways → IsPartitionPoint (λ way. nat_lt way.one u ≡ true) (λ way. nat_lt way.one u ≡ false) ways k)
    → (IsPartitionedBy (λ way. way.one == u) (drop k ways) → IsPartitionPoint (λ way. (way.one == u) ≡ true) (λ way. (way.one == u) ≡ false) (drop k ways) m)
    → AreFrom u ways (take m (drop k ways))
searched ways u k m rising inside within first second =
    let below = first (parted_below ways u rising) in
    let behind : AllPairs IsEarlier (drop k ways) = rising_drop ways k rising in
    let at = second (parted_at (drop k ways) u behind (above_from ways u k below)) in
    let from = from_here (drop k ways) u m within at in
    record {
      from = from;
      rising = rising_here (drop k ways) u m within behind from;
      exact = ways_of ways u k m inside within below at;
    }

-- ---- whether a way was found

pub has_place : (ways : List Link) (one other : ℕ) (r : Result ℕ ℕ) → IfOk r (λ i. HasWay ways one other) → IfErr r (λ i. i ≤ length ways)
    → IfErr r (λ i. All (λ way. IsEarlier way (record { one = one; other = other })) (take i ways)) → IfErr r (λ i. All (λ way. IsEarlier (record { one = one; other = other }) way) (drop i ways))
    → ((is_ok r ≡ true) ↔ HasWay ways one other)
has_place ways one other (Ok i) found bound before behind = (λ t. found, λ h. refl)
has_place ways one other (Err i) found bound before behind = (
  λ t. absurd (false≢true t),
  λ h. absurd (none_of_both (λ way. (way.one ≡ one) × (way.other ≡ other)) ways i bound
      (λ k d l is. elim (before k d l) [ inl lower ↦ (let a = is.0 in omega (arith, lower, a)) | inr at ↦ (let a = at.1 in let b = is.1 in omega (arith, a, b)) ])
      (λ k d l is. elim (behind k d l) [ inl lower ↦ (let a = is.0 in omega (arith, lower, a)) | inr at ↦ (let a = at.1 in let b = is.1 in omega (arith, a, b)) ]) h),
)
