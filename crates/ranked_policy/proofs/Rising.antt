-- Lists that rise.
use Rattle.std.proofs.Common.{◌≡◌, ℕ, zero, suc, ◌+◌, ◌<◌, List, [], ◌∷◌, ◌++◌, length, get_or, drop, sym, ap, subst, ◌∙◌, arith, map, inl, inr}
use Rattle.std.specs.List.{All, AllPairs}
use Rattle.std.proofs.lemmas.List.{get_or-drop, length-drop, length-map, get_or-map, get_or_default}
use Rattle.std.proofs.lemmas.List.Elements.{All-nil, All-cons, All-append, All-head, All-tail, All-map}
use Rattle.std.proofs.lemmas.List.Kept.{AllPairs-cons}
use Rattle.std.proofs.lemmas.Bool.{cases_order}
use Rattle.prefix_lanes.specs.Bits.{PrefixView}
use Rattle.ranked_policy.specs.Plans.{IsBefore}

pub pairs_head : {X : Type 0} (R : X → X → Type 0) (x : X) (xs : List X) → AllPairs R (x ∷ xs) → All (R x) xs
pairs_head R x xs pairs k d l = pairs 0 (suc k) d (omega arith) (omega (arith, l))

pub pairs_tail : {X : Type 0} (R : X → X → Type 0) (x : X) (xs : List X) → AllPairs R (x ∷ xs) → AllPairs R xs
pairs_tail R x xs pairs i j d l m = pairs (suc i) (suc j) d (omega (arith, l)) (omega (arith, m))

pub all_parts : {X : Type 0} (P : X → Type 0) (xs ys : List X) → All P (xs ++ ys) → All P xs × All P ys
all_parts P [] ys all = (All-nil P, all)
all_parts P (x ∷ xs) ys all = let rest = all_parts P xs ys (All-tail P x (xs ++ ys) all) in (All-cons P x xs (All-head P x (xs ++ ys) all) rest.0, rest.1)

-- an element more, that those before it and those behind it are related to
pub pairs_insert : {X : Type 0} (R : X → X → Type 0) (xs ys : List X) (x : X) → AllPairs R (xs ++ ys) → All (λ y. R y x) xs → All (R x) ys → AllPairs R (xs ++ x ∷ ys)
pairs_insert R [] ys x pairs before behind = AllPairs-cons R x ys behind pairs
pairs_insert R (z ∷ zs) ys x pairs before behind =
    let head : All (R z) (zs ++ ys) = pairs_head R z (zs ++ ys) pairs in
    let parts = all_parts (R z) zs ys head in
    AllPairs-cons R z (zs ++ x ∷ ys) (All-append (R z) zs (x ∷ ys) parts.0 (All-cons (R z) x ys (All-head (λ y. R y x) z zs before) parts.1))
    (pairs_insert R zs ys x (pairs_tail R z (zs ++ ys) pairs) (All-tail (λ y. R y x) z zs before) behind)

-- prefixes by address, then by length
pub before_trans : (p q r : PrefixView) → IsBefore p q → IsBefore q r → IsBefore p r
before_trans p q r g h = elim g [
  | inl l ↦ elim h [ inl m ↦ inl (omega (arith, l, m)) | inr s ↦ inl (omega (arith, l, s.0)) ]
  | inr t ↦ elim h [ inl m ↦ inl (omega (arith, t.0, m)) | inr s ↦ inr (t.0 ∙ s.0, omega (arith, t.1, s.1)) ]
]

pub before_self : (p : PrefixView) → IsBefore p p → ⊥
before_self p h = elim h [ inl l ↦ omega (arith, l) | inr s ↦ omega (arith, s.1) ]

-- what is said of a list that is read by a function
pub pairs_unmap : {X Y : Type 0} (f : X → Y) (R : Y → Y → Type 0) (xs : List X) → AllPairs R (map f xs) → AllPairs (λ x y. R (f x) (f y)) xs
pairs_unmap f R xs pairs i j d l m =
    subst (λ z. R z (f (get_or xs j d))) (get_or-map f xs i d (f d) (omega (arith, l, m)))
    (subst (R (get_or (map f xs) i (f d))) (get_or-map f xs j d (f d) m) (pairs i j (f d) l (omega (arith, m, length-map xs f))))

-- what is said of what a function reads, of another list where it reads the same
pub pairs_map : {X Y : Type 0} (f : X → Y) (R : Y → Y → Type 0) (xs : List X) → AllPairs (λ x y. R (f x) (f y)) xs → AllPairs R (map f xs)
pairs_map f R [] pairs = λ i j d l m. absurd (omega (arith, m))
pairs_map f R (x ∷ xs) pairs =
    AllPairs-cons R (f x) (map f xs) (All-map (R (f x)) f xs (pairs_head (λ x y. R (f x) (f y)) x xs pairs)) (pairs_map f R xs (pairs_tail (λ x y. R (f x) (f y)) x xs pairs))
