-- Lists that are made one by one.
use Rattle.std.proofs.Common.{◌≡◌, ℕ, zero, suc, arith, ◌+◌, ◌<◌, take, subst, add-one, List, [], ◌∷◌, ◌++◌, map, length, drop, get_or, refl, sym, ap, ◌∙◌}
use Rattle.std.specs.List.{AllByRecursion}
use Rattle.ranked_policy.specs.declared.network.Link.{Link}
use Rattle.ranked_policy.specs.declared.network.NetRouter.{NetRouter}
use Rattle.ranked_policy.specs.Plans.{IsRouter, numbers}
use Rattle.std.proofs.lemmas.List.{drop_more, map-append}
use Rattle.std.proofs.Math.Seq.{take-suc}

pub all_more : {X : Type 0} (P : X → Type 0) (xs : List X) (x : X) → AllByRecursion P xs → P x → AllByRecursion P (xs ++ x ∷ [])
all_more {X} P [] x all here = (here, tt)
all_more {X} P (y ∷ xs) x all here = (all.0, all_more P xs x all.1 here)

behind : (xs : List ℕ) (a : ℕ) (ys : List ℕ) → (xs ++ a ∷ []) ++ ys ≡ xs ++ a ∷ ys
behind [] a ys = refl
behind (x ∷ xs) a ys = ap (λ (zs : List ℕ). x ∷ zs) (behind xs a ys)

-- one more of those made, and one less of those left
pub one_more : {X Y : Type 0} (f : X → ℕ) (h : Y → ℕ) (xs : List X) (x : X) (ys : List Y) (i : ℕ) (y : Y) → i < length ys → y ≡ get_or ys i y → f x ≡ h y
    → map f (xs ++ x ∷ []) ++ map h (drop (i + 1) ys) ≡ map f xs ++ map h (drop i ys)
one_more {X} {Y} f h xs x ys i y l at e =
    ap (λ (zs : List ℕ). zs ++ map h (drop (i + 1) ys)) (map-append f xs (x ∷ []))
    ∙ behind (map f xs) (f x) (map h (drop (i + 1) ys))
    ∙ ap (λ (n : ℕ). map f xs ++ n ∷ map h (drop (i + 1) ys)) (e ∙ ap h at)
    ∙ ap (λ (zs : List Y). map f xs ++ map h zs) (sym (drop_more ys i y l))

pub shorter : {X : Type 0} → (xs ys : List X) (x : X) (i n : ℕ) → xs ≡ x ∷ ys → length xs + i ≡ n → length ys + (i + 1) ≡ n
shorter xs ys x i n e h = let k : length xs ≡ length (x ∷ ys) = ap length e in omega (arith, h, k)

-- a router of a list bears one of its numbers
pub is_router : (rs : List NetRouter) (i : ℕ) (r : NetRouter) → i < length rs → r ≡ get_or rs i r → IsRouter rs r.asn
is_router [] i r below is = absurd (omega (arith, below))
is_router (x ∷ xs) zero r below is = (0, (let some : 0 < length (numbers (x ∷ xs)) = omega arith in some), ap (λ (k : NetRouter). k.asn) (sym is))
is_router (x ∷ xs) (suc i) r below is =
    let k = is_router xs i r (omega (arith, below)) is in
    (suc k.0, (let more = k.1 in let some : suc k.0 < length (numbers (x ∷ xs)) = omega (arith, more) in some), k.2)

take_more : {X : Type 0} → (xs : List X) (i : ℕ) (x : X) → i < length xs → x ≡ get_or xs i x → take (i + 1) xs ≡ take i xs ++ x ∷ []
take_more xs i x below is = ap (λ n. take n xs) (add-one i) ∙ take-suc xs i x below ∙ ap (λ y. take i xs ++ y ∷ []) (sym is)

-- what holds of those read, and of the next, holds of one more
pub read_more : {X : Type 0} → (P : X → Type 0) (xs : List X) (i : ℕ) (x : X) → i < length xs → x ≡ get_or xs i x → AllByRecursion P (take i xs) → P x → AllByRecursion P (take (i + 1) xs)
read_more P xs i x below is all here = subst (AllByRecursion P) (sym (take_more xs i x below is)) (all_more P (take i xs) x all here)

pub none_left : {X : Type 0} → (xs : List X) → length xs ≡ 0 → xs ≡ []
none_left [] none = refl
none_left (x ∷ xs) none = absurd (omega (arith, none))

-- one of those left moves to those made
pub lines_more : {X Y : Type 0} (f : X → Y) (xs : List X) (x : X) (y : Y) (rest all : List Y) → all ≡ y ∷ rest → f x ≡ y → map f xs ++ all ≡ map f (xs ++ x ∷ []) ++ rest
lines_more f [] x y rest all is same = is ∙ ap (λ z. z ∷ rest) (sym same)
lines_more f (a ∷ xs) x y rest all is same = ap (λ zs. f a ∷ zs) (lines_more f xs x y rest all is same)

-- one more place of a pair is put
pub placed_on : (place : ℕ → ℕ) (links : List Link) (i : ℕ) (d : Link) (old new all : List ℕ) → i < length links → new ≡ old ++ place (get_or links i d).other ∷ []
    → old ++ map place (map (λ link. link.other) (drop i links)) ≡ all → new ++ map place (map (λ link. link.other) (drop (i + 1) links)) ≡ all
placed_on place links i d old new all below put h =
    let rest = map place (map (λ (link : Link). link.other) (drop (i + 1) links)) in
    ap (λ (ns : List ℕ). ns ++ rest) put ∙ behind old (place (get_or links i d).other) rest
    ∙ ap (λ (ks : List Link). old ++ map place (map (λ link. link.other) ks)) (sym (drop_more links i d below)) ∙ h

-- the same of what each has
pub parts_more : {X Y Z : Type 0} (f : X → Y) (h : Y → Z) (xs : List X) (x : X) (y : Y) (rest all : List Y) → all ≡ y ∷ rest → h (f x) ≡ h y → map h (map f xs ++ all) ≡ map h (map f (xs ++ x ∷ []) ++ rest)
parts_more f h [] x y rest all is same = ap (map h) is ∙ ap (λ z. z ∷ map h rest) (sym same)
parts_more f h (a ∷ xs) x y rest all is same = ap (λ zs. h (f a) ∷ zs) (parts_more f h xs x y rest all is same)
