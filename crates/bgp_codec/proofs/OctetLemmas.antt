-- Parts of octets are octets.
use Rattle.std.proofs.Common.{◌≡◌, ℕ, zero, suc, ◌<◌, ◌≤◌, Bool, true, false, List, [], ◌∷◌, ◌++◌, length, take, drop, get_or, ◌+◌, refl, subst, arith}
use Rattle.std.specs.Prelude.{nat_lt}
use Rattle.std.specs.List.{flat_map, AllByRecursion}
use Rattle.std.proofs.lemmas.Bool.{ltb-true, ltb-false}
use Rattle.std.proofs.lemmas.List.{length-take, get_or-take, get_or-drop, take_at}
use Rattle.std.proofs.Math.ListN.{get_or-eq_default}
use Rattle.bgp_codec.specs.Spelling.{IsOctets}

-- those behind the first
pub octets_tail : (x : ℕ) (xs : List ℕ) → IsOctets (x ∷ xs) → IsOctets xs
octets_tail x xs are i = are (suc i)

-- one more in front
pub octets_cons : (x : ℕ) (xs : List ℕ) → x < 256 → IsOctets xs → IsOctets (x ∷ xs)
octets_cons x xs lt are zero = lt
octets_cons x xs lt are (suc i) = are i

-- two parts, joined
pub octets_joined : (xs ys : List ℕ) → IsOctets xs → IsOctets ys → IsOctets (xs ++ ys)
octets_joined [] ys left right = right
octets_joined (x ∷ xs) ys left right = octets_cons x (xs ++ ys) (left 0) (octets_joined xs ys (octets_tail x xs left) right)

-- many parts, joined
pub octets_each : {A : Type 0} (P : A → Type 0) (write : A → List ℕ) (xs : List A) → ((x : A) → P x → IsOctets (write x)) → AllByRecursion P xs → IsOctets (flat_map write xs)
octets_each P write [] each all = λ i. omega arith
octets_each P write (x ∷ xs) each all = octets_joined (write x) (flat_map write xs) (each x all.0) (octets_each P write xs each all.1)

-- an octet of the first n, whether its place is among them or not
octet_within : (n : ℕ) (octets : List ℕ) (i : ℕ) (b : Bool) → nat_lt i n ≡ b → IsOctets octets → get_or (take n octets) i 0 < 256
octet_within n octets i true e are = let lt : i < n = ltb-true i n e in rw (get_or-take n octets i 0 lt) (are i)
octet_within n octets i false e are =
    let le : n ≤ i = ltb-false i n e in
    let past : length (take n octets) ≤ i = omega (arith, length-take n octets) in
    rw (get_or-eq_default (take n octets) 0 past) (omega arith)

-- the first of them
pub octets_front : (n : ℕ) (octets : List ℕ) → IsOctets octets → IsOctets (take n octets)
octets_front n octets are i = octet_within n octets i (nat_lt i n) refl are

-- those behind them
pub octets_behind : (n : ℕ) (octets : List ℕ) → IsOctets octets → IsOctets (drop n octets)
octets_behind n octets are i = rw get_or-drop (are (n + i))

-- the first of two parts
pub octets_left : (xs ys : List ℕ) → IsOctets (xs ++ ys) → IsOctets xs
octets_left xs ys are = subst IsOctets (take_at xs ys (length xs) refl) (octets_front (length xs) (xs ++ ys) are)

-- and the second
pub octets_right : (xs ys : List ℕ) → IsOctets (xs ++ ys) → IsOctets ys
octets_right [] ys are = are
octets_right (x ∷ xs) ys are = octets_right xs ys (octets_tail x (xs ++ ys) are)

-- two octets
pub two_octets : (a b : ℕ) → a < 256 → b < 256 → IsOctets (a ∷ b ∷ [])
two_octets a b x y zero = x
two_octets a b x y (suc zero) = y
two_octets a b x y (suc (suc i)) = omega arith

-- and four
pub four_octets : (a b c d : ℕ) → a < 256 → b < 256 → c < 256 → d < 256 → IsOctets (a ∷ b ∷ c ∷ d ∷ [])
four_octets a b c d x y z w zero = x
four_octets a b c d x y z w (suc zero) = y
four_octets a b c d x y z w (suc (suc zero)) = z
four_octets a b c d x y z w (suc (suc (suc zero))) = w
four_octets a b c d x y z w (suc (suc (suc (suc i)))) = omega arith
