-- Loops over the parts of an UPDATE: one item more, and the lengths of what is written.
use Rattle.std.proofs.Common.{◌≡◌, ℕ, ◌+◌, ◌-◌, ◌*◌, ◌<◌, ◌≤◌, Bool, true, false, cond, List, [], ◌∷◌, ◌++◌, length, take, drop, filter, get_or, Option, Some, None, is_some, refl, sym, ap, subst, ◌∙◌, append_assoc, arith}
use Rattle.std.specs.Prelude.{◌↔◌}
use Rattle.std.specs.Option.{option_map}
use Rattle.std.specs.List.{flat_map, AllByRecursion}
use Rattle.std.specs.Int.{w32, to_be_bytes}
use Rattle.std.proofs.lemmas.List.{length-append, take_all}
use Rattle.std.proofs.lemmas.List.Concat.{flat_map-append}
use Rattle.bgp_values.specs.declared.width.Width.{Width}
use Rattle.bgp_values.specs.declared.width.Width.TheVariants.{Two, Four}
use Rattle.bgp_codec.specs.AsNumbers.{asn_size}
use Rattle.bgp_codec.specs.declared.attributes.Attrs.{Attrs}
use Rattle.bgp_codec.specs.declared.attributes.Aggregator.{Aggregator}
use Rattle.bgp_codec.specs.declared.attributes.Raw.{Raw}
use Rattle.bgp_codec.specs.declared.path.Segment.{Segment}
use Rattle.bgp_codec.specs.Updates.{segment_octets, path_octets, IsRising, raw_octets, attrs_octets, stands, given, aggregator_raw}
use Rattle.bgp_codec.proofs.OpenLoops.{take_one}
use Rattle.bgp_codec.proofs.PathLemmas.{length_numbers}

-- ---- what holds of each item

module _ {X : Type 0} (P : X → Type 0) where
  all_behind : (xs : List X) (x : X) → AllByRecursion P xs → P x → AllByRecursion P (xs ++ x ∷ [])
  all_behind [] x all p = (p, tt)
  all_behind (y ∷ ys) x all p = (all.0, all_behind ys x all.1 p)

  -- holds of one more
  pub all_one : (xs : List X) (i : ℕ) (x : X) → i < length xs → x ≡ get_or xs i x → AllByRecursion P (take i xs) → P x → AllByRecursion P (take (i + 1) xs)
  all_one xs i x lt e all p = subst (AllByRecursion P) (sym (take_one xs i x lt e)) (all_behind (take i xs) x all p)

  -- and at the end of all
  pub all_all : (xs : List X) (i : ℕ) → length xs ≤ i → AllByRecursion P (take i xs) → AllByRecursion P xs
  all_all xs i le all = subst (AllByRecursion P) (take_all i xs le) all

-- ---- a path

pub segment_size : (width : Width) (s : Segment) → length (segment_octets width s) ≡ 2 + asn_size width * length s.numbers
segment_size width s = omega (arith, length_numbers width s.numbers)

-- ---- unknown attributes

-- what is above a greater code is above a lower one
above : (n m : ℕ) (raws : List Raw) → n < m → AllByRecursion (λ (s : Raw). m < s.code) raws → AllByRecursion (λ (s : Raw). n < s.code) raws
above n m [] lt all = tt
above n m (r ∷ rs) lt all = (omega (arith, all.0), above n m rs lt all.1)

-- where the first two rise, all rise exactly where those behind the first do
rising_pair : (r s : Raw) (rest : List Raw) → r.code < s.code → (IsRising (r ∷ s ∷ rest) ↔ IsRising (s ∷ rest))
rising_pair r s rest lt = (λ all. all.1, λ all. ((lt, above r.code s.code rest lt all.0), all))

pub rising_on : (all left : List Raw) (r s : Raw) → 1 ≤ length left → 1 ≤ length (take (length left - 1) (drop 1 left)) → r ≡ get_or left 0 r
    → s ≡ get_or (take (length left - 1) (drop 1 left)) 0 s → r.code < s.code → (IsRising all ↔ IsRising left) → (IsRising all ↔ IsRising (take (length left - 1) (drop 1 left)))
rising_on all [] r s one two er es lt inv = absurd (omega arith)
rising_on all (x ∷ []) r s one two er es lt inv = absurd (omega arith)
rising_on all (x ∷ y ∷ rest) r s one two er es lt inv =
    let n = length (x ∷ y ∷ rest) - 1 in
    let whole : take n (y ∷ rest) ≡ y ∷ rest = take_all n (y ∷ rest) (omega arith) in
    let first : s ≡ y = es ∙ ap (λ (rs : List Raw). get_or rs 0 s) whole in
    let lower : x.code < y.code = omega (arith, ap (λ (q : Raw). q.code) er, ap (λ (q : Raw). q.code) first, lt) in
    let pair = rising_pair x y rest lower in
    subst (λ (rs : List Raw). IsRising all ↔ IsRising rs) (sym whole) (λ a. pair.0 (inv.0 a), λ b. inv.1 (pair.1 b))

-- ---- all attributes

pub joined : {X : Type 0} (f : X → List ℕ) (xs ys : List X) → length (flat_map f (xs ++ ys)) ≡ length (flat_map f xs) + length (flat_map f ys)
joined f xs ys = ap length (flat_map-append f xs ys) ∙ length-append (flat_map f xs) (flat_map f ys)

origin_size : (o : Option ℕ) → length (flat_map raw_octets (given 64 1 (option_map (λ n. n ∷ []) o))) ≡ cond (is_some o) 4 0
origin_size None = refl
origin_size (Some n) = refl

number_size : (flags code : ℕ) (o : Option ℕ) → length (flat_map raw_octets (given flags code (option_map (to_be_bytes w32) o))) ≡ cond (is_some o) 7 0
number_size flags code None = refl
number_size flags code (Some n) = refl

atomic_size : (b : Bool) → length (flat_map raw_octets (given 64 6 (cond b (Some []) None))) ≡ cond b 3 0
atomic_size true = refl
atomic_size false = refl

aggregator_size : (width : Width) (o : Option Aggregator) → length (flat_map raw_octets (aggregator_raw width o)) ≡ cond (is_some o) (7 + asn_size width) 0
aggregator_size width None = refl
aggregator_size Two (Some g) = refl
aggregator_size Four (Some g) = refl

-- octets put behind others
pub grown : (new old part : List ℕ) → new ≡ old ++ part → length new ≡ length old + length part
grown new old part e = ap length e ∙ length-append old part

-- how many octets the attributes have, part by part
pub attrs_lengths : (width : Width) (a : Attrs)
    → length (attrs_octets width a)
    ≡ length (flat_map raw_octets (filter (stands true) a.other))
    + (length (flat_map raw_octets (given 64 1 (option_map (λ n. n ∷ []) a.origin)))
    + (length (flat_map raw_octets (given 64 2 (option_map (path_octets width) a.path)))
    + (length (flat_map raw_octets (given 64 3 (option_map (to_be_bytes w32) a.next_hop)))
    + (length (flat_map raw_octets (given 128 4 (option_map (to_be_bytes w32) a.med)))
    + (length (flat_map raw_octets (given 64 5 (option_map (to_be_bytes w32) a.local_pref)))
    + (length (flat_map raw_octets (given 64 6 (cond a.atomic (Some []) None)))
    + (length (flat_map raw_octets (aggregator_raw width a.aggregator)) + length (flat_map raw_octets (filter (stands false) a.other)))))))))
attrs_lengths width a =
    let f = raw_octets in
    let z = filter (stands false) a.other in
    let g = aggregator_raw width a.aggregator in
    let t = given 64 6 (cond a.atomic (Some []) None) in
    let l = given 64 5 (option_map (to_be_bytes w32) a.local_pref) in
    let m = given 128 4 (option_map (to_be_bytes w32) a.med) in
    let n = given 64 3 (option_map (to_be_bytes w32) a.next_hop) in
    let p = given 64 2 (option_map (path_octets width) a.path) in
    let o = given 64 1 (option_map (λ n. n ∷ []) a.origin) in
    let b = filter (stands true) a.other in
    omega (
      arith,
      joined f b (o ++ (p ++ (n ++ (m ++ (l ++ (t ++ (g ++ z))))))),
      joined f o (p ++ (n ++ (m ++ (l ++ (t ++ (g ++ z)))))),
      joined f p (n ++ (m ++ (l ++ (t ++ (g ++ z))))),
      joined f n (m ++ (l ++ (t ++ (g ++ z)))),
      joined f m (l ++ (t ++ (g ++ z))),
      joined f l (t ++ (g ++ z)),
      joined f t (g ++ z),
      joined f g z,
    )

-- all but the path and the unknown ones have a size of their own
pub attrs_size : (width : Width) (a : Attrs)
    → length (attrs_octets width a)
    ≡ length (flat_map raw_octets (filter (stands true) a.other))
    + (cond (is_some a.origin) 4 0
    + (length (flat_map raw_octets (given 64 2 (option_map (path_octets width) a.path)))
    + (cond (is_some a.next_hop) 7 0
    + (cond (is_some a.med) 7 0
    + (cond (is_some a.local_pref) 7 0 + (cond a.atomic 3 0 + (cond (is_some a.aggregator) (7 + asn_size width) 0 + length (flat_map raw_octets (filter (stands false) a.other)))))))))
attrs_size width a =
    omega (
      arith,
      attrs_lengths width a,
      origin_size a.origin,
      number_size 64 3 a.next_hop,
      number_size 128 4 a.med,
      number_size 64 5 a.local_pref,
      atomic_size a.atomic,
      aggregator_size width a.aggregator,
    )

-- one part more, and what comes behind it
regroup : {X : Type 0} (f : X → List ℕ) (old : List ℕ) (xs ys : List X) → (old ++ flat_map f xs) ++ flat_map f ys ≡ old ++ flat_map f (xs ++ ys)
regroup f old xs ys = append_assoc old (flat_map f xs) (flat_map f ys) ∙ ap (λ (zs : List ℕ). old ++ zs) (sym (flat_map-append f xs ys))

-- nine parts put one after the other are the attributes
pub attrs_put : (width : Width) (a : Attrs) (old o1 o2 o3 o4 o5 o6 o7 o8 o9 : List ℕ)
    → o1 ≡ old ++ flat_map raw_octets (filter (stands true) a.other)
    → o2 ≡ o1 ++ flat_map raw_octets (given 64 1 (option_map (λ n. n ∷ []) a.origin))
    → o3 ≡ o2 ++ flat_map raw_octets (given 64 2 (option_map (path_octets width) a.path))
    → o4 ≡ o3 ++ flat_map raw_octets (given 64 3 (option_map (to_be_bytes w32) a.next_hop))
    → o5 ≡ o4 ++ flat_map raw_octets (given 128 4 (option_map (to_be_bytes w32) a.med))
    → o6 ≡ o5 ++ flat_map raw_octets (given 64 5 (option_map (to_be_bytes w32) a.local_pref))
    → o7 ≡ o6 ++ flat_map raw_octets (given 64 6 (cond a.atomic (Some []) None))
    → o8 ≡ o7 ++ flat_map raw_octets (aggregator_raw width a.aggregator)
    → o9 ≡ o8 ++ flat_map raw_octets (filter (stands false) a.other)
    → o9 ≡ old ++ attrs_octets width a
attrs_put width a old o1 o2 o3 o4 o5 o6 o7 o8 o9 e1 e2 e3 e4 e5 e6 e7 e8 e9 =
    let f = raw_octets in
    let z = filter (stands false) a.other in
    let g = aggregator_raw width a.aggregator in
    let t = given 64 6 (cond a.atomic (Some []) None) in
    let l = given 64 5 (option_map (to_be_bytes w32) a.local_pref) in
    let m = given 128 4 (option_map (to_be_bytes w32) a.med) in
    let n = given 64 3 (option_map (to_be_bytes w32) a.next_hop) in
    let p = given 64 2 (option_map (path_octets width) a.path) in
    let o = given 64 1 (option_map (λ n. n ∷ []) a.origin) in
    let b = filter (stands true) a.other in
    e9 ∙ ap (λ (x : List ℕ). x ++ flat_map f z) e8 ∙ regroup f o7 g z
    ∙ ap (λ (x : List ℕ). x ++ flat_map f (g ++ z)) e7 ∙ regroup f o6 t (g ++ z)
    ∙ ap (λ (x : List ℕ). x ++ flat_map f (t ++ (g ++ z))) e6 ∙ regroup f o5 l (t ++ (g ++ z))
    ∙ ap (λ (x : List ℕ). x ++ flat_map f (l ++ (t ++ (g ++ z)))) e5 ∙ regroup f o4 m (l ++ (t ++ (g ++ z)))
    ∙ ap (λ (x : List ℕ). x ++ flat_map f (m ++ (l ++ (t ++ (g ++ z))))) e4 ∙ regroup f o3 n (m ++ (l ++ (t ++ (g ++ z))))
    ∙ ap (λ (x : List ℕ). x ++ flat_map f (n ++ (m ++ (l ++ (t ++ (g ++ z)))))) e3 ∙ regroup f o2 p (n ++ (m ++ (l ++ (t ++ (g ++ z)))))
    ∙ ap (λ (x : List ℕ). x ++ flat_map f (p ++ (n ++ (m ++ (l ++ (t ++ (g ++ z))))))) e2 ∙ regroup f o1 o (p ++ (n ++ (m ++ (l ++ (t ++ (g ++ z))))))
    ∙ ap (λ (x : List ℕ). x ++ flat_map f (o ++ (p ++ (n ++ (m ++ (l ++ (t ++ (g ++ z)))))))) e1 ∙ regroup f old b (o ++ (p ++ (n ++ (m ++ (l ++ (t ++ (g ++ z)))))))
