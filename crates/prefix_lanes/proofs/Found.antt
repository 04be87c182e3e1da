-- Entries that begin as a prefix does, found eight at a time by the bits of a mask.
use Rattle.std.proofs.Common.{◌≡◌, ℕ, zero, suc, ◌+◌, ◌-◌, ◌*◌, ◌/◌, ◌%◌, ◌^◌, ◌<◌, ◌≤◌, ◌==◌, Bool, true, false, not, cond, List, [], ◌∷◌, map, length, take, drop, get_or, set, replicate, Option, inl, inr, w32, refl, sym, ap, ap₂, subst, ◌∙◌, arith, bit_and}
use Rattle.std.specs.List.{All, HoldsAt, prefix_len}
use Rattle.std.proofs.lemmas.Bool.{cases_lt, eq-eqb, eqb-true, false≢true}
use Rattle.std.proofs.lemmas.List.{drop-drop, drop-take, drop-map, take-map, map-set, get_or_default}
use Rattle.std.proofs.lemmas.List.Elements.{All-set, All-take, All-replicate}
use Rattle.std.proofs.lemmas.List.Sums.{prefix_len-le-length}
use Rattle.std.proofs.lemmas.Nat.{shl-shr, shr-shr, shr_split}
use Rattle.std.proofs.lemmas.Simd.{length-chunk, length-zip2, mask_l-mod, tops_compared, trailing_mask_l, run_in_chunk_fails, run_in_chunk_stops, none_from_empty_mask, zip2-map, zip2_splat_left}
use lib.Count.{count_trailing_zeros}
use lib.Lanes.{chunk, mask_l, top, zip2}
use Rattle.prefix_lanes.specs.declared.cover_table.Candidate.{Candidate}
use Rattle.prefix_lanes.specs.Best.{IsBest}
use Rattle.prefix_lanes.specs.Bits.{PrefixView, IsCanonical, Covers, leading_mask}
use Rattle.prefix_lanes.specs.Columns.{AreColumns, is_alike}
use Rattle.prefix_lanes.proofs.Candidates.{best_stays, best_at}
use Rattle.prefix_lanes.proofs.Lanes.{mask_clears}
use Rattle.prefix_lanes.proofs.Prefixes.{covers_from, covers_to}

-- what covers begins alike
pub covers_alike : (p q : PrefixView) → IsCanonical p → IsCanonical q → Covers p q → is_alike q p ≡ true
covers_alike p q c d h =
    let r = 32 - p.len in
    let same : q.addr / 2 ^ r * 2 ^ r ≡ p.addr / 2 ^ r * 2 ^ r = ap (λ k. k * 2 ^ r) (sym (covers_to p q c d h)) in
    eq-eqb _ _ (omega (arith, mask_clears q.addr p.len d.fits c.short, same, shr_split p.addr r, c.clear))

-- what begins alike covers, where it is no longer
pub alike_covers : (p q : PrefixView) → IsCanonical p → IsCanonical q → is_alike q p ≡ true → p.len ≤ q.len → Covers p q
alike_covers p q c d e l =
    let r = 32 - p.len in
    let start : q.addr / 2 ^ r * 2 ^ r ≡ p.addr = sym (mask_clears q.addr p.len d.fits c.short) ∙ eqb-true _ _ e in
    covers_from p q c d l (ap (λ a. a / 2 ^ r) (sym start) ∙ shl-shr (q.addr / 2 ^ r) r)

abbrev pub none : PrefixView
none = record { addr = 0; len = 0 }

-- entries that don't begin alike are passed
pub passed : (entries : List PrefixView) (q : PrefixView) (best : Option Candidate) (at n : ℕ) → at + n ≤ length entries → All IsCanonical entries → IsCanonical q
    → ((k : ℕ) → at ≤ k → k < at + n → is_alike q (get_or entries k none) ≡ false) → IsBest (take at entries) q best → IsBest (take (at + n) entries) q best
passed entries q best at zero room c d apart b = subst (λ k. IsBest (take k entries) q best) (omega arith) b
passed entries q best at (suc n) room c d apart b =
    let before = passed entries q best at n (omega (arith, room)) c d (λ k l m. apart k l (omega (arith, m))) b in
    let place = at + n in
    let inside : place < length entries = omega (arith, room) in
    let e = get_or entries place none in
    let other : is_alike q e ≡ false = apart place (omega arith) (omega arith) in
    let fails : Covers e q → ⊥ = λ h. false≢true (sym other ∙ covers_alike e q (c place none inside) d h) in
    subst (λ k. IsBest (take k entries) q best) (omega arith)
    (best_at entries q best place e inside (get_or_default entries place none e inside) (best_stays (take place entries) q best e (λ h longer. fails h) before))

halves : (b : Bool) (rest : ℕ) → (cond b 1 0 + 2 * rest) / 2 ≡ rest
halves true rest = omega arith
halves false rest = omega arith

-- a mask without its lowest bit
half : (ms : List Bool) → mask_l ms / 2 ≡ mask_l (drop 1 ms)
half [] = refl
half (m ∷ ms) = halves m (mask_l ms)

one_less : (a k : ℕ) → a / 2 ^ suc k ≡ a / 2 / 2 ^ k
one_less a k =
    let n : 1 + k ≡ suc k = omega arith in
    sym (shr-shr a 1 k ∙ ap (λ j. a / 2 ^ j) n)

shifted : (ms : List Bool) (k : ℕ) → mask_l ms / 2 ^ k ≡ mask_l (drop k ms)
shifted ms zero = omega arith
shifted [] (suc k) = omega arith
shifted (m ∷ ms) (suc k) = one_less (mask_l (m ∷ ms)) k ∙ ap (λ a. a / 2 ^ k) (halves m (mask_l ms)) ∙ shifted ms k

all_fail : (b : Bool) (n l m : ℕ) → n ≤ l → cond (not b) (1 + n) 0 ≡ suc l → (n ≡ l → m ≡ 0) → cond b 1 0 + 2 * m ≡ 0
all_fail true n l m le e rest = absurd (omega (arith, e))
all_fail false n l m le e rest = omega (arith, rest (omega (arith, e)))

empty_mask : {X : Type 0} (p : X → Bool) (xs : List X) → prefix_len (λ x. not (p x)) xs ≡ length xs → mask_l (map p xs) ≡ 0
empty_mask p [] e = refl
empty_mask p (x ∷ xs) e = all_fail (p x) (prefix_len (λ y. not (p y)) xs) (length xs) (mask_l (map p xs)) (prefix_len-le-length (λ y. not (p y)) xs) e (empty_mask p xs)

-- what is known between the entries found
pub record Left (entries : List PrefixView) (q : PrefixView) (from at left : ℕ) (best : Option Candidate) : Type 0 where
  pub low : from ≤ at
  pub high : at ≤ from + 8
  pub found : left ≡ mask_l (map (is_alike q) (chunk at (from + 8 - at) entries))
  pub so_far : IsBest (take at entries) q best

-- where one is left, it stands within the eight
pub next_within : (entries : List PrefixView) (q : PrefixView) (from at left : ℕ) (best : Option Candidate) → from + 8 ≤ length entries → Left entries q from at left best → 0 < left
    → (at + count_trailing_zeros 64 left < from + 8) × (count_trailing_zeros 64 left ≡ prefix_len (λ p. not (is_alike q p)) (chunk at (from + 8 - at) entries))
next_within entries q from at left best room s some =
    let p = is_alike q in
    let rest = chunk at (from + 8 - at) entries in
    let n : length rest ≡ from + 8 - at = length-chunk at (from + 8 - at) entries (omega (arith, room, s.high)) in
    let counted : count_trailing_zeros 64 left ≡ prefix_len (λ e. not (p e)) rest =
    ap (count_trailing_zeros 64) s.found ∙ trailing_mask_l p 64 rest (omega (arith, n, s.low)) (omega (arith, some, s.found)) in
    let fewer : prefix_len (λ e. not (p e)) rest < length rest =
    elim (cases_lt (prefix_len (λ e. not (p e)) rest) (length rest)) [
      | inl below ↦ below
      | inr above ↦ absurd (omega (arith, some, s.found, empty_mask p rest (omega (arith, above, prefix_len-le-length (λ e. not (p e)) rest))))
    ] in
    (omega (arith, counted, n, s.low, s.high, fewer), counted)

-- the entries up to the next one are passed
pub up_to_next : (entries : List PrefixView) (q : PrefixView) (from at left : ℕ) (best : Option Candidate) → from + 8 ≤ length entries → All IsCanonical entries → IsCanonical q
    → Left entries q from at left best → 0 < left → IsBest (take (at + count_trailing_zeros 64 left) entries) q best
up_to_next entries q from at left best room c d s some =
    let next = next_within entries q from at left best room s some in
    passed entries q best at (count_trailing_zeros 64 left) (omega (arith, room, next.0)) c d
    (run_in_chunk_fails (is_alike q) entries at (from + 8 - at) (count_trailing_zeros 64 left) none (omega (arith, room, s.high)) next.1) s.so_far

-- the next one begins alike
pub next_alike : (entries : List PrefixView) (q : PrefixView) (from at left : ℕ) (best : Option Candidate) → from + 8 ≤ length entries → Left entries q from at left best → 0 < left
    → HoldsAt (λ entry. is_alike q entry ≡ true) entries (at + count_trailing_zeros 64 left)
next_alike entries q from at left best room s some d =
    let next = next_within entries q from at left best room s some in
    run_in_chunk_stops (is_alike q) entries at (from + 8 - at) (count_trailing_zeros 64 left) d (omega (arith, room, s.high)) next.1 (omega (arith, next.0, s.low, s.high))

-- the bits behind the next one
pub behind_next : (entries : List PrefixView) (q : PrefixView) (from at left skipped : ℕ) (best after : Option Candidate) → Left entries q from at left best → at + skipped < from + 8
    → IsBest (take (at + skipped + 1) entries) q after → Left entries q from (at + skipped + 1) (left / 2 ^ skipped / 2) after
behind_next entries q from at left skipped best after s within b =
    let n = from + 8 - at in
    let m = from + 8 - (at + skipped + 1) in
    let ms = map (is_alike q) (chunk at n entries) in
    let sum : n ≡ skipped + 1 + m = omega (arith, within, s.low) in
    let place : at + (skipped + 1) ≡ at + skipped + 1 = omega arith in
    record {
      low = omega (arith, s.low);
      high = omega (arith, within);
      found = ap (λ l. l / 2 ^ skipped / 2) s.found ∙ ap (λ l. l / 2) (shifted ms skipped) ∙ half (drop skipped ms) ∙ ap mask_l (drop-drop 1 skipped ms)
          ∙ ap mask_l (drop-map (is_alike q) (skipped + 1) (chunk at n entries))
          ∙ ap (λ k. mask_l (map (is_alike q) (drop (skipped + 1) (take k (drop at entries))))) sum
          ∙ ap (λ l. mask_l (map (is_alike q) l)) (drop-take (skipped + 1) m (drop at entries))
          ∙ ap (λ l. mask_l (map (is_alike q) (take m l))) (drop-drop (skipped + 1) at entries)
          ∙ ap (λ k. mask_l (map (is_alike q) (take m (drop k entries)))) place;
      so_far = b;
    }

-- none is left
pub none_left : (entries : List PrefixView) (q : PrefixView) (from at left : ℕ) (best : Option Candidate) → from + 8 ≤ length entries → All IsCanonical entries → IsCanonical q
    → Left entries q from at left best → left ≡ 0 → IsBest (take (from + 8) entries) q best
none_left entries q from at left best room c d s e =
    let whole : at + (from + 8 - at) ≡ from + 8 = omega (arith, s.high) in
    subst (λ k. IsBest (take k entries) q best) whole
    (passed entries q best at (from + 8 - at) (omega (arith, room, whole)) c d
    (none_from_empty_mask (is_alike q) entries at (from + 8 - at) none (omega (arith, room, whole)) (sym s.found ∙ e)) s.so_far)

pub begins : (entries : List PrefixView) (q : PrefixView) (from found : ℕ) (best : Option Candidate) → found ≡ mask_l (map (is_alike q) (chunk from 8 entries)) → IsBest (take from entries) q best
    → Left entries q from from found best
begins entries q from found best e b =
    let n : 8 ≡ from + 8 - from = omega arith in
    record { low = omega arith; high = omega arith; found = e ∙ ap (λ k. mask_l (map (is_alike q) (chunk from k entries))) n; so_far = b }

left_map : {X Y Z V : Type 0} (f : X → Y → Z) (g : V → X) (vs : List V) (ys : List Y) → zip2 f (map g vs) ys ≡ zip2 (λ v y. f (g v) y) vs ys
left_map f g [] ys = refl
left_map f g (v ∷ vs) [] = refl
left_map f g (v ∷ vs) (y ∷ ys) = ap (λ r. f (g v) y ∷ r) (left_map f g vs ys)

-- what eight lanes compute
pub lanes_alike : (addr : ℕ) (masks addrs : List ℕ) → length masks ≡ 8 → length addrs ≡ 8
    → mask_l (map (top 31) (zip2 (λ a b. cond (a == b) 4294967295 0) (zip2 bit_and (replicate 8 addr) masks) addrs)) % 18446744073709551616 ≡ mask_l (zip2 (λ mask start. bit_and addr mask == start) masks addrs)
lanes_alike addr masks addrs n m =
    let heads = zip2 bit_and (replicate 8 addr) masks in
    let heads_are : heads ≡ map (bit_and addr) masks = zip2_splat_left bit_and addr 8 masks n in
    let same : zip2 (λ a b. a == b) heads addrs ≡ zip2 (λ mask start. bit_and addr mask == start) masks addrs =
    ap (λ l. zip2 (λ a b. a == b) l addrs) heads_are ∙ left_map (λ a b. a == b) (bit_and addr) masks addrs in
    let long : length (zip2 (λ mask start. bit_and addr mask == start) masks addrs) ≡ 8 = length-zip2 (λ mask start. bit_and addr mask == start) masks addrs (n ∙ sym m) ∙ n in
    ap (λ l. mask_l l % 18446744073709551616) (tops_compared w32 (λ a b. a == b) heads addrs ∙ same)
    ∙ mask_l-mod (zip2 (λ mask start. bit_and addr mask == start) masks addrs) 64 (omega (arith, long))

-- the columns of a table
same_column : (f : PrefixView → ℕ) (n : ℕ) (p : PrefixView) (value : ℕ) → f p ≡ value → replicate n value ≡ map f (replicate n p)
same_column f zero p value e = refl
same_column f (suc n) p value e = ap₂ (λ x xs. x ∷ xs) (sym e) (same_column f n p value e)

pub columns_of_one : (n : ℕ) (p : PrefixView) → IsCanonical p → p ≡ record { addr = 0; len = 0 } → AreColumns (replicate n p) (replicate n 0) (replicate n 0)
columns_of_one n p c e = record {
  canonical = All-replicate IsCanonical n p c;
  addrs_are = same_column (λ p. p.addr) n p 0 (ap (λ p. p.addr) e);
  masks_are = same_column (λ p. leading_mask p.len) n p 0 (ap (λ p. leading_mask p.len) e);
}

pub columns_set : (places : List PrefixView) (addrs masks : List ℕ) (i : ℕ) (p : PrefixView) (addr mask : ℕ) → AreColumns places addrs masks → IsCanonical p → addr ≡ p.addr → mask ≡ leading_mask p.len
    → AreColumns (set places i p) (set addrs i addr) (set masks i mask)
columns_set places addrs masks i p addr mask c canonical a m = record {
  canonical = All-set IsCanonical places i p canonical c.canonical;
  addrs_are = ap₂ (λ xs x. set xs i x) c.addrs_are a ∙ sym (map-set (λ p. p.addr) places i p);
  masks_are = ap₂ (λ xs x. set xs i x) c.masks_are m ∙ sym (map-set (λ p. leading_mask p.len) places i p);
}

pub columns_take : (places : List PrefixView) (addrs masks : List ℕ) (n : ℕ) → AreColumns places addrs masks → AreColumns (take n places) (take n addrs) (take n masks)
columns_take places addrs masks n c = record {
  canonical = All-take IsCanonical n places c.canonical;
  addrs_are = ap (take n) c.addrs_are ∙ take-map (λ p. p.addr) n places;
  masks_are = ap (take n) c.masks_are ∙ take-map (λ p. leading_mask p.len) n places;
}

chunk_map : (f : PrefixView → ℕ) (from : ℕ) (places : List PrefixView) → chunk from 8 (map f places) ≡ map f (chunk from 8 places)
chunk_map f from places = ap (take 8) (drop-map f from places) ∙ take-map f 8 (drop from places)

-- what lanes found of the columns is found of the entries
pub columns_alike : (places : List PrefixView) (addrs masks : List ℕ) (q : PrefixView) (from addr : ℕ) → AreColumns places addrs masks → addr ≡ q.addr
    → mask_l (zip2 (λ mask start. bit_and addr mask == start) (chunk from 8 masks) (chunk from 8 addrs)) ≡ mask_l (map (is_alike q) (chunk from 8 places))
columns_alike places addrs masks q from addr c e =
    let f : ℕ → ℕ → Bool = λ mask start. bit_and q.addr mask == start in
    ap (λ a. mask_l (zip2 (λ mask start. bit_and a mask == start) (chunk from 8 masks) (chunk from 8 addrs))) e
    ∙ ap₂ (λ ms xs. mask_l (zip2 f ms xs)) (ap (chunk from 8) c.masks_are ∙ chunk_map (λ p. leading_mask p.len) from places) (ap (chunk from 8) c.addrs_are ∙ chunk_map (λ p. p.addr) from places)
    ∙ ap mask_l (zip2-map f (λ p. leading_mask p.len) (λ p. p.addr) (chunk from 8 places))
