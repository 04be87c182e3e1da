-- The list of the attributes that are there: in rising order of code, with one more, and with none of a code.
use Rattle.std.proofs.Common.{◌≡◌, ℕ, suc, ◌+◌, ◌<◌, ◌≤◌, Bool, true, false, cond, not, List, [], ◌∷◌, ◌++◌, take, drop, Option, Some, None, is_some, IfSome, Result, Ok, refl, sym, ap, subst, ◌∙◌, eq-eqb, arith, inl, inr, filter, IsPermutation, option_map}
use Rattle.std.specs.Prelude.{nat_le, ◌==◌, ◌^◌, if◌then◌else◌}
use Rattle.std.specs.List.{AllByRecursion, list_any}
use Rattle.std.specs.Int.{w16, w32, to_be_bytes, from_be_bytes}
use Rattle.std.proofs.lemmas.Bool.{eqb-true, leb-false, ne_eqb, and_cases, cond_both}
use Rattle.std.proofs.lemmas.List.Sorted.{IsPermutation-refl, IsPermutation-sym, IsPermutation-append_left, IsPermutation-filter_both}
use Rattle.std.proofs.lemmas.Nat.{from_be_bytes-to_be_bytes_2, from_be_bytes-to_be_bytes_4}
use Rattle.bgp_values.specs.declared.width.Width.{Width}
use Rattle.bgp_values.specs.declared.width.Width.TheVariants.{Two, Four}
use Rattle.bgp_codec.specs.AsNumbers.{AsnFits}
use Rattle.bgp_codec.specs.declared.fault.Fault.{Fault}
use Rattle.bgp_codec.specs.declared.path.Segment.{Segment}
use Rattle.bgp_codec.specs.declared.attributes.Aggregator.{Aggregator}
use Rattle.bgp_codec.specs.declared.attributes.Attrs.{Attrs}
use Rattle.bgp_codec.specs.declared.attributes.Raw.{Raw}
use Rattle.bgp_values.specs.Ranges.{is_unicast}
use Rattle.bgp_codec.specs.AttrTable.{is_known, partial_flag}
use Rattle.bgp_codec.specs.Updates.{raw_of, given, aggregator_raw, aggregator_octets, stands, attributes, path_octets, SegmentFits, RawFits, IsRising, AttrsFit}
use Rattle.bgp_codec.specs.UpdateReading.{path_reading, has_code, put_raw, with_other}
use Rattle.bgp_codec.proofs.PathLemmas.{path_again}
use Rattle.bgp_codec.proofs.RisingLemmas.{all_more, all_join, all_parts, all_filter, all_passed, all_permuted, any_none, none_any, put_in, put_passed, put_stopped, put_all, put_rising, filter_rising, rising_join, rising_permuted, NoCode}
use Rattle.bgp_codec.proofs.AttrItems.{Item, ItemFits, raw_from, put}
use Rattle.bgp_codec.proofs.AttrItems.Item.{an_origin, a_path, a_next_hop, a_med, a_local_pref, an_atomic, an_aggregator, an_other}

-- ---- its parts, and what stands from each on

abbrev below : Attrs → List Raw
below a = filter (stands true) a.other

abbrev part_1 : Attrs → List Raw
part_1 a = given 64 1 (option_map (λ o. o ∷ []) a.origin)

abbrev part_2 : (width : Width) → Attrs → List Raw
part_2 width a = given 64 2 (option_map (path_octets width) a.path)

abbrev part_3 : Attrs → List Raw
part_3 a = given 64 3 (option_map (to_be_bytes w32) a.next_hop)

abbrev part_4 : Attrs → List Raw
part_4 a = given 128 4 (option_map (to_be_bytes w32) a.med)

abbrev part_5 : Attrs → List Raw
part_5 a = given 64 5 (option_map (to_be_bytes w32) a.local_pref)

abbrev part_6 : Attrs → List Raw
part_6 a = given 64 6 (if a.atomic then Some [] else None)

abbrev part_7 : (width : Width) → Attrs → List Raw
part_7 width a = aggregator_raw width a.aggregator

abbrev above : Attrs → List Raw
above a = filter (stands false) a.other

abbrev from_7 : (width : Width) → Attrs → List Raw
from_7 width a = part_7 width a ++ above a

abbrev from_6 : (width : Width) → Attrs → List Raw
from_6 width a = part_6 a ++ from_7 width a

abbrev from_5 : (width : Width) → Attrs → List Raw
from_5 width a = part_5 a ++ from_6 width a

abbrev from_4 : (width : Width) → Attrs → List Raw
from_4 width a = part_4 a ++ from_5 width a

abbrev from_3 : (width : Width) → Attrs → List Raw
from_3 width a = part_3 a ++ from_4 width a

abbrev from_2 : (width : Width) → Attrs → List Raw
from_2 width a = part_2 width a ++ from_3 width a

abbrev from_1 : (width : Width) → Attrs → List Raw
from_1 width a = part_1 a ++ from_2 width a

-- the known ones, between others
abbrev between : (width : Width) → Attrs → List Raw → List Raw → List Raw
between width a low high = low ++ (part_1 a ++ (part_2 width a ++ (part_3 a ++ (part_4 a ++ (part_5 a ++ (part_6 a ++ (part_7 width a ++ high)))))))

-- ---- one more

-- where an attribute was not given it is one more
given_put : {X : Type 0} (flags code : ℕ) (f : X → List ℕ) (o : Option X) (x : X) (rest : List Raw) → is_some o ≡ false
    → IsPermutation (raw_of flags code (f x) ∷ (given flags code (option_map f o) ++ rest)) (raw_of flags code (f x) ∷ rest)
given_put flags code f None x rest e = IsPermutation-refl (raw_of flags code (f x) ∷ rest)
given_put flags code f (Some y) x rest e = absurd cc

atomic_put : (b : Bool) (rest : List Raw) → b ≡ false → IsPermutation (raw_of 64 6 [] ∷ (given 64 6 (if b then Some [] else None) ++ rest)) (raw_of 64 6 [] ∷ rest)
atomic_put false rest e = IsPermutation-refl (raw_of 64 6 [] ∷ rest)
atomic_put true rest e = absurd cc

aggregator_put : (width : Width) (o : Option Aggregator) (r : Raw) (rest : List Raw) → is_some o ≡ false → IsPermutation (r ∷ (aggregator_raw width o ++ rest)) (r ∷ rest)
aggregator_put width None r rest e = IsPermutation-refl (r ∷ rest)
aggregator_put width (Some g) r rest e = absurd cc

-- one more behind the known ones
high_put : (width : Width) (a : Attrs) (r : Raw) (low high more : List Raw) → IsPermutation (r ∷ high) more → IsPermutation (r ∷ between width a low high) (between width a low more)
high_put width a r low high more h =
    put_in low _ _ r (put_in (part_1 a) _ _ r (put_in (part_2 width a) _ _ r (put_in (part_3 a) _ _ r (put_in (part_4 a) _ _ r (put_in (part_5 a) _ _ r (put_in (part_6 a) _ _ r (put_in (part_7 width a) _ _ r h)))))))

-- one more of an unknown code
other_put : (width : Width) (a : Attrs) (r : Raw) (b : Bool) → (r.code == 0) ≡ b → IsPermutation (r ∷ attributes width a) (attributes width (with_other a (put_raw r a.other)))
other_put width a r true is =
    let low = put_passed (stands true) r a.other is in
    let high : above a ≡ filter (stands false) (put_raw r a.other) = sym (put_stopped (stands false) r a.other (ap not is)) in
    subst (λ (ys : List Raw). IsPermutation (r ∷ attributes width a) (between width a (filter (stands true) (put_raw r a.other)) ys)) high
    (IsPermutation-append_left (from_1 width a) (r ∷ below a) (filter (stands true) (put_raw r a.other)) low)
other_put width a r false is =
    let high = put_passed (stands false) r a.other (ap not is) in
    let low : below a ≡ filter (stands true) (put_raw r a.other) = sym (put_stopped (stands true) r a.other is) in
    subst (λ (ys : List Raw). IsPermutation (r ∷ attributes width a) (between width a ys (filter (stands false) (put_raw r a.other)))) low
    (high_put width a r (below a) (above a) (filter (stands false) (put_raw r a.other)) high)

-- an item with a new code is one more in the list
pub put_adds : (width : Width) (a : Attrs) (i : Item) → has_code a (raw_from width i).code ≡ false → IsPermutation (raw_from width i ∷ attributes width a) (attributes width (put a i))
put_adds width a (an_origin o) e = put_in (below a) _ _ _ (given_put 64 1 (λ x. x ∷ []) a.origin o (from_2 width a) e)
put_adds width a (a_path p) e = put_in (below a) _ _ _ (put_in (part_1 a) _ _ _ (given_put 64 2 (path_octets width) a.path p (from_3 width a) e))
put_adds width a (a_next_hop n) e = put_in (below a) _ _ _ (put_in (part_1 a) _ _ _ (put_in (part_2 width a) _ _ _ (given_put 64 3 (to_be_bytes w32) a.next_hop n (from_4 width a) e)))
put_adds width a (a_med n) e = put_in (below a) _ _ _ (put_in (part_1 a) _ _ _ (put_in (part_2 width a) _ _ _ (put_in (part_3 a) _ _ _ (given_put 128 4 (to_be_bytes w32) a.med n (from_5 width a) e))))
put_adds width a (a_local_pref n) e =
    put_in (below a) _ _ _ (put_in (part_1 a) _ _ _ (put_in (part_2 width a) _ _ _ (put_in (part_3 a) _ _ _ (put_in (part_4 a) _ _ _ (given_put 64 5 (to_be_bytes w32) a.local_pref n (from_6 width a) e)))))
put_adds width a an_atomic e =
    put_in (below a) _ _ _ (put_in (part_1 a) _ _ _ (put_in (part_2 width a) _ _ _ (put_in (part_3 a) _ _ _ (put_in (part_4 a) _ _ _ (put_in (part_5 a) _ _ _ (atomic_put a.atomic (from_7 width a) e))))))
put_adds width a (an_aggregator g) e =
    put_in (below a) _ _ _ (put_in (part_1 a) _ _ _ (put_in (part_2 width a) _ _ _ (put_in (part_3 a) _ _ _ (put_in (part_4 a) _ _ _ (put_in (part_5 a) _ _ _ (put_in (part_6 a) _ _ _
    (aggregator_put width a.aggregator (raw_from width (an_aggregator g)) (above a) e)))))))
put_adds width a (an_other r) e = other_put width a r (r.code == 0) refl

-- ---- an unknown code is among the others

-- an unknown code is no known one
unknown_is : (code k : ℕ) → is_known code ≡ false → is_known k ≡ true → (code == k) ≡ false
unknown_is code k unknown known = ne_eqb code k (λ e. absurd (let both = sym unknown ∙ ap is_known e ∙ known in cc))

-- seven tests that fail
past_seven : (b c d e f g h : Bool) (s t u v w x y z : Bool) → b ≡ false → c ≡ false → d ≡ false → e ≡ false → f ≡ false → g ≡ false → h ≡ false
    → cond b s (cond c t (cond d u (cond e v (cond f w (cond g x (cond h y z)))))) ≡ z
past_seven b c d e f g h s t u v w x y z eb ec ed ee ef eg eh = rw (eb, ec, ed, ee, ef, eg, eh) refl

-- so whether it is there is seen in the others
pub has_other : (a : Attrs) (code : ℕ) → is_known code ≡ false → has_code a code ≡ list_any (λ r. r.code == code) a.other
has_other a code u =
    past_seven (code == 1) (code == 2) (code == 3) (code == 4) (code == 5) (code == 6) (code == 7) _ _ _ _ _ _ _ _
    (unknown_is code 1 u refl) (unknown_is code 2 u refl) (unknown_is code 3 u refl) (unknown_is code 4 u refl) (unknown_is code 5 u refl) (unknown_is code 6 u refl) (unknown_is code 7 u refl)

-- ---- what is put fits

-- attributes that fit do so with an item that fits
pub put_fits : (width : Width) (a : Attrs) (i : Item) → AttrsFit width a → ItemFits width i → has_code a (raw_from width i).code ≡ false → AttrsFit width (put a i)
put_fits width a (an_origin o) h fits e = record { origin = fits; path = h.path; next_hop = h.next_hop; med = h.med; local_pref = h.local_pref; aggregator = h.aggregator; other = h.other; rising = h.rising }
put_fits width a (a_path p) h fits e = record { origin = h.origin; path = fits; next_hop = h.next_hop; med = h.med; local_pref = h.local_pref; aggregator = h.aggregator; other = h.other; rising = h.rising }
put_fits width a (a_next_hop n) h fits e = record { origin = h.origin; path = h.path; next_hop = fits; med = h.med; local_pref = h.local_pref; aggregator = h.aggregator; other = h.other; rising = h.rising }
put_fits width a (a_med n) h fits e = record { origin = h.origin; path = h.path; next_hop = h.next_hop; med = fits; local_pref = h.local_pref; aggregator = h.aggregator; other = h.other; rising = h.rising }
put_fits width a (a_local_pref n) h fits e = record { origin = h.origin; path = h.path; next_hop = h.next_hop; med = h.med; local_pref = fits; aggregator = h.aggregator; other = h.other; rising = h.rising }
put_fits width a an_atomic h fits e = record { origin = h.origin; path = h.path; next_hop = h.next_hop; med = h.med; local_pref = h.local_pref; aggregator = h.aggregator; other = h.other; rising = h.rising }
put_fits width a (an_aggregator g) h fits e = record { origin = h.origin; path = h.path; next_hop = h.next_hop; med = h.med; local_pref = h.local_pref; aggregator = fits; other = h.other; rising = h.rising }
put_fits width a (an_other r) h fits e =
    let none = none_any (λ s. s.code == r.code) a.other (sym (has_other a r.code fits.0) ∙ e) in
    record { origin = h.origin; path = h.path; next_hop = h.next_hop; med = h.med; local_pref = h.local_pref; aggregator = h.aggregator; other = put_all RawFits r a.other fits h.other; rising = put_rising r a.other h.rising none }

-- ---- each that is there is an item that fits

-- an item that fits has these flags, this code and this value
abbrev pub IsItem : (width : Width) → Raw → Type 0
IsItem width r = (i : Item) × ItemFits width i × (raw_from width i ≡ r)

-- each part has items alone
given_items : (width : Width) {X : Type 0} (flags code : ℕ) (f : X → List ℕ) (P : X → Type 0) (o : Option X) → IfSome o P → ((x : X) → P x → IsItem width (raw_of flags code (f x)))
    → AllByRecursion (IsItem width) (given flags code (option_map f o))
given_items width flags code f P None h g = tt
given_items width flags code f P (Some x) h g = (g x h, tt)

atomic_items : (width : Width) (b : Bool) → AllByRecursion (IsItem width) (given 64 6 (if b then Some [] else None))
atomic_items width true = ((an_atomic, tt, refl), tt)
atomic_items width false = tt

aggregator_items : (width : Width) (o : Option Aggregator) → IfSome o (λ g. AsnFits width g.asn × (g.addr < 2 ^ 32)) → AllByRecursion (IsItem width) (aggregator_raw width o)
aggregator_items width None h = tt
aggregator_items width (Some g) h = ((an_aggregator g, h, refl), tt)

other_items : (width : Width) (p : Raw → Bool) (rs : List Raw) → AllByRecursion RawFits rs → AllByRecursion (IsItem width) (filter p rs)
other_items width p rs h = all_filter (IsItem width) p rs (all_more RawFits (IsItem width) (λ r f. (an_other r, f, refl)) rs h)

-- and so has the list
pub attributes_items : (width : Width) (a : Attrs) → AttrsFit width a → AllByRecursion (IsItem width) (attributes width a)
attributes_items width a h =
    all_join (IsItem width) (below a) (from_1 width a) (other_items width (stands true) a.other h.other)
    (all_join (IsItem width) (part_1 a) (from_2 width a) (given_items width 64 1 (λ x. x ∷ []) (λ o. o ≤ 2) a.origin h.origin (λ o f. (an_origin o, f, refl)))
    (all_join (IsItem width) (part_2 width a) (from_3 width a) (given_items width 64 2 (path_octets width) (AllByRecursion (SegmentFits width)) a.path h.path (λ p f. (a_path p, f, refl)))
    (all_join (IsItem width) (part_3 a) (from_4 width a) (given_items width 64 3 (to_be_bytes w32) (λ n. (n < 2 ^ 32) × (is_unicast n ≡ true)) a.next_hop h.next_hop (λ n f. (a_next_hop n, f, refl)))
    (all_join (IsItem width) (part_4 a) (from_5 width a) (given_items width 128 4 (to_be_bytes w32) (λ n. n < 2 ^ 32) a.med h.med (λ n f. (a_med n, f, refl)))
    (all_join (IsItem width) (part_5 a) (from_6 width a) (given_items width 64 5 (to_be_bytes w32) (λ n. n < 2 ^ 32) a.local_pref h.local_pref (λ n f. (a_local_pref n, f, refl)))
    (all_join (IsItem width) (part_6 a) (from_7 width a) (atomic_items width a.atomic)
    (all_join (IsItem width) (part_7 width a) (above a) (aggregator_items width a.aggregator h.aggregator) (other_items width (stands false) a.other h.other))))))))

-- ---- in rising order

-- in rising order, from a code on
abbrev IsFrom : ℕ → List Raw → Type 0
IsFrom k rs = IsRising rs × AllByRecursion (λ r. k ≤ r.code) rs

-- from a code on is from the one before on
from_weaker : (k : ℕ) (rs : List Raw) → IsFrom (suc k) rs → IsFrom k rs
from_weaker k rs h = (h.0, all_more (λ r. suc k ≤ r.code) (λ r. k ≤ r.code) (λ r le. omega (arith, le)) rs h.1)

-- an attribute of that code may stand in front
from_given : (k flags : ℕ) (o : Option (List ℕ)) (rs : List Raw) → IsFrom (suc k) rs → IsFrom k (given flags k o ++ rs)
from_given k flags None rs h = from_weaker k rs h
from_given k flags (Some v) rs h = ((h.1, h.0), (omega arith, (from_weaker k rs h).1))

from_aggregator : (width : Width) (o : Option Aggregator) (rs : List Raw) → IsFrom 8 rs → IsFrom 7 (aggregator_raw width o ++ rs)
from_aggregator width None rs h = from_weaker 7 rs h
from_aggregator width (Some g) rs h = ((h.1, h.0), (omega arith, (from_weaker 7 rs h).1))

-- an unknown code is 0 or at least 8
unknown_high : (code : ℕ) → is_known code ≡ false → not (code == 0) ≡ true → 8 ≤ code
unknown_high code unknown some =
    let ne : code ≡ 0 → ⊥ = (λ e. absurd (let both = sym some ∙ ap not (eq-eqb code 0 e) in cc)) in
    elim (and_cases (nat_le 1 code) (nat_le code 7) unknown) [
      | inl low ↦ let lt = leb-false 1 code low in grind (arith, lt, ne)
      | inr high ↦ leb-false code 7 high
    ]

-- the codes of the others
above_codes : (rs : List Raw) → AllByRecursion RawFits rs → AllByRecursion (λ r. 8 ≤ r.code) (filter (stands false) rs)
above_codes [] h = tt
above_codes (r ∷ rs) h =
    cond_both (stands false r) (r ∷ filter (stands false) rs) (filter (stands false) rs) (AllByRecursion (λ s. 8 ≤ s.code))
    (λ e. (unknown_high r.code h.0.0 e, above_codes rs h.1)) (λ _. above_codes rs h.1)

below_codes : (rs : List Raw) → AllByRecursion (λ r. r.code < 1) (filter (stands true) rs)
below_codes rs = all_passed (λ r. r.code < 1) (stands true) (λ r e. let z = eqb-true r.code 0 e in omega (arith, z)) rs

-- each part and what follows it
above_from : (width : Width) (a : Attrs) → AttrsFit width a → IsFrom 8 (above a)
above_from width a h = (filter_rising (stands false) a.other h.rising, above_codes a.other h.other)

from_7_from : (width : Width) (a : Attrs) → AttrsFit width a → IsFrom 7 (from_7 width a)
from_7_from width a h = from_aggregator width a.aggregator (above a) (above_from width a h)

from_6_from : (width : Width) (a : Attrs) → AttrsFit width a → IsFrom 6 (from_6 width a)
from_6_from width a h = from_given 6 64 (if a.atomic then Some [] else None) (from_7 width a) (from_7_from width a h)

from_5_from : (width : Width) (a : Attrs) → AttrsFit width a → IsFrom 5 (from_5 width a)
from_5_from width a h = from_given 5 64 (option_map (to_be_bytes w32) a.local_pref) (from_6 width a) (from_6_from width a h)

from_4_from : (width : Width) (a : Attrs) → AttrsFit width a → IsFrom 4 (from_4 width a)
from_4_from width a h = from_given 4 128 (option_map (to_be_bytes w32) a.med) (from_5 width a) (from_5_from width a h)

from_3_from : (width : Width) (a : Attrs) → AttrsFit width a → IsFrom 3 (from_3 width a)
from_3_from width a h = from_given 3 64 (option_map (to_be_bytes w32) a.next_hop) (from_4 width a) (from_4_from width a h)

from_2_from : (width : Width) (a : Attrs) → AttrsFit width a → IsFrom 2 (from_2 width a)
from_2_from width a h = from_given 2 64 (option_map (path_octets width) a.path) (from_3 width a) (from_3_from width a h)

from_1_from : (width : Width) (a : Attrs) → AttrsFit width a → IsFrom 1 (from_1 width a)
from_1_from width a h = from_given 1 64 (option_map (λ x. x ∷ []) a.origin) (from_2 width a) (from_2_from width a h)

-- the list is in rising order
pub attributes_rising : (width : Width) (a : Attrs) → AttrsFit width a → IsRising (attributes width a)
attributes_rising width a h =
    let first = from_1_from width a h in
    rising_join 1 (below a) (from_1 width a) (filter_rising (stands true) a.other h.rising) (below_codes a.other) first.0 first.1

-- ---- a code that none of them has

-- an attribute is not there whose code none has
given_none : {X : Type 0} (flags code : ℕ) (f : X → List ℕ) (o : Option X) → NoCode code (given flags code (option_map f o)) → is_some o ≡ false
given_none flags code f None h = refl
given_none flags code f (Some x) h = absurd (let both = sym (eq-eqb code code refl) ∙ h.0 in cc)

atomic_none : (b : Bool) → NoCode 6 (given 64 6 (if b then Some [] else None)) → b ≡ false
atomic_none false h = refl
atomic_none true h = absurd (let e = h.0 in cc)

aggregator_none : (width : Width) (o : Option Aggregator) → NoCode 7 (aggregator_raw width o) → is_some o ≡ false
aggregator_none width None h = refl
aggregator_none width (Some g) h = absurd (let e = h.0 in cc)

-- the others are those below the known ones and those above
pub other_parts : (a : Attrs) → IsPermutation a.other (below a ++ above a)
other_parts a = IsPermutation-filter_both (stands true) (stands false) (λ r. refl) a.other

-- none has it in any part
record NoneHas (width : Width) (a : Attrs) (code : ℕ) : Type 0 where
  low : NoCode code (below a)
  one : NoCode code (part_1 a)
  two : NoCode code (part_2 width a)
  three : NoCode code (part_3 a)
  four : NoCode code (part_4 a)
  five : NoCode code (part_5 a)
  six : NoCode code (part_6 a)
  seven : NoCode code (part_7 width a)
  high : NoCode code (above a)

-- where none has it in the list
none_has : (width : Width) (a : Attrs) (code : ℕ) → NoCode code (attributes width a) → NoneHas width a code
none_has width a code h =
    let p0 = all_parts (λ s. (s.code == code) ≡ false) (below a) (from_1 width a) h in
    let p1 = all_parts (λ s. (s.code == code) ≡ false) (part_1 a) (from_2 width a) p0.1 in
    let p2 = all_parts (λ s. (s.code == code) ≡ false) (part_2 width a) (from_3 width a) p1.1 in
    let p3 = all_parts (λ s. (s.code == code) ≡ false) (part_3 a) (from_4 width a) p2.1 in
    let p4 = all_parts (λ s. (s.code == code) ≡ false) (part_4 a) (from_5 width a) p3.1 in
    let p5 = all_parts (λ s. (s.code == code) ≡ false) (part_5 a) (from_6 width a) p4.1 in
    let p6 = all_parts (λ s. (s.code == code) ≡ false) (part_6 a) (from_7 width a) p5.1 in
    let p7 = all_parts (λ s. (s.code == code) ≡ false) (part_7 width a) (above a) p6.1 in
    record { low = p0.0; one = p1.0; two = p2.0; three = p3.0; four = p4.0; five = p5.0; six = p6.0; seven = p7.0; high = p7.1 }

-- an item is new where none in the list has its code
pub no_code : (width : Width) (a : Attrs) (i : Item) → ItemFits width i → NoCode (raw_from width i).code (attributes width a) → has_code a (raw_from width i).code ≡ false
no_code width a (an_origin o) fits h = given_none 64 1 (λ x. x ∷ []) a.origin (none_has width a 1 h).one
no_code width a (a_path p) fits h = given_none 64 2 (path_octets width) a.path (none_has width a 2 h).two
no_code width a (a_next_hop n) fits h = given_none 64 3 (to_be_bytes w32) a.next_hop (none_has width a 3 h).three
no_code width a (a_med n) fits h = given_none 128 4 (to_be_bytes w32) a.med (none_has width a 4 h).four
no_code width a (a_local_pref n) fits h = given_none 64 5 (to_be_bytes w32) a.local_pref (none_has width a 5 h).five
no_code width a an_atomic fits h = atomic_none a.atomic (none_has width a 6 h).six
no_code width a (an_aggregator g) fits h = aggregator_none width a.aggregator (none_has width a 7 h).seven
no_code width a (an_other r) fits h =
    let parts = none_has width a r.code h in
    let others = all_permuted (λ s. (s.code == r.code) ≡ false) (below a ++ above a) a.other (IsPermutation-sym a.other (below a ++ above a) (other_parts a))
    (all_join (λ s. (s.code == r.code) ≡ false) (below a) (above a) parts.low parts.high) in
    has_other a r.code fits.0 ∙ any_none (λ s. s.code == r.code) a.other others

-- ---- the list tells the attributes

-- codes below a number, before codes from it on: the two parts of a list are known
cut_at : (k : ℕ) (xs ys us vs : List Raw) → AllByRecursion (λ r. r.code < k) xs → AllByRecursion (λ r. k ≤ r.code) ys → AllByRecursion (λ r. r.code < k) us → AllByRecursion (λ r. k ≤ r.code) vs
    → xs ++ ys ≡ us ++ vs → (xs ≡ us) × (ys ≡ vs)
cut_at k [] ys [] vs ax ay au av e = (refl, e)
cut_at k [] [] (u ∷ us) vs ax ay au av e = absurd cc
cut_at k [] (y ∷ ys) (u ∷ us) vs ax ay au av e =
    let same : y.code ≡ u.code = ap first_code e in
    let ge = ay.0 in
    let lt = au.0 in
    absurd (omega (arith, same, ge, lt))
  where
    first_code : List Raw → ℕ
    first_code [] = 0
    first_code (r ∷ rs) = r.code
cut_at k (x ∷ xs) ys [] [] ax ay au av e = absurd cc
cut_at k (x ∷ xs) ys [] (v ∷ vs) ax ay au av e =
    let same : x.code ≡ v.code = ap first_code e in
    let lt = ax.0 in
    let ge = av.0 in
    absurd (omega (arith, same, ge, lt))
  where
    first_code : List Raw → ℕ
    first_code [] = 0
    first_code (r ∷ rs) = r.code
cut_at k (x ∷ xs) ys (u ∷ us) vs ax ay au av e =
    let head : x ≡ u = cc in
    let tail : xs ++ ys ≡ us ++ vs = cc in
    let rest = cut_at k xs ys us vs ax.1 ay au.1 av tail in
    (ap (λ (t : Raw). t ∷ xs) head ∙ ap (λ (ts : List Raw). u ∷ ts) rest.0, rest.1)

-- the codes of a part
given_codes : (k flags : ℕ) (o : Option (List ℕ)) → AllByRecursion (λ r. r.code < suc k) (given flags k o)
given_codes k flags None = tt
given_codes k flags (Some v) = (omega arith, tt)

aggregator_codes : (width : Width) (o : Option Aggregator) → AllByRecursion (λ r. r.code < 8) (aggregator_raw width o)
aggregator_codes width None = tt
aggregator_codes width (Some g) = (omega arith, tt)

-- the value and the flags of the first
first_value : List Raw → List ℕ
first_value [] = []
first_value (r ∷ rs) = r.value

-- a part tells what was given
given_same : {X : Type 0} (flags code : ℕ) (f : X → List ℕ) (P : X → Type 0) → ((x y : X) → P x → P y → f x ≡ f y → x ≡ y) → (o p : Option X) → IfSome o P → IfSome p P
    → given flags code (option_map f o) ≡ given flags code (option_map f p) → o ≡ p
unfolding first_value
given_same flags code f P back None None ho hp e = refl
given_same flags code f P back None (Some y) ho hp e = absurd cc
given_same flags code f P back (Some x) None ho hp e = absurd cc
given_same flags code f P back (Some x) (Some y) ho hp e = ap Some (back x y ho hp (ap first_value e))

atomic_same : (b c : Bool) → given 64 6 (if b then Some [] else None) ≡ given 64 6 (if c then Some [] else None) → b ≡ c
atomic_same true true e = refl
atomic_same false false e = refl
atomic_same true false e = absurd cc
atomic_same false true e = absurd cc

first_flags : List Raw → ℕ
first_flags [] = 0
first_flags (r ∷ rs) = r.flags

-- flags tell whether AGGREGATOR is partial, octets tell a number
partial_same : (b c : Bool) → 192 + partial_flag b ≡ 192 + partial_flag c → b ≡ c
partial_same true true e = refl
partial_same false false e = refl
partial_same true false e = absurd (omega (arith, e))
partial_same false true e = absurd (omega (arith, e))

same_32 : (n m : ℕ) → n < 2 ^ 32 → m < 2 ^ 32 → to_be_bytes w32 n ≡ to_be_bytes w32 m → n ≡ m
same_32 n m ln lm e = sym (from_be_bytes-to_be_bytes_4 n ln) ∙ ap (from_be_bytes w32) e ∙ from_be_bytes-to_be_bytes_4 m lm

same_16 : (n m : ℕ) → n < 2 ^ 16 → m < 2 ^ 16 → to_be_bytes w16 n ≡ to_be_bytes w16 m → n ≡ m
same_16 n m ln lm e = sym (from_be_bytes-to_be_bytes_2 n ln) ∙ ap (from_be_bytes w16) e ∙ from_be_bytes-to_be_bytes_2 m lm

-- fields tell an aggregator
aggregator_is : (g k : Aggregator) → g.asn ≡ k.asn → g.addr ≡ k.addr → g.partial ≡ k.partial → g ≡ k
aggregator_is g k ea ed ep =
    let again : (asn addr : ℕ) (p : Bool) → g.asn ≡ asn → g.addr ≡ addr → g.partial ≡ p → (let made : Aggregator = record { asn = asn; addr = addr; partial = p } in g ≡ made) =
    (λ asn addr p ex ey ez. rw (← ex, ← ey, ← ez) refl) in
    again k.asn k.addr k.partial ea ed ep

-- octets tell its number and its address
both_same : (width : Width) (x y : Aggregator) → AsnFits width x.asn → AsnFits width y.asn → x.addr < 2 ^ 32 → y.addr < 2 ^ 32 → aggregator_octets width x ≡ aggregator_octets width y
    → (x.asn ≡ y.asn) × (x.addr ≡ y.addr)
both_same Two x y fx fy ax ay e =
    let asn : to_be_bytes w16 x.asn ≡ to_be_bytes w16 y.asn = ap (take 2) e in
    let addr : to_be_bytes w32 x.addr ≡ to_be_bytes w32 y.addr = ap (drop 2) e in
    (same_16 x.asn y.asn (omega (arith, fx)) (omega (arith, fy)) asn, same_32 x.addr y.addr ax ay addr)
both_same Four x y fx fy ax ay e =
    let asn : to_be_bytes w32 x.asn ≡ to_be_bytes w32 y.asn = ap (take 4) e in
    let addr : to_be_bytes w32 x.addr ≡ to_be_bytes w32 y.addr = ap (drop 4) e in
    (same_32 x.asn y.asn (omega (arith, fx)) (omega (arith, fy)) asn, same_32 x.addr y.addr ax ay addr)

-- its part tells it
aggregator_same : (width : Width) (o p : Option Aggregator) → IfSome o (λ g. AsnFits width g.asn × (g.addr < 2 ^ 32)) → IfSome p (λ g. AsnFits width g.asn × (g.addr < 2 ^ 32)) → aggregator_raw width o ≡ aggregator_raw width p → o ≡ p
unfolding first_value first_flags
aggregator_same width None None ho hp e = refl
aggregator_same width None (Some y) ho hp e = absurd cc
aggregator_same width (Some x) None ho hp e = absurd cc
aggregator_same width (Some x) (Some y) ho hp e =
    let value : aggregator_octets width x ≡ aggregator_octets width y = ap first_value e in
    let flags : 192 + partial_flag x.partial ≡ 192 + partial_flag y.partial = ap first_flags e in
    let both = both_same width x y ho.0 hp.0 ho.1 hp.1 value in
    ap Some (aggregator_is x y both.0 both.1 (partial_same x.partial y.partial flags))

-- and octets tell a path, since they read as it
result_same : {X : Type 0} (x y : X) → (let r : Result X Fault = Ok x in r ≡ Ok y) → x ≡ y
result_same x y e = cc

path_same : (width : Width) (p q : List Segment) → AllByRecursion (SegmentFits width) p → AllByRecursion (SegmentFits width) q → path_octets width p ≡ path_octets width q → p ≡ q
path_same width p q fp fq e = result_same p q (sym (path_again width p fp) ∙ ap (path_reading width) e ∙ path_again width q fq)

-- rising others are those below, then those above
other_is : (width : Width) (a : Attrs) → AttrsFit width a → a.other ≡ below a ++ above a
other_is width a h =
    let low = all_more (λ r. r.code < 1) (λ r. r.code < 8) (λ r lt. omega (arith, lt)) (below a) (below_codes a.other) in
    let high = above_from width a h in
    rising_permuted a.other (below a ++ above a) h.rising (rising_join 8 (below a) (above a) (filter_rising (stands true) a.other h.rising) low high.0 high.1) (other_parts a)

-- fields tell attributes
attrs_same : (a b : Attrs) → a.origin ≡ b.origin → a.path ≡ b.path → a.next_hop ≡ b.next_hop → a.med ≡ b.med → a.local_pref ≡ b.local_pref → a.atomic ≡ b.atomic → a.aggregator ≡ b.aggregator → a.other ≡ b.other → a ≡ b
attrs_same a b e1 e2 e3 e4 e5 e6 e7 e8 =
    let made : Attrs = record { origin = a.origin; path = a.path; next_hop = a.next_hop; med = a.med; local_pref = a.local_pref; atomic = a.atomic; aggregator = a.aggregator; other = a.other } in
    let same : made ≡ b = rw (e1, e2, e3, e4, e5, e6, e7, e8) refl in
    same

-- the list tells the attributes that fit
pub attributes_once : (width : Width) (a b : Attrs) → AttrsFit width a → AttrsFit width b → attributes width a ≡ attributes width b → a ≡ b
attributes_once width a b ha hb e =
    let c0 = cut_at 1 (below a) (from_1 width a) (below b) (from_1 width b) (below_codes a.other) (from_1_from width a ha).1 (below_codes b.other) (from_1_from width b hb).1 e in
    let c1 = cut_at 2 (part_1 a) (from_2 width a) (part_1 b) (from_2 width b) (given_codes 1 64 _) (from_2_from width a ha).1 (given_codes 1 64 _) (from_2_from width b hb).1 c0.1 in
    let c2 = cut_at 3 (part_2 width a) (from_3 width a) (part_2 width b) (from_3 width b) (given_codes 2 64 _) (from_3_from width a ha).1 (given_codes 2 64 _) (from_3_from width b hb).1 c1.1 in
    let c3 = cut_at 4 (part_3 a) (from_4 width a) (part_3 b) (from_4 width b) (given_codes 3 64 _) (from_4_from width a ha).1 (given_codes 3 64 _) (from_4_from width b hb).1 c2.1 in
    let c4 = cut_at 5 (part_4 a) (from_5 width a) (part_4 b) (from_5 width b) (given_codes 4 128 _) (from_5_from width a ha).1 (given_codes 4 128 _) (from_5_from width b hb).1 c3.1 in
    let c5 = cut_at 6 (part_5 a) (from_6 width a) (part_5 b) (from_6 width b) (given_codes 5 64 _) (from_6_from width a ha).1 (given_codes 5 64 _) (from_6_from width b hb).1 c4.1 in
    let c6 = cut_at 7 (part_6 a) (from_7 width a) (part_6 b) (from_7 width b) (given_codes 6 64 _) (from_7_from width a ha).1 (given_codes 6 64 _) (from_7_from width b hb).1 c5.1 in
    let c7 = cut_at 8 (part_7 width a) (above a) (part_7 width b) (above b) (aggregator_codes width a.aggregator) (above_from width a ha).1 (aggregator_codes width b.aggregator) (above_from width b hb).1 c6.1 in
    attrs_same a b
    (given_same 64 1 (λ x. x ∷ []) (λ o. o ≤ 2) (λ x y _ _ k. cc) a.origin b.origin ha.origin hb.origin c1.0)
    (given_same 64 2 (path_octets width) (AllByRecursion (SegmentFits width)) (path_same width) a.path b.path ha.path hb.path c2.0)
    (given_same 64 3 (to_be_bytes w32) (λ n. (n < 2 ^ 32) × (is_unicast n ≡ true)) (λ x y hx hy k. same_32 x y hx.0 hy.0 k) a.next_hop b.next_hop ha.next_hop hb.next_hop c3.0)
    (given_same 128 4 (to_be_bytes w32) (λ n. n < 2 ^ 32) same_32 a.med b.med ha.med hb.med c4.0)
    (given_same 64 5 (to_be_bytes w32) (λ n. n < 2 ^ 32) same_32 a.local_pref b.local_pref ha.local_pref hb.local_pref c5.0)
    (atomic_same a.atomic b.atomic c6.0)
    (aggregator_same width a.aggregator b.aggregator ha.aggregator hb.aggregator c7.0)
    (other_is width a ha ∙ ap (λ (rs : List Raw). rs ++ above a) c0.0 ∙ ap (λ (rs : List Raw). below b ++ rs) c7.1 ∙ sym (other_is width b hb))
