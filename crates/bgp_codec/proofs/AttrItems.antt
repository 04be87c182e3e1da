-- One attribute by what it says: which are read, and what each changes.
use Rattle.std.proofs.Common.{◌≡◌, ℕ, zero, suc, ◌+◌, ◌^◌, ◌<◌, ◌≤◌, Bool, true, false, cond, not, List, [], ◌∷◌, ◌++◌, length, Result, Ok, Err, refl, sym, ap, ◌∙◌, arith, inl, inr, ◌⊎◌}
use Rattle.std.specs.Prelude.{nat_lt, nat_le, ◌==◌, ◌||◌, ◌&&◌, slice_index, if◌then◌else◌}
use Rattle.std.specs.List.{AllByRecursion}
use Rattle.std.specs.Int.{w16, w32, to_be_bytes}
use Rattle.std.proofs.lemmas.Bool.{eqb-true, leb-true, le-ltb, ltb-false, and_parts}
use Rattle.std.proofs.lemmas.List.{nil_from_length}
use Rattle.std.proofs.lemmas.Nat.{be_bytes_2, be_bytes_4, from_be_bytes-to_be_bytes_2, from_be_bytes-to_be_bytes_4}
use Rattle.bgp_values.specs.declared.width.Width.{Width}
use Rattle.bgp_values.specs.declared.width.Width.TheVariants.{Two, Four}
use Rattle.bgp_codec.specs.declared.fault.Fault.{Fault}
use Rattle.bgp_codec.specs.declared.path.Segment.{Segment}
use Rattle.bgp_codec.specs.declared.attributes.Aggregator.{Aggregator}
use Rattle.bgp_codec.specs.declared.attributes.Attrs.{Attrs}
use Rattle.bgp_codec.specs.declared.attributes.Raw.{Raw}
use Rattle.bgp_codec.specs.Reading.{◌>>=◌}
use Rattle.bgp_values.specs.Ranges.{is_unicast}
use Rattle.bgp_codec.specs.Spelling.{IsOctets}
use Rattle.bgp_codec.specs.AttrTable.{high_flags, is_known, flags_of, partial_flag, flags_fit, size_fits}
use Rattle.bgp_codec.specs.Updates.{raw_of, path_octets, aggregator_octets, SegmentFits, RawFits}
use Rattle.bgp_codec.specs.UpdateReading.{update_fault, attr_fault, path_reading, aggregator_of, with_origin, with_path, with_next_hop, with_med, with_local_pref, with_atomic, with_aggregator, with_other, has_code, put_raw, other_reading, with_attr}
use Rattle.bgp_codec.specs.AsNumbers.{number_at, address_at, asn_size, asn_at, AsnFits}
use Rattle.bgp_codec.proofs.PathLemmas.{path_takes, path_again}
use Rattle.bgp_codec.proofs.AttrSteps.{guarded}
use Rattle.bgp_codec.proofs.AttrLemmas.{raw_in}

-- an attribute: one of the known seven, or another
pub data Item : Type 0 where
  an_origin : ℕ → Item
  a_path : List Segment → Item
  a_next_hop : ℕ → Item
  a_med : ℕ → Item
  a_local_pref : ℕ → Item
  an_atomic : Item
  an_aggregator : Aggregator → Item
  an_other : Raw → Item

-- its flags, code and value
abbrev pub raw_from : (width : Width) → Item → Raw
raw_from width (an_origin o) = raw_of 64 1 (o ∷ [])
raw_from width (a_path p) = raw_of 64 2 (path_octets width p)
raw_from width (a_next_hop n) = raw_of 64 3 (to_be_bytes w32 n)
raw_from width (a_med n) = raw_of 128 4 (to_be_bytes w32 n)
raw_from width (a_local_pref n) = raw_of 64 5 (to_be_bytes w32 n)
raw_from width an_atomic = raw_of 64 6 []
raw_from width (an_aggregator g) = raw_of (192 + partial_flag g.partial) 7 (aggregator_octets width g)
raw_from width (an_other r) = r

-- it has a value that it may have
abbrev pub ItemFits : (width : Width) → Item → Type 0
ItemFits width (an_origin o) = o ≤ 2
ItemFits width (a_path p) = AllByRecursion (SegmentFits width) p
ItemFits width (a_next_hop n) = (n < 2 ^ 32) × (is_unicast n ≡ true)
ItemFits width (a_med n) = n < 2 ^ 32
ItemFits width (a_local_pref n) = n < 2 ^ 32
ItemFits width an_atomic = Unit {0}
ItemFits width (an_aggregator g) = AsnFits width g.asn × (g.addr < 2 ^ 32)
ItemFits width (an_other r) = RawFits r

-- the attributes with it
abbrev pub put : Attrs → Item → Attrs
put a (an_origin o) = with_origin a o
put a (a_path p) = with_path a p
put a (a_next_hop n) = with_next_hop a n
put a (a_med n) = with_med a n
put a (a_local_pref n) = with_local_pref a n
put a an_atomic = with_atomic a
put a (an_aggregator g) = with_aggregator a g
put a (an_other r) = with_other a (put_raw r a.other)

-- ---- the tests before a value

-- the value of an attribute, by its code
abbrev pub value_by : (width : Width) → ℕ → Attrs → List ℕ → List ℕ → Result Attrs Fault
value_by width code a attr value =
    if code == 1 then (if nat_lt 2 (slice_index value 0) then Err (attr_fault 6 attr) else Ok (with_origin a (slice_index value 0)))
    else if code == 2 then (path_reading width value >>= λ p. Ok (with_path a p))
    else if code == 3 then (if is_unicast (address_at value 0) then Ok (with_next_hop a (address_at value 0)) else Err (attr_fault 8 attr))
    else if code == 4 then Ok (with_med a (address_at value 0))
    else if code == 5 then Ok (with_local_pref a (address_at value 0))
    else if code == 6 then Ok (with_atomic a)
    else Ok (with_aggregator a (aggregator_of width value (slice_index attr 0)))

-- the tests of an attribute, by its code
abbrev pub attr_by : (width : Width) → ℕ → Attrs → List ℕ → List ℕ → Result Attrs Fault
attr_by width code a attr value =
    if has_code a code then Err (update_fault 1)
    else if not (is_known code) then other_reading a attr value
    else if not (flags_fit code (slice_index attr 0)) then Err (attr_fault 4 attr)
    else if not (size_fits width code (length value)) then Err (attr_fault 5 attr)
    else value_by width code a attr value

-- where each test passes the last answer is given
all_pass : (b c d e : Bool) (x y z w v : Result Attrs Fault) → b ≡ false → c ≡ true → d ≡ true → e ≡ true
    → cond b x (cond (not c) y (cond (not d) z (cond (not e) w v))) ≡ v
all_pass b c d e x y z w v eb ec ed ee = rw (eb, ec, ed, ee) refl

-- an unknown code has an answer of its own
unknown_pass : (b c : Bool) (x y z : Result Attrs Fault) → b ≡ false → c ≡ false → cond b x (cond (not c) y z) ≡ y
unknown_pass b c x y z eb ec = rw (eb, ec) refl

-- an attribute of a known code that passes each test
known_passes : (width : Width) (code : ℕ) (a : Attrs) (attr value : List ℕ) → slice_index attr 1 ≡ code → has_code a code ≡ false → is_known code ≡ true → flags_fit code (slice_index attr 0) ≡ true → size_fits width code (length value) ≡ true
    → with_attr width a attr value ≡ value_by width code a attr value
known_passes width code a attr value e none known flags size =
    ap (λ (k : ℕ). attr_by width k a attr value) e
    ∙ all_pass (has_code a code) (is_known code) (flags_fit code (slice_index attr 0)) (size_fits width code (length value)) _ _ _ _ _ none known flags size

-- ---- an item that fits is read

-- the flags that a code may have
abbrev fit_by : ℕ → ℕ → Bool
fit_by code high = (high == flags_of code) || ((code == 7) && (high == 224))

-- AGGREGATOR may be partial, and its flags say whether it is
partial_fits : (p : Bool) → fit_by 7 (192 + partial_flag p) ≡ true
partial_fits true = refl
partial_fits false = refl

partial_again : (p : Bool) → (192 + partial_flag p == 224) ≡ p
partial_again true = refl
partial_again false = refl

-- an aggregator is its fields
same_aggregator : (g : Aggregator) (asn addr : ℕ) (p : Bool) → asn ≡ g.asn → addr ≡ g.addr → p ≡ g.partial
    → (let made : Aggregator = record { asn = asn; addr = addr; partial = p } in made ≡ g)
same_aggregator g asn addr p ea ed ep = rw (ea, ed, ep) refl

-- it has the size of a number and an address, and both are read as they were written
aggregator_size_fits : (width : Width) (g : Aggregator) → size_fits width 7 (length (aggregator_octets width g)) ≡ true
aggregator_size_fits Two g = refl
aggregator_size_fits Four g = refl

asn_again : (width : Width) (g : Aggregator) → AsnFits width g.asn → asn_at width (aggregator_octets width g) ≡ g.asn
asn_again Two g fits = from_be_bytes-to_be_bytes_2 g.asn (omega (arith, fits))
asn_again Four g fits = from_be_bytes-to_be_bytes_4 g.asn (omega (arith, fits))

addr_again : (width : Width) (g : Aggregator) → g.addr < 2 ^ 32 → address_at (aggregator_octets width g) (asn_size width) ≡ g.addr
addr_again Two g fits = from_be_bytes-to_be_bytes_4 g.addr fits
addr_again Four g fits = from_be_bytes-to_be_bytes_4 g.addr fits

-- and a raw attribute is its fields
same_raw : (r : Raw) (flags code : ℕ) → flags ≡ r.flags → code ≡ r.code → raw_of flags code r.value ≡ r
same_raw r flags code ef ec = rw (ef, ec) refl

-- an attribute with the code and the flags of an item that fits, and with its value, is taken as that item where its code is new
pub item_again : (width : Width) (a : Attrs) (attr : List ℕ) (i : Item) → ItemFits width i → slice_index attr 1 ≡ (raw_from width i).code → high_flags (slice_index attr 0) ≡ (raw_from width i).flags → has_code a (raw_from width i).code ≡ false
    → with_attr width a attr (raw_from width i).value ≡ Ok (put a i)
item_again width a attr (an_origin o) fits c h none =
    known_passes width 1 a attr (o ∷ []) c none refl (ap (fit_by 1) h) refl
    ∙ ap (λ (b : Bool). cond b (Err (attr_fault 6 attr)) (Ok (with_origin a o))) (le-ltb 2 o fits)
item_again width a attr (a_path p) fits c h none =
    known_passes width 2 a attr (path_octets width p) c none refl (ap (fit_by 2) h) refl
    ∙ ap (λ (r : Result (List Segment) Fault). r >>= λ q. Ok (with_path a q)) (path_again width p fits)
item_again width a attr (a_next_hop n) fits c h none =
    known_passes width 3 a attr (to_be_bytes w32 n) c none refl (ap (fit_by 3) h) refl
    ∙ ap (λ (m : ℕ). cond (is_unicast m) (Ok (with_next_hop a m)) (Err (attr_fault 8 attr))) (from_be_bytes-to_be_bytes_4 n fits.0)
    ∙ ap (λ (b : Bool). cond b (Ok (with_next_hop a n)) (Err (attr_fault 8 attr))) fits.1
item_again width a attr (a_med n) fits c h none =
    known_passes width 4 a attr (to_be_bytes w32 n) c none refl (ap (fit_by 4) h) refl ∙ ap (λ (m : ℕ). Ok (with_med a m)) (from_be_bytes-to_be_bytes_4 n fits)
item_again width a attr (a_local_pref n) fits c h none =
    known_passes width 5 a attr (to_be_bytes w32 n) c none refl (ap (fit_by 5) h) refl ∙ ap (λ (m : ℕ). Ok (with_local_pref a m)) (from_be_bytes-to_be_bytes_4 n fits)
item_again width a attr an_atomic fits c h none = known_passes width 6 a attr [] c none refl (ap (fit_by 6) h) refl
item_again width a attr (an_aggregator g) fits c h none =
    let same = same_aggregator g (asn_at width (aggregator_octets width g)) (address_at (aggregator_octets width g) (asn_size width)) (high_flags (slice_index attr 0) == 224)
    (asn_again width g fits.0) (addr_again width g fits.1) (ap (λ (k : ℕ). k == 224) h ∙ partial_again g.partial) in
    known_passes width 7 a attr (aggregator_octets width g) c none refl (ap (fit_by 7) h ∙ partial_fits g.partial) (aggregator_size_fits width g) ∙ ap (λ (k : Aggregator). Ok (with_aggregator a k)) same
item_again width a attr (an_other r) fits c h none =
    let optional : nat_lt (slice_index attr 0) 128 ≡ false = le-ltb (slice_index attr 0) 128 (let many = fits.1.0 in omega (arith, many, h)) in
    let same = same_raw r (high_flags (slice_index attr 0)) (slice_index attr 1) h c in
    ap (λ (k : ℕ). attr_by width k a attr r.value) c
    ∙ unknown_pass (has_code a r.code) (is_known r.code) _ _ _ none fits.0
    ∙ ap (λ (b : Bool). cond b (Err (attr_fault 2 attr)) (Ok (with_other a (put_raw (raw_of (high_flags (slice_index attr 0)) (slice_index attr 1) r.value) a.other)))) optional
    ∙ ap (λ (s : Raw). Ok (with_other a (put_raw s a.other))) same

-- the flags of AGGREGATOR are high ones
partial_high : (p : Bool) → high_flags (192 + partial_flag p) ≡ 192 + partial_flag p
partial_high true = refl
partial_high false = refl

-- its low flags are not set
pub item_high : (width : Width) (i : Item) → ItemFits width i → high_flags (raw_from width i).flags ≡ (raw_from width i).flags
item_high width (an_origin o) fits = refl
item_high width (a_path p) fits = refl
item_high width (a_next_hop n) fits = refl
item_high width (a_med n) fits = refl
item_high width (a_local_pref n) fits = refl
item_high width an_atomic fits = refl
item_high width (an_aggregator g) fits = partial_high g.partial
item_high width (an_other r) fits = fits.1.1

-- ---- what is read is an item that fits

-- the octets of a value whose size is known
one_octet : (value : List ℕ) → length value ≡ 1 → value ≡ slice_index value 0 ∷ []
one_octet (a ∷ []) e = refl
one_octet [] e = absurd (omega arith)
one_octet (a ∷ b ∷ rest) e = absurd (omega arith)

four_octets : (value : List ℕ) → length value ≡ 4 → value ≡ slice_index value 0 ∷ slice_index value 1 ∷ slice_index value 2 ∷ slice_index value 3 ∷ []
four_octets (a ∷ b ∷ c ∷ d ∷ []) e = refl
four_octets [] e = absurd (omega arith)
four_octets (a ∷ []) e = absurd (omega arith)
four_octets (a ∷ b ∷ []) e = absurd (omega arith)
four_octets (a ∷ b ∷ c ∷ []) e = absurd (omega arith)
four_octets (a ∷ b ∷ c ∷ d ∷ x ∷ rest) e = absurd (omega arith)

six_octets : (value : List ℕ) → length value ≡ 6
    → value ≡ slice_index value 0 ∷ slice_index value 1 ∷ slice_index value 2 ∷ slice_index value 3 ∷ slice_index value 4 ∷ slice_index value 5 ∷ []
six_octets (a ∷ b ∷ c ∷ d ∷ x ∷ y ∷ []) e = refl
six_octets [] e = absurd (omega arith)
six_octets (a ∷ []) e = absurd (omega arith)
six_octets (a ∷ b ∷ []) e = absurd (omega arith)
six_octets (a ∷ b ∷ c ∷ []) e = absurd (omega arith)
six_octets (a ∷ b ∷ c ∷ d ∷ []) e = absurd (omega arith)
six_octets (a ∷ b ∷ c ∷ d ∷ x ∷ []) e = absurd (omega arith)
six_octets (a ∷ b ∷ c ∷ d ∷ x ∷ y ∷ z ∷ rest) e = absurd (omega arith)

eight_octets : (value : List ℕ) → length value ≡ 8
    → value ≡ slice_index value 0 ∷ slice_index value 1 ∷ slice_index value 2 ∷ slice_index value 3 ∷ slice_index value 4 ∷ slice_index value 5 ∷ slice_index value 6 ∷ slice_index value 7 ∷ []
eight_octets (a ∷ b ∷ c ∷ d ∷ rest) e = ap (λ (ys : List ℕ). a ∷ b ∷ c ∷ d ∷ ys) (four_octets rest (omega (arith, e)))
eight_octets [] e = absurd (omega arith)
eight_octets (a ∷ []) e = absurd (omega arith)
eight_octets (a ∷ b ∷ []) e = absurd (omega arith)
eight_octets (a ∷ b ∷ c ∷ []) e = absurd (omega arith)

-- two octets and four are octets
two_are : (a b : ℕ) → a < 256 → b < 256 → IsOctets (a ∷ b ∷ [])
two_are a b x y zero = x
two_are a b x y (suc zero) = y
two_are a b x y (suc (suc i)) = omega arith

four_are : (a b c d : ℕ) → a < 256 → b < 256 → c < 256 → d < 256 → IsOctets (a ∷ b ∷ c ∷ d ∷ [])
four_are a b c d x y z w zero = x
four_are a b c d x y z w (suc zero) = y
four_are a b c d x y z w (suc (suc zero)) = z
four_are a b c d x y z w (suc (suc (suc zero))) = w
four_are a b c d x y z w (suc (suc (suc (suc i)))) = omega arith

-- a number of four octets, from a place on
number_32 : (value : List ℕ) (i : ℕ) → IsOctets value → address_at value i < 2 ^ 32
number_32 value i are = omega (arith, are i, are (i + 1), are (i + 2), are (i + 3))

-- and it is spelt as these octets
spelt_32 : (value : List ℕ) (i : ℕ) → IsOctets value
    → to_be_bytes w32 (address_at value i) ≡ slice_index value i ∷ slice_index value (i + 1) ∷ slice_index value (i + 2) ∷ slice_index value (i + 3) ∷ []
spelt_32 value i are = be_bytes_4 _ (address_at value i) refl (four_are _ _ _ _ (are i) (are (i + 1)) (are (i + 2)) (are (i + 3))) refl

-- the same of two octets
number_16 : (value : List ℕ) (i : ℕ) → IsOctets value → number_at value i < 2 ^ 16
number_16 value i are = omega (arith, are i, are (i + 1))

spelt_16 : (value : List ℕ) (i : ℕ) → IsOctets value → to_be_bytes w16 (number_at value i) ≡ slice_index value i ∷ slice_index value (i + 1) ∷ []
spelt_16 value i are = be_bytes_2 _ (number_at value i) refl (two_are _ _ (are i) (are (i + 1))) refl

-- a value of four octets is the spelling of its number
address_whole : (value : List ℕ) → length value ≡ 4 → IsOctets value → to_be_bytes w32 (address_at value 0) ≡ value
address_whole value size are = spelt_32 value 0 are ∙ sym (four_octets value size)

-- a value of six octets, or of eight, is the spelling of its AS and address
aggregator_whole : (width : Width) (value : List ℕ) (flags : ℕ) → length value ≡ asn_size width + 4 → IsOctets value → aggregator_octets width (aggregator_of width value flags) ≡ value
aggregator_whole Two value flags size are =
    ap (λ (ys : List ℕ). ys ++ to_be_bytes w32 (address_at value 2)) (spelt_16 value 0 are)
    ∙ ap (λ (ys : List ℕ). slice_index value 0 ∷ slice_index value 1 ∷ ys) (spelt_32 value 2 are)
    ∙ sym (six_octets value size)
aggregator_whole Four value flags size are =
    ap (λ (ys : List ℕ). ys ++ to_be_bytes w32 (address_at value 4)) (spelt_32 value 0 are)
    ∙ ap (λ (ys : List ℕ). slice_index value 0 ∷ slice_index value 1 ∷ slice_index value 2 ∷ slice_index value 3 ∷ ys) (spelt_32 value 4 are)
    ∙ sym (eight_octets value size)

-- so many octets hold its AS
asn_fits : (width : Width) (value : List ℕ) → IsOctets value → AsnFits width (asn_at width value)
asn_fits Two value are = let small = number_16 value 0 are in omega (arith, small)
asn_fits Four value are = let small = number_32 value 0 are in omega (arith, small)

-- the flags of a code that may not be partial
only_flags : (high k : ℕ) → ((high == k) || false) ≡ true → high ≡ k
only_flags high k e = by (high == k) refl e
  where
    by : (b : Bool) → (high == k) ≡ b → (b || false) ≡ true → high ≡ k
    by true is t = eqb-true high k is
    by false is t = absurd cc

-- the flags of AGGREGATOR
partial_flags : (high : ℕ) → fit_by 7 high ≡ true → high ≡ 192 + partial_flag (high == 224)
partial_flags high e = by (high == 224) (high == 192) refl refl e
  where
    by : (c b : Bool) → (high == 224) ≡ c → (high == 192) ≡ b → (b || c) ≡ true → high ≡ 192 + partial_flag c
    by true b is other t = eqb-true high 224 is
    by false true is other t = eqb-true high 192 other
    by false false is other t = absurd cc

-- an item that stands for what was read, and what it makes of the attributes
pub record IsTaken (width : Width) (a b : Attrs) (r : Raw) : Type 0 where
  pub item : Item
  pub fits : ItemFits width item
  pub same : raw_from width item ≡ r
  pub made : put a item ≡ b

-- equal flags and equal values of one code
raw_same : (f g c : ℕ) (v w : List ℕ) → f ≡ g → v ≡ w → raw_of f c v ≡ raw_of g c w
raw_same f g c v w ef ev = rw (ef, ev) refl

-- what an answer says of the tests before it
pub path_read : (a b : Attrs) (r : Result (List Segment) Fault) → (r >>= λ p. Ok (with_path a p)) ≡ Ok b → (p : List Segment) × (r ≡ Ok p) × (with_path a p ≡ b)
path_read a b (Ok p) e = (p, refl, cc)
path_read a b (Err f) e = absurd cc

pub hop_read : (a b : Attrs) (n : ℕ) (f : Fault) (u : Bool) → (let r : Result Attrs Fault = cond u (Ok (with_next_hop a n)) (Err f) in r ≡ Ok b) → (u ≡ true) × (with_next_hop a n ≡ b)
hop_read a b n f true e = (refl, cc)
hop_read a b n f false e = absurd cc

pub made_of : (b c : Attrs) → (let r : Result Attrs Fault = Ok b in r ≡ Ok c) → b ≡ c
made_of b c e = cc

-- a known code is at most seven
pub known_small : (code : ℕ) → is_known code ≡ true → code ≤ 7
known_small code known = leb-true code 7 (and_parts (nat_le 1 code) (nat_le code 7) known).1

-- a value of a known code that is taken is an item
value_taken : (width : Width) (code : ℕ) (a b : Attrs) (attr value : List ℕ) → is_known code ≡ true → flags_fit code (slice_index attr 0) ≡ true → size_fits width code (length value) ≡ true → IsOctets value
    → value_by width code a attr value ≡ Ok b → IsTaken width a b (raw_of (high_flags (slice_index attr 0)) code value)
value_taken width zero a b attr value known flags size are e = absurd cc
value_taken width (suc zero) a b attr value known flags size are e =
    let g = guarded (nat_lt 2 (slice_index value 0)) (attr_fault 6 attr) (with_origin a (slice_index value 0)) b e in
    record {
      item = an_origin (slice_index value 0);
      fits = ltb-false 2 (slice_index value 0) g.0;
      same = raw_same _ _ 1 _ _ (sym (only_flags (high_flags (slice_index attr 0)) 64 flags)) (sym (one_octet value (eqb-true (length value) 1 size)));
      made = g.1;
    }
value_taken width (suc (suc zero)) a b attr value known flags size are e =
    let p = path_read a b (path_reading width value) e in
    let t = path_takes width value p.0 are p.1 in
    record {
      item = a_path p.0;
      fits = t.1;
      same = raw_same _ _ 2 _ _ (sym (only_flags (high_flags (slice_index attr 0)) 64 flags)) (sym t.0);
      made = p.2;
    }
value_taken width (suc (suc (suc zero))) a b attr value known flags size are e =
    let h = hop_read a b (address_at value 0) (attr_fault 8 attr) (is_unicast (address_at value 0)) e in
    record {
      item = a_next_hop (address_at value 0);
      fits = (number_32 value 0 are, h.0);
      same = raw_same _ _ 3 _ _ (sym (only_flags (high_flags (slice_index attr 0)) 64 flags)) (address_whole value (eqb-true (length value) 4 size) are);
      made = h.1;
    }
value_taken width (suc (suc (suc (suc zero)))) a b attr value known flags size are e =
    record {
      item = a_med (address_at value 0);
      fits = number_32 value 0 are;
      same = raw_same _ _ 4 _ _ (sym (only_flags (high_flags (slice_index attr 0)) 128 flags)) (address_whole value (eqb-true (length value) 4 size) are);
      made = made_of _ b e;
    }
value_taken width (suc (suc (suc (suc (suc zero))))) a b attr value known flags size are e =
    record {
      item = a_local_pref (address_at value 0);
      fits = number_32 value 0 are;
      same = raw_same _ _ 5 _ _ (sym (only_flags (high_flags (slice_index attr 0)) 64 flags)) (address_whole value (eqb-true (length value) 4 size) are);
      made = made_of _ b e;
    }
value_taken width (suc (suc (suc (suc (suc (suc zero)))))) a b attr value known flags size are e =
    record {
      item = an_atomic;
      fits = tt;
      same = raw_same _ _ 6 _ _ (sym (only_flags (high_flags (slice_index attr 0)) 64 flags)) (sym (nil_from_length value (eqb-true (length value) 0 size)));
      made = made_of _ b e;
    }
value_taken width (suc (suc (suc (suc (suc (suc (suc zero))))))) a b attr value known flags size are e =
    record {
      item = an_aggregator (aggregator_of width value (slice_index attr 0));
      fits = (asn_fits width value are, number_32 value (asn_size width) are);
      same = raw_same _ _ 7 _ _ (sym (partial_flags (high_flags (slice_index attr 0)) flags)) (aggregator_whole width value (slice_index attr 0) (eqb-true (length value) (asn_size width + 4) size) are);
      made = made_of _ b e;
    }
value_taken width (suc (suc (suc (suc (suc (suc (suc (suc n)))))))) a b attr value known flags size are e =
    let le = known_small (suc (suc (suc (suc (suc (suc (suc (suc n)))))))) known in absurd (omega (arith, le))

-- the tests that an attribute has passed that is taken
pub tests_passed : (b c d e : Bool) (f g h : Fault) (y v : Result Attrs Fault) (o : Attrs) → cond b (Err f) (cond (not c) y (cond (not d) (Err g) (cond (not e) (Err h) v))) ≡ Ok o
    → (b ≡ false) × (((c ≡ false) × (y ≡ Ok o)) ⊎ ((c ≡ true) × ((d ≡ true) × ((e ≡ true) × (v ≡ Ok o)))))
tests_passed true c d e f g h y v o q = absurd cc
tests_passed false false d e f g h y v o q = (refl, inl (refl, q))
tests_passed false true false e f g h y v o q = absurd cc
tests_passed false true true false f g h y v o q = absurd cc
tests_passed false true true true f g h y v o q = (refl, inr (refl, (refl, (refl, q))))

-- one of an unknown code that is taken is an item
other_taken : (width : Width) (a b : Attrs) (attr value : List ℕ) → is_known (slice_index attr 1) ≡ false → other_reading a attr value ≡ Ok b → IsTaken width a b (raw_in attr value)
other_taken width a b attr value unknown e =
    let r = raw_in attr value in
    let g = guarded (nat_lt (slice_index attr 0) 128) (attr_fault 2 attr) (with_other a (put_raw r a.other)) b e in
    let optional = ltb-false (slice_index attr 0) 128 g.0 in
    record {
      item = an_other r;
      fits = (unknown, (omega (arith, optional), omega arith));
      same = refl;
      made = g.1;
    }

-- what is taken has a new code, and is an item that fits
pub attr_taken : (width : Width) (a b : Attrs) (attr value : List ℕ) → IsOctets value → with_attr width a attr value ≡ Ok b → (has_code a (slice_index attr 1) ≡ false) × IsTaken width a b (raw_in attr value)
attr_taken width a b attr value are e =
    let code = slice_index attr 1 in
    let t = tests_passed (has_code a code) (is_known code) (flags_fit code (slice_index attr 0)) (size_fits width code (length value)) _ _ _ _ _ b e in
    elim t.1 [
      | inl other ↦ (t.0, other_taken width a b attr value other.0 other.1)
      | inr known ↦ (t.0, value_taken width code a b attr value known.0 known.1.0 known.1.1.0 are known.1.1.1)
    ]
