-- Attributes: what is read is spelt so, and what is spelt so is read, in any order.
use Rattle.std.proofs.Common.{◌≡◌, ℕ, zero, suc, ◌+◌, ◌*◌, ◌^◌, ◌<◌, ◌≤◌, Bool, true, false, not, List, [], ◌∷◌, ◌++◌, length, take, Result, Ok, Err, refl, sym, ap, subst, ◌∙◌, arith, IsPermutation}
use Rattle.std.specs.Prelude.{nat_lt, nat_le, ◌==◌, ◌||◌, slice_index}
use Rattle.std.specs.List.{flat_map}
use Rattle.std.proofs.lemmas.List.{append-nil, length-append, length-take}
use Rattle.std.proofs.lemmas.List.Sorted.{IsPermutation-refl, IsPermutation-sym, IsPermutation-trans}
use Rattle.bgp_values.specs.declared.width.Width.{Width}
use Rattle.bgp_codec.specs.declared.fault.Fault.{Fault}
use Rattle.bgp_codec.specs.declared.attributes.Attrs.{Attrs}
use Rattle.bgp_codec.specs.declared.attributes.Raw.{Raw}
use Rattle.bgp_codec.specs.Reading.{◌>>=◌, all_in}
use Rattle.bgp_codec.specs.Spelling.{IsOctets}
use Rattle.bgp_values.specs.Ranges.{is_unicast}
use Rattle.bgp_codec.specs.AttrTable.{is_known, flags_fit, size_fits}
use Rattle.bgp_codec.specs.Updates.{attr_octets, raw_octets, attributes, attrs_octets, SpellsEach, SpellsAttr, SpellsAttrs, AttrsFit}
use Rattle.bgp_codec.specs.UpdateReading.{segment_at, path_reading, head_size, value_size, attr_at, no_attrs, has_code, with_value, with_attr, attrs_in, attrs_from, attrs_reading}
use Rattle.bgp_codec.specs.AsNumbers.{address_at, asn_size}
use Rattle.bgp_codec.proofs.OctetLemmas.{octets_behind}
use Rattle.bgp_codec.proofs.FaultData.{FaultsWithin, then_within, either_within, front_within}
use Rattle.bgp_codec.proofs.AttrSteps.{has_attr, attr_shorter, attrs_none, attrs_split, attrs_step, attrs_cut}
use Rattle.bgp_codec.proofs.AttrLemmas.{raw_in, attr_takes, attr_again, attr_written}
use Rattle.bgp_codec.proofs.RisingLemmas.{all_parts, all_permuted, put_in, rising_permuted, code_once}
use Rattle.bgp_codec.proofs.AttrItems.{Item, ItemFits, raw_from, put, item_again, item_high, attr_taken}
use Rattle.bgp_codec.proofs.AttrLists.{put_adds, put_fits, IsItem, attributes_items, attributes_rising, no_code, attributes_once}

-- ---- what is read is spelt so

-- one attribute more: it joins those that are there, and all of them fit
pub taken_adds : (width : Width) (a b : Attrs) (attr value : List ℕ) → IsOctets value → AttrsFit width a → with_attr width a attr value ≡ Ok b → IsPermutation (raw_in attr value ∷ attributes width a) (attributes width b) × AttrsFit width b
taken_adds width a b attr value are fits e =
    let t = attr_taken width a b attr value are e in
    let i = t.1.item in
    let none : has_code a (raw_from width i).code ≡ false = ap (λ (r : Raw). has_code a r.code) t.1.same ∙ t.0 in
    let adds : IsPermutation (raw_in attr value ∷ attributes width a) (attributes width (put a i)) = subst (λ (r : Raw). IsPermutation (r ∷ attributes width a) (attributes width (put a i))) t.1.same (put_adds width a i none) in
    (subst (λ (c : Attrs). IsPermutation (raw_in attr value ∷ attributes width a) (attributes width c)) t.1.made adds, subst (AttrsFit width) t.1.made (put_fits width a i fits t.1.fits none))

-- the octets were spelt so, behind those that were read before
pub record AreRead (width : Width) (octets : List ℕ) (a b : Attrs) : Type 0 where
  pub raws : List Raw
  pub each : SpellsEach SpellsAttr octets raws
  pub order : IsPermutation (raws ++ attributes width a) (attributes width b)
  pub fits : AttrsFit width b

-- a fault is no answer
nothing_ok : (e : Fault) (r : Result Attrs Fault) (b : Attrs) → r ≡ Err e → r ≡ Ok b → ⊥
nothing_ok e r b bad good = let both = sym bad ∙ good in absurd cc

-- the first octets are octets
octets_front : (n : ℕ) (octets : List ℕ) → IsOctets octets → IsOctets (take n octets)
octets_front zero octets are i = omega arith
octets_front (suc n) [] are i = omega arith
octets_front (suc n) (x ∷ xs) are zero = are zero
octets_front (suc n) (x ∷ xs) are (suc i) = octets_front n xs (λ j. are (suc j)) i

-- a value and what follows it are octets
value_octets : (octets attr value rest : List ℕ) → IsOctets octets → attr_at octets ≡ Ok (attr, value, rest) → IsOctets value × IsOctets rest
value_octets octets attr value rest are e =
    let has = has_attr octets attr value rest e in
    let size = head_size octets + value_size octets in
    (subst IsOctets has.value_is (octets_behind (head_size octets) (take size octets) (octets_front size octets are)), subst IsOctets has.rest_is (octets_behind size octets are))

-- where the whole is read the first attribute was taken
then_read : (width : Width) (b : Attrs) (rest : List ℕ) (r : Result Attrs Fault) → (r >>= λ c. attrs_from width c rest) ≡ Ok b → (c : Attrs) × (r ≡ Ok c) × (attrs_from width c rest ≡ Ok b)
then_read width b rest (Ok c) e = (c, refl, e)
then_read width b rest (Err f) e = absurd cc

-- an attribute in front of what was read
more_read : (width : Width) (octets attr value rest : List ℕ) (a c b : Attrs) → IsOctets octets → AttrsFit width a → attr_at octets ≡ Ok (attr, value, rest) → IsPermutation (raw_in attr value ∷ attributes width a) (attributes width c) → AreRead width rest c b → AreRead width octets a b
more_read width octets attr value rest a c b are fits e adds more =
    let r = raw_in attr value in
    let t = attr_takes octets attr value rest are e in
    let moved : IsPermutation (r ∷ (more.raws ++ attributes width a)) (more.raws ++ attributes width c) = put_in more.raws (attributes width a) (attributes width c) r adds in
    record {
      raws = r ∷ more.raws;
      each = (attr, rest, t.1, more.each, t.0);
      order = IsPermutation-trans (r ∷ (more.raws ++ attributes width a)) (more.raws ++ attributes width c) (attributes width b) moved more.order;
      fits = more.fits;
    }

-- and it was there
read_by : (width : Width) (a b : Attrs) (octets : List ℕ) (r : Result (List ℕ × List ℕ × List ℕ) Fault) → attr_at octets ≡ r → (length octets ≡ 0 → ⊥) → attrs_from width a octets ≡ Ok b
    → (v : List ℕ × List ℕ × List ℕ) × (attr_at octets ≡ Ok v)
read_by width a b octets (Ok v) q some e = (v, q)
read_by width a b octets (Err f) q some e = absurd (nothing_ok f (attrs_from width a octets) b (attrs_cut width a octets f some q) e)

-- all the octets, behind attributes that fit
reads_all : (width : Width) (n : ℕ) (octets : List ℕ) (a b : Attrs) → length octets ≤ n → IsOctets octets → AttrsFit width a → attrs_from width a octets ≡ Ok b → AreRead width octets a b
reads_all width n [] a b le are fits e =
    let same : a ≡ b = let both = sym (attrs_none width a) ∙ e in cc in
    subst (AreRead width [] a) same (record { raws = []; each = refl; order = IsPermutation-refl (attributes width a); fits = fits })
reads_all width zero (x ∷ xs) a b le are fits e = absurd (omega arith)
reads_all width (suc n) (x ∷ xs) a b le are fits e =
    let v = read_by width a b (x ∷ xs) (attr_at (x ∷ xs)) refl (λ z. absurd (omega (arith, z))) e in
    let attr = v.0.0 in
    let value = v.0.1 in
    let rest = v.0.2 in
    let step = then_read width b rest (with_attr width a attr value) (sym (attrs_split width a (x ∷ xs) attr value rest v.1) ∙ e) in
    let octets = value_octets (x ∷ xs) attr value rest are v.1 in
    let adds = taken_adds width a step.0 attr value octets.0 fits step.1 in
    let shorter = attr_shorter (x ∷ xs) attr value rest v.1 in
    more_read width (x ∷ xs) attr value rest a step.0 b are fits v.1 adds.0 (reads_all width n rest step.0 b (omega (arith, shorter)) octets.1 adds.1 step.2)

-- no attribute fits
none_fit : (width : Width) → AttrsFit width no_attrs
none_fit width = record { origin = tt; path = tt; next_hop = tt; med = tt; local_pref = tt; aggregator = tt; other = tt; rising = tt }

-- what is read is spelt so, and fits
pub attrs_takes : (width : Width) (octets : List ℕ) (a : Attrs) → IsOctets octets → attrs_reading width octets ≡ Ok a → SpellsAttrs width octets a × AttrsFit width a
attrs_takes width octets a are e =
    let all = reads_all width (length octets) octets no_attrs a (omega arith) are (none_fit width) e in
    (record { raws = all.raws; order = subst (λ (rs : List Raw). IsPermutation rs (attributes width a)) (append-nil all.raws) all.order; each = all.each }, all.fits)

-- ---- what is spelt so is read

-- one item is read in front of others
item_step : (width : Width) (a : Attrs) (i : Item) (front rest : List ℕ) → ItemFits width i → SpellsAttr front (raw_from width i) → has_code a (raw_from width i).code ≡ false → attrs_from width a (front ++ rest) ≡ attrs_from width (put a i) rest
item_step width a i front rest fits s none =
    let is = attr_again front rest (raw_from width i) s (item_high width i fits) in
    attrs_step width a (put a i) (front ++ rest) front (raw_from width i).value rest is.at (item_again width a front i fits is.code is.flags none)

-- attributes are read in any order: each is an item of the list with a new code, and the list tells what was read
again_from : (width : Width) (raws : List Raw) (octets : List ℕ) (a b : Attrs) → SpellsEach SpellsAttr octets raws → IsPermutation (raws ++ attributes width a) (attributes width b) → AttrsFit width a → AttrsFit width b → attrs_from width a octets ≡ Ok b
again_from width [] octets a b each order ha hb =
    let same : a ≡ b = attributes_once width a b ha hb (rising_permuted (attributes width a) (attributes width b) (attributes_rising width a ha) (attributes_rising width b hb) order) in
    ap (attrs_from width a) each ∙ attrs_none width a ∙ ap Ok same
again_from width (r ∷ raws) octets a b each order ha hb =
    let front = each.0 in
    let rest = each.1 in
    let items = all_permuted (IsItem width) (attributes width b) (r ∷ (raws ++ attributes width a)) (IsPermutation-sym (r ∷ (raws ++ attributes width a)) (attributes width b) order) (attributes_items width b hb) in
    let i = items.0.0 in
    let fits = items.0.1 in
    let same : r ≡ raw_from width i = sym items.0.2 in
    let s : SpellsAttr front (raw_from width i) = subst (SpellsAttr front) same each.2 in
    let all : IsPermutation (raw_from width i ∷ (raws ++ attributes width a)) (attributes width b) = subst (λ (t : Raw). IsPermutation (t ∷ (raws ++ attributes width a)) (attributes width b)) same order in
    let others = code_once (raw_from width i) (raws ++ attributes width a) (attributes width b) (attributes_rising width b hb) all in
    let none = no_code width a i fits (all_parts (λ t. (t.code == (raw_from width i).code) ≡ false) raws (attributes width a) others).1 in
    let moved = put_in raws (attributes width a) (attributes width (put a i)) (raw_from width i) (put_adds width a i none) in
    let left : IsPermutation (raws ++ attributes width (put a i)) (attributes width b) =
    IsPermutation-trans (raws ++ attributes width (put a i)) (raw_from width i ∷ (raws ++ attributes width a)) (attributes width b) (IsPermutation-sym (raw_from width i ∷ (raws ++ attributes width a)) (raws ++ attributes width (put a i)) moved) all in
    ap (attrs_from width a) each.4 ∙ item_step width a i front rest fits s none ∙ again_from width raws rest (put a i) b each.3 left (put_fits width a i ha fits none) hb

-- what is spelt so is read
pub attrs_again : (width : Width) (octets : List ℕ) (a : Attrs) → SpellsAttrs width octets a → AttrsFit width a → attrs_reading width octets ≡ Ok a
attrs_again width octets a s h =
    again_from width s.raws octets no_attrs a s.each (subst (λ (rs : List Raw). IsPermutation rs (attributes width a)) (sym (append-nil s.raws)) s.order) (none_fit width) h

-- ---- what is written is spelt so

-- a value is no longer than its attribute
raw_long : (r : Raw) (b : Bool) → nat_le 256 (length r.value) ≡ b → length r.value ≤ length (raw_octets r)
raw_long r true e = subst (λ (c : Bool). length r.value ≤ length (attr_octets c 0 r)) (sym e) (omega arith)
raw_long r false e = subst (λ (c : Bool). length r.value ≤ length (attr_octets c 0 r)) (sym e) (omega arith)

-- attributes that are short enough in all are spelt so
raws_written : (raws : List Raw) → length (flat_map raw_octets raws) < 2 ^ 16 → SpellsEach SpellsAttr (flat_map raw_octets raws) raws
raws_written [] lt = refl
raws_written (r ∷ raws) lt =
    let rest = flat_map raw_octets raws in
    let size = length-append (raw_octets r) rest in
    let value = raw_long r (nat_le 256 (length r.value)) refl in
    (raw_octets r, rest, attr_written r (omega (arith, size, lt, value)), raws_written raws (omega (arith, size, lt)), refl)

-- what is written is a spelling
pub attrs_written : (width : Width) (a : Attrs) → AttrsFit width a → length (attrs_octets width a) < 2 ^ 16 → SpellsAttrs width (attrs_octets width a) a
attrs_written width a h lt = record { raws = attributes width a; order = IsPermutation-refl (attributes width a); each = raws_written (attributes width a) lt }

-- ---- the data of a fault is an attribute, or nothing

-- a path's fault has no data
segment_faults : (width : Width) (n : ℕ) (octets : List ℕ) → FaultsWithin n (segment_at width octets)
segment_faults width n [] = omega arith
segment_faults width n (code ∷ []) = omega arith
segment_faults width n (code ∷ count ∷ rest) = either_within n (not ((code == 1) || (code == 2)) || ((count == 0) || nat_lt (length rest) (asn_size width * count))) _ _ (omega arith) tt

segments_faults : (width : Width) (n k : ℕ) (octets : List ℕ) → FaultsWithin n (all_in (segment_at width) k octets)
unfolding all_in
segments_faults width n zero [] = tt
segments_faults width n (suc k) [] = tt
segments_faults width n zero (x ∷ rest) = tt
segments_faults width n (suc k) (x ∷ rest) = then_within n (segment_at width (x ∷ rest)) _ (segment_faults width n (x ∷ rest)) (λ v. front_within n v.0 (all_in (segment_at width) k v.1) (segments_faults width n k v.1))

-- a value's fault, and an attribute's
value_faults : (width : Width) (n : ℕ) (a : Attrs) (attr value : List ℕ) → length attr ≤ n → FaultsWithin n (with_value width a attr value)
value_faults width n a attr value le =
    let code = slice_index attr 1 in
    either_within n (code == 1) _ _ (either_within n (nat_lt 2 (slice_index value 0)) _ _ le tt)
    (either_within n (code == 2) _ _ (then_within n (path_reading width value) _ (segments_faults width n (length value) value) (λ p. tt))
    (either_within n (code == 3) _ _ (either_within n (is_unicast (address_at value 0)) _ _ tt le)
    (either_within n (code == 4) _ _ tt
    (either_within n (code == 5) _ _ tt
    (either_within n (code == 6) _ _ tt tt)))))

attr_faults : (width : Width) (n : ℕ) (a : Attrs) (attr value : List ℕ) → length attr ≤ n → FaultsWithin n (with_attr width a attr value)
attr_faults width n a attr value le =
    let code = slice_index attr 1 in
    either_within n (has_code a code) _ _ (omega arith)
    (either_within n (not (is_known code)) _ _ (either_within n (nat_lt (slice_index attr 0) 128) _ _ le tt)
    (either_within n (not (flags_fit code (slice_index attr 0))) _ _ le
    (either_within n (not (size_fits width code (length value))) _ _ le (value_faults width n a attr value le))))

-- octets that hold no whole attribute
at_faults : (n : ℕ) (octets : List ℕ) → FaultsWithin n (attr_at octets)
at_faults n octets = either_within n (nat_lt (length octets) (head_size octets + value_size octets)) _ _ (omega arith) tt

-- like `then_within`, where what was read is known
known_within : {A B : Type 0} (n : ℕ) (r : Result A Fault) (f : A → Result B Fault) → FaultsWithin n r → ((x : A) → r ≡ Ok x → FaultsWithin n (f x)) → FaultsWithin n (r >>= f)
known_within n (Ok x) f h g = g x refl
known_within n (Err e) f h g = h

-- all the attributes
in_faults : (width : Width) (n k : ℕ) (a : Attrs) (octets : List ℕ) → length octets ≤ n → FaultsWithin n (attrs_in width k a octets)
unfolding attrs_in
in_faults width n zero a [] le = tt
in_faults width n (suc k) a [] le = tt
in_faults width n zero a (x ∷ rest) le = tt
in_faults width n (suc k) a (x ∷ rest) le =
    known_within n (attr_at (x ∷ rest)) _ (at_faults n (x ∷ rest))
    (λ v e.
    let has = has_attr (x ∷ rest) v.0 v.1 v.2 e in
    let size = head_size (x ∷ rest) + value_size (x ∷ rest) in
    let short = length-take size (x ∷ rest) in
    let shorter = attr_shorter (x ∷ rest) v.0 v.1 v.2 e in
    then_within n (with_attr width a v.0 v.1) _ (attr_faults width n a v.0 v.1 (omega (arith, ap length has.attr_is, short, has.inside))) (λ b. in_faults width n k b v.2 (omega (arith, shorter))))

-- a fault's data is no longer than the octets
pub attrs_faults : (width : Width) (octets : List ℕ) → FaultsWithin (length octets) (attrs_reading width octets)
attrs_faults width octets = in_faults width (length octets) (length octets) no_attrs octets (omega arith)
